-- `judge_records`: the first k records are good, and it is known how many reach to each remainder's last.
use Rattle.std.proofs.Common.{◌≡◌}
use Rattle.answers.specs.Answers.{Accepted}
use Rattle.mounts.specs.Mounts.{first_bad}
use Rattle.mounts_code.proofs.Remainders.{Ends}
use Rattle.mounts_code.proofs.asking.judge_records.Given as goal

abbrev pub invariant-loop-k : goal.invariant-loop-k
invariant-loop-k l =
    record {
      good : first_bad l.k l.sheets ≡ Accepted;
      ends : Ends l.sheets l.k l.ends;
    }
