-- `judge`: 20 where the bytes do not hold so many records, else what the records answer.
use borrow.Author.Tests.{lt-ltb}
use Rattle.mounts.specs.Mounts.{stored_fault}
use Rattle.mounts.proofs.AddLaws.{stored_judged}
use Rattle.mounts_code.proofs.asking.judge.Goals as goal

pub returns-then-capacity-count : goal.returns-then-capacity-count
unfolding stored_fault
returns-then-capacity-count c = simp (lt-ltb _ _ c.if-capacity-count.true)

pub returns : goal.returns
returns c = rw (stored_judged c.args.sheets.now c.args.count c.if-capacity-count.false) c.judge_records.ensures
