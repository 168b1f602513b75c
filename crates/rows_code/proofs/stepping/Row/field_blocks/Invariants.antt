use mathlib.Core.Path.{◌≡◌}
use Rattle.rows.specs.Steps.{BlockFound, BlocksFound}
use Rattle.rows_code.proofs.stepping.Row.field_blocks.Given as goal

abbrev pub invariant-loop-block : goal.invariant-loop-block
invariant-loop-block l =
    record {
      none : l.block ≡ 0 → l.end ≡ l.forward;
      first : l.block ≡ 1 → BlockFound l.self.progress l.column l.words 0 l.forward l.end;
      both : l.block ≡ 2 → BlocksFound l.self.progress l.column l.words l.forward l.end;
    }
