use Rattle.rows.proofs.Going.{Row}
use Rattle.rows_code.proofs.row.take_row.Given as goal

abbrev pub invariant-loop-column : goal.invariant-loop-column
invariant-loop-column l = Row l.progress l.words l.column l.due l.ends.forward l.ends.backward l.used
