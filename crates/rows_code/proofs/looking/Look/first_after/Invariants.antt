use Rattle.rows.specs.Touching.{points_in, Lowered}
use Rattle.rows_code.proofs.looking.Look.first_after.Given as goal

-- Whatever was touched before them, the commands so far lower it to this.
abbrev pub invariant-loop-k : goal.invariant-loop-k
invariant-loop-k l = Lowered (points_in l.self.alone l.self.word l.self.allowed) l.self.surface l.self.position l.words l.k l.first l.lowest
