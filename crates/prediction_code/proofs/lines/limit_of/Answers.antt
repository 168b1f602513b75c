-- `limit_of`: the limit of an f code, at most 32768.
use Rattle.std.proofs.Common.{arith}
use Rattle.prediction.proofs.LineCode.{limit_wide}
use Rattle.prediction_code.proofs.lines.limit_of.Goals as goal

pub returns-then-power-ge16 : goal.returns-then-power-ge16
returns-then-power-ge16 c = let a = c.args in let w = limit_wide a.size a.power c.requires.0 c.if-power-ge16.true in (omega (arith, w), omega arith, omega arith)
