-- `in_range`: whether the component b - 32768 lies in the range of a code.
use Rattle.std.proofs.Common.{sym, arith}
use Rattle.prediction.proofs.CodeRange.{code_wide}
use Rattle.prediction_code.proofs.ranges.in_range.Goals as goal

pub returns-then-power-ge16 : goal.returns-then-power-ge16
returns-then-power-ge16 c = sym (code_wide c.args.size c.args.code c.args.b c.saturating_sub-power.result c.requires (omega arith) c.saturating_sub-power.ensures c.if-power-ge16.true)
