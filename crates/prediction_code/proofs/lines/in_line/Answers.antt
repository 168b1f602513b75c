-- `in_line`: whether the component b - 32768 keeps the line.
use Rattle.std.proofs.Common.{◌+◌, ◌-◌, ◌*◌, ◌%◌, ◌≤◌, arith}
use Rattle.prediction.proofs.Integers.{product_le}
use Rattle.prediction.proofs.LineCode.{near}
use Rattle.prediction_code.proofs.lines.in_line.Goals as goal

pub returns : goal.returns
returns c =
    let a = c.args in
    let here : a.size * a.place ≤ 16 * 65535 = product_le 16 65535 c.requires (omega arith) in
    let behind : a.size * a.line.last ≤ 16 * 65535 = product_le 16 65535 c.requires (omega arith) in
    near a.size a.line a.place a.b (omega arith)
    ((a.b + (4294967296 - a.line.low)) % 4294967296) ((2 * (a.size * a.place) + a.b + 4294934528) % 4294967296)
    (omega arith) (omega arith) (omega (arith, behind)) (omega (arith, here)) (omega arith) (omega arith) (omega arith) (omega (arith, c.if-line-b.false)) (omega (arith, here))
