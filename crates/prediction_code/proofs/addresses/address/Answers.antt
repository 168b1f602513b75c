-- `address`: the byte at a column and a row of a picture buffer in Y tiles.
use Rattle.std.proofs.Common.{◌*◌, ◌/◌, ◌≤◌, sym, arith}
use Rattle.prediction.proofs.Integers.{product_le}
use Rattle.prediction.proofs.AddressGrows.{address_parts}
use Rattle.prediction_code.proofs.addresses.address.Goals as goal

product : (c : goal.Start) → c.args.row / 32 * 32 * c.args.pitch ≤ 4194303 * 4294967295
product c = product_le 4194303 4294967295 (omega arith) (omega arith)

pub returns : goal.returns
returns c = (sym (address_parts c.args.pitch c.args.column c.args.row), omega (arith, product c))
