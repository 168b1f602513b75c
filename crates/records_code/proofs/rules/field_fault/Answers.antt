-- `field_fault`: the rules of bytes 6 to 12.
use native.Mathlib.Omega.{arith}
use Rattle.answers.proofs.Judging.{in_turn}
use Rattle.records.specs.RecordRules.{byte_rules}
use Rattle.records_code.proofs.rules.field_fault.Goals as goal

pub returns : goal.returns
unfolding byte_rules
returns c = let t = in_turn (byte_rules c.args.bytes.now c.args.kept) tt in grind (arith, t)
