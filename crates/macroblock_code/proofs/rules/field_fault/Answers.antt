-- `field_fault`: words 1, 3 and 4.
use native.Mathlib.Omega.{arith}
use Rattle.answers.proofs.Judging.{in_turn}
use Rattle.macroblock.specs.Rules.{field_rules}
use Rattle.macroblock_code.proofs.rules.field_fault.Goals as goal

pub returns : goal.returns
unfolding field_rules
returns c = let t = in_turn (field_rules c.args.allowed c.args.kept c.args.words.now) tt in grind (arith, t)
