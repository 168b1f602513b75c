-- `placed_fault`: the first rule of its picture that a macroblock breaks, with its word as the place.
use Rattle.answers.proofs.Judging.{in_turn}
use Rattle.placement.specs.Placing.{placed_rules}
use Rattle.placement_code.proofs.placing.placed_fault.Goals as goal

pub returns : goal.returns
unfolding placed_rules
returns c = rw (
  c.and-11.ensures,
  c.and-10.ensures,
  c.and-9.ensures,
  c.and-8.ensures,
  c.and-7.ensures,
  c.and-6.ensures,
  c.and-5.ensures,
  c.and-4.ensures,
  c.and-3.ensures,
  c.and-2.ensures,
  c.and.ensures,
  c.rule-12.ensures,
  c.rule-11.ensures,
  c.rule-10.ensures,
  c.rule-9.ensures,
  c.rule-8.ensures,
  c.rule-7.ensures,
  c.rule-6.ensures,
  c.rule-5.ensures,
  c.rule-4.ensures,
  c.rule-3.ensures,
  c.rule-2.ensures,
  c.rule.ensures,
  c.flags_agree.ensures,
  c.conversion_permitted.ensures,
  c.coding_permits.ensures,
  c.skip_permitted.ensures,
  c.motion_of-kind.ensures,
) (in_turn (placed_rules c.args.progress c.args.blocks c.args.macroblock c.args.words.now) tt)
