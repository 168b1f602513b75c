-- `zero_fault`: the first of some bytes that is not zero.
use mathlib.Core.Path.{sym, ap, ◌∙◌}
use native.Mathlib.Omega.{arith}
use Prim.Native.Nat.{ℕ, ◌+◌, ◌-◌}
use lib.Dec.{eqb}
use Rattle.answers.specs.Answers.{rule, answer_by}
use Rattle.records_code.proofs.ZeroBytes.{zero_passes}
use Rattle.records_code.proofs.rules.zero_fault.Goals as goal

pub loop-i-preserved : goal.loop-i-preserved
loop-i-preserved c =
    let i = c.loop-i.i in
    let end = c.args.at + c.args.count in
    let zero = ap (λ (n : ℕ). answer_by (rule 15 i (eqb n 0))) (sym c.byte_at.ensures.byte) ∙ sym c.byte_rule.ensures ∙ c.in_ok-byte_rule.was in
    zero_passes c.args.bytes.now i (end - i) (end - (i + 1)) (omega (arith, c.loop-i-test.true)) zero ∙ c.loop-i.invariant
