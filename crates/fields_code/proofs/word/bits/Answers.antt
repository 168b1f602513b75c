-- `bits`: bits hi:lo of a word.
use mathlib.Core.Path.{ap, ◌∙◌}
use Prim.Native.Nat.{ℕ, ◌-◌, ◌/◌, ◌^◌}
use lib.Bits.{bit_and, and_mask}
use Rattle.fields.specs.Word.{width}
use Rattle.fields_code.proofs.word.bits.Goals as goal

pub returns : goal.returns
returns c = let a = c.args in
    let n = c.width_of-n.ensures in
    ap (bit_and (a.word / 2 ^ a.lo)) (c.ones.ensures ∙ ap (λ (x : ℕ). 2 ^ x - 1) n) ∙ and_mask (a.word / 2 ^ a.lo) (width a.hi a.lo)
