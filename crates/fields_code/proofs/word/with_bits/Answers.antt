-- `with_bits`: the word with the lowest bits of value in hi:lo, and its other bits as they were.
use mathlib.Core.Path.{ap, ◌∙◌}
use Prim.Native.Nat.{ℕ}
use native.Mathlib.Omega.{arith}
use Rattle.fields.proofs.Masks.{three, packed, packed_top}
use Rattle.fields_code.proofs.word.with_bits.Goals as goal

pub returns-then-end-ge32 : goal.returns-then-end-ge32
returns-then-end-ge32 c = let a = c.args in
    let n = c.width_of-n.ensures in
    packed_top a.word a.value c.width_of-n.result a.lo c.ranges.word.fits c.ones.ensures c.ones-2.ensures (omega arith) c.if-end-ge32.true
    ∙ ap (λ (x : ℕ). three a.word a.value x a.lo) n

pub returns : goal.returns
returns c = let a = c.args in
    let n = c.width_of-n.ensures in
    packed a.word a.value c.width_of-n.result a.lo c.ranges.word.fits c.ones.ensures c.ones-2.ensures (omega arith)
    ∙ ap (λ (x : ℕ). three a.word a.value x a.lo) n
