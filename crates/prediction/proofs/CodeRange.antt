-- The range of an f code, for a component that is b - 32768.
use mathlib.Core.Path.{◌≡◌, sym, ap, ap₂, ◌∙◌}
use mathlib.Core.Bool.{true, ◌&&◌}
use Prim.Native.Nat.{ℕ, ◌+◌, ◌*◌, ◌-◌, ◌^◌, ◌≤◌, ◌<◌}
use native.Mathlib.Nat.{mul-le-mul}
use native.Mathlib.Omega.{arith}
use borrow.Author.Tests.{le-leb, lt-ltb}
use lib.Dec.{leb, ltb}
use lib.Pow.{pow_mono}
use lib.IntN.{ℤ, pos, neg_ℤ, sub_ℕ}
use lib.Signed.{le_z, lt_z}
use Rattle.prediction.specs.Ranges.{in_range}
use Rattle.prediction.proofs.Integers.{pos_sub, neg_is, le_sums, lt_sums}

-- the test in ℕ, with l for the code's limit
in_limit : (b l : ℕ) → (le_z (neg_ℤ (pos l)) (sub_ℕ b 32768) && lt_z (sub_ℕ b 32768) (pos l)) ≡ (leb 32768 (b + l) && ltb b (32768 + l))
in_limit b l =
    let left : 0 + 32768 ≡ 32768 = omega arith in
    let right : b + 0 ≡ b = omega arith in
    let swap : l + 32768 ≡ 32768 + l = omega arith in
    ap₂ ◌&&◌ (ap (λ (z : ℤ). le_z z (sub_ℕ b 32768)) (neg_is l) ∙ le_sums 0 l b 32768 ∙ ap (λ (n : ℕ). leb n (b + l)) left)
    (ap (lt_z (sub_ℕ b 32768)) (pos_sub l) ∙ lt_sums b 32768 l 0 ∙ ap₂ ltb right swap)

module _ (size c b p : ℕ) (hs : 0 < size) (hb : b < 65536) (ep : p ≡ c - 1) where
  pub code_test : in_range size c (sub_ℕ b 32768) ≡ (leb 32768 (b + size * 2 ^ p) && ltb b (32768 + size * 2 ^ p))
  code_test = in_limit b (size * 2 ^ (c - 1)) ∙ ap (λ (n : ℕ). leb 32768 (b + size * 2 ^ n) && ltb b (32768 + size * 2 ^ n)) (sym ep)

  -- a code whose range holds every component
  pub code_wide : 16 ≤ p → in_range size c (sub_ℕ b 32768) ≡ true
  code_wide h =
      let l : 1 * 65536 ≤ size * 2 ^ p = mul-le-mul hs (pow_mono {i = 16} {j = p} h) in
      code_test ∙ ap₂ ◌&&◌ (le-leb 32768 (b + size * 2 ^ p) (omega arith)) (lt-ltb b (32768 + size * 2 ^ p) (omega arith))
