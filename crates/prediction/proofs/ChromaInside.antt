-- Where the luma block lies in the picture, the chroma block lies in its planes: once over size and component.
use mathlib.Core.Path.{◌≡◌, sym, ap, subst, ◌∙◌}
use mathlib.Core.Bool.{true}
use mathlib.Core.Logic.{◌⊎◌, inl, inr}
use Prim.Native.Nat.{ℕ, ◌+◌, ◌*◌, ◌/◌, ◌%◌, ◌≤◌, ◌<◌}
use native.Mathlib.Nat.{mul_assoc}
use native.Mathlib.Omega.{arith}
use lib.IntN.{ℤ, sub_ℕ}
use Rattle.prediction.specs.Spans.{inside, halved}
use Rattle.prediction.proofs.Integers.{split, moved}
use Rattle.prediction.proofs.Components.{half_below, half_above, inside_means, inside_holds}

-- p and n are the luma places' samples over 2, u the halved component plus k
lower : (p u k : ℕ) → k ≤ 2 * p + u → k ≤ p + (u + k) / 2
lower p u k h = omega arith

upper : (s p n u k : ℕ) → 2 * p + u + 2 * s ≤ 2 * n + k → p + (u + k) / 2 + (s + (u + k) % 2) ≤ n + k
upper s p n u k h = omega arith

module _ (s place n b k : ℕ) (t : inside (2 * s) place n (sub_ℕ b (2 * k)) ≡ true) where
  from : k ≤ 2 * (s * place) + b / 2
  from = omega (arith, (inside_means (2 * s) place b k n t).0, mul_assoc 2 s place)

  to : 2 * (s * place) + b / 2 + (2 * s + b % 2) ≤ 2 * (s * n) + k
  to = omega (arith, (inside_means (2 * s) place b k n t).1, mul_assoc 2 s place, mul_assoc 2 s n)

  in_planes : inside s place n (halved (sub_ℕ b (2 * k))) ≡ true
  in_planes = by (split b (2 * k))
    where
      by : (b < 2 * k) ⊎ (2 * k ≤ b) → inside s place n (halved (sub_ℕ b (2 * k))) ≡ true
      by (inl h) =
          ap (inside s place n) (half_below b k h)
          ∙ inside_holds s place ((b + 1) / 2 + k) k n (lower (s * place) ((b + 1) / 2) k (omega (arith, from))) (upper s (s * place) (s * n) ((b + 1) / 2) k (omega (arith, to)))
      by (inr h) =
          ap (inside s place n) (half_above b k h)
          ∙ inside_holds s place (b / 2 + k) k n (lower (s * place) (b / 2) k from) (upper s (s * place) (s * n) (b / 2) k (omega (arith, to)))

-- A block of 2s samples moved by v lies in 2s·n samples: a block of s samples moved by half of v lies in s·n samples.
pub chroma_inside : (s place n : ℕ) (v : ℤ) → inside (2 * s) place n v ≡ true → inside s place n (halved v) ≡ true
chroma_inside s place n v t =
    let m = moved v in
    subst (λ (z : ℤ). inside s place n (halved z) ≡ true) (sym m.is) (in_planes s place n m.b m.k (subst (λ (z : ℤ). inside (2 * s) place n z ≡ true) m.is t))
