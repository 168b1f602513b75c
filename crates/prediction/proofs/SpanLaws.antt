-- What the inside test on a block's two ends says of its samples, in one direction.
use mathlib.Core.Path.{◌≡◌, sym, ap, subst, subst₂, ◌∙◌}
use mathlib.Core.Bool.{true}
use Prim.Native.Nat.{ℕ, ◌+◌, ◌*◌, ◌-◌, ◌/◌, ◌%◌, ◌≤◌, ◌<◌}
use native.Mathlib.Omega.{arith}
use lib.IntN.{ℤ, pos, sub_ℕ}
use lib.Signed.{◌≤ℤ◌, ◌<ℤ◌}
use Rattle.prediction.specs.Spans.{inside, Covers}
use Rattle.prediction.specs.Blocks.{Within, start_of, last_of}
use Rattle.prediction.proofs.Integers.{pos_sub, moved, le_means, le_holds, lt_means, lt_holds}
use Rattle.prediction.proofs.Components.{inside_means, inside_holds, covers_means, covers_holds, start_is, last_is}

-- the test on the ends says that every sample lies in the picture
module _ (size place n : ℕ) where
  within_moved : (b k : ℕ) → inside size place n (sub_ℕ b (2 * k)) ≡ true → Within size place n (sub_ℕ b (2 * k))
  within_moved b k t i h =
      let m = moved i in
      let two = inside_means size place b k n t in
      let is = covers_means size place b k m.b (2 * m.k) (subst (Covers size place (sub_ℕ b (2 * k))) m.is h) in (
        subst₂ ◌≤ℤ◌ (sym (pos_sub 0)) (sym m.is) (le_holds 0 0 m.b (2 * m.k) (omega arith)),
        subst₂ ◌<ℤ◌ (sym m.is) (sym (pos_sub (size * n))) (lt_holds m.b (2 * m.k) (size * n) 0 (omega arith)),
      )

  pub inside_within : (v : ℤ) → inside size place n v ≡ true → Within size place n v
  inside_within v = let m = moved v in subst (λ (z : ℤ). inside size place n z ≡ true → Within size place n z) (sym m.is) (within_moved m.b m.k)

  inside_moved : (b k : ℕ) → 0 < size → Within size place n (sub_ℕ b (2 * k)) → inside size place n (sub_ℕ b (2 * k)) ≡ true
  inside_moved b k hs w =
      let first = w (sub_ℕ (size * place + b / 2) k) (covers_holds size place b k (size * place + b / 2) k (omega arith) (omega arith)) in
      let last =
      w (sub_ℕ (size * place + b / 2 + (size + b % 2) - 1) k)
      (covers_holds size place b k (size * place + b / 2 + (size + b % 2) - 1) k (omega arith) (omega arith)) in
      let from = le_means 0 0 (size * place + b / 2) k (subst (λ (z : ℤ). z ≤ℤ sub_ℕ (size * place + b / 2) k) (pos_sub 0) first.0) in
      let to =
      lt_means (size * place + b / 2 + (size + b % 2) - 1) k (size * n) 0
      (subst (λ (z : ℤ). sub_ℕ (size * place + b / 2 + (size + b % 2) - 1) k <ℤ z) (pos_sub (size * n)) last.1) in
      inside_holds size place b k n (omega arith) (omega arith)

  pub within_inside : (v : ℤ) → 0 < size → Within size place n v → inside size place n v ≡ true
  within_inside v = let m = moved v in subst (λ (z : ℤ). 0 < size → Within size place n z → inside size place n z ≡ true) (sym m.is) (inside_moved m.b m.k)

-- the first sample of a block that lies inside is covered, and no covered sample lies before it
module _ (size place n : ℕ) where
  first_moved : (b k : ℕ) → 0 < size → inside size place n (sub_ℕ b (2 * k)) ≡ true → Covers size place (sub_ℕ b (2 * k)) (pos (start_of size place (sub_ℕ b (2 * k))))
  first_moved b k hs t =
      let from = (inside_means size place b k n t).0 in
      let is = start_is size place b k from in
      let first = size * place + b / 2 - k in
      subst (Covers size place (sub_ℕ b (2 * k))) (sym (ap pos is ∙ pos_sub first)) (covers_holds size place b k first 0 (omega arith) (omega arith))

  pub first_covered : (v : ℤ) → 0 < size → inside size place n v ≡ true → Covers size place v (pos (start_of size place v))
  first_covered v =
      let m = moved v in
      subst (λ (z : ℤ). 0 < size → inside size place n z ≡ true → Covers size place z (pos (start_of size place z))) (sym m.is) (first_moved m.b m.k)

  from_moved : (b k : ℕ) → inside size place n (sub_ℕ b (2 * k)) ≡ true → (i : ℕ) → Covers size place (sub_ℕ b (2 * k)) (pos i) → start_of size place (sub_ℕ b (2 * k)) ≤ i
  from_moved b k t i h =
      let from = (inside_means size place b k n t).0 in
      let is = covers_means size place b k i 0 (subst (Covers size place (sub_ℕ b (2 * k))) (pos_sub i) h) in
      omega (arith, start_is size place b k from)

  pub from_first : (v : ℤ) → inside size place n v ≡ true → (i : ℕ) → Covers size place v (pos i) → start_of size place v ≤ i
  from_first v =
      let m = moved v in
      subst (λ (z : ℤ). inside size place n z ≡ true → (i : ℕ) → Covers size place z (pos i) → start_of size place z ≤ i) (sym m.is) (from_moved m.b m.k)

-- the last sample of a block that lies inside is covered, and no covered sample lies behind it
module _ (size place n : ℕ) where
  last_moved : (b k : ℕ) → 0 < size → inside size place n (sub_ℕ b (2 * k)) ≡ true → Covers size place (sub_ℕ b (2 * k)) (pos (last_of size place (sub_ℕ b (2 * k))))
  last_moved b k hs t =
      let from = (inside_means size place b k n t).0 in
      let is = last_is size place b k from in
      let end = size * place + b / 2 + (size + b % 2) - k - 1 in
      subst (Covers size place (sub_ℕ b (2 * k))) (sym (ap pos is ∙ pos_sub end)) (covers_holds size place b k end 0 (omega arith) (omega arith))

  pub last_covered : (v : ℤ) → 0 < size → inside size place n v ≡ true → Covers size place v (pos (last_of size place v))
  last_covered v =
      let m = moved v in
      subst (λ (z : ℤ). 0 < size → inside size place n z ≡ true → Covers size place z (pos (last_of size place z))) (sym m.is) (last_moved m.b m.k)

  up_to_moved : (b k : ℕ) → inside size place n (sub_ℕ b (2 * k)) ≡ true → (i : ℕ) → Covers size place (sub_ℕ b (2 * k)) (pos i) → i ≤ last_of size place (sub_ℕ b (2 * k))
  up_to_moved b k t i h =
      let from = (inside_means size place b k n t).0 in
      let is = covers_means size place b k i 0 (subst (Covers size place (sub_ℕ b (2 * k))) (pos_sub i) h) in
      omega (arith, last_is size place b k from)

  pub up_to_last : (v : ℤ) → inside size place n v ≡ true → (i : ℕ) → Covers size place v (pos i) → i ≤ last_of size place v
  up_to_last v =
      let m = moved v in
      subst (λ (z : ℤ). inside size place n z ≡ true → (i : ℕ) → Covers size place z (pos i) → i ≤ last_of size place z) (sym m.is) (up_to_moved m.b m.k)
