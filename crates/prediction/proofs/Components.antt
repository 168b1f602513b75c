-- What the definitions on ℤ say of a component that is b - 2k, in ℕ. The code has k = 16384.
use mathlib.Core.Path.{◌≡◌, refl, sym, ap, ap₂, subst, ◌∙◌}
use mathlib.Core.Bool.{true, ◌&&◌}
use mathlib.Core.Logic.{◌⊎◌, inl, inr}
use Prim.Native.Nat.{ℕ, suc, ◌+◌, ◌*◌, ◌-◌, ◌/◌, ◌%◌, ◌≤◌, ◌<◌}
use native.Mathlib.Omega.{arith}
use borrow.Author.Tests.{leb-true, le-leb}
use lib.Dec.{leb}
use lib.IntN.{ℤ, pos, negsuc, nat_abs, sub_ℕ, ◌+ℤ◌}
use lib.Signed.{mag, shr_z, le_z, ◌≤ℤ◌, ◌<ℤ◌}
use Rattle.prediction.specs.Spans.{first_of, count_of, end_of, inside, halved, Covers}
use Rattle.prediction.specs.Blocks.{start_of, last_of}
use Rattle.prediction.proofs.Integers.{split, sub_pos, sub_neg, pos_sub, add_sub, sub_add, neg_sub, le_sums, le_means, le_holds, lt_means, lt_holds, both}

module _ (b k : ℕ) where
  -- the floor of the half
  pub floor_half : shr_z (sub_ℕ b (2 * k)) 2 ≡ sub_ℕ (b / 2) k
  floor_half = by (split b (2 * k))
    where
      by : (b < 2 * k) ⊎ (2 * k ≤ b) → shr_z (sub_ℕ b (2 * k)) 2 ≡ sub_ℕ (b / 2) k
      by (inl h) =
          let e : (2 * k - suc b) / 2 ≡ k - suc (b / 2) = omega arith in
          ap (λ (z : ℤ). shr_z z 2) (sub_neg b (2 * k) h) ∙ ap negsuc e ∙ sym (sub_neg (b / 2) k (omega arith))
      by (inr h) =
          let e : (b - 2 * k) / 2 ≡ b / 2 - k = omega arith in
          ap (λ (z : ℤ). shr_z z 2) (sub_pos b (2 * k) h) ∙ ap pos e ∙ sym (sub_pos (b / 2) k (omega arith))

  pub odd : nat_abs (sub_ℕ b (2 * k)) % 2 ≡ b % 2
  odd = by (split b (2 * k))
    where
      by : (b < 2 * k) ⊎ (2 * k ≤ b) → nat_abs (sub_ℕ b (2 * k)) % 2 ≡ b % 2
      by (inl h) = ap (λ (z : ℤ). nat_abs z % 2) (sub_neg b (2 * k) h) ∙ omega arith
      by (inr h) = ap (λ (z : ℤ). nat_abs z % 2) (sub_pos b (2 * k) h) ∙ omega arith

  -- halved towards zero, by the sign
  pub half_below : b < 2 * k → halved (sub_ℕ b (2 * k)) ≡ sub_ℕ ((b + 1) / 2 + k) (2 * k)
  half_below h =
      let e : 2 * k - suc (2 * k - suc b) / 2 ≡ (b + 1) / 2 + k = omega arith in
      ap halved (sub_neg b (2 * k) h) ∙ neg_sub (suc (2 * k - suc b) / 2) (2 * k) (omega arith) ∙ ap (λ (n : ℕ). sub_ℕ n (2 * k)) e

  pub half_above : 2 * k ≤ b → halved (sub_ℕ b (2 * k)) ≡ sub_ℕ (b / 2 + k) (2 * k)
  half_above h =
      let e : (b - 2 * k) / 2 ≡ b / 2 + k - 2 * k = omega arith in
      ap halved (sub_pos b (2 * k) h) ∙ ap pos e ∙ sym (sub_pos (b / 2 + k) (2 * k) (omega arith))

-- a block of size samples at a place
module _ (size place b k : ℕ) where
  pub first_is : first_of size place (sub_ℕ b (2 * k)) ≡ sub_ℕ (size * place + b / 2) k
  first_is = ap (λ (z : ℤ). pos (size * place) +ℤ z) (floor_half b k) ∙ add_sub (size * place) (b / 2) k

  pub count_is : count_of size (sub_ℕ b (2 * k)) ≡ size + b % 2
  count_is = ap (λ (n : ℕ). size + n) (odd b k)

  pub end_is : end_of size place (sub_ℕ b (2 * k)) ≡ sub_ℕ (size * place + b / 2 + (size + b % 2)) k
  end_is = ap₂ (λ (z : ℤ) (n : ℕ). z +ℤ pos n) first_is count_is ∙ sub_add (size + b % 2) (size * place + b / 2) k

  -- the inside test, in ℕ
  pub inside_is : (n : ℕ) → inside size place n (sub_ℕ b (2 * k)) ≡ (leb k (size * place + b / 2) && leb (size * place + b / 2 + (size + b % 2)) (size * n + k))
  inside_is n =
      ap₂ ◌&&◌
      (ap₂ le_z (pos_sub 0) first_is ∙ le_sums 0 0 (size * place + b / 2) k ∙ ap₂ leb zero_left zero_right)
      (ap₂ le_z end_is (pos_sub (size * n)) ∙ le_sums (size * place + b / 2 + (size + b % 2)) k (size * n) 0 ∙ ap (λ (m : ℕ). leb m (size * n + k)) zero-last)
    where
      zero_left : 0 + k ≡ k
      zero_left = omega arith

      zero_right : size * place + b / 2 + 0 ≡ size * place + b / 2
      zero_right = omega arith

      zero-last : size * place + b / 2 + (size + b % 2) + 0 ≡ size * place + b / 2 + (size + b % 2)
      zero-last = omega arith

  pub inside_means : (n : ℕ) → inside size place n (sub_ℕ b (2 * k)) ≡ true → (k ≤ size * place + b / 2) × (size * place + b / 2 + (size + b % 2) ≤ size * n + k)
  inside_means n t =
      let two = both (leb k (size * place + b / 2)) (leb (size * place + b / 2 + (size + b % 2)) (size * n + k)) (sym (inside_is n) ∙ t) in
      (leb-true k (size * place + b / 2) two.0, leb-true (size * place + b / 2 + (size + b % 2)) (size * n + k) two.1)

  pub inside_holds : (n : ℕ) → k ≤ size * place + b / 2 → size * place + b / 2 + (size + b % 2) ≤ size * n + k → inside size place n (sub_ℕ b (2 * k)) ≡ true
  inside_holds n h l = inside_is n ∙ ap₂ ◌&&◌ (le-leb k (size * place + b / 2) h) (le-leb (size * place + b / 2 + (size + b % 2)) (size * n + k) l)

  -- the samples that the block covers, in ℕ: sample i is c - j
  pub covers_means : (c j : ℕ) → Covers size place (sub_ℕ b (2 * k)) (sub_ℕ c j) → (size * place + b / 2 + j ≤ c + k) × (c + k < size * place + b / 2 + (size + b % 2) + j)
  covers_means c j h = (
    le_means (size * place + b / 2) k c j (subst (λ (z : ℤ). z ≤ℤ sub_ℕ c j) first_is h.from),
    lt_means c j (size * place + b / 2 + (size + b % 2)) k (subst (λ (z : ℤ). sub_ℕ c j <ℤ z) end_is h.to),
  )

  pub covers_holds : (c j : ℕ) → size * place + b / 2 + j ≤ c + k → c + k < size * place + b / 2 + (size + b % 2) + j → Covers size place (sub_ℕ b (2 * k)) (sub_ℕ c j)
  covers_holds c j h l =
      record {
        from = subst (λ (z : ℤ). z ≤ℤ sub_ℕ c j) (sym first_is) (le_holds (size * place + b / 2) k c j h);
        to = subst (λ (z : ℤ). sub_ℕ c j <ℤ z) (sym end_is) (lt_holds c j (size * place + b / 2 + (size + b % 2)) k l);
      }

-- the first and the last sample of a block that starts at 0 or above
pub start_is : (size place b k : ℕ) → k ≤ size * place + b / 2 → start_of size place (sub_ℕ b (2 * k)) ≡ size * place + b / 2 - k
start_is size place b k h = ap nat_abs (first_is size place b k ∙ sub_pos (size * place + b / 2) k h)

pub last_is : (size place b k : ℕ) → k ≤ size * place + b / 2 → last_of size place (sub_ℕ b (2 * k)) ≡ size * place + b / 2 + (size + b % 2) - k - 1
last_is size place b k h =
    ap (λ (z : ℤ). nat_abs z - 1) (end_is size place b k ∙ sub_pos (size * place + b / 2 + (size + b % 2)) k (omega arith))

-- as the code counts
pub start_at : (size place b r : ℕ) → 16384 ≤ size * place + b / 2 → r + 16384 ≡ size * place + b / 2 → r ≡ start_of size place (sub_ℕ b 32768)
start_at size place b r h e = omega (arith, start_is size place b 16384 h)

pub last_at : (size place b r : ℕ) → 16384 ≤ size * place + b / 2 → r ≡ size * place + b / 2 + (size + b % 2) - 16385 → r ≡ last_of size place (sub_ℕ b 32768)
last_at size place b r h e = omega (arith, last_is size place b 16384 h)

-- a signed number plus 32768
abbrev pub bias_of : ℤ → ℕ
bias_of (pos n) = n + 32768
bias_of (negsuc n) = 32767 - n

pub plus_bias : (v : ℤ) → mag v < 32768 → v +ℤ pos 32768 ≡ pos (bias_of v)
plus_bias (pos n) h = refl
plus_bias (negsuc n) h = let e : 32768 - suc n ≡ 32767 - n = omega arith in sub_pos 32768 (suc n) (omega arith) ∙ ap pos e

pub bias_lt : (v : ℤ) → mag v < 32768 → bias_of v < 65536
bias_lt (pos n) h = omega arith
bias_lt (negsuc n) h = omega arith

pub bias_back : (v : ℤ) → mag v < 32768 → sub_ℕ (bias_of v) 32768 ≡ v
bias_back (pos n) h = let e : n + 32768 - 32768 ≡ n = omega arith in sub_pos (n + 32768) 32768 (omega arith) ∙ ap pos e
bias_back (negsuc n) h = let e : 32768 - suc (32767 - n) ≡ n = omega arith in sub_neg (32767 - n) 32768 (omega arith) ∙ ap negsuc e
