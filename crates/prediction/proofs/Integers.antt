-- Differences of two naturals, as integers.
use mathlib.Core.Path.{◌≡◌, refl, sym, ap, ap₂, subst, ◌∙◌}
use mathlib.Core.Bool.{Bool, true, false, cond, not, ◌&&◌, ◌||◌}
use mathlib.Core.Logic.{◌⊎◌, inl, inr}
use Prim.Native.Nat.{ℕ, zero, suc, ◌+◌, ◌*◌, ◌-◌, ◌≤◌, ◌<◌}
use native.Mathlib.Nat.{add_comm, mul-le-mul}
use native.Mathlib.Omega.{arith}
use borrow.Author.Tests.{ltb-true, ltb-false, lt-ltb, le-ltb, le-leb, lt-leb}
use lib.Dec.{T, ltb, leb, leb→le, le→leb, ltb→lt, lt→ltb}
use lib.IntN.{ℤ, pos, negsuc, neg_ℤ, sub_ℕ, ◌+ℤ◌, +ℤ_comm}
use lib.Signed.{le_z, lt_z, ◌≤ℤ◌, ◌<ℤ◌}

pub split : (a b : ℕ) → (a < b) ⊎ (b ≤ a)
split a b = by (ltb a b) refl
  where
    by : (t : Bool) → ltb a b ≡ t → (a < b) ⊎ (b ≤ a)
    by true e = inl (ltb-true a b e)
    by false e = inr (ltb-false a b e)

pub sub_pos : (a b : ℕ) → b ≤ a → sub_ℕ a b ≡ pos (a - b)
sub_pos a b h = ap (λ (t : Bool). cond t (negsuc (b - suc a)) (pos (a - b))) (le-ltb a b h)

pub sub_neg : (a b : ℕ) → a < b → sub_ℕ a b ≡ negsuc (b - suc a)
sub_neg a b h = ap (λ (t : Bool). cond t (negsuc (b - suc a)) (pos (a - b))) (lt-ltb a b h)

-- equal differences
pub sub_eq : (a b c d : ℕ) → a + d ≡ c + b → sub_ℕ a b ≡ sub_ℕ c d
sub_eq a b c d e = by (split a b)
  where
    by : (a < b) ⊎ (b ≤ a) → sub_ℕ a b ≡ sub_ℕ c d
    by (inl h) = let n : b - suc a ≡ d - suc c = omega arith in sub_neg a b h ∙ ap negsuc n ∙ sym (sub_neg c d (omega arith))
    by (inr h) = let n : a - b ≡ c - d = omega arith in sub_pos a b h ∙ ap pos n ∙ sym (sub_pos c d (omega arith))

pub pos_sub : (n : ℕ) → pos n ≡ sub_ℕ n 0
pos_sub n = let e : n ≡ n - 0 = omega arith in ap pos e ∙ sym (sub_pos n 0 (omega arith))

-- every integer is a difference from an even number
pub record Moved (v : ℤ) : Type 0 where
  pub k : ℕ
  pub b : ℕ
  pub is : v ≡ sub_ℕ b (2 * k)

pub moved : (v : ℤ) → Moved v
moved (pos n) = record { k = 0; b = n; is = pos_sub n }
moved (negsuc n) =
    let e : n ≡ 2 * suc n - suc (suc n) = omega arith in
    record { k = suc n; b = suc n; is = ap negsuc e ∙ sym (sub_neg (suc n) (2 * suc n) (omega arith)) }

-- sums with a natural
pub add_sub : (m a b : ℕ) → pos m +ℤ sub_ℕ a b ≡ sub_ℕ (m + a) b
add_sub m a b = by (split a b)
  where
    by : (a < b) ⊎ (b ≤ a) → pos m +ℤ sub_ℕ a b ≡ sub_ℕ (m + a) b
    by (inl h) = ap (λ (z : ℤ). pos m +ℤ z) (sub_neg a b h) ∙ sub_eq m (suc (b - suc a)) (m + a) b (omega arith)
    by (inr h) = let e : m + (a - b) ≡ m + a - b = omega arith in ap (λ (z : ℤ). pos m +ℤ z) (sub_pos a b h) ∙ ap pos e ∙ sym (sub_pos (m + a) b (omega arith))

pub sub_add : (m a b : ℕ) → sub_ℕ a b +ℤ pos m ≡ sub_ℕ (a + m) b
sub_add m a b = +ℤ_comm (sub_ℕ a b) (pos m) ∙ add_sub m a b ∙ ap (λ (n : ℕ). sub_ℕ n b) (add_comm m a)

pub neg_sub : (n k : ℕ) → n ≤ k → neg_ℤ (pos n) ≡ sub_ℕ (k - n) k
neg_sub zero k h = sym (sub_pos (k - 0) k (omega arith) ∙ ap pos (omega arith))
neg_sub (suc n) k h = let e : n ≡ k - suc (k - suc n) = omega arith in ap negsuc e ∙ sym (sub_neg (k - suc n) k (omega arith))

pub neg_is : (n : ℕ) → neg_ℤ (pos n) ≡ sub_ℕ 0 n
neg_is n = let e : n - n ≡ 0 = omega arith in neg_sub n n (omega arith) ∙ ap (λ (m : ℕ). sub_ℕ m n) e

-- tests that agree
leb_same : (a b c d : ℕ) → (a ≤ b → c ≤ d) → (c ≤ d → a ≤ b) → leb a b ≡ leb c d
leb_same a b c d f g = by (split b a)
  where
    by : (b < a) ⊎ (a ≤ b) → leb a b ≡ leb c d
    by (inl h) = lt-leb a b h ∙ sym (other (split d c))
      where
        other : (d < c) ⊎ (c ≤ d) → leb c d ≡ false
        other (inl l) = lt-leb c d l
        other (inr l) = let no = g l in absurd (omega arith)
    by (inr h) = le-leb a b h ∙ sym (le-leb c d (f h))

-- the order of two differences, by the sums: a - b ≤ c - d is a + d ≤ c + b
pub le_sums : (a b c d : ℕ) → le_z (sub_ℕ a b) (sub_ℕ c d) ≡ leb (a + d) (c + b)
le_sums a b c d = by (split a b) (split c d)
  where
    by : (a < b) ⊎ (b ≤ a) → (c < d) ⊎ (d ≤ c) → le_z (sub_ℕ a b) (sub_ℕ c d) ≡ leb (a + d) (c + b)
    by (inl h) (inl l) = ap₂ le_z (sub_neg a b h) (sub_neg c d l) ∙ leb_same (d - suc c) (b - suc a) (a + d) (c + b) (omega arith) (omega arith)
    by (inl h) (inr l) = ap₂ le_z (sub_neg a b h) (sub_pos c d l) ∙ sym (le-leb (a + d) (c + b) (omega arith))
    by (inr h) (inl l) = ap₂ le_z (sub_pos a b h) (sub_neg c d l) ∙ sym (lt-leb (a + d) (c + b) (omega arith))
    by (inr h) (inr l) = ap₂ le_z (sub_pos a b h) (sub_pos c d l) ∙ leb_same (a - b) (c - d) (a + d) (c + b) (omega arith) (omega arith)

ltb_not : (a b : ℕ) → ltb a b ≡ not (leb b a)
ltb_not a b = by (split a b)
  where
    by : (a < b) ⊎ (b ≤ a) → ltb a b ≡ not (leb b a)
    by (inl h) = lt-ltb a b h ∙ ap not (sym (lt-leb b a h))
    by (inr h) = le-ltb a b h ∙ ap not (sym (le-leb b a h))

lt_z_not : (x y : ℤ) → lt_z x y ≡ not (le_z y x)
lt_z_not (pos a) (pos b) = ltb_not a b
lt_z_not (pos a) (negsuc b) = refl
lt_z_not (negsuc a) (pos b) = refl
lt_z_not (negsuc a) (negsuc b) = ltb_not b a

pub lt_sums : (a b c d : ℕ) → lt_z (sub_ℕ a b) (sub_ℕ c d) ≡ ltb (a + d) (c + b)
lt_sums a b c d = lt_z_not (sub_ℕ a b) (sub_ℕ c d) ∙ ap not (le_sums c d a b) ∙ sym (ltb_not (a + d) (c + b))

module _ (a b c d : ℕ) where
  pub le_means : sub_ℕ a b ≤ℤ sub_ℕ c d → a + d ≤ c + b
  le_means h = leb→le (a + d) (c + b) (subst T (le_sums a b c d) h.le)

  pub le_holds : a + d ≤ c + b → sub_ℕ a b ≤ℤ sub_ℕ c d
  le_holds h = record { le = subst T (sym (le_sums a b c d)) (le→leb (a + d) (c + b) h) }

  pub lt_means : sub_ℕ a b <ℤ sub_ℕ c d → a + d < c + b
  lt_means h = ltb→lt (a + d) (c + b) (subst T (lt_sums a b c d) h.lt)

  pub lt_holds : a + d < c + b → sub_ℕ a b <ℤ sub_ℕ c d
  lt_holds h = record { lt = subst T (sym (lt_sums a b c d)) (lt→ltb (a + d) (c + b) h) }

-- two tests that both hold, and two of which one does
pub both : (p q : Bool) → (p && q) ≡ true → (p ≡ true) × (q ≡ true)
both true q t = (refl, t)
both false q t = let z : ◌≡◌ {A = ℕ} 0 1 = cc in absurd (omega arith)

pub either : (p q : Bool) → (p || q) ≡ true → (p ≡ true) ⊎ (q ≡ true)
either true q t = inl refl
either false q t = inr t

pub product_le : {a b : ℕ} (m n : ℕ) → a ≤ m → b ≤ n → a * b ≤ m * n
product_le m n ha hb = mul-le-mul ha hb
