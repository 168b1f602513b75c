-- The laws of `bits` and `with_bits`, over position and width.
use mathlib.Core.Path.{◌≡◌, refl, sym, ap, ap₂, subst, subst₂, ◌∙◌}
use mathlib.Core.Bool.{Bool, true, false, ◌||◌, not}
use mathlib.Core.Logic.{◌⊎◌, inl, inr}
use Prim.Native.Nat.{ℕ, ◌+◌, ◌*◌, ◌-◌, ◌/◌, ◌%◌, ◌^◌, ◌≤◌, ◌<◌}
use native.Mathlib.Nat.{add_assoc, add-zero, zero-add, add-mul, mul_assoc, zero-mul, mod-one, mod-lt, mod-eq_of_lt, lt_of_lt_of_le, eq-zero-or-pos}
use native.Mathlib.Omega.{arith}
use borrow.Author.Tests.{ltb-true}
use lib.Dec.{T, ltb, eqb}
use lib.Pow.{pow_pos, pow_mono, pow-add, shr-shr, shr_lt, high, low, split, field, mod-mod-pow, mod-pow-add}
use Rattle.fields.specs.Word.{width, bits, with_bits, halves_of, word_of_halves, is_set, flag}
use Rattle.fields.specs.declared.Halves.{Halves}
use Rattle.fields.proofs.Masks.{joined_lt, nothing_above}

-- numbers that agree above bit k, and numbers that agree below it
high_agree : (a b k l : ℕ) → k ≤ l → a / 2 ^ k ≡ b / 2 ^ k → a / 2 ^ l ≡ b / 2 ^ l
high_agree a b k l h e =
    let s : k + (l - k) ≡ l = omega arith in
    ap (λ (x : ℕ). a / 2 ^ x) (sym s)
    ∙ sym (shr-shr a k (l - k))
    ∙ ap (λ (x : ℕ). x / 2 ^ (l - k)) e
    ∙ shr-shr b k (l - k)
    ∙ ap (λ (x : ℕ). b / 2 ^ x) s

low_agree : (a b k n l : ℕ) → n + l ≤ k → a % 2 ^ k ≡ b % 2 ^ k → a / 2 ^ l % 2 ^ n ≡ b / 2 ^ l % 2 ^ n
low_agree a b k n l h e =
    let s : k - (n + l) + (n + l) ≡ k = omega arith in
    let below : (x : ℕ) → x % 2 ^ (n + l) ≡ x % 2 ^ k % 2 ^ (n + l) =
    λ x. sym (mod-mod-pow x (k - (n + l)) (n + l)) ∙ ap (λ (m : ℕ). x % 2 ^ m % 2 ^ (n + l)) s in
    sym (field a n l)
    ∙ ap (λ (x : ℕ). x / 2 ^ l) (below a ∙ ap (λ (x : ℕ). x % 2 ^ (n + l)) e ∙ sym (below b))
    ∙ field b n l

pub no_bits : (a n : ℕ) → n ≡ 0 → a % 2 ^ n ≡ 0
no_bits a n e = ap (λ (x : ℕ). a % 2 ^ x) e ∙ mod-one a

-- a word of what stands above a field of n bits, the field, and what stands below
module _ (h v l n k : ℕ) (hv : v < 2 ^ n) (hl : l < 2 ^ k) where
  above_back : (h * 2 ^ (n + k) + v * 2 ^ k + l) / 2 ^ (n + k) ≡ h
  above_back = ap (λ (x : ℕ). x / 2 ^ (n + k)) (add_assoc (h * 2 ^ (n + k)) (v * 2 ^ k) l) ∙ high h (n + k) (joined_lt n k hv hl)

  two_parts : h * 2 ^ (n + k) + v * 2 ^ k + l ≡ (h * 2 ^ n + v) * 2 ^ k + l
  two_parts =
      ap (λ (x : ℕ). x + l)
      (ap (λ (x : ℕ). x + v * 2 ^ k) (ap (λ (x : ℕ). h * x) (pow-add 2 n k) ∙ sym (mul_assoc h (2 ^ n) (2 ^ k))) ∙ sym (add-mul (h * 2 ^ n) v (2 ^ k)))

  field_back : (h * 2 ^ (n + k) + v * 2 ^ k + l) / 2 ^ k % 2 ^ n ≡ v
  field_back = ap (λ (x : ℕ). x % 2 ^ n) (ap (λ (x : ℕ). x / 2 ^ k) two_parts ∙ high (h * 2 ^ n + v) k hl) ∙ low h n hv

  below_back : (h * 2 ^ (n + k) + v * 2 ^ k + l) % 2 ^ k ≡ l
  below_back = ap (λ (x : ℕ). x % 2 ^ k) two_parts ∙ low (h * 2 ^ n + v) k hl

module _ (word hi lo value : ℕ) where
  abbrev n : ℕ
  n = width hi lo

  abbrev above : ℕ
  above = word / 2 ^ (n + lo)

  value_lt : value % 2 ^ n < 2 ^ n
  value_lt = mod-lt value (pow_pos n)

  below_lt : word % 2 ^ lo < 2 ^ lo
  below_lt = mod-lt word (pow_pos lo)

  -- no bits: the word as it was
  pub same_word : n ≡ 0 → with_bits word hi lo value ≡ word
  same_word e =
      let s : n + lo ≡ lo = omega arith in
      ap₂ (λ (x y : ℕ). word / 2 ^ x * 2 ^ x + y + word % 2 ^ lo) s (ap (λ (x : ℕ). x * 2 ^ lo) (no_bits value n e) ∙ zero-mul (2 ^ lo))
      ∙ ap (λ (x : ℕ). x + word % 2 ^ lo) (add-zero (word / 2 ^ lo * 2 ^ lo))
      ∙ split word lo

  kept_above : (h l : ℕ) → hi < l → bits (with_bits word hi lo value) h l ≡ bits word h l
  kept_above h l a = by (eq-zero-or-pos n)
    where
      by : (n ≡ 0) ⊎ (0 < n) → bits (with_bits word hi lo value) h l ≡ bits word h l
      by (inl e) = ap (λ (x : ℕ). bits x h l) (same_word e)
      by (inr p) =
          ap (λ (x : ℕ). x % 2 ^ width h l)
          (high_agree (with_bits word hi lo value) word (n + lo) l (omega arith) (above_back above (value % 2 ^ n) (word % 2 ^ lo) n lo value_lt below_lt))

  kept_below : (h l : ℕ) → h < lo → bits (with_bits word hi lo value) h l ≡ bits word h l
  kept_below h l a = by (eq-zero-or-pos (width h l))
    where
      by : (width h l ≡ 0) ⊎ (0 < width h l) → bits (with_bits word hi lo value) h l ≡ bits word h l
      by (inl e) = no_bits (with_bits word hi lo value / 2 ^ l) (width h l) e ∙ sym (no_bits (word / 2 ^ l) (width h l) e)
      by (inr p) =
          low_agree (with_bits word hi lo value) word lo (width h l) l (omega arith) (below_back above (value % 2 ^ n) (word % 2 ^ lo) n lo value_lt below_lt)

  -- A packed word gives its fields back: the one that was put in, and each that lies wholly above or below it.
  pub packed_back : (bits (with_bits word hi lo value) hi lo ≡ value % 2 ^ width hi lo) × ((h l : ℕ) → (h < lo) ⊎ (hi < l) → bits (with_bits word hi lo value) h l ≡ bits word h l)
  packed_back = (field_back above (value % 2 ^ n) (word % 2 ^ lo) n lo value_lt below_lt, apart)
    where
      apart : (h l : ℕ) → (h < lo) ⊎ (hi < l) → bits (with_bits word hi lo value) h l ≡ bits word h l
      apart h l (inl a) = kept_below h l a
      apart h l (inr a) = kept_above h l a

-- The same for a caller whose positions are numerals: `tt` decides them.
pub field_put : (word hi lo value : ℕ) → value < 2 ^ width hi lo → bits (with_bits word hi lo value) hi lo ≡ value
field_put word hi lo value h = (packed_back word hi lo value).0 ∙ mod-eq_of_lt h

pub field_kept : (word hi lo value h l : ℕ) → T (ltb h lo || ltb hi l) → bits (with_bits word hi lo value) h l ≡ bits word h l
field_kept word hi lo value h l t = (packed_back word hi lo value).1 h l (either (ltb h lo) (ltb hi l) refl refl t)
  where
    either : (p q : Bool) → ltb h lo ≡ p → ltb hi l ≡ q → T (p || q) → (h < lo) ⊎ (hi < l)
    either true q e f t = inl (ltb-true h lo e)
    either false true e f t = inr (ltb-true hi l f)
    either false false e f t = elim t [ ]

-- A packed word is a word.
pub with_bits_lt : (word hi lo value : ℕ) → word < 2 ^ 32 → with_bits word hi lo value < 2 ^ 32
with_bits_lt word hi lo value h = by (eq-zero-or-pos (width hi lo))
  where
    by : (width hi lo ≡ 0) ⊎ (0 < width hi lo) → with_bits word hi lo value < 2 ^ 32
    by (inl e) = subst (λ (x : ℕ). x < 2 ^ 32) (sym (same_word word hi lo value e)) h
    by (inr p) =
        let k = width hi lo + lo in
        let s : 32 - k + k ≡ 32 = omega arith in
        let high = shr_lt (32 - k) k (subst (λ (x : ℕ). word < 2 ^ x) (sym s) h) in
        let low = joined_lt (width hi lo) lo (value_lt word hi lo value) (below_lt word hi lo value) in
        subst₂ (λ (x y : ℕ). x < 2 ^ y)
        (sym (add_assoc (word / 2 ^ k * 2 ^ k) (value % 2 ^ width hi lo * 2 ^ lo) (word % 2 ^ lo)))
        s
        (joined_lt (32 - k) k high low)

-- A field above a word's highest bit is added to it.
pub on_top : (word hi lo value : ℕ) → word < 2 ^ lo → value < 2 ^ width hi lo → with_bits word hi lo value ≡ value * 2 ^ lo + word
on_top word hi lo value hw hv =
    let n = width hi lo in
    let none = nothing_above word (n + lo) (lt_of_lt_of_le hw (pow_mono {i = lo} {j = n + lo} (omega arith))) in
    ap₂ (λ (x y : ℕ). x + y * 2 ^ lo + word % 2 ^ lo) none (mod-eq_of_lt hv)
    ∙ ap₂ (λ (x y : ℕ). x + y) (zero-add (value * 2 ^ lo)) (mod-eq_of_lt hw)

-- A word is its fields: two that agree below bit lo and in `hi:lo` agree below bit hi + 1, and so, field by field from the
-- lowest up, two that agree in all their fields are equal.
pub agree_up : (a b hi lo : ℕ) → lo ≤ hi → hi < 32 → a % 2 ^ lo ≡ b % 2 ^ lo → bits a hi lo ≡ bits b hi lo → a % 2 ^ (hi + 1) ≡ b % 2 ^ (hi + 1)
agree_up a b hi lo h t below here =
    let s : hi + 1 ≡ width hi lo + lo = omega arith in
    ap (λ (x : ℕ). a % 2 ^ x) s
    ∙ mod-pow-add a (width hi lo) lo
    ∙ ap₂ (λ (x y : ℕ). x * 2 ^ lo + y) here below
    ∙ sym (mod-pow-add b (width hi lo) lo)
    ∙ ap (λ (x : ℕ). b % 2 ^ x) (sym s)

pub same_below_32 : (a b : ℕ) → a < 2 ^ 32 → b < 2 ^ 32 → a % 2 ^ 32 ≡ b % 2 ^ 32 → a ≡ b
same_below_32 a b ha hb e = sym (mod-eq_of_lt ha) ∙ e ∙ mod-eq_of_lt hb

-- A word's halves and the word of two halves undo each other.
abbrev pub halves : ℕ → ℕ → Halves
halves x y = record { low = x; high = y }

pub halves_back : (h : Halves) → h.low < 65536 → h.high < 65536 → halves_of (word_of_halves h) ≡ h
halves_back h hl hh =
    let w = on_top h.low 31 16 h.high hl hh in
    let low : (h.high * 65536 + h.low) / 1 % 65536 ≡ h.low = omega arith in
    let high : (h.high * 65536 + h.low) / 65536 % 65536 ≡ h.high = omega arith in
    ap halves_of w ∙ ap₂ halves low high

pub word_back : (w : ℕ) → w < 2 ^ 32 → word_of_halves (halves_of w) ≡ w
word_back w h = on_top (bits w 15 0) 31 16 (bits w 31 16) (omega arith) (omega arith) ∙ omega arith

-- a flag in its bit, and a flag as a number that is not zero
pub flag_back : (b : Bool) → is_set (flag b % 2) ≡ b
flag_back true = refl
flag_back false = refl

pub flag_nonzero : (b : Bool) → not (eqb (flag b) 0) ≡ b
flag_nonzero true = refl
flag_nonzero false = refl
