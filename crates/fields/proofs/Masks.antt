-- What shifts, masks and `|` compute, as quotients, remainders and sums.
use mathlib.Core.Path.{◌≡◌, sym, ap, ap₂, ◌∙◌, subst}
use Prim.Native.Nat.{ℕ, ◌+◌, ◌*◌, ◌-◌, ◌/◌, ◌%◌, ◌^◌, ◌≤◌, ◌<◌}
use native.Mathlib.Nat.{one-mul, mod-eq_of_lt, lt_of_le_of_lt, lt_of_lt_of_le, mod-lt, add_assoc, zero-add, zero-mul, div-eq_of_lt, div-mul-le_self}
use lib.Arith.{digits_lt}
use lib.Pow.{pow-lt, pow_pos, pow_mono, pow-add, shl_exact}
use lib.Bits.{bit_and, bit_or, and_mask, or_shifted_r}

-- one, shifted
pub one_shl : (n : ℕ) → n < 32 → (1 * 2 ^ n) % 2 ^ 32 ≡ 2 ^ n
one_shl n h = ap (λ (x : ℕ). x % 2 ^ 32) (one-mul (2 ^ n)) ∙ mod-eq_of_lt (pow-lt h)

-- n bits above k bits that are there
pub joined_lt : {v a : ℕ} (n k : ℕ) → v < 2 ^ n → a < 2 ^ k → v * 2 ^ k + a < 2 ^ (n + k)
joined_lt {v} {a} n k hv ha = subst (λ (m : ℕ). v * 2 ^ k + a < m) (sym (pow-add 2 n k)) (digits_lt hv ha)

-- the same, as `|` and `<<` join them
pub or_shl : {v a : ℕ} (n k : ℕ) → v < 2 ^ n → a < 2 ^ k → n + k ≤ 32 → bit_or a ((v * 2 ^ k) % 2 ^ 32) ≡ v * 2 ^ k + a
or_shl {v} {a} n k hv ha h = ap (bit_or a) (shl_exact n k 32 hv h) ∙ or_shifted_r v k a ha

-- what stands above bit k of a word, shifted down and up again
pub high_part : (w k : ℕ) → w < 2 ^ 32 → ((w / 2 ^ k) * 2 ^ k) % 2 ^ 32 ≡ w / 2 ^ k * 2 ^ k
high_part w k h = mod-eq_of_lt (lt_of_le_of_lt (div-mul-le_self w (2 ^ k)) h)

-- nothing stands above bit k
pub nothing_above : (w k : ℕ) → w < 2 ^ k → w / 2 ^ k * 2 ^ k ≡ 0
nothing_above w k h = ap (λ (x : ℕ). x * 2 ^ k) (div-eq_of_lt h) ∙ zero-mul (2 ^ k)

-- what stands above a field of n bits at bit k, the field, what stands below
abbrev pub three : ℕ → ℕ → ℕ → ℕ → ℕ
three word value n k = word / 2 ^ (n + k) * 2 ^ (n + k) + value % 2 ^ n * 2 ^ k + word % 2 ^ k

-- the three parts, joined by shifts and masks; the masks are b and f
module _ (word value n k : ℕ) {b f : ℕ} (fits : word < 2 ^ 32) (eb : b ≡ 2 ^ k - 1) (ef : f ≡ 2 ^ n - 1) (room : n + k ≤ 32) where
  lower : bit_or (bit_and word b) ((bit_and value f * 2 ^ k) % 2 ^ 32) ≡ value % 2 ^ n * 2 ^ k + word % 2 ^ k
  lower =
      ap₂ (λ (x y : ℕ). bit_or x ((y * 2 ^ k) % 2 ^ 32)) (ap (bit_and word) eb ∙ and_mask word k) (ap (bit_and value) ef ∙ and_mask value n)
      ∙ or_shl n k (mod-lt value (pow_pos n)) (mod-lt word (pow_pos k)) room

  pub packed : bit_or (bit_or (bit_and word b) ((bit_and value f * 2 ^ k) % 2 ^ 32)) (((word / 2 ^ (n + k)) * 2 ^ (n + k)) % 2 ^ 32) ≡ three word value n k
  packed =
      ap₂ bit_or lower (high_part word (n + k) fits)
      ∙ or_shifted_r (word / 2 ^ (n + k)) (n + k) (value % 2 ^ n * 2 ^ k + word % 2 ^ k) (joined_lt n k (mod-lt value (pow_pos n)) (mod-lt word (pow_pos k)))
      ∙ sym (add_assoc (word / 2 ^ (n + k) * 2 ^ (n + k)) (value % 2 ^ n * 2 ^ k) (word % 2 ^ k))

  -- the field reaches bit 31: nothing stands above
  pub packed_top : 32 ≤ n + k → bit_or (bit_and word b) ((bit_and value f * 2 ^ k) % 2 ^ 32) ≡ three word value n k
  packed_top h =
      let none = nothing_above word (n + k) (lt_of_lt_of_le fits (pow_mono h)) in
      lower ∙ ap (λ (x : ℕ). x + word % 2 ^ k) (sym (ap (λ (x : ℕ). x + value % 2 ^ n * 2 ^ k) none ∙ zero-add (value % 2 ^ n * 2 ^ k)))
