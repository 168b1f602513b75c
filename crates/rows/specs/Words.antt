-- What tests of the words of a MACROBLOCK command find, from which its rules follow (proofs/Keeping.antt).
-- Proved: against the rules, by `accepted` (proofs/Keeping.antt).
use Rattle.std.specs.Prelude.{ℕ, ◌≤◌, Bool, true, false, cond, List, ◌⊎◌, ◌≡◌, length}
use Rattle.fields.specs.Word.{bits, with_bits}
use Rattle.headers.specs.Words.{word_at}
use Rattle.placement.specs.Placing.{zero_vectors}

-- A word without its upper half.
abbrev pub low_half : ℕ → ℕ
low_half w = with_bits w 31 16 0

-- Word 1 without its upper half and, where bit 15 is free, without that.
abbrev pub type_bits : Bool → ℕ → ℕ
type_bits free one = with_bits one 31 (cond free 15 16) 0

-- Word 4 of a field prediction without its choices.
abbrev pub without_choices : ℕ → ℕ
without_choices four = with_bits (with_bits four 18 18 0) 16 16 0

-- Word 4 without the bits that a macroblock is free to set.
unfoldable pub bound_bits : ℕ → ℕ
bound_bits four = with_bits (with_bits (with_bits four 31 31 0) 27 25 0) 4 0 0

-- What those bits have to be: whether a slice begins (bit 30) and whether a group begins (bit 24).
unfoldable pub due_bits : Bool → Bool → ℕ
due_bits slice group = cond slice (cond group 0x41000000 0x40000000) (cond group 0x01000000 0)

pub record FlagsKept (four due : ℕ) (last : Bool) : Type 0 where
  pub bound : bound_bits four ≡ due
  pub quantised : 1 ≤ bits four 4 0
  pub ends : (bits four 31 31 ≡ 1) ⊎ ((last ≡ false) × (bits four 26 26 ≡ 0))

pub record IntraKept (coding : ℕ) (ws : List ℕ) : Type 0 where
  pub pattern : low_half (word_at ws 3) ≡ 0xfc0
  pub zeros : zero_vectors ws ≡ true
  pub conversion : (coding ≡ 1 → ⊥) ⊎ (bits (word_at ws 4) 25 25 ≡ 0)

pub record Repeated (before ws : List ℕ) : Type 0 where
  pub comes : length before ≡ 0 → ⊥
  pub kind : bits (word_at before 1) 13 8 ≡ bits (word_at ws 1) 13 8
  pub five : word_at before 5 ≡ word_at ws 5
  pub six : word_at before 6 ≡ word_at ws 6
  pub seven : word_at before 7 ≡ word_at ws 7
  pub eight : word_at before 8 ≡ word_at ws 8

pub record SkipKept (coding : ℕ) (before ws : List ℕ) : Type 0 where
  pub pattern : low_half (word_at ws 3) ≡ 0
  pub inside_slice : bits (word_at ws 4) 31 30 ≡ 0
  pub frame_dct : bits (word_at ws 1) 15 15 ≡ 0
  pub allowed : ((coding ≡ 2) × (zero_vectors ws ≡ true)) ⊎ ((coding ≡ 2 → ⊥) × Repeated before ws)

pub record InterKept (coding : ℕ) (before ws : List ℕ) : Type 0 where
  pub seven : word_at ws 5 ≡ word_at ws 7
  pub eight : word_at ws 6 ≡ word_at ws 8
  pub fixed_high : bits (word_at ws 3) 15 12 ≡ 0
  pub fixed_low : bits (word_at ws 3) 5 0 ≡ 0
  pub skips : (bits (word_at ws 1) 2 2 ≡ 0) ⊎ SkipKept coding before ws

pub record FieldKept (ws : List ℕ) : Type 0 where
  pub six : word_at ws 5 ≡ word_at ws 6
  pub eight : word_at ws 5 ≡ word_at ws 8
  pub fixed_high : bits (word_at ws 3) 15 12 ≡ 0
  pub fixed_low : bits (word_at ws 3) 5 0 ≡ 0
