-- Which numbers and places decoding can answer with, 15 and 16 not among them. What is quoted is document 01.
-- Proved: of `decoded`, by `decode_numbers` (proofs/Numbers.antt).
use Rattle.std.specs.Prelude.{ℕ, ◌≡◌}
use Rattle.batch.specs.Numbers.{CheckedBy}

-- Those of the check, and "14 lent room too small: bytes or words needed".
pub data DecodedBy (words needed n place : ℕ) : Type 0 where
  checked : CheckedBy words n place → DecodedBy words needed n place
  short_room : n ≡ 14 → place ≡ needed → DecodedBy words needed n place
