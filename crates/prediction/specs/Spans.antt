-- The samples that a displaced block covers in one direction, columns or rows alike. A block has `size` samples and is the
-- place-th of its row or column of blocks; its vector's component v is in half samples of its plane.
-- To be believed: first sample, count, inside and the halving of chroma, in one direction.
use Rattle.std.specs.Prelude.{ℕ, ◌+◌, ◌*◌, ◌%◌, Bool, ◌&&◌, ℤ, pos, nat_abs, ◌+ℤ◌, ◌≤ℤ◌, ◌<ℤ◌}
use Rattle.std.specs.Int.Signed.{le_z, shr_z, quot_z}

-- Document 01: "The luma block starts at column 16X + floor(vx/2)". shr_z v 2 is the floor of v / 2.
abbrev pub first_of : ℕ → ℕ → ℤ → ℤ
first_of size place v = pos (size * place) +ℤ shr_z v 2

-- ".. and has 16 columns, 17 if vx is odd".
abbrev pub count_of : ℕ → ℤ → ℕ
count_of size v = size + nat_abs v % 2

-- One past the last sample.
abbrev pub end_of : ℕ → ℕ → ℤ → ℤ
end_of size place v = first_of size place v +ℤ pos (count_of size v)

-- The block covers sample i.
pub record Covers (size place : ℕ) (v i : ℤ) : Type 0 where
  pub from : first_of size place v ≤ℤ i
  pub to : i <ℤ end_of size place v

-- "It must lie in columns 0 to 16W−1, rows 0 to 16H−1": in the samples 0 to size·n − 1.
abbrev pub inside : ℕ → ℕ → ℕ → ℤ → Bool
inside size place n v = le_z (pos 0) (first_of size place v) && le_z (end_of size place v) (pos (size * n))

-- "Chroma halves each component towards zero (−3 gives −1, −1 gives 0, 3 gives 1)". quot_z rounds towards zero.
abbrev pub halved : ℤ → ℤ
halved v = quot_z v (pos 2)
