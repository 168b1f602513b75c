-- The two laws of an address: it grows with the column and with the row. Whatever is claimed of touched bytes rests on them
-- and on nothing else of the address. The premise on the pitch: 32 rows of 16 bytes fit into a row of tiles. The third law is for
-- speed: it lets the tests by lines leave out luma.
use mathlib.Core.Path.{◌≡◌, ap}
use mathlib.Core.Logic.{◌⊎◌, inl, inr}
use Prim.Native.Nat.{ℕ, ◌+◌, ◌*◌, ◌/◌, ◌%◌, ◌≤◌, ◌<◌}
use native.Mathlib.Nat.{mul-le-mul_right, eq-or-lt_of_le, add-mul}
use native.Mathlib.Omega.{arith}
use Rattle.prediction.specs.Addresses.{address}

-- Sixteen columns are one step of 512 bytes, across tiles too: a row's part and a column's part.
pub address_parts : (pitch b r : ℕ) → address pitch b r ≡ r / 32 * 32 * pitch + (b / 16 * 512 + r % 32 * 16 + b % 16)
unfolding address
address_parts pitch b r =
    let strip : b / 128 * 4096 + b % 128 / 16 * 512 ≡ b / 16 * 512 = omega arith in
    omega (arith, strip)

column_part : (a b : ℕ) → a ≤ b → a / 16 * 512 + a % 16 ≤ b / 16 * 512 + b % 16
column_part a b h = omega arith

pub tile_row : (pitch a b : ℕ) → a / 32 < b / 32 → a / 32 * 32 * pitch + 32 * pitch ≤ b / 32 * 32 * pitch
tile_row pitch a b h =
    let next : (a / 32 * 32 + 32) * pitch ≤ b / 32 * 32 * pitch = mul-le-mul_right pitch (omega arith) in
    omega (arith, add-mul (a / 32 * 32) 32 pitch)

pub address_column : (pitch row a b : ℕ) → a ≤ b → address pitch a row ≤ address pitch b row
address_column pitch row a b h = omega (arith, address_parts pitch a row, address_parts pitch b row, column_part a b h)

pub address_row : (pitch column a b : ℕ) → 16 ≤ pitch → a ≤ b → address pitch column a ≤ address pitch column b
address_row pitch column a b wide h = by (eq-or-lt_of_le {n = a / 32} {m = b / 32} (omega arith))
  where
    by : (a / 32 ≡ b / 32) ⊎ (a / 32 < b / 32) → address pitch column a ≤ address pitch column b
    by (inl same) = omega (arith, address_parts pitch column a, address_parts pitch column b, ap (λ (q : ℕ). q * 32 * pitch) same)
    by (inr below) = omega (arith, address_parts pitch column a, address_parts pitch column b, tile_row pitch a b below)

-- A place in an earlier row of tiles, and at most one column further right, has the lower byte.
pub address_tiles : (pitch column row column' row' : ℕ)
    → 32 ≤ pitch
    → column ≤ column' + 1
    → row < row' / 32 * 32
    → address pitch column row ≤ address pitch column' row'
address_tiles pitch column row column' row' wide h below =
    omega (arith, address_parts pitch column row, address_parts pitch column' row', tile_row pitch row row' (omega arith), column_part column (column' + 1) h)
