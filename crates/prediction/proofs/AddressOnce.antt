-- Every byte of a buffer is at one column and one row: tiles leave out no byte and use none twice. Nothing is proved from this;
-- it guards the definition.
use mathlib.Core.Path.{◌≡◌, ap, ◌∙◌}
use mathlib.Core.Logic.{◌⊎◌, inl, inr}
use Prim.Native.Nat.{ℕ, ◌+◌, ◌*◌, ◌/◌, ◌%◌, ◌≤◌, ◌<◌}
use native.Mathlib.Nat.{mul_assoc, mul_comm, div-add-mod, mod-lt}
use native.Mathlib.Omega.{arith}
use Rattle.prediction.specs.Addresses.{address}
use Rattle.prediction.proofs.Integers.{split}
use Rattle.prediction.proofs.AddressGrows.{address_parts, tile_row}

-- A place in an earlier row of tiles has the lower byte, whatever the columns.
earlier : (pitch b r b' r' : ℕ) → pitch % 128 ≡ 0 → b < pitch → r / 32 < r' / 32 → address pitch b r < address pitch b' r'
earlier pitch b r b' r' tiled hb l = omega (arith, address_parts pitch b r, address_parts pitch b' r', tile_row pitch r r' l)

-- No two places of a surface have one byte.
pub address_once : (pitch b r b' r' : ℕ) → pitch % 128 ≡ 0 → b < pitch → b' < pitch → address pitch b r ≡ address pitch b' r' → (b ≡ b') × (r ≡ r')
address_once pitch b r b' r' tiled hb hb' same = by (split (r / 32) (r' / 32)) (split (r' / 32) (r / 32))
  where
    by : (r / 32 < r' / 32) ⊎ (r' / 32 ≤ r / 32) → (r' / 32 < r / 32) ⊎ (r / 32 ≤ r' / 32) → (b ≡ b') × (r ≡ r')
    by (inl l) _ = absurd (omega (arith, same, earlier pitch b r b' r' tiled hb l))
    by (inr _) (inl l) = absurd (omega (arith, same, earlier pitch b' r' b r tiled hb' l))
    by (inr h) (inr k) =
        let rows : r / 32 ≡ r' / 32 = omega (arith, h, k) in
        let tiles = ap (λ (q : ℕ). q * 32 * pitch) rows in
        let inner : b / 16 * 512 + r % 32 * 16 + b % 16 ≡ b' / 16 * 512 + r' % 32 * 16 + b' % 16 = omega (arith, same, tiles, address_parts pitch b r, address_parts pitch b' r') in
        (omega (arith, inner), omega (arith, inner, rows))

-- Every number is the byte of some place.
pub address_every : (pitch n : ℕ) → 0 < pitch → pitch % 128 ≡ 0 → (b : ℕ) × (r : ℕ) × (b < pitch) × (address pitch b r ≡ n)
address_every pitch n some tiled =
    let t : ℕ = n / (32 * pitch) in
    let m : ℕ = n % (32 * pitch) in
    let b : ℕ = m / 512 * 16 + m % 16 in
    let r : ℕ = t * 32 + m % 512 / 16 in
    let below : m < 32 * pitch = mod-lt n (omega arith) in
    let whole : 32 * pitch * t + m ≡ n = div-add-mod n (32 * pitch) in
    let rows : r / 32 ≡ t = omega arith in
    let tiles : r / 32 * 32 * pitch ≡ t * 32 * pitch = ap (λ (q : ℕ). q * 32 * pitch) rows in
    let product : t * 32 * pitch ≡ 32 * pitch * t = mul_assoc t 32 pitch ∙ mul_comm t (32 * pitch) in
    (b, r, omega (arith, below), omega (arith, address_parts pitch b r, tiles, product, whole))
