-- What is touched of one picture buffer.
-- To be believed: `Exact`. The others are proved against it, by `empty_exact` and `join_exact` (proofs/ExtentLaws.antt).
use Rattle.std.specs.Prelude.{ℕ, ◌+◌, ◌≤◌, ◌<◌, min, max, cond, ◌≡◌, eqb}
use Rattle.prediction.specs.declared.Extent.{Extent}

-- No byte. The length that is reported of such a buffer is 0 (document 01), and its first byte too (document 02, R-8).
unfoldable pub empty_extent : Extent
empty_extent = record { first = 0; end = 0 }

-- What either touches: from the lower first byte to the higher end. The 0 of an extent without a byte is no byte that is touched.
unfoldable pub joined : Extent → Extent → Extent
joined a b = cond (eqb b.end 0) a (cond (eqb a.end 0) b (record { first = min a.first b.first; end = max a.end b.end }))

-- An extent is exact for the bytes that are touched: each lies from its first byte to below its end, and the first and the last of
-- these are touched; where none is, both are 0. So the end is demand 3's length, "zero if the batch touches no byte of it, otherwise
-- one more than the highest byte", and the first byte is document 02's, R-8: "its first touched byte (0 if untouched)".
pub record Exact (Touched : ℕ → Type 0) (e : Extent) : Type 0 where
  pub below : (byte : ℕ) → Touched byte → byte < e.end
  pub reached : 0 < e.end → (byte : ℕ) × Touched byte × (byte + 1 ≡ e.end)
  pub from : (byte : ℕ) → Touched byte → e.first ≤ byte
  pub begun : 0 < e.end → Touched e.first
  pub untouched : e.end ≡ 0 → e.first ≡ 0
