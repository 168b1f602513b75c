-- Editions: a boat's newest sheet not above one, and its next. What is quoted is document 02 (R-9).
-- To be believed: which sheet is the newest not above an edition, and which edition is next. In stored sheets none of which is bad the editions of a
-- boat are 1, 2, 3 and so on, by `editions_rise` (proofs/Rising.antt).
use Rattle.std.specs.Prelude.{ℕ, ◌+◌, Bool, cond, List, [], ◌∷◌, eqb, leb, Some, None, Option}
use Rattle.mounts.specs.declared.Sheet.{Sheet}

-- The newest of some sheets, if there is one.
abbrev pub Newest : Type 0
Newest = Option Sheet

-- The sheets that a test takes, in their order.
abbrev pub those : (Sheet → Bool) → List Sheet → List Sheet
those test [] = []
those test (s ∷ ss) = cond (test s) (s ∷ those test ss) (those test ss)

-- The sheets of a boat, and those not above an edition.
abbrev pub of_boat : ℕ → List Sheet → List Sheet
of_boat boat sheets = those (λ s. eqb s.boat boat) sheets

abbrev pub not_above : ℕ → List Sheet → List Sheet
not_above edition sheets = those (λ s. leb s.edition edition) sheets

-- The last of some sheets.
abbrev pub latest : Newest → List Sheet → Newest
latest before [] = before
latest before (s ∷ ss) = latest (Some s) ss

-- "that boat's newest sheet not above it"
unfoldable pub newest : ℕ → ℕ → List Sheet → Newest
newest boat edition sheets = latest None (not_above edition (of_boat boat sheets))

-- "none follows 4294967295"
abbrev pub highest_edition : ℕ
highest_edition = 4294967295

-- The edition of a sheet, 0 where there is none.
abbrev pub edition_of : Newest → ℕ
edition_of (Some s) = s.edition
edition_of None = 0

-- "Editions of one boat start at 1 and rise by one". What follows the highest is no edition: 32 bits do not hold it.
unfoldable pub next_edition : ℕ → List Sheet → ℕ
next_edition boat sheets = edition_of (newest boat highest_edition sheets) + 1
