-- What is claimed of asking and adding. What is quoted is document 02 (R-9).
-- Proved: `bad_place`, `first_bad_given` (proofs/StoredLaws.antt), `editions_rise` (proofs/Rising.antt), `found_newest`, `none_found`, `found_none`, `ask_numbers`
-- (proofs/Finding.antt), `add_numbers` (proofs/AddLaws.antt), `add_leaves`, `added_found` (proofs/Adding.antt) and `later_adding` (proofs/Later.antt).
use Rattle.std.specs.Prelude.{ℕ, suc, ◌*◌, ◌^◌, ◌≤◌, ◌<◌, true, false, List, [], ◌∷◌, ◌++◌, ◌⊎◌, ◌≡◌, length, take, drop, Ok}
use Rattle.mounts.specs.Layout.{sheet_length}
use Rattle.mounts.specs.Mounts.{good_at, asked, added, bytes_after}
use Rattle.mounts.specs.Sheets.{sheet_record, sheet_at}
use Rattle.mounts.specs.declared.Sheet.{Sheet}

-- Record k is bad, and none before it is.
pub record FirstBad (bytes : List ℕ) (count k : ℕ) : Type 0 where
  pub counted : k < count
  pub good_before : (j : ℕ) → j < k → good_at bytes j ≡ true
  pub bad : good_at bytes k ≡ false

-- Editions that begin with n and rise by one: "Editions of one boat start at 1 and rise by one".
abbrev pub Rising : ℕ → List Sheet → Type 0
Rising n [] = Unit {0}
Rising n (s ∷ ss) = (s.edition ≡ n) × Rising (suc n) ss

-- A boat's newest sheet not above an edition: it is stored, and no stored sheet of the boat that is not above the edition has a higher one.
pub record NewestNotAbove (bytes : List ℕ) (count boat edition : ℕ) (s : Sheet) : Type 0 where
  pub at : ℕ
  pub counted : at < count
  pub stored : sheet_at bytes at ≡ s
  pub of_boat : s.boat ≡ boat
  pub not_above : s.edition ≤ edition
  pub highest : (j : ℕ) → j < count → (sheet_at bytes j).boat ≡ boat → (sheet_at bytes j).edition ≤ edition → (sheet_at bytes j).edition ≤ s.edition

-- No sheet of a boat is stored.
abbrev pub NoSheet : List ℕ → ℕ → ℕ → Type 0
NoSheet bytes count boat = (j : ℕ) → j < count → (sheet_at bytes j).boat ≡ boat → ⊥

-- The bytes after adding: "adding writes behind the last", and all else stays.
pub record AddLeaves (before : List ℕ) (count : ℕ) (s : Sheet) (after : List ℕ) : Type 0 where
  pub same_length : length after ≡ length before
  pub before_it : take (sheet_length * count) after ≡ take (sheet_length * count) before
  pub the_record : take sheet_length (drop (sheet_length * count) after) ≡ sheet_record s
  pub beyond_it : drop (sheet_length * suc count) after ≡ drop (sheet_length * suc count) before

-- Lent bytes and the number of records in them, as they are handed on.
pub record Book : Type 0 where
  pub bytes : List ℕ
  pub count : ℕ

-- A call of adding: a sheet of two 32-bit numbers and any side, and whatever bytes are lent behind the records.
pub record Call : Type 0 where
  pub new : Sheet
  pub beyond : List ℕ
  pub boat_fits : new.boat < 2 ^ 32
  pub edition_fits : new.edition < 2 ^ 32

-- The records of a book, and other bytes behind them.
abbrev pub lent_with : Book → List ℕ → List ℕ
lent_with b beyond = take (sheet_length * b.count) b.bytes ++ beyond

-- One call, accepted or refused: the records are handed over as they are, with other bytes behind them, and bytes and number come back as adding leaves
-- them.
pub record AddStep (b : Book) (c : Call) (r : Book) : Type 0 where
  pub bytes : r.bytes ≡ bytes_after (lent_with b c.beyond) b.count c.new
  pub count : r.count ≡ (added (lent_with b c.beyond) b.count c.new).count

-- A boat has an edition: asking for it gives that very edition's sheet.
pub record HasEdition (b : Book) (boat edition : ℕ) (s : Sheet) : Type 0 where
  pub found : asked b.bytes b.count boat edition ≡ Ok s
  pub its_own : s.edition ≡ edition

-- The numbers and places of refusals: 20 at a record that was counted, all others at 0.
abbrev pub AskRefusal : ℕ → ℕ → ℕ → Type 0
AskRefusal count n p = ((n ≡ 20) × (p < count)) ⊎ ((n ≡ 19) × (p ≡ 0))

abbrev pub AddRefusal : ℕ → ℕ → ℕ → Type 0
AddRefusal count n p = ((n ≡ 20) × (p < count)) ⊎ (((n ≡ 22) ⊎ ((n ≡ 21) ⊎ (n ≡ 14))) × (p ≡ 0))
