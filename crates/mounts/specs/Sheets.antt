-- The sheets that lent bytes hold, one record behind the other.
-- To be believed: the record of a sheet, and which sheets bytes hold. Reading a record is proved against writing it, by `sheet_back` and
-- `record_again` (proofs/SheetLaws.antt).
use Rattle.std.specs.Prelude.{ℕ, zero, suc, ◌/◌, cond, List, [], ◌∷◌, ◌++◌, ltb, length}
use Rattle.fields.specs.Parts.{entry, laid, value_at, record_at}
use Rattle.mounts.specs.Layout.{sheet_length, boat_part, edition_part, side_part}
use Rattle.mounts.specs.declared.Sheet.{Sheet}

-- A sheet by its three numbers.
abbrev pub sheet : ℕ → ℕ → ℕ → Sheet
sheet boat edition side = record { boat = boat; edition = edition; side = side }

-- The record of a sheet.
unfoldable pub sheet_record : Sheet → List ℕ
sheet_record s = laid sheet_length (entry boat_part s.boat ∷ entry edition_part s.edition ∷ entry side_part s.side ∷ [])

-- The sheet of a record.
abbrev pub sheet_in : List ℕ → Sheet
sheet_in r = sheet (value_at boat_part r) (value_at edition_part r) (value_at side_part r)

-- The sheet of bytes that may be no whole record: then all its numbers are 0.
abbrev pub sheet_of : List ℕ → Sheet
sheet_of bytes = cond (ltb (length bytes) sheet_length) (sheet 0 0 0) (sheet_in bytes)

-- Record k of some bytes, from 0, and its sheet.
abbrev pub stored : List ℕ → ℕ → List ℕ
stored bytes k = record_at sheet_length bytes k

abbrev pub sheet_at : List ℕ → ℕ → Sheet
sheet_at bytes k = sheet_in (stored bytes k)

-- The sheets of the first records, in their order.
abbrev pub sheets_in : ℕ → List ℕ → List Sheet
sheets_in zero bytes = []
sheets_in (suc k) bytes = sheets_in k bytes ++ sheet_at bytes k ∷ []

-- How many records bytes can hold.
abbrev pub capacity : List ℕ → ℕ
capacity bytes = length bytes / sheet_length
