-- The mount sheet's record: where each part stands, and nothing else says so. Document 02 (R-9): "records of 16 bytes, no header: boat (4), edition
-- (4), side (1: 0 starboard, 1 port), seven zero bytes". R-4: "little-endian as all records to come".
-- To be believed: document 02's bytes.
use Rattle.std.specs.Prelude.{ℕ}
use Rattle.fields.specs.Parts.{Part, part}

-- How many bytes a record has.
abbrev pub sheet_length : ℕ
sheet_length = 16

abbrev pub boat_part : Part
boat_part = part 0 4

abbrev pub edition_part : Part
edition_part = part 4 4

abbrev pub side_part : Part
side_part = part 8 1

abbrev pub sheet_filler_part : Part
sheet_filler_part = part 9 7

-- The two sides.
abbrev pub starboard : ℕ
starboard = 0

abbrev pub port : ℕ
port = 1
