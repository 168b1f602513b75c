-- The log record's layout: where each part stands, and nothing else says so. Document 01: "Logs are 24-byte records, no header,
-- little-endian".
-- To be believed: document 01's bytes.
use Rattle.std.specs.Prelude.{ℕ}
use Rattle.fields.specs.Parts.{Part, part}

-- How many bytes a record has.
abbrev pub record_length : ℕ
record_length = 24

-- "0 column, 2 row, 4 upper half of word 1 (each two bytes)"
abbrev pub column_part : Part
column_part = part 0 2

abbrev pub row_part : Part
row_part = part 2 2

abbrev pub upper_part : Part
upper_part = part 4 2

-- "6 kind (0 intra, 1 forward, 2 backward, 3 both); 7 skip; 8 pattern; 9 maximum, 10 target size; 11 quantiser"
abbrev pub kind_part : Part
kind_part = part 6 1

abbrev pub skip_part : Part
skip_part = part 7 1

abbrev pub pattern_part : Part
pattern_part = part 8 1

abbrev pub max_size_part : Part
max_size_part = part 9 1

abbrev pub target_size_part : Part
target_size_part = part 10 1

abbrev pub quantiser_part : Part
quantiser_part = part 11 1

-- "12 flags .. 13 to 15 zero"
abbrev pub flags_part : Part
flags_part = part 12 1

abbrev pub filler_part : Part
filler_part = part 13 3

-- "16 forward x, 18 forward y, 20 backward x, 22 backward y, zero when absent": each vector as its word, whose low half is x.
abbrev pub forward_part : Part
forward_part = part 16 4

abbrev pub backward_part : Part
backward_part = part 20 4
