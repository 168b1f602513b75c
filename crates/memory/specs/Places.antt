-- The words of lent memory: where each field of the state stands, and nothing else says so. The words of the buffer come first, the
-- fields behind them, each in the word behind the one before; a field to come takes the first word of the room behind the last.
-- Proved: no two places are the same, since reading gives back what was stored, by `stored_read` (proofs/MemoryLaws.antt).
use Rattle.std.specs.Prelude.{ℕ, ◌+◌}

-- How many words there are, and how many of them are the buffer's.
abbrev pub memory_words : ℕ
memory_words = 128

abbrev pub buffer_words : ℕ
buffer_words = 61

-- The stage.
abbrev pub surfaced : ℕ
surfaced = buffer_words

abbrev pub pictured : ℕ
pictured = surfaced + 1

abbrev pub grouped : ℕ
grouped = pictured + 1

abbrev pub in_group : ℕ
in_group = grouped + 1

abbrev pub group_start : ℕ
group_start = in_group + 1

abbrev pub in_slice : ℕ
in_slice = group_start + 1

abbrev pub ended : ℕ
ended = in_slice + 1

-- The frame.
abbrev pub width : ℕ
width = ended + 1

abbrev pub height : ℕ
height = width + 1

abbrev pub pitch : ℕ
pitch = height + 1

abbrev pub chroma_row : ℕ
chroma_row = pitch + 1

-- The picture.
abbrev pub coding : ℕ
coding = chroma_row + 1

abbrev pub forward_x : ℕ
forward_x = coding + 1

abbrev pub forward_y : ℕ
forward_y = forward_x + 1

abbrev pub backward_x : ℕ
backward_x = forward_y + 1

abbrev pub backward_y : ℕ
backward_y = backward_x + 1

abbrev pub columns : ℕ
columns = backward_y + 1

abbrev pub rows : ℕ
rows = columns + 1

-- The position.
abbrev pub column : ℕ
column = rows + 1

abbrev pub row : ℕ
row = column + 1

-- The previous macroblock.
abbrev pub kind : ℕ
kind = row + 1

abbrev pub five : ℕ
five = kind + 1

abbrev pub six : ℕ
six = five + 1

abbrev pub seven : ℕ
seven = six + 1

abbrev pub eight : ℕ
eight = seven + 1

-- What is touched: the ends.
abbrev pub source_end : ℕ
source_end = eight + 1

abbrev pub reconstructed_end : ℕ
reconstructed_end = source_end + 1

abbrev pub forward_end : ℕ
forward_end = reconstructed_end + 1

abbrev pub backward_end : ℕ
backward_end = forward_end + 1

-- The state's own.
abbrev pub at : ℕ
at = backward_end + 1

abbrev pub held : ℕ
held = at + 1

abbrev pub stopped : ℕ
stopped = held + 1

abbrev pub number : ℕ
number = stopped + 1

abbrev pub place : ℕ
place = number + 1

-- The lengths.
abbrev pub source_length : ℕ
source_length = place + 1

abbrev pub reconstructed_length : ℕ
reconstructed_length = source_length + 1

abbrev pub forward_length : ℕ
forward_length = reconstructed_length + 1

abbrev pub backward_length : ℕ
backward_length = forward_length + 1

-- What is touched: the first bytes.
abbrev pub source_first : ℕ
source_first = backward_length + 1

abbrev pub reconstructed_first : ℕ
reconstructed_first = source_first + 1

abbrev pub forward_first : ℕ
forward_first = reconstructed_first + 1

abbrev pub backward_first : ℕ
backward_first = forward_first + 1

-- The picture's bit 10.
abbrev pub frame_pred_frame_dct : ℕ
frame_pred_frame_dct = backward_first + 1
