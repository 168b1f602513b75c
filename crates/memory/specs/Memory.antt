-- The state of a check in parts, in 128 words of memory that the caller lends. The papers leave the content of these words to the
-- program; what holds of it is what it stands for, a state of `parts`, and every content stands for one. The words of the buffer come
-- first, then a word for each field of the state, each at its place (Places.antt); those behind them are room for fields to come.
-- Proved: reading gives back what was stored, by `stored_read` (proofs/MemoryLaws.antt).
use Rattle.std.specs.Prelude.{ℕ, ◌-◌, ◌%◌, ◌^◌, ◌<◌, Bool, not, cond, Option, None, Some, is_some, List, [], ◌∷◌, ◌++◌, map, eqb, get_or, set, replicate, length, ◌≡◌}
use Rattle.fields.specs.Bytes.{elements}
use Rattle.fields.specs.Word.{flag}
use Rattle.picture.specs.declared.Frame.{Frame}
use Rattle.picture.specs.declared.Picture.{Picture}
use Rattle.prediction.specs.declared.Position.{Position}
use Rattle.progress.specs.declared.Extents.{Extents}
use Rattle.progress.specs.declared.Previous.{Previous}
use Rattle.progress.specs.declared.Progress.{Progress}
use Rattle.progress.specs.declared.Stage.{Stage}
use Rattle.batch.specs.declared.Lengths.{Lengths}
use Rattle.answers.specs.declared.Fault.{Fault}
use Rattle.parts.specs.declared.State.{State}
use Rattle.memory.specs.Places as places
use Rattle.memory.specs.Places.{buffer_words}

-- A word, a number of so many bits in one, and a flag.
abbrev pub stored_word : List ℕ → ℕ → ℕ
stored_word m i = get_or m i 0

abbrev pub stored_number : ℕ → List ℕ → ℕ → ℕ
stored_number bits m i = stored_word m i % 2 ^ bits

abbrev pub stored_flag : List ℕ → ℕ → Bool
stored_flag m i = not (eqb (stored_word m i) 0)

-- The state that memory stands for.
abbrev pub stored_stage : List ℕ → Stage
stored_stage m =
    record {
      surfaced = stored_flag m places.surfaced;
      pictured = stored_flag m places.pictured;
      grouped = stored_flag m places.grouped;
      in_group = stored_flag m places.in_group;
      group_start = stored_flag m places.group_start;
      in_slice = stored_flag m places.in_slice;
      ended = stored_flag m places.ended;
    }

abbrev pub stored_frame : List ℕ → Frame
stored_frame m =
    record {
      width = stored_number 16 m places.width;
      height = stored_number 16 m places.height;
      surface = record { pitch = stored_number 32 m places.pitch; chroma_row = stored_number 16 m places.chroma_row };
    }

abbrev pub stored_picture : List ℕ → Picture
stored_picture m =
    record {
      coding = stored_number 8 m places.coding;
      forward = record { x = stored_number 8 m places.forward_x; y = stored_number 8 m places.forward_y };
      backward = record { x = stored_number 8 m places.backward_x; y = stored_number 8 m places.backward_y };
      grid = record { columns = stored_number 16 m places.columns; rows = stored_number 16 m places.rows };
      frame_pred_frame_dct = stored_flag m places.frame_pred_frame_dct;
    }

abbrev pub stored_position : List ℕ → Position
stored_position m = record { column = stored_number 16 m places.column; row = stored_number 16 m places.row }

abbrev pub stored_previous : List ℕ → Previous
stored_previous m =
    record {
      kind = stored_number 8 m places.kind;
      five = stored_number 32 m places.five;
      six = stored_number 32 m places.six;
      seven = stored_number 32 m places.seven;
      eight = stored_number 32 m places.eight;
    }

abbrev pub stored_extents : List ℕ → Extents
stored_extents m =
    record {
      source = record { first = stored_word m places.source_first; end = stored_word m places.source_end };
      reconstructed = record { first = stored_word m places.reconstructed_first; end = stored_word m places.reconstructed_end };
      forward = record { first = stored_word m places.forward_first; end = stored_word m places.forward_end };
      backward = record { first = stored_word m places.backward_first; end = stored_word m places.backward_end };
    }

abbrev pub stored_progress : List ℕ → Progress
stored_progress m =
    record {
      stage = stored_stage m;
      frame = stored_frame m;
      picture = stored_picture m;
      position = stored_position m;
      previous = stored_previous m;
      extents = stored_extents m;
    }

abbrev pub stored_lengths : List ℕ → Lengths
stored_lengths m = record { source = stored_word m places.source_length; reconstructed = stored_word m places.reconstructed_length; forward = stored_word m places.forward_length; backward = stored_word m places.backward_length }

unfoldable pub stored_buffer : List ℕ → List ℕ
stored_buffer m = map (λ w. w % 2 ^ 32) (elements m 0 places.buffer_words)

-- The number and place count only where the flag before them is set.
abbrev pub stored_halt : List ℕ → Option Fault
stored_halt m = cond (stored_flag m places.stopped) (Some (record { number = stored_number 8 m places.number; place = stored_word m places.place })) None

unfoldable pub state_in : List ℕ → State
state_in m =
    record {
      progress = stored_progress m;
      at = stored_number 32 m places.at;
      held = stored_word m places.held;
      fault = stored_halt m;
      lengths = stored_lengths m;
      buffer = stored_buffer m;
    }

-- The words of a state: each field's word with its place.
abbrev pub stage_fields : Stage → List (ℕ × ℕ)
stage_fields s =
    (places.surfaced, flag s.surfaced)
    ∷ (places.pictured, flag s.pictured)
    ∷ (places.grouped, flag s.grouped)
    ∷ (places.in_group, flag s.in_group)
    ∷ (places.group_start, flag s.group_start)
    ∷ (places.in_slice, flag s.in_slice)
    ∷ (places.ended, flag s.ended)
    ∷ []

abbrev pub frame_fields : Frame → List (ℕ × ℕ)
frame_fields f =
    (places.width, f.width)
    ∷ (places.height, f.height)
    ∷ (places.pitch, f.surface.pitch)
    ∷ (places.chroma_row, f.surface.chroma_row)
    ∷ []

abbrev pub picture_fields : Picture → List (ℕ × ℕ)
picture_fields p =
    (places.coding, p.coding)
    ∷ (places.forward_x, p.forward.x)
    ∷ (places.forward_y, p.forward.y)
    ∷ (places.backward_x, p.backward.x)
    ∷ (places.backward_y, p.backward.y)
    ∷ (places.columns, p.grid.columns)
    ∷ (places.rows, p.grid.rows)
    ∷ (places.frame_pred_frame_dct, flag p.frame_pred_frame_dct)
    ∷ []

abbrev pub position_fields : Position → List (ℕ × ℕ)
position_fields p = (places.column, p.column) ∷ (places.row, p.row) ∷ []

abbrev pub previous_fields : Previous → List (ℕ × ℕ)
previous_fields p =
    (places.kind, p.kind)
    ∷ (places.five, p.five)
    ∷ (places.six, p.six)
    ∷ (places.seven, p.seven)
    ∷ (places.eight, p.eight)
    ∷ []

abbrev pub extents_fields : Extents → List (ℕ × ℕ)
extents_fields e =
    (places.source_first, e.source.first)
    ∷ (places.source_end, e.source.end)
    ∷ (places.reconstructed_first, e.reconstructed.first)
    ∷ (places.reconstructed_end, e.reconstructed.end)
    ∷ (places.forward_first, e.forward.first)
    ∷ (places.forward_end, e.forward.end)
    ∷ (places.backward_first, e.backward.first)
    ∷ (places.backward_end, e.backward.end)
    ∷ []

abbrev pub progress_fields : Progress → List (ℕ × ℕ)
progress_fields p =
    stage_fields p.stage
    ++ frame_fields p.frame
    ++ picture_fields p.picture
    ++ position_fields p.position
    ++ previous_fields p.previous
    ++ extents_fields p.extents

abbrev pub halt_number : Option Fault → ℕ
halt_number None = 0
halt_number (Some f) = f.number

abbrev pub halt_place : Option Fault → ℕ
halt_place None = 0
halt_place (Some f) = f.place

abbrev pub own_fields : State → List (ℕ × ℕ)
own_fields s =
    (places.at, s.at)
    ∷ (places.held, s.held)
    ∷ (places.stopped, flag (is_some s.fault))
    ∷ (places.number, halt_number s.fault)
    ∷ (places.place, halt_place s.fault)
    ∷ []

abbrev pub lengths_fields : Lengths → List (ℕ × ℕ)
lengths_fields l =
    (places.source_length, l.source)
    ∷ (places.reconstructed_length, l.reconstructed)
    ∷ (places.forward_length, l.forward)
    ∷ (places.backward_length, l.backward)
    ∷ []

abbrev pub fields_of : State → List (ℕ × ℕ)
fields_of s = progress_fields s.progress ++ own_fields s ++ lengths_fields s.lengths

-- Words stored at their places.
abbrev pub placed : List (ℕ × ℕ) → List ℕ → List ℕ
placed [] m = m
placed ((place, word) ∷ rest) m = placed rest (set m place word)

-- The whole state: the words of its buffer, and behind them zeros with the fields stored at their places.
abbrev pub room : List ℕ
room = replicate (places.memory_words - places.buffer_words) 0

unfoldable pub state_words : State → List ℕ
state_words s = placed (fields_of s) (s.buffer ++ room)

-- Numbers of a state that fit their types: the words of it that are cut when they are read.
pub record Fitting (s : State) : Type 0 where
  pub width : s.progress.frame.width < 2 ^ 16
  pub height : s.progress.frame.height < 2 ^ 16
  pub pitch : s.progress.frame.surface.pitch < 2 ^ 32
  pub chroma_row : s.progress.frame.surface.chroma_row < 2 ^ 16
  pub coding : s.progress.picture.coding < 2 ^ 8
  pub forward_x : s.progress.picture.forward.x < 2 ^ 8
  pub forward_y : s.progress.picture.forward.y < 2 ^ 8
  pub backward_x : s.progress.picture.backward.x < 2 ^ 8
  pub backward_y : s.progress.picture.backward.y < 2 ^ 8
  pub columns : s.progress.picture.grid.columns < 2 ^ 16
  pub rows : s.progress.picture.grid.rows < 2 ^ 16
  pub column : s.progress.position.column < 2 ^ 16
  pub row : s.progress.position.row < 2 ^ 16
  pub kind : s.progress.previous.kind < 2 ^ 8
  pub five : s.progress.previous.five < 2 ^ 32
  pub six : s.progress.previous.six < 2 ^ 32
  pub seven : s.progress.previous.seven < 2 ^ 32
  pub eight : s.progress.previous.eight < 2 ^ 32
  pub at : s.at < 2 ^ 32
  pub number : halt_number s.fault < 2 ^ 8
  pub held_words : length s.buffer ≡ buffer_words
  pub buffer : (i : ℕ) → get_or s.buffer i 0 < 2 ^ 32
