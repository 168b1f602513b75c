-- What the tests of one MACROBLOCK command find, before its rules are asked; its rules follow from it (proofs/Keeping.antt, proofs/Taking.antt).
-- Proved: against the rules, by `found_comes` (proofs/Taking.antt).
use Rattle.std.specs.Prelude.{ℕ, ◌+◌, ◌*◌, max, Bool, true, ◌||◌, List, ◌⊎◌, ◌≡◌, eqb, Option, IfSome}
use Rattle.fields.specs.Word.{bits, is_set, with_bits}
use Rattle.prediction.specs.Lines.{line_in, vector_in_lines, reach_of}
use Rattle.prediction.specs.declared.Extent.{Extent}
use Rattle.prediction.specs.declared.Line.{Line}
use Rattle.prediction.specs.declared.Position.{Position}
use Rattle.prediction.specs.declared.Structure.{Structure}
use Rattle.prediction.specs.declared.Structure.TheVariants as structure
use Rattle.headers.specs.Headers.{macroblock_header}
use Rattle.headers.specs.Words.{word_at}
use Rattle.picture.specs.declared.Picture.{Picture}
use Rattle.progress.specs.declared.Progress.{Progress}
use Rattle.placement.specs.Blocks.{field_of}
use Rattle.placement.specs.Placing.{allowed_in}
use Rattle.rows.specs.Words.{type_bits, without_choices, FlagsKept, IntraKept, InterKept, FieldKept}
use Rattle.rows.specs.declared.Lines.{Lines}
use Rattle.rows.specs.declared.Ends.{Ends}

-- The lines of a picture's columns and rows under its f codes.
unfoldable pub lines_of : Picture → Lines
lines_of p =
    record {
      forward_x = line_in structure.Frame p.grid.columns p.forward.x;
      forward_y = line_in structure.Frame p.grid.rows p.forward.y;
      field_y = line_in structure.TopField p.grid.rows p.forward.y;
      backward_x = line_in structure.Frame p.grid.columns p.backward.x;
      backward_y = line_in structure.Frame p.grid.rows p.backward.y;
      allowed = allowed_in p;
    }

-- A P or B picture.
abbrev pub is_predicted : ℕ → Bool
is_predicted coding = eqb coding 2 || eqb coding 3

-- The type of a macroblock where bit 15 is free or not, and of one that may be skipped.
abbrev pub typed_as : Progress → List ℕ → ℕ
typed_as p ws = type_bits (allowed_in p.picture).dct_type (word_at ws 1)

abbrev pub type_in : Progress → List ℕ → ℕ
type_in p ws = with_bits (typed_as p ws) 2 2 0

-- Word 2: "row in 31:16, column in 15:0".
abbrev pub AtWord : ℕ → ℕ → ℕ → Type 0
AtWord two column row = (bits two 15 0 ≡ column) × (bits two 31 16 ≡ row)

-- A column of the progress's row, and what a word's vector touches from there.
abbrev pub place_in : Progress → ℕ → Position
place_in p column = record { column = column; row = p.position.row }

abbrev pub reach_as : Structure → Progress → ℕ → ℕ → Extent
reach_as k p column w = reach_of k p.frame.surface (place_in p column) w

abbrev pub reach_in : Progress → ℕ → ℕ → Extent
reach_in p column w = reach_as structure.Frame p column w

-- The field that a block of a field prediction chooses, the first's by bit 16 of word 4, the second's by bit 18, and the word of its vector: words 5 and 7.
abbrev pub chosen_in : List ℕ → ℕ → Structure
chosen_in ws block = field_of (is_set (bits (word_at ws 4) (16 + 2 * block) (16 + 2 * block)))

abbrev pub top_in : List ℕ → Structure
top_in ws = chosen_in ws 0

abbrev pub bottom_in : List ℕ → Structure
bottom_in ws = chosen_in ws 1

abbrev pub vector_word : List ℕ → ℕ → ℕ
vector_word ws block = word_at ws (5 + 2 * block)

-- A word's vector keeps its lines.
abbrev pub ForwardFits : Progress → ℕ → ℕ → Type 0
ForwardFits p column w =
    vector_in_lines structure.Frame (lines_of p.picture).forward_x (lines_of p.picture).forward_y column p.position.row w ≡ true

abbrev pub FieldFits : Structure → Progress → ℕ → ℕ → Type 0
FieldFits k p column w =
    vector_in_lines k (lines_of p.picture).forward_x (lines_of p.picture).field_y column p.position.row w ≡ true

abbrev pub BackwardFits : Progress → ℕ → ℕ → Type 0
BackwardFits p column w =
    vector_in_lines structure.Frame (lines_of p.picture).backward_x (lines_of p.picture).backward_y column p.position.row w ≡ true

-- What a vector in the frame of the reference with lines x and y finds: it keeps them, and what it touches is joined to an end.
pub record VectorFound (p : Progress) (column : ℕ) (x y : Line) (w end r : ℕ) : Type 0 where
  pub fits : vector_in_lines structure.Frame x y column p.position.row w ≡ true
  pub end_is : r ≡ max end (reach_in p column w).end

module _ (p : Progress) (column : ℕ) (ws : List ℕ) where
  -- A block of a field prediction, and both, the first before the second.
  pub record BlockFound (block end r : ℕ) : Type 0 where
    pub fits : FieldFits (chosen_in ws block) p column (vector_word ws block)
    pub end_is : r ≡ max end (reach_as (chosen_in ws block) p column (vector_word ws block)).end

  pub record BlocksFound (f r : ℕ) : Type 0 where
    pub between : ℕ
    pub first : BlockFound 0 f between
    pub second : BlockFound 1 between r

-- Each kind: its type, the picture's, its vectors, and the ends of what is touched of both references after it.
module _ (p : Progress) (column forward backward : ℕ) (ws : List ℕ) where
  pub record ForwardFound (f b : ℕ) : Type 0 where
    pub type : type_in p ws ≡ 0x100
    pub coding : is_predicted p.picture.coding ≡ true
    pub same : word_at ws 5 ≡ word_at ws 6
    pub fits : ForwardFits p column (word_at ws 5)
    pub forward_is : f ≡ max forward (reach_in p column (word_at ws 5)).end
    pub backward_is : b ≡ backward

  pub record BackwardFound (f b : ℕ) : Type 0 where
    pub type : type_in p ws ≡ 0x200
    pub coding : p.picture.coding ≡ 3
    pub same : word_at ws 5 ≡ word_at ws 6
    pub fits : BackwardFits p column (word_at ws 6)
    pub forward_is : f ≡ forward
    pub backward_is : b ≡ max backward (reach_in p column (word_at ws 6)).end

  pub record BothFound (f b : ℕ) : Type 0 where
    pub type : type_in p ws ≡ 0x300
    pub coding : p.picture.coding ≡ 3
    pub forward_fits : ForwardFits p column (word_at ws 5)
    pub backward_fits : BackwardFits p column (word_at ws 6)
    pub forward_is : f ≡ max forward (reach_in p column (word_at ws 5)).end
    pub backward_is : b ≡ max backward (reach_in p column (word_at ws 6)).end

  pub record IntraFound (f b : ℕ) : Type 0 where
    pub type : typed_as p ws ≡ 0x3a00
    pub kept : IntraKept p.picture.coding ws
    pub forward_is : f ≡ forward
    pub backward_is : b ≡ backward

  -- Field prediction: both blocks in the forward reference, and word 4 but for its choices.
  pub record FieldFound (due : ℕ) (f b : ℕ) : Type 0 where
    pub type : typed_as p ws ≡ 0x4401
    pub permitted : (allowed_in p.picture).field ≡ true
    pub flags : FlagsKept (without_choices (word_at ws 4)) due (eqb (column + 1) p.picture.grid.columns)
    pub kept : FieldKept ws
    pub blocks : BlocksFound p column ws forward f
    pub backward_is : b ≡ backward

  abbrev pub ByForward : Option Ends → Type 0
  ByForward r = IfSome r (λ e. type_in p ws ≡ 0x100 → ForwardFound e.forward e.backward)

  abbrev pub ByBackward : Option Ends → Type 0
  ByBackward r = IfSome r (λ e. type_in p ws ≡ 0x200 → BackwardFound e.forward e.backward)

  abbrev pub ByBoth : Option Ends → Type 0
  ByBoth r = IfSome r (λ e. type_in p ws ≡ 0x300 → BothFound e.forward e.backward)

  abbrev pub ByField : ℕ → Option Ends → Type 0
  ByField due r = IfSome r (λ e. typed_as p ws ≡ 0x4401 → FieldFound due e.forward e.backward)

  abbrev pub FrameFound : ℕ → ℕ → Type 0
  FrameFound f b = ForwardFound f b ⊎ (BackwardFound f b ⊎ BothFound f b)

  abbrev pub ByFrame : List ℕ → Option Ends → Type 0
  ByFrame before r = IfSome r (λ e. InterKept p.picture.coding before ws × FrameFound e.forward e.backward)

  -- Word 4 of all but field predictions.
  abbrev pub Flagged : ℕ → Type 0
  Flagged due = FlagsKept (word_at ws 4) due (eqb (column + 1) p.picture.grid.columns)

  abbrev pub Coded : ℕ → List ℕ → ℕ → ℕ → Type 0
  Coded due before f b = FieldFound due f b ⊎ (Flagged due × (IntraFound f b ⊎ (InterKept p.picture.coding before ws × FrameFound f b)))

  abbrev pub ByCoded : ℕ → List ℕ → Option Ends → Type 0
  ByCoded due before r = IfSome r (λ e. Coded due before e.forward e.backward)

  pub record Found (due : ℕ) (before : List ℕ) (f b : ℕ) : Type 0 where
    pub header : word_at ws 0 ≡ macroblock_header
    pub position : AtWord (word_at ws 2) column p.position.row
    pub coded : Coded due before f b

  abbrev pub StepFrom : ℕ → List ℕ → Option Ends → Type 0
  StepFrom due before r = IfSome r (λ e. Found due before e.forward e.backward)
