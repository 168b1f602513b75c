-- What commands of a row touch of one reference, from their words alone: it is what the progress after them says, but asks for no
-- progress between them.
-- Proved: against the progress after each command, by `go_on` (proofs/Going.antt).
use Rattle.std.specs.Prelude.{ℕ, zero, suc, ◌+◌, ◌*◌, ◌≤◌, ◌<◌, min, Bool, true, false, cond, ◌&&◌, ◌||◌, List, [], ◌∷◌, ◌≡◌, eqb, take, drop}
use Rattle.fields.specs.Word.{with_bits}
use Rattle.headers.specs.Words.{word_at}
use Rattle.macroblock.specs.declared.Allowed.{Allowed}
use Rattle.prediction.specs.Extents.{joined}
use Rattle.prediction.specs.Lines.{line_in, vector_in_lines, reach_of, floor_of}
use Rattle.prediction.specs.declared.Extent.{Extent}
use Rattle.prediction.specs.declared.Grid.{Grid}
use Rattle.prediction.specs.declared.Line.{Line}
use Rattle.prediction.specs.declared.Position.{Position}
use Rattle.prediction.specs.declared.Structure.{Structure}
use Rattle.prediction.specs.declared.Structure.TheVariants as structure
use Rattle.prediction.specs.declared.Surface.{Surface}
use Rattle.picture.specs.declared.Codes.{Codes}
use Rattle.progress.specs.declared.Progress.{Progress}
use Rattle.placement.specs.Placing.{allowed_in}
use Rattle.rows.specs.Steps.{top_in, bottom_in}
use Rattle.rows.specs.Words.{type_bits}

-- The k-th command of words.
abbrev pub command_at : List ℕ → ℕ → List ℕ
command_at ws k = take 9 (drop (9 * k) ws)

-- Whether a command with this word 1 is predicted from a reference's frame: its type is that of the one reference alone, or 3, both.
abbrev pub uses_vector : Bool → ℕ → ℕ → Bool
uses_vector free alone one = eqb (with_bits (type_bits free one) 2 2 0) alone || eqb (with_bits (type_bits free one) 2 2 0) 0x300

-- Whether it is predicted from fields.
abbrev pub uses_fields : Allowed → ℕ → Bool
uses_fields a one = a.field && eqb (type_bits a.dct_type one) 0x4401

-- Its vectors' words in a reference, each with the structure that it points into: one in the frame, at `word`, or those of both fields.
abbrev pub points_in : ℕ → ℕ → Allowed → List ℕ → List (Structure × ℕ)
points_in alone word a c =
    cond (uses_vector a.dct_type alone (word_at c 1))
    ((structure.Frame, word_at c word) ∷ [])
    (cond (uses_fields a (word_at c 1)) ((top_in c, word_at c 5) ∷ (bottom_in c, word_at c 7) ∷ []) [])

-- What such vectors touch from a position, joined to what was touched before, and the lowest of a first byte and of theirs.
abbrev pub reached : Surface → Position → List (Structure × ℕ) → Extent → Extent
reached s at [] e = e
reached s at (v ∷ vs) e = reached s at vs (joined e (reach_of v.0 s at v.1))

abbrev pub lowered : Surface → Position → List (Structure × ℕ) → ℕ → ℕ
lowered s at [] first = first
lowered s at (v ∷ vs) first = lowered s at vs (min first (reach_of v.0 s at v.1).first)

-- Each keeps its lines; the rows' line is that of its structure.
abbrev pub AllFit : Line → (Structure → Line) → Position → List (Structure × ℕ) → Type 0
AllFit x y at [] = Unit {0}
AllFit x y at (v ∷ vs) = (vector_in_lines v.0 x (y v.0) at.column at.row v.1 ≡ true) × AllFit x y at vs

-- And so each touches some byte.
abbrev pub AllTouch : Surface → Position → List (Structure × ℕ) → Type 0
AllTouch s at [] = Unit {0}
AllTouch s at (v ∷ vs) = (0 < (reach_of v.0 s at v.1).end) × AllTouch s at vs

-- A byte is no higher than the floor of each vector's structure, from a column on.
abbrev pub AllLow : Surface → ℕ → Line → (Structure → Line) → Position → List (Structure × ℕ) → ℕ → Type 0
AllLow s column x y at [] first = Unit {0}
AllLow s column x y at (v ∷ vs) first = (first ≤ floor_of v.0 s column x.low at.row (y v.0).low) × AllLow s column x y at vs first

-- The lines of a picture's columns, and of its rows by their structure, under the f codes of one reference.
abbrev pub across_of : Grid → Codes → Line
across_of g c = line_in structure.Frame g.columns c.x

abbrev pub down_of : Grid → Codes → Structure → Line
down_of g c k = line_in k g.rows c.y

-- The commands of a row that begins at a position, by their vectors in one reference.
module _ (points : List ℕ → List (Structure × ℕ)) (s : Surface) (at : Position) (ws : List ℕ) where
  abbrev pub place_along : ℕ → Position
  place_along k = record { column = at.column + k; row = at.row }

  -- What is touched of it after the first k commands.
  abbrev pub touched_after : ℕ → Extent → Extent
  touched_after zero e = e
  touched_after (suc k) e = reached s (place_along k) (points (command_at ws k)) (touched_after k e)

  -- Each vector of the first n keeps the lines of its reference.
  abbrev pub VectorsFit : Line → (Structure → Line) → ℕ → Type 0
  VectorsFit x y n = (k : ℕ) → k < n → AllFit x y (place_along k) (points (command_at ws k))

-- The first byte, for a minimum: where nothing is touched, the highest number of 64 bits.
abbrev pub lowest_of : Extent → ℕ
lowest_of e = cond (eqb e.end 0) 18446744073709551615 e.first

-- If `before` is the first byte, for a minimum, of what was touched before the first k commands, `after` is that of what is touched after them.
abbrev pub Lowered : (List ℕ → List (Structure × ℕ)) → Surface → Position → List ℕ → ℕ → ℕ → ℕ → Type 0
Lowered points s at ws k before after = (e : Extent) → before ≡ lowest_of e → after ≡ lowest_of (touched_after points s at ws k e)

-- The two references of a progress: type and word of their vectors. Fields are predicted from the forward one alone.
abbrev pub forward_points : Progress → List ℕ → List (Structure × ℕ)
forward_points p = points_in 0x100 5 (allowed_in p.picture)

abbrev pub frames_only : Allowed → Allowed
frames_only a = record { dct_type = a.dct_type; field = false }

abbrev pub backward_points : Progress → List ℕ → List (Structure × ℕ)
backward_points p = points_in 0x200 6 (frames_only (allowed_in p.picture))

abbrev pub forward_after : Progress → List ℕ → ℕ → Extent
forward_after p ws k = touched_after (forward_points p) p.frame.surface p.position ws k p.extents.forward

abbrev pub backward_after : Progress → List ℕ → ℕ → Extent
backward_after p ws k = touched_after (backward_points p) p.frame.surface p.position ws k p.extents.backward

-- What is known of the first k commands of a row when they have been taken: the ends of what they touch, and that their vectors fit.
pub record Seen (p : Progress) (ws : List ℕ) (k forward backward : ℕ) : Type 0 where
  pub forward_end : forward ≡ (forward_after p ws k).end
  pub backward_end : backward ≡ (backward_after p ws k).end
  pub forward_fit : VectorsFit (forward_points p) p.frame.surface p.position ws (across_of p.picture.grid p.picture.forward) (down_of p.picture.grid p.picture.forward) k
  pub backward_fit : VectorsFit (backward_points p) p.frame.surface p.position ws (across_of p.picture.grid p.picture.backward) (down_of p.picture.grid p.picture.backward) k
