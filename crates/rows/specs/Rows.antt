-- Runs of MACROBLOCK commands.
-- Proved: against the walk, by `turn_row` (crates/batch_code/proofs/RowTurn.antt).
use Rattle.std.specs.Prelude.{ℕ, ◌-◌, ◌/◌, ◌≤◌, ◌<◌, true, ◌≡◌, length, take, drop}
use mathlib.Core.List.{List, [], ◌∷◌, flatten}
use Rattle.answers.specs.Answers.{judged, Accepted}
use Rattle.headers.specs.Headers.{macroblock_header}
use Rattle.headers.specs.Words.{word_at}
use Rattle.progress.specs.declared.Progress.{Progress}
use Rattle.placement.specs.Placing.{macroblock_rules}
use Rattle.macroblock.specs.Macroblocks.{kind_in, flags_in}
use Rattle.prediction.specs.Extents.{joined}
use Rattle.prediction.specs.declared.Extent.{Extent}
use Rattle.progress.specs.declared.Extents.{Extents}
use Rattle.progress.specs.declared.Previous.{Previous}
use Rattle.placement.specs.Progressing.{position_after, stage_after, previous_of, macroblock_next}
use Rattle.rows.specs.Steps.{place_in, reach_in}
use Rattle.rows.specs.Touching.{forward_after, backward_after}
use Rattle.progress.specs.declared.Taken.{Taken}

-- From progress `p` to progress `q` by whole MACROBLOCK commands, one behind the other, each of which keeps its rules where it comes.
abbrev pub Follow : Progress → List (List ℕ) → Progress → Type 0
Follow p [] q = p ≡ q
Follow p (c ∷ cs) q = (length c ≡ 9) × (word_at c 0 ≡ macroblock_header) × (judged (macroblock_rules p c) ≡ Accepted) × Follow (macroblock_next p c) cs q

-- The first words are such commands, and they take the batch so far. How many are taken at once is left to the code.
pub record TakenFrom (p : Progress) (ws : List ℕ) (r : Taken) : Type 0 where
  pub within : r.used ≤ length ws
  pub commands : List (List ℕ)
  pub taken : flatten commands ≡ take r.used ws
  pub follow : Follow p commands r.progress

-- The progress after commands of a row from `p` on, of which the last, at this column, has words `c`: only what is touched of the
-- references is made up of all of them.
abbrev pub previous_in : List ℕ → Previous
previous_in c = previous_of (kind_in (word_at c 1)) c

-- The own samples of all macroblocks from the progress's column to this one: from the first byte of the first to the end of the last.
abbrev pub own_in : Progress → ℕ → Extent
own_in p column = record { first = (reach_in p p.position.column 0).first; end = (reach_in p column 0).end }

abbrev pub extents_next : Progress → ℕ → Extent → Extent → Extents
extents_next p column f b =
    record {
      source = joined p.extents.source (own_in p column);
      reconstructed = joined p.extents.reconstructed (own_in p column);
      forward = f;
      backward = b;
    }

unfoldable pub after_row : Progress → ℕ → Extent → Extent → List ℕ → Progress
after_row p column f b c =
    record {
      stage = stage_after p.stage (flags_in (word_at c 4));
      frame = p.frame;
      picture = p.picture;
      position = position_after p.picture.grid (place_in p column);
      previous = previous_in c;
      extents = extents_next p column f b;
    }

-- What the commands before word `at` come to, of which the last stands before this column: nothing where there is none.
pub record AfterRow (p : Progress) (column at : ℕ) (ws : List ℕ) (r : Taken) : Type 0 where
  pub used_is : r.used ≡ at
  pub none : at ≡ 0 → r.progress ≡ p
  pub some : 1 ≤ at → r.progress ≡ after_row p (column - 1) (forward_after p ws (at / 9)) (backward_after p ws (at / 9)) (take (at - (at - 9)) (drop (at - 9) ws))

-- A row that is open: a group is, and a macroblock may come; and the surface is wide enough for a strip.
pub record OpenRow (p : Progress) : Type 0 where
  pub open_group : p.stage.in_group ≡ true
  pub in_rows : p.position.row < p.picture.grid.rows
  pub in_columns : p.position.column < p.picture.grid.columns
  pub wide : 16 ≤ p.frame.surface.pitch
