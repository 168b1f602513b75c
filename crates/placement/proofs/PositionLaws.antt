-- Positions count macroblocks: the k-th, from 0, is at column k mod W, row k div W.
use mathlib.Core.Bool.{Bool, true, false, cond}
use mathlib.Core.List.{List}
use mathlib.Core.Logic.{◌⊎◌, inl, inr}
use mathlib.Core.Path.{◌≡◌, refl}
use Prim.Native.Nat.{ℕ, ◌+◌, ◌*◌, ◌/◌, ◌%◌, ◌≤◌, ◌<◌}
use native.Mathlib.Nat.{add-mul}
use native.Mathlib.Omega.{arith}
use borrow.Author.Tests.{lt-ltb, ltb-true, ltb-false, eqb-true}
use lib.Arith.{digits_div, digits_mod}
use lib.Dec.{eqb, ltb}
use Rattle.lists.proofs.Booleans.{and_left, and_right}
use Rattle.answers.specs.Answers.{judged, Accepted}
use Rattle.answers.proofs.Judging.{rule_kept}
use Rattle.prediction.specs.declared.Grid.{Grid}
use Rattle.prediction.specs.declared.Position.{Position}
use Rattle.macroblock.specs.Macroblocks.{macroblock_of}
use Rattle.progress.specs.declared.Progress.{Progress}
use Rattle.placement.specs.Placing.{placed_rules, macroblock_rules}
use Rattle.placement.specs.Progressing.{position_after, count_before, stage_after, progress_after, macroblock_next, Reached}

-- The next position is in its row, and one more macroblock comes before it.
pub next_position : (g : Grid) (at : Position) → at.row < g.rows → at.column < g.columns
    → ((position_after g at).column < g.columns) × (count_before g.columns (position_after g at) ≡ count_before g.columns at + 1)
unfolding position_after
next_position g at l h = rw (lt-ltb at.row g.rows l) (by (ltb (at.column + 1) g.columns) refl)
  where
    after : Bool → Position
    after b = cond b (record { column = at.column + 1; row = at.row }) (record { column = 0; row = at.row + 1 })

    by : (b : Bool) → ltb (at.column + 1) g.columns ≡ b → ((after b).column < g.columns) × (count_before g.columns (after b) ≡ count_before g.columns at + 1)
    by true e = (ltb-true (at.column + 1) g.columns e, omega arith)
    by false e =
        let l = ltb-false (at.column + 1) g.columns e in
        let one : at.column + 1 ≡ g.columns = omega arith in
        let row : (at.row + 1) * g.columns ≡ at.row * g.columns + 1 * g.columns = add-mul at.row 1 g.columns in
        (omega arith, omega (arith, row, one))

pub next_reached : (g : Grid) (at : Position) → at.row < g.rows → Reached g (position_after g at)
unfolding position_after
next_reached g at h = rw (lt-ltb at.row g.rows h) (by (ltb (at.column + 1) g.columns) (split (at.row + 1) g.rows))
  where
    split : (a b : ℕ) → (a < b) ⊎ (b ≤ a)
    split a b = either (ltb a b) refl
      where
        either : (t : Bool) → ltb a b ≡ t → (a < b) ⊎ (b ≤ a)
        either true e = inl (ltb-true a b e)
        either false e = inr (ltb-false a b e)

    by : (b : Bool) → (at.row + 1 < g.rows) ⊎ (g.rows ≤ at.row + 1) → Reached g (cond b (record { column = at.column + 1; row = at.row }) (record { column = 0; row = at.row + 1 }))
    by true s = inl h
    by false (inl l) = inl l
    by false (inr l) = inr (omega arith, refl)

-- A position in its row is that of the macroblock which comes after so many.
pub position_of : (w : ℕ) (at : Position) → at.column < w → (count_before w at % w ≡ at.column) × (count_before w at / w ≡ at.row)
position_of w at h = (digits_mod at.row h, digits_div at.row h)

-- A macroblock that is accepted stands in an open group and says its own position.
pub in_group : (p : Progress) (ws : List ℕ) → judged (macroblock_rules p ws) ≡ Accepted → p.stage.in_group ≡ true
unfolding macroblock_rules placed_rules
in_group p ws e = and_left p.stage.in_group (ltb p.position.row p.picture.grid.rows) (rule_kept 3 0 (macroblock_rules p ws) e)

pub own_position : (p : Progress) (ws : List ℕ) → judged (macroblock_rules p ws) ≡ Accepted
    → ((macroblock_of ws).column ≡ p.position.column) × ((macroblock_of ws).row ≡ p.position.row)
unfolding macroblock_rules placed_rules
own_position p ws e =
    let m = macroblock_of ws in
    let a = p.position in
    let h = rule_kept 6 2 (macroblock_rules p ws) e in
    let c = eqb m.column a.column in
    let r = eqb m.row a.row in
    (eqb-true m.column a.column (and_left c r h), eqb-true m.row a.row (and_right c r h))

-- What a macroblock leaves as it was, and the position after it.
pub record Advances (p q : Progress) : Type 0 where
  pub frame_stays : q.frame ≡ p.frame
  pub picture_stays : q.picture ≡ p.picture
  pub surfaced_stays : q.stage.surfaced ≡ p.stage.surfaced
  pub pictured_stays : q.stage.pictured ≡ p.stage.pictured
  pub ended_stays : q.stage.ended ≡ p.stage.ended
  pub moved : q.position ≡ position_after p.picture.grid p.position

pub advances : (p : Progress) (ws : List ℕ) → Advances p (macroblock_next p ws)
unfolding macroblock_next progress_after stage_after
advances p ws =
    record {
      frame_stays = refl;
      picture_stays = refl;
      surfaced_stays = refl;
      pictured_stays = refl;
      ended_stays = refl;
      moved = refl;
    }
