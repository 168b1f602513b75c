-- `take_row`: the commands of a row that is open.
use mathlib.Core.Bool.{Bool, false}
use mathlib.Core.List.{List}
use mathlib.Core.Logic.{inl}
use mathlib.Core.Path.{refl, sym, ap, subst, ◌∙◌, ◌≡◌}
use Prim.Native.Nat.{ℕ, ◌+◌, ◌-◌, ◌/◌, ◌≤◌, ◌<◌}
use native.Mathlib.Omega.{arith}
use lib.ListN.{length, take, drop}
use Rattle.progress.specs.declared.Progress.{Progress}
use Rattle.rows.specs.declared.Ends.{Ends}
use Rattle.rows.specs.Steps.{Found}
use Rattle.rows.specs.Touching.{Seen}
use Rattle.rows.specs.Words.{due_bits}
use Rattle.rows.proofs.Going.{Going, fresh_row, row_behind, row_on, taken_from}
use Rattle.rows_code.proofs.row.take_row.Goals as goal
use Rattle.rows_code.proofs.row.take_row.Goals.{Left-loop-column, else-loop-column-test, then-loop-column-test+in_default, then-loop-column-test+in-Some+then-bits-ne0}

pub loop-column-init : goal.loop-column-init
unfolding fresh_row
loop-column-init c = record { room = omega arith; going = fresh_row c.args.progress c.args.words.now; due_next = inl (refl, refl, c.due_bits-due.ensures) }

pub loop-column-preserved : goal.loop-column-preserved
loop-column-preserved c =
    let a = c.args in
    let l = c.loop-column in
    let ws = a.words.now in
    let room : l.used + 9 ≤ length ws = omega (arith, l.invariant.going.at_is, l.invariant.going.column_is, c.limit_of-limit.ensures, c.loop-column-test.true) in
    let inside : l.column < a.progress.picture.grid.columns = omega (arith, c.limit_of-limit.ensures.1, c.loop-column-test.true) in
    let found : Found a.progress l.column l.ends.forward l.ends.backward (take (l.used + 9 - l.used) (drop l.used ws)) l.due (take (l.used - (l.used - 9)) (drop (l.used - 9) ws)) c.in-Some.next.forward c.in-Some.next.backward =
    rw c.new-row.ensures at rw c.saturating_sub.ensures at c.in-Some.ensures in
    row_on a.progress ws c.requires inside l.invariant _ _ room found _ _ refl (sym c.bits.ensures ∙ c.if-bits-ne0.false)
    (c.due_bits-due-in-loop-column.ensures ∙ ap (λ (x : Bool). due_bits x false) c.is_set.ensures)

-- The loop is left by its test or behind one of the two breaks: the words before word `at` are commands of the row.
abbrev Before : Progress → List ℕ → Ends → ℕ → Type 0
Before p ws e at = (at ≤ length ws) × (p.position.column + at / 9 < 65536) × Going p ws (p.position.column + at / 9) e.forward e.backward at

before : (p : Progress) (ws : List ℕ) {column f b at at' : ℕ} {e : Ends} → column < 65536 → e ≡ record { forward = f; backward = b } → at' ≡ at → at ≤ length ws → Going p ws column f b at → Before p ws e at'
before p ws {column} {f} {b} {at} below ee ea room g =
    let here : column ≡ p.position.column + at / 9 = omega (arith, g.at_is, g.column_is) in
    rw (ee, ea) (room, omega (arith, here), subst (λ (x : ℕ). Going p ws x f b at) here g)

left : (c : Left-loop-column) → Before c.args.progress c.args.words.now c.loop-column-test.ends c.loop-column-test.used
left c =
    let a = c.args in
    let l = c.loop-column in
    let ws = a.words.now in
    elim c.loop-column-test.branch [
      | else-loop-column-test w ↦ before a.progress ws (omega arith) w.ends-is w.used-is l.invariant.room l.invariant.going
      | then-loop-column-test+in_default w ↦ before a.progress ws (omega arith) w.ends-is w.used-is l.invariant.room l.invariant.going
      | then-loop-column-test+in-Some+then-bits-ne0 w ↦
          let room : l.used + 9 ≤ length ws = omega (arith, l.invariant.going.at_is, l.invariant.going.column_is, c.limit_of-limit.ensures, w.loop-column-test.true) in
          let inside : l.column < a.progress.picture.grid.columns = omega (arith, c.limit_of-limit.ensures.1, w.loop-column-test.true) in
          let found : Found a.progress l.column l.ends.forward l.ends.backward (take (l.used + 9 - l.used) (drop l.used ws)) l.due (take (l.used - (l.used - 9)) (drop (l.used - 9) ws)) w.in-Some.next.forward w.in-Some.next.backward =
          rw c.new-row.ensures at rw w.saturating_sub.ensures at w.in-Some.ensures in
          before a.progress ws (omega (arith, w.loop-column-test.true)) w.ends-is w.used-is room (row_behind a.progress ws c.requires inside l.invariant _ _ room found)
    ]

pub taken-requires : goal.taken-requires
taken-requires c =
    let h = left c in
    let t = c.loop-column-test in
    let count : h.2.k ≡ t.used / 9 = omega (arith, h.2.at_is) in
    (h.0, h.1, λ e. omega (arith, h.2.at_is), subst (λ (n : ℕ). Seen c.args.progress c.args.words.now n t.ends.forward t.ends.backward) count h.2.seen)

pub returns : goal.returns
returns c =
    let h = left (goal.at.returns c).Left-loop-column in
    let t = c.loop-column-test in
    taken_from c.args.progress c.args.words.now _ t.used t.ends.forward t.ends.backward c.taken.result h.0 h.2 c.taken.ensures
