-- `first_after`: the first byte that is touched of the reference after so many commands.
use mathlib.Core.Path.{◌≡◌, refl, sym, ap, ◌∙◌}
use Prim.Native.Nat.{◌+◌, ◌*◌, ◌-◌}
use native.Mathlib.Omega.{arith}
use Rattle.lists.proofs.Slices.{same_part}
use Rattle.prediction.specs.declared.Extent.{Extent}
use Rattle.rows.specs.Touching.{command_at, points_in, across_of, down_of, place_along, touched_after}
use Rattle.rows.proofs.TouchedLaws.{look_on, all_low, after_above, lowest_touches, lowest_first}
use Rattle.rows_code.proofs.looking.Look.first_after.Goals as goal

pub loop-k-preserved : goal.loop-k-preserved
loop-k-preserved c =
    let l = c.loop-k in
    let a = c.args.self in
    let ws = c.args.words.now in
    let points = points_in a.alone a.word a.allowed in
    let nine : 9 * l.k + 9 - 9 * l.k ≡ 9 = omega arith in
    λ e h. c.first_next-lowest.ensures
    ∙ look_on points a.surface a.position ws (across_of a.grid a.codes) (down_of a.grid a.codes) c.args.count c.requires.2 e l.k c.loop-k-test.true (omega arith) (omega arith) (omega arith)
    _ l.lowest _ refl (l.invariant e h) (ap points (same_part ws nine refl))

pub returns-then-stays : goal.returns-then-stays
returns-then-stays c =
    let k = c.loop-k.k in
    let a = c.args.self in
    let ws = c.args.words.now in
    let points = points_in a.alone a.word a.allowed in
    let x = across_of a.grid a.codes in
    let y = down_of a.grid a.codes in
    let After : Extent → Extent = touched_after points a.surface a.position ws k in
    let low = rw c.floors-floors.ensures at c.stays.ensures c.if-stays.true in
    λ e h. let seen = c.loop-k.invariant e h in
    let some = lowest_touches (After e) (omega (arith, seen, low.0)) in
    let first = seen ∙ lowest_first (After e) some in
    seen
    ∙ sym (after_above points a.surface a.position ws x y c.args.count e c.requires.2 k some
    (λ j. all_low a.alone a.word a.allowed a.surface (a.position.column + k) x a.grid a.codes (place_along points a.surface a.position ws j) (command_at ws j) (After e).first
    (omega (arith, low.1, first)) (λ f. omega (arith, low.2 f, first))) (omega arith))
