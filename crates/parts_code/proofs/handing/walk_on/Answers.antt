-- `walk_on`: on from the beginning of the command in progress, whose words so far are the first of these words.
use mathlib.Core.Path.{◌≡◌, refl}
use Prim.Native.Nat.{◌+◌, ◌-◌, ◌≤◌}
use native.Mathlib.Nat.{zero-add}
use native.Mathlib.Omega.{arith}
use borrow.Author.Rules.{rules}
use lib.ListN.{length, take, drop, length-drop}
use Rattle.lists.proofs.Slices.{part_rest}
use Rattle.batch.specs.Walk.{limit}
use Rattle.parts.specs.States.{gathered, walk_in}
use Rattle.parts_code.proofs.HeldLaws.{rest, rest_kept}
use Rattle.parts_code.proofs.handing.walk_on.Goals as goal

pub offset_bounds-words-used : goal.offset_bounds-words-used
offset_bounds-words-used c =
    let left = rest c.args.state.at c.args.state.progress c.args.words.now c.walk.result _ _ (search rules) c.walk.ensures c.in-Ok.is in
    omega (arith, left.within, c.well_formed.1.0.1)

pub slice_bounds-append-count : goal.slice_bounds-append-count
slice_bounds-append-count c = (rest c.args.state.at c.args.state.progress c.args.words.now c.walk.result _ _ (search rules) c.walk.ensures c.in-Ok.is).within

pub slice_bounds-append-start : goal.slice_bounds-append-start
slice_bounds-append-start c = (rest c.args.state.at c.args.state.progress c.args.words.now c.walk.result _ _ (search rules) c.walk.ensures c.in-Ok.is).within

pub overflow_cast-begins : goal.overflow_cast-begins
overflow_cast-begins c =
    let left = rest c.args.state.at c.args.state.progress c.args.words.now c.walk.result _ _ (search rules) c.walk.ensures c.in-Ok.is in
    omega (arith, left.low)

pub overflow_add-begins : goal.overflow_add-begins
overflow_add-begins c =
    let left = rest c.args.state.at c.args.state.progress c.args.words.now c.walk.result _ _ (search rules) c.walk.ensures c.in-Ok.is in
    omega (arith, left.low)

pub overflow_sub-left : goal.overflow_sub-left
overflow_sub-left c = (rest c.args.state.at c.args.state.progress c.args.words.now c.walk.result _ _ (search rules) c.walk.ensures c.in-Ok.is).within

pub returns-in-Ok : goal.returns-in-Ok
unfolding walk_in gathered
returns-in-Ok c =
    let used = c.in-Ok.taken.used in
    let ws = c.args.words.now in
    let low : c.args.state.at ≤ limit = search rules in
    let left = rest c.args.state.at c.args.state.progress ws c.walk.result _ used low c.walk.ensures c.in-Ok.is in
    let few = left.few in
    let room : 0 + length (take (length ws - used) (drop used ws)) ≤ 61 = rw (part_rest used ws, length-drop) (omega arith) in
    let stored : take (length ws - used) c.append-buffer.result ≡ drop used ws =
    rw (part_rest used ws, length-drop, zero-add) at (c.append-buffer.ensures.front room) in
    (rest_kept c.args.state.at c.args.state.progress ws c.walk.result _ used low c.walk.ensures c.in-Ok.is c.append-buffer.result stored, refl)
