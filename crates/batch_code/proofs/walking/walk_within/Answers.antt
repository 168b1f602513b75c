-- The fold over all the words is the fold from the command at `at` over what is left.
use mathlib.Core.Path.{sym, ap, ◌∙◌, subst}
use mathlib.Core.List.{List}
use Prim.Native.Nat.{ℕ, ◌+◌, ◌-◌, ◌≤◌, ◌<◌}
use native.Mathlib.Nat.{add-zero}
use native.Mathlib.Omega.{arith}
use lib.ListN.{length, take, drop, length-drop}
use Rattle.lists.proofs.Slices.{part_rest}
use Rattle.headers.specs.declared.Header.{Header}
use Rattle.progress.specs.declared.Progress.{Progress}
use Rattle.rows.specs.Rows.{TakenFrom}
use Rattle.progress.specs.declared.Taken.{Taken}
use Rattle.sequence.proofs.JudgingLaws.{stops_within}
use Rattle.commands.specs.declared.NextCommand.TheVariants.{Whole}
use Rattle.commands.proofs.Gathering.{next_there, whole_there}
use Rattle.batch.specs.Walk.{stopped, after}
use Rattle.batch.proofs.WalkLaws.{stays}
use Rattle.batch_code.proofs.RowTurn.{turn_row}
use Rattle.batch_code.proofs.Turns.{turn_next, turn_behind, judged_there, carried_late}
use Rattle.batch_code.proofs.walking.walk_within.Goals as goal

-- what was taken of the words from there on
taken_there : (at : ℕ) (p : Progress) (ws : List ℕ) (r : Taken) → TakenFrom p (take (length ws - at) (drop at ws)) r → TakenFrom p (drop at ws) r
taken_there at p ws r t = subst (λ (x : List ℕ). TakenFrom p x r) (part_rest at ws) t

row_fits : (at : ℕ) (p : Progress) (ws : List ℕ) (r : Taken) → at ≤ length ws → TakenFrom p (drop at ws) r → at + r.used ≤ length ws
row_fits at p ws r m t = omega (arith, length-drop at ws, t.within)

pub returns-then-p : goal.returns-then-p
returns-then-p c =
    let l = c.loop-at in
    let o = c.passed_over-at in
    let ws = c.args.words.now in
    let here : o.result < length ws = omega (arith, o.ensures.within, c.if-at-words.false) in
    sym (l.invariant.so_far ∙ o.ensures.so_far ∙ turn_behind c.args.base o.result l.p ws c.requires here c.if-p.true (λ z. absurd (omega (arith, z, o.ensures.some here))))

pub loop-at-preserved-then-row-ne0 : goal.loop-at-preserved-then-row-ne0
loop-at-preserved-then-row-ne0 c =
    let l = c.loop-at in
    let o = c.passed_over-at in
    let ws = c.args.words.now in
    let t = taken_there o.result l.p ws _ c.judge_row-row.ensures in
    record {
      within = row_fits o.result l.p ws _ o.ensures.within t;
      so_far = l.invariant.so_far ∙ o.ensures.so_far ∙ turn_row c.args.base o.result l.p ws _ c.if-p.false c.requires o.ensures.within t;
    }

pub returns-in-Unknown : goal.returns-in-Unknown
returns-in-Unknown c =
    let l = c.loop-at in
    let o = c.passed_over-at in
    let ws = c.args.words.now in
    let x = next_there o.result ws _ _ c.next_command.ensures c.in-Unknown.is in
    sym (l.invariant.so_far ∙ o.ensures.so_far ∙ turn_next c.args.base o.result l.p ws _ c.if-p.false c.requires o.ensures.within x)

pub overflow_add-end : goal.overflow_add-end
overflow_add-end c = omega (arith, c.passed_over-at.ensures.later, whole_there _ _ _ _ _ c.passed_over-at.ensures.within c.next_command.ensures c.in-Whole.is)

pub slice_bounds-judge-end : goal.slice_bounds-judge-end
slice_bounds-judge-end c = omega (arith, c.passed_over-at.ensures.later, whole_there _ _ _ _ _ c.passed_over-at.ensures.within c.next_command.ensures c.in-Whole.is)

pub loop-at-smaller : goal.loop-at-smaller
loop-at-smaller c = omega (arith, c.passed_over-at.ensures.later, whole_there _ _ _ _ _ c.passed_over-at.ensures.within c.next_command.ensures c.in-Whole.is)

pub loop-at-preserved : goal.loop-at-preserved
unfolding after
loop-at-preserved c =
    let l = c.loop-at in
    let o = c.passed_over-at in
    let ws = c.args.words.now in
    let x = next_there o.result ws _ _ c.next_command.ensures c.in-Whole.is in
    let f = whole_there _ _ _ _ _ o.ensures.within c.next_command.ensures c.in-Whole.is in
    let j = judged_there c.args.base o.result l.p ws c.in-Whole.header c.in-Whole.n _ c.if-p.false c.requires o.ensures.within x (sym c.judge.ensures ∙ c.in-Ok.is) in
    record { within = f.1; so_far = l.invariant.so_far ∙ o.ensures.so_far ∙ j }

pub overflow_add-result : goal.overflow_add-result
overflow_add-result c =
    let near = stops_within _ _ _ _ _ (sym c.judge.ensures ∙ c.in-Err.is) in
    omega (arith, near.2)

pub returns-in-Err : goal.returns-in-Err
unfolding after
returns-in-Err c =
    let l = c.loop-at in
    let o = c.passed_over-at in
    let ws = c.args.words.now in
    let x = next_there o.result ws _ _ c.next_command.ensures c.in-Whole.is in
    let j = judged_there c.args.base o.result l.p ws c.in-Whole.header c.in-Whole.n _ c.if-p.false c.requires o.ensures.within x (sym c.judge.ensures ∙ c.in-Err.is) in
    sym (l.invariant.so_far ∙ o.ensures.so_far ∙ j ∙ stays _ _ (drop (o.result + c.in-Whole.n) ws))

pub returns-in-Incomplete : goal.returns-in-Incomplete
returns-in-Incomplete c =
    let l = c.loop-at in
    let o = c.passed_over-at in
    let ws = c.args.words.now in
    let x = next_there o.result ws _ _ c.next_command.ensures c.in-Incomplete.is in
    sym (l.invariant.so_far ∙ o.ensures.so_far ∙ turn_next c.args.base o.result l.p ws _ c.if-p.false c.requires o.ensures.within x)

pub returns-in-Whole-Carried-default : goal.returns-in-Whole-Carried-default
unfolding after
returns-in-Whole-Carried-default c =
    let l = c.loop-at in
    let ws = c.args.words.now in
    let o = c.passed_over-at in
    let at = o.result in
    let in_carried = c.in-Whole-Carried-default in
    let here : at < length ws = omega (arith, o.ensures.within, c.if-at-words.false) in
    let x = next_there at ws _ _ c.next_command.ensures (in_carried.is ∙ ap (λ (h : Header). Whole h in_carried.field-1) in_carried.field-0-is) in
    let late = o.ensures.grouped here c.if-p.false in_carried.field-0-0 in_carried.field-1 (sym x) in
    let j = judged_there c.args.base at l.p ws _ in_carried.field-1 _ c.if-p.false c.requires o.ensures.within x (carried_late in_carried.field-0-0 l.p _ late) in
    sym (l.invariant.so_far ∙ o.ensures.so_far ∙ j ∙ stays _ _ (drop (at + in_carried.field-1) ws) ∙ ap (stopped 3) (add-zero (c.args.base + at)))
