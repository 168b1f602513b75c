-- `passed_over`: one command more that changes nothing.
use mathlib.Core.Bool.{Bool, true, false, not, ◌||◌, true≢false}
use mathlib.Core.Path.{◌≡◌, refl, ap, ◌∙◌}
use Prim.Native.Nat.{◌+◌, ◌-◌}
use native.Mathlib.Omega.{arith}
use lib.ListN.{take, drop}
use Rattle.headers.specs.declared.Header.{Header}
use Rattle.sequence.specs.Judging.{judge}
use Rattle.commands.proofs.Gathering.{next_there, whole_there}
use Rattle.batch.specs.Walk.{after}
use Rattle.batch_code.proofs.Turns.{turn_zero, judged_there, carried_passes}
use Rattle.batch_code.proofs.walking.passed_over.Goals as goal

-- neither a group nor END has come
free : (g e : Bool) → g || e ≡ false → (not g ≡ true) × (e ≡ false)
free true e h = absurd (true≢false h)
free false e h = (refl, h)

pub loop-at-preserved-then-word-eq0 : goal.loop-at-preserved-then-word-eq0
loop-at-preserved-then-word-eq0 c =
    let l = c.loop-at in
    record {
      later = omega (arith, l.invariant.later);
      within = omega (arith, c.loop-at-test.true);
      so_far = l.invariant.so_far ∙ turn_zero c.args.base l.at c.args.progress c.args.words.now c.requires.0 c.loop-at-test.true c.if-word-eq0.true;
    }

pub overflow_add-at-in-loop-at : goal.overflow_add-at-in-loop-at
overflow_add-at-in-loop-at c = omega (arith, whole_there _ _ _ _ _ c.loop-at.invariant.within c.next_command.ensures c.in-Whole.is)

pub loop-at-smaller : goal.loop-at-smaller
loop-at-smaller c = omega (arith, whole_there _ _ _ _ _ c.loop-at.invariant.within c.next_command.ensures c.in-Whole.is)

pub loop-at-preserved : goal.loop-at-preserved
unfolding after
loop-at-preserved c =
    let l = c.loop-at in
    let ws = c.args.words.now in
    let p = c.args.progress in
    let x = next_there l.at ws _ _ c.next_command.ensures c.in-Whole.is in
    let f = whole_there _ _ _ _ _ l.invariant.within c.next_command.ensures c.in-Whole.is in
    let e = free p.stage.grouped p.stage.ended c.if-not-carried.false in
    record {
      later = omega (arith, l.invariant.later);
      within = f.1;
      so_far = l.invariant.so_far ∙ judged_there c.args.base l.at p ws _ _ _ e.1 c.requires.0 l.invariant.within x (ap (λ (h : Header). judge h p (take (l.at + c.in-Whole.n - l.at) (drop l.at ws))) c.in-Carried.is ∙ carried_passes _ p _ e.0);
    }
