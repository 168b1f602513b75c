-- `judge_batch`: what a batch comes to, the buffers apart.
use mathlib.Core.Bool.{Bool, true, false, cond}
use mathlib.Core.List.{List, [], foldl}
use mathlib.Core.Path.{◌≡◌, sym, ap, ◌∙◌}
use Prim.Native.Nat.{ℕ, ◌+◌}
use native.Mathlib.Omega.{arith}
use lib.ListN.{length, drop}
use Rattle.std.proofs.lemmas.Result.{err_from_is_err_and}
use Rattle.progress.specs.Progress.{fresh}
use Rattle.progress.specs.declared.Progress.{Progress}
use Rattle.std.specs.Prelude.{Ok, Err}
use Rattle.answers.specs.Answers.{fault_at}
use Rattle.batch.specs.Walk.{going, step, walk_of, Walked}
use Rattle.batch.specs.Reports.{ending, verdict_of}
use Rattle.batch.proofs.WalkLaws.{counted}
use Rattle.batch_code.proofs.checking.judge_batch.Goals as goal

-- what the batch comes to, by what the walk from the first word came to
module _ (ws : List ℕ) (p₀ : Progress) (new : p₀ ≡ fresh) (r : Walked) (came : walk_of 0 ws r ≡ foldl step (going 0 p₀ []) ws) where
  judged : (q : Walked) → r ≡ q → ending (walk_of 0 ws q) ≡ verdict_of ws
  unfolding verdict_of
  judged q e = ap ending (ap (walk_of 0 ws) (sym e) ∙ came ∙ ap (λ (p : Progress). foldl step (going 0 p []) ws) new)

  ended : (p : Progress) (used : ℕ) → r ≡ Ok (record { progress = p; used = used }) → p.stage.ended ≡ true → Ok p ≡ verdict_of ws
  ended p used e t = ap (λ (b : Bool). cond b (Ok p) (Err (fault_at 1 (0 + used + length (drop used ws))))) (sym t) ∙ judged (Ok (record { progress = p; used = used })) e

  ran_out : (p : Progress) (used : ℕ) → r ≡ Ok (record { progress = p; used = used }) → p.stage.ended ≡ false → Err (fault_at 1 (length ws)) ≡ verdict_of ws
  ran_out p used e t =
      let all = counted 0 p₀ [] ws (0 + used) p (drop used ws) (sym came ∙ ap (walk_of 0 ws) e) in
      let words : length ws ≡ 0 + used + length (drop used ws) = omega arith in
      ap (λ (n : ℕ). Err (fault_at 1 n)) words
      ∙ ap (λ (b : Bool). cond b (Ok p) (Err (fault_at 1 (0 + used + length (drop used ws))))) (sym t)
      ∙ judged (Ok (record { progress = p; used = used })) e

pub returns-in_err-progress : goal.returns-in_err-progress
returns-in_err-progress c =
    let a = c.args in
    let p = err_from_is_err_and c.from_residual.result c.from_residual.ensures.1 in
    rw (p.1, p.2) (judged a.words.now c.fresh.result c.fresh.ensures c.walk.result c.walk.ensures _ c.in_err-progress.was)

pub returns-then-not-progress : goal.returns-then-not-progress
returns-then-not-progress c =
    let a = c.args in
    ran_out a.words.now c.fresh.result c.fresh.ensures c.walk.result c.walk.ensures _ _ c.in_ok-progress.was c.if-not-progress.true

pub returns : goal.returns
returns c =
    let a = c.args in
    ended a.words.now c.fresh.result c.fresh.ensures c.walk.result c.walk.ensures _ _ c.in_ok-progress.was c.if-not-progress.false
