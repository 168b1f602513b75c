-- `answer`: the answer to all words so far, taken as a whole batch.
use mathlib.Core.Path.{sym, ap, ◌∙◌}
use Prim.Native.Nat.{ℕ, ◌+◌}
use Rattle.batch.specs.Reports.{finish}
use Rattle.std.specs.Prelude.{Err}
use Rattle.answers.specs.Answers.{fault_at}
use Rattle.batch.specs.declared.Refusal.TheVariants.{Broken}
use Rattle.parts.specs.States.{walk_in}
use Rattle.parts.proofs.Parts.{walk_stopped}
use Rattle.parts_code.proofs.answering.answer.Goals as goal

pub returns-in-Some : goal.returns-in-Some
unfolding finish
returns-in-Some c = sym (ap (finish c.args.state.lengths) (walk_stopped c.args.state _ c.in-Some.is))

pub returns-then-state : goal.returns-then-state
unfolding finish walk_in
returns-then-state c = c.report_of.ensures ∙ simp (c.in_default.is, c.if-state.true)

pub returns : goal.returns
unfolding finish walk_in
returns c = ap (λ (n : ℕ). Err (Broken (fault_at 1 (c.args.state.at + n)))) c.held_words-held.ensures.0
    ∙ simp (c.in_default.is, c.if-state.false)
