-- `outcome`: the answer to all bytes so far, taken as a whole input.
use mathlib.Core.Path.{◌≡◌, refl, sym, ◌∙◌, ap, ap₂}
use Prim.Native.Nat.{ℕ}
use lib.ListN.{length}
use Rattle.batch.specs.Reports.{finish, Report}
use Rattle.std.specs.Prelude.{Ok, Err}
use Rattle.answers.specs.Answers.{fault_at}
use Rattle.batch.specs.declared.Refusal.TheVariants.{Short, Broken}
use Rattle.batch.specs.declared.Reported.{Reported}
use Rattle.std.specs.Prelude.{Some}
use Rattle.parts.specs.States.{walk_in}
use Rattle.parts.specs.declared.State.{State}
use Rattle.input.specs.Line.{left_over}
use Rattle.input.specs.Input.{words_through, finished, held_of, input_in}
use Rattle.input.specs.declared.Stream.{Stream}
use Rattle.input_code.proofs.Endings.{nothing_left, some_left, accepted_words}
use Rattle.input_code.proofs.HeldBytes.{in_head, in_body}
use Rattle.input_code.proofs.answering.outcome.Goals as goal

-- a report that refuses
refused : (bytes words : ℕ) (r : Report) → ((e : Reported) → r ≡ Ok e → ⊥) → left_over bytes words r ≡ r
refused bytes words (Ok e) h = absurd (h e refl)
refused bytes words (Err (Short f e)) h = refl
refused bytes words (Err (Broken f)) h = refl

-- after the lengths: by the count of bytes held, and the report of the whole words
ending : (s : Stream) (check : State) (held : ℕ) (r : Report) → s.check ≡ Some check → held ≡ length (held_of 4 s) → r ≡ finish check.lengths (walk_in check)
    → left_over held (words_through (walk_in check)) r ≡ finished (input_in s)
ending s check held r e h d = ap₂ (λ (k : ℕ) (x : Report). left_over k (words_through (walk_in check)) x) h d ∙ ap finished (sym (in_body s check e))

pub returns-in_default : goal.returns-in_default
returns-in_default c = ap (λ (k : ℕ). Err (Broken (fault_at 16 k))) c.held_bytes-held.ensures.1.0 ∙ ap finished (sym (in_head c.args.stream c.in_default.is))

pub returns-then-held-eq0 : goal.returns-then-held-eq0
returns-then-held-eq0 c =
    let s = c.args.stream in
    let check = c.in-Some.state in
    let h = c.held_bytes-held-2 in
    let r = c.answer-report in
    sym (nothing_left (words_through (walk_in check)) r.result)
    ∙ ap (λ (k : ℕ). left_over k (words_through (walk_in check)) r.result) (sym c.if-held-eq0.true)
    ∙ ending s check h.result r.result c.in-Some.is h.ensures.1.0 r.ensures

pub returns-in_default-report : goal.returns-in_default-report
returns-in_default-report c =
    let s = c.args.stream in
    let check = c.in-Some.state in
    let h = c.held_bytes-held-2 in
    let r = c.answer-report in
    sym (refused h.result (words_through (walk_in check)) r.result c.in_default-report.not-Ok)
    ∙ ending s check h.result r.result c.in-Some.is h.ensures.1.0 r.ensures

pub returns : goal.returns
returns c =
    let s = c.args.stream in
    let check = c.in-Some.state in
    let h = c.held_bytes-held-2 in
    let r = c.answer-report in
    let is = c.in-Ok.is in
    let at = accepted_words check _ (sym r.ensures ∙ is) in
    sym
    (ap (left_over h.result (words_through (walk_in check))) is
    ∙ some_left h.result (words_through (walk_in check)) _ c.if-held-eq0.false
    ∙ ap (λ (k : ℕ). Err (Broken (fault_at 1 k))) at)
    ∙ ending s check h.result r.result c.in-Some.is h.ensures.1.0 r.ensures
