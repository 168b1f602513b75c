-- What the report comes to where bytes are left over, and how many words were accepted.
use mathlib.Core.Bool.{Bool, true, false}
use mathlib.Core.Path.{◌≡◌, refl}
use Prim.Native.Nat.{ℕ}
use native.Mathlib.Nat.{add-zero}
use native.Mathlib.Omega.{arith}
use borrow.Author.Tests.{ne_eqb}
use Rattle.batch.specs.Reports.{finish, Report}
use Rattle.std.specs.Prelude.{Ok, Err}
use Rattle.answers.specs.Answers.{fault_at}
use Rattle.batch.specs.declared.Refusal.TheVariants.{Short, Broken}
use Rattle.batch.specs.declared.Reported.{Reported}
use Rattle.parts.specs.States.{gathered, walk_in}
use Rattle.std.specs.Prelude.{Option, None, Some}
use Rattle.answers.specs.declared.Fault.{Fault}
use Rattle.parts.specs.declared.State.{State}
use Rattle.input.specs.Line.{left_over}
use Rattle.input.specs.Input.{words_through}

pub nothing_left : (words : ℕ) (r : Report) → left_over 0 words r ≡ r
nothing_left words (Ok e) = refl
nothing_left words (Err (Short f e)) = refl
nothing_left words (Err (Broken f)) = refl

pub some_left : (bytes words : ℕ) (e : Reported) → (bytes ≡ 0 → ⊥) → left_over bytes words (Ok e) ≡ Err (Broken (fault_at 1 words))
some_left bytes words e h = simp (ne_eqb bytes 0 h)

never : (n place : ℕ) (e : Reported) → Err (Broken (fault_at n place)) ≡ Ok e → ⊥
never n place e h = let z : ◌≡◌ {A = ℕ} 0 1 = cc in omega arith

-- Where a check accepts, END has come: no command is in progress.
pub accepted_words : (s : State) (e : Reported) → finish s.lengths (walk_in s) ≡ Ok e → words_through (walk_in s) ≡ s.at
unfolding finish walk_in gathered
accepted_words s e h = by s.fault s.progress.stage.ended refl refl
  where
    by : (x : Option Fault) (d : Bool) → s.fault ≡ x → s.progress.stage.ended ≡ d → words_through (walk_in s) ≡ s.at
    by (Some f) d x y = absurd (never _ _ e (simp x at h))
    by None true x y = simp (x, y, add-zero)
    by None false x y = absurd (never _ _ e (simp (x, y) at h))
