-- Room for the log, after all else.
use mathlib.Core.List.{List}
use mathlib.Core.Path.{◌≡◌, refl}
use Prim.Native.Nat.{ℕ, ◌≤◌, ◌<◌}
use borrow.Author.Tests.{lt-ltb, le-ltb}
use lib.ListN.{length}
use Rattle.batch.specs.Reports.{report_number, Report}
use Rattle.std.specs.Prelude.{Ok, Err}
use Rattle.answers.specs.Answers.{fault_at}
use Rattle.batch.specs.declared.Refusal.TheVariants.{Short, Broken}
use Rattle.batch.specs.declared.Reported.{Reported}
use Rattle.decoding.specs.Logs.{roomed, log_after}

-- A report that accepts nothing.
abbrev pub Other : Report → Type 0
Other (Ok e) = ⊥
Other (Err (Short f e)) = Unit
Other (Err (Broken f)) = Unit

pub not_passed : (r : Report) → (report_number r ≡ 0 → ⊥) → Other r
not_passed (Ok e) h = h refl
not_passed (Err (Short f e)) h = tt
not_passed (Err (Broken f)) h = tt

-- It writes nothing.
pub unwritten : (r : Report) (new log : List ℕ) → Other r → log_after r new log ≡ log
unwritten (Ok e) new log o = absurd o
unwritten (Err (Short f e)) new log o = refl
unwritten (Err (Broken f)) new log o = refl

module _ (needed : ℕ) (log : List ℕ) where
  -- It is the answer, whatever the room.
  pub not_accepted : (r : Report) → Other r → roomed needed log r ≡ r
  not_accepted (Ok e) o = absurd o
  not_accepted (Err (Short f e)) o = refl
  not_accepted (Err (Broken f)) o = refl

  -- The log is too short.
  pub lacking : (e : Reported) → length log < needed → roomed needed log (Ok e) ≡ Err (Short (fault_at 14 needed) e)
  lacking e h = simp (lt-ltb (length log) needed h)

  -- It is long enough.
  pub roomy : (r : Report) → needed ≤ length log → roomed needed log r ≡ r
  roomy (Ok e) h = simp (le-ltb (length log) needed h)
  roomy (Err (Short f e)) h = refl
  roomy (Err (Broken f)) h = refl
