-- Demand 3 of decoding, with any lent log. "Short lent room apart, which is 14".
use mathlib.Core.Bool.{Bool, true, false, cond}
use mathlib.Core.List.{List}
use mathlib.Core.Logic.{inl, inr}
use mathlib.Core.Path.{◌≡◌, refl, ap}
use Prim.Native.Nat.{ℕ, ◌≤◌}
use native.Mathlib.Omega.{arith}
use borrow.Author.Tests.{ltb-true}
use lib.Dec.{ltb}
use lib.ListN.{length}
use Rattle.commands.specs.Commands.{batch_picture}
use Rattle.batch.specs.Demand.{reading_of, KeepsOthers, AllEnough, Demand3}
use Rattle.batch.specs.Reports.{report, Report}
use Rattle.batch.specs.declared.Lengths.{Lengths}
use Rattle.std.specs.Prelude.{Ok, Err}
use Rattle.answers.specs.Answers.{fault_at}
use Rattle.batch.specs.declared.Refusal.TheVariants.{Short, Broken}
use Rattle.batch.specs.declared.Reported.{Reported}
use Rattle.batch.proofs.BufferLengths.{passed_keeps, Accepts, Settles, demand_by}
use Rattle.decoding.specs.Logs.{log_of, log_length, roomed, decoded, log_after, decoded_log, DecodedInto, RoomIn}

module _ (needed : ℕ) (log : List ℕ) where
  settles : Settles (needed ≤ length log) (roomed needed log)
  settles = record { keeps_13 = λ place e. refl; accepts = λ e. by (ltb (length log) needed) refl e }
    where
      by : (b : Bool) → ltb (length log) needed ≡ b → (e : Reported)
          → Accepts (needed ≤ length log) e (cond b (Err (Short (fault_at 14 needed) e)) (Ok e))
      by true s e = inr (λ h. let l = ltb-true (length log) needed s in omega arith, needed, refl)
      by false s e = inl refl

  -- a batch that keeps the other rules when it is decoded keeps them when it is checked
  keeps : (r : Report) → KeepsOthers (reading_of (roomed needed log r)) → KeepsOthers (reading_of r)
  keeps (Ok e) k = passed_keeps (Ok e) refl
  keeps (Err (Short f e)) k = k
  keeps (Err (Broken f)) k = k

-- Demand 3 of decoding into any log: 13 comes before 14, and with 14 the same is reported. That the batch keeps the other
-- rules is asked under some lengths and some log.
pub demand_decoding : (ws : List ℕ) (l₀ : Lengths) (log₀ : List ℕ) → KeepsOthers (reading_of (decoded l₀ ws log₀))
    → (log : List ℕ) → Demand3 reading_of ws (RoomIn log ws) (DecodedInto log ws)
unfolding decoded
demand_decoding ws l₀ log₀ kept log =
    let needed = log_length (batch_picture ws).grid in
    demand_by ws (RoomIn log ws) (roomed needed log) (settles needed log) (DecodedInto log ws) (λ l r a. a) l₀ (keeps needed log₀ (report l₀ ws) kept)

-- "Under any two sets of lengths that are all long enough, the answer and the records are the same": the whole log afterwards, from the
-- same log before.
pub same_records : (ws log : List ℕ) (l k : Lengths) → KeepsOthers (reading_of (decoded l ws log))
    → AllEnough (reading_of (decoded l ws log)) l → AllEnough (reading_of (decoded k ws log)) k
    → (decoded l ws log ≡ decoded k ws log) × (decoded_log l ws log ≡ decoded_log k ws log)
unfolding decoded_log
same_records ws log l k kept h i =
    let same = (demand_decoding ws l log kept log).same_answer l k (decoded l ws log) (decoded k ws log) refl refl h i in
    (same, ap (λ (r : Report). log_after r (log_of ws) log) same)
