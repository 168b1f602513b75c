-- What decoding answers and leaves in the log, in each of the ways that it ends.
use mathlib.Core.List.{List, ◌++◌}
use mathlib.Core.Path.{◌≡◌, refl, sym, ◌∙◌, ap}
use Prim.Native.Nat.{ℕ, ◌*◌, ◌≤◌, ◌<◌}
use native.Mathlib.Nat.{mul_comm}
use native.Mathlib.Omega.{arith}
use lib.ListN.{length, drop}
use Rattle.progress.specs.declared.Progress.{Progress}
use Rattle.std.specs.Prelude.{Ok, Err}
use Rattle.answers.specs.Answers.{fault_at}
use Rattle.batch.specs.declared.Refusal.TheVariants.{Short, Broken}
use Rattle.progress.specs.Progress.{Verdict}
use Rattle.commands.specs.Commands.{commands_of, macroblocks_in, batch_picture}
use Rattle.batch.specs.Reports.{reportable, measured, concluding, verdict_of, report, Report}
use Rattle.batch.specs.declared.Lengths.{Lengths}
use Rattle.batch.specs.declared.Reported.{Reported}
use Rattle.batch.proofs.CommandList.{listed}
use Rattle.batch.proofs.Runs.{gone_through}
use Rattle.decoding.specs.Logs.{log_of, log_length, roomed, decoded, log_after, decoded_log}
use Rattle.decoding.proofs.RoomLaws.{Other, unwritten, not_accepted, lacking, roomy}

-- What a batch that came to its END says of its picture: the progress has it, and its macroblocks are W·H.
pub record Ended (ws : List ℕ) (p : Progress) : Type 0 where
  pub picture : p.picture ≡ batch_picture ws
  pub full : length (macroblocks_in (commands_of ws)) ≡ (batch_picture ws).grid.columns * (batch_picture ws).grid.rows

pub has_ended : (ws : List ℕ) (p : Progress) → verdict_of ws ≡ Ok p → Ended ws p
has_ended ws p e =
    let w = gone_through ws p e in
    let l = listed ws w.0 p w.1 w.2 in
    record { picture = l.picture; full = l.full w.3 ∙ mul_comm (batch_picture ws).grid.rows (batch_picture ws).grid.columns }

module _ (l : Lengths) (ws log : List ℕ) where
  -- the answer, and the log that goes with it
  pub both : (r : Report) (out : List ℕ) → decoded l ws log ≡ r → out ≡ log_after r (log_of ws) log → (r ≡ decoded l ws log) × (out ≡ decoded_log l ws log)
  unfolding decoded_log
  both r out a o = (sym a, o ∙ ap (λ (x : Report). log_after x (log_of ws) log) (sym a))

  -- a rule of the batch is broken
  pub refused : (n place : ℕ) → verdict_of ws ≡ Err (fault_at n place) → (Err (Broken (fault_at n place)) ≡ decoded l ws log) × (log ≡ decoded_log l ws log)
  unfolding decoded report
  refused n place e = both (Err (Broken (fault_at n place))) log (ap (λ (v : Verdict). roomed (log_length (batch_picture ws).grid) log (concluding l v)) e) refl

  module _ (p : Progress) (r : Report) (v : verdict_of ws ≡ Ok p) (m : r ≡ measured (reportable p) l) where
    answer : (x : Report) → r ≡ x → decoded l ws log ≡ roomed (log_length p.picture.grid) log x
    unfolding decoded report
    answer x e =
        ap (λ (v : Verdict). roomed (log_length (batch_picture ws).grid) log (concluding l v)) v
        ∙ ap (roomed (log_length (batch_picture ws).grid) log) (sym m ∙ e)
        ∙ ap (λ x'. roomed (log_length x'.grid) log x) (sym (has_ended ws p v).picture)

    -- a buffer is too short
    pub lacks_buffer : Other r → (r ≡ decoded l ws log) × (log ≡ decoded_log l ws log)
    lacks_buffer o =
        both r log (answer r refl ∙ not_accepted (log_length p.picture.grid) log r o) (sym (unwritten r (log_of ws) log o))

    module _ (e : Reported) (a : r ≡ Ok e) (needed : ℕ) (n : needed ≡ log_length p.picture.grid) where
      -- the log is too short
      pub lacks_room : length log < needed → (Err (Short (fault_at 14 needed) e) ≡ decoded l ws log) × (log ≡ decoded_log l ws log)
      lacks_room h =
          both (Err (Short (fault_at 14 needed) e)) log
          (answer (Ok e) a ∙ ap (λ (x : ℕ). roomed x log (Ok e)) (sym n) ∙ lacking needed log e h)
          refl

      -- all is written
      pub writes : (out : List ℕ) → needed ≤ length log → out ≡ log_of ws ++ drop (length (log_of ws)) log → (Ok e ≡ decoded l ws log) × (out ≡ decoded_log l ws log)
      writes out h o =
          both (Ok e) out
          (answer (Ok e) a ∙ ap (λ (x : ℕ). roomed x log (Ok e)) (sym n) ∙ roomy needed log (Ok e) h)
          o

      -- then there is room for all records
      pub has_room : needed ≤ length log → 24 * length (macroblocks_in (commands_of ws)) ≤ length log
      has_room h =
          let w = has_ended ws p v in
          let count : length (macroblocks_in (commands_of ws)) ≡ p.picture.grid.columns * p.picture.grid.rows =
          w.full ∙ ap (λ x. x.grid.columns * x.grid.rows) (sym w.picture) in
          omega arith
