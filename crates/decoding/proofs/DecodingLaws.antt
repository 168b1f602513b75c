-- What decoding leaves in the lent log. What is quoted is document 01.
use mathlib.Core.Bool.{Bool, true, false, cond}
use mathlib.Core.List.{List, [], ◌++◌, append-nil}
use mathlib.Core.Path.{◌≡◌, refl, sym, ap, ◌∙◌, subst}
use Prim.Native.Nat.{ℕ, ◌*◌, ◌≤◌, ◌<◌}
use native.Mathlib.Omega.{arith}
use borrow.Author.Tests.{ltb-false}
use lib.Dec.{ltb}
use lib.ListN.{length, get_or, drop, replicate}
use Rattle.lists.proofs.Slices.{piece_at, pieces_length, front_length, front_beyond}
use Rattle.std.specs.Prelude.{Ok, Err}
use Rattle.answers.specs.Answers.{fault_at, Accepted}
use Rattle.batch.specs.declared.Refusal.TheVariants.{Short, Broken}
use Rattle.macroblock.specs.Macroblocks.{macroblock_of}
use Rattle.progress.specs.declared.Progress.{Progress}
use Rattle.records.specs.Alone.{read_answer, read_room}
use Rattle.records.specs.Layout.{record_length}
use Rattle.records.proofs.RoundTrips.{record_length_lem, read_alone}
use Rattle.commands.specs.Commands.{commands_of, macroblocks_in, batch_picture}
use Rattle.batch.specs.Reports.{report_number, report_place, reported_of, verdict_of, report, Report}
use Rattle.batch.specs.declared.Lengths.{Lengths}
use Rattle.batch.specs.declared.Reported.{Reported}
use Rattle.batch.proofs.BufferLengths.{passed_keeps, kept_verdict}
use Rattle.batch.proofs.Numbers.{accepted_by_0}
use Rattle.batch.proofs.ReadAlone.{macroblocks_alone, alone_at}
use Rattle.batch.proofs.Runs.{gone_through}
use Rattle.decoding.specs.Logs.{record_alone, log_of, log_length, roomed, decoded, log_after, decoded_log, Decoded}
use Rattle.decoding.proofs.Outcomes.{has_ended}
use Rattle.decoding.proofs.RoomLaws.{not_passed, unwritten, not_accepted, lacking, roomy}
use Rattle.batch.specs.Listed.{Alone}

-- What a decoded batch that passes says of the check and of the room.
module _ (needed : ℕ) (log : List ℕ) where
  number_0 : (r : Report) → report_number (roomed needed log r) ≡ 0 → report_number r ≡ 0
  number_0 (Ok e) h = refl
  number_0 (Err (Short f e)) h = h
  number_0 (Err (Broken f)) h = h

  room_for_lem : (e : Reported) → report_number (roomed needed log (Ok e)) ≡ 0 → needed ≤ length log
  room_for_lem e h = by (ltb (length log) needed) refl h
    where
      by : (b : Bool) → ltb (length log) needed ≡ b → report_number (cond b (Err (Short (fault_at 14 needed) e)) (Ok e)) ≡ 0 → needed ≤ length log
      by true s h = let z : ◌≡◌ {A = ℕ} 14 0 = h in absurd (omega arith)
      by false s h = ltb-false (length log) needed s

-- "14 last", "13 comes after the whole batch": short room gives 14 exactly where everything else is accepted, with the bytes that
-- are needed.
pub short_room : (l : Lengths) (ws log : List ℕ) → report_number (report l ws) ≡ 0 → length log < log_length (batch_picture ws).grid
    → (report_number (decoded l ws log) ≡ 14) × (report_place (decoded l ws log) ≡ log_length (batch_picture ws).grid) × (reported_of (decoded l ws log) ≡ reported_of (report l ws))
unfolding decoded
short_room l ws log h s =
    let needed = log_length (batch_picture ws).grid in
    let a = accepted_by_0 l ws h in
    let d : decoded l ws log ≡ Err (Short (fault_at 14 needed) a.0) = ap (roomed needed log) a.1 ∙ lacking needed log a.0 s in
    (ap report_number d, ap report_place d, ap reported_of d ∙ sym (ap reported_of a.1))

pub long_room : (l : Lengths) (ws log : List ℕ) → log_length (batch_picture ws).grid ≤ length log → decoded l ws log ≡ report l ws
unfolding decoded
long_room l ws log h = roomy (log_length (batch_picture ws).grid) log (report l ws) h

pub refused_first : (l : Lengths) (ws log : List ℕ) → (report_number (report l ws) ≡ 0 → ⊥) → decoded l ws log ≡ report l ws
unfolding decoded
refused_first l ws log h = not_accepted (log_length (batch_picture ws).grid) log (report l ws) (not_passed (report l ws) h)

-- "No refusal writes into lent memory."
pub refusal_writes_nothing : (l : Lengths) (ws log : List ℕ) → (report_number (decoded l ws log) ≡ 0 → ⊥) → decoded_log l ws log ≡ log
unfolding decoded_log
refusal_writes_nothing l ws log h = unwritten (decoded l ws log) (log_of ws) log (not_passed (decoded l ws log) h)

-- each macroblock of a batch that keeps the rules can be read alone
all_alone : (ws : List ℕ) (p : Progress) → verdict_of ws ≡ Ok p → (k : ℕ) → k < length (macroblocks_in (commands_of ws)) → Alone (get_or (macroblocks_in (commands_of ws)) k [])
all_alone ws p e k l =
    let w = gone_through ws p e in
    alone_at (macroblocks_in (commands_of ws)) k (macroblocks_alone ws w.0 p w.1 w.2) l

-- a command read alone into 24 bytes leaves its record
record_alone_lem : (m : List ℕ) → Alone m → (read_answer m (replicate record_length 0) ≡ Accepted) × (read_room m (replicate record_length 0) ≡ record_alone m)
record_alone_lem m a =
    let r = read_alone m (replicate record_length 0) a.header a.nine a.kept (omega arith) in
    (r.0, r.1 ∙ append-nil (record_alone m))

pub decodes : (l : Lengths) (ws log : List ℕ) → report_number (decoded l ws log) ≡ 0 → Decoded ws log (decoded_log l ws log)
unfolding decoded decoded_log log_of
decodes l ws log h =
    let needed = log_length (batch_picture ws).grid in
    let ms = macroblocks_in (commands_of ws) in
    let passed = number_0 needed log (report l ws) h in
    let a = accepted_by_0 l ws passed in
    let r = kept_verdict l ws (passed_keeps (report l ws) passed) in
    let count = (has_ended ws r.0 r.1).full in
    let fits : needed ≤ length log = room_for_lem needed log a.0 (subst (λ (x : Report). report_number (roomed needed log x) ≡ 0) a.1 h) in
    let is : decoded l ws log ≡ Ok a.0 = roomy needed log (report l ws) fits ∙ a.1 in
    let after : decoded_log l ws log ≡ log_of ws ++ drop (length (log_of ws)) log = ap (λ (x : Report). log_after x (log_of ws) log) is in
    let size : (m : List ℕ) → length (record_alone m) ≡ record_length = λ m. record_length_lem (macroblock_of m) in
    let long : length (log_of ws) ≡ needed = pieces_length record_alone record_length size ms ∙ ap (λ (n : ℕ). record_length * n) count in
    rw after (record {
      count = count;
      fits = fits;
      same_length = front_length (log_of ws) log (omega arith);
      record_at = λ k b.
          let one = record_alone_lem (get_or ms k []) (all_alone ws r.0 r.1 k b) in
          (one.0, piece_at record_alone record_length size ms (drop (length (log_of ws)) log) [] k b ∙ sym one.1);
      beyond = front_beyond (log_of ws) log needed long;
    })
