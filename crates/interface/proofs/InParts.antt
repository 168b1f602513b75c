-- A batch in parts through lent memory is answered as the whole batch.
use mathlib.Core.Bool.{true}
use mathlib.Core.List.{List, flatten}
use mathlib.Core.Path.{◌≡◌, refl, ap, ◌∙◌}
use Prim.Native.Nat.{ℕ}
use lib.ListN.{length}
use Rattle.lists.specs.Calls.{Along}
use Rattle.lists.proofs.Stepping.{along, along_view}
use Rattle.batch.specs.Numbers.{CheckedBy}
use Rattle.batch.specs.Reports.{report_number, finish, report}
use Rattle.batch.specs.declared.Lengths.{Lengths}
use Rattle.parts.specs.States.{has_stopped, walk_in, Handed}
use Rattle.parts.proofs.Parts.{stopped_stays, answered_stopped, parts_whole}
use Rattle.interface.specs.Handing.{MemoryHanded, summary_in, MemoryHandedOver}
use Rattle.memory.specs.Memory.{state_in}
use Rattle.interface.specs.Summaries.{summary_of}
use Rattle.interface.specs.declared.Summary.{Summary}
use Rattle.interface.proofs.SummaryLaws.{check_answers}

-- Memory of a check that has stopped meets the promise as it stands.
pub stopped_handed : (m part : List ℕ) → has_stopped (state_in m) ≡ true → MemoryHanded m part m
stopped_handed m part e = record { handed = (stopped_stays (state_in m) part e, refl); stays = λ _. refl }

-- A check that has stopped leaves its memory as it was, whatever parts are handed over.
pub refused_stays : (m : List ℕ) (parts : List (List ℕ)) (r : List ℕ) → Along MemoryHanded m parts r → has_stopped (state_in m) ≡ true → r ≡ m
refused_stays =
    along MemoryHanded (λ m parts r. has_stopped (state_in m) ≡ true → r ≡ m) (λ m e. refl)
    (λ m part n parts r one others e. let same = one.stays e in others (ap (λ (x : List ℕ). has_stopped (state_in x)) same ∙ e) ∙ same)

-- What include/hromulice.h says of hromulice_hand_over: after a report with another number than 0, 1 and 13 every word stays, whatever parts
-- are handed over.
pub report_stays : (m : List ℕ) (s : Summary) (parts : List (List ℕ)) (r : List ℕ) → s ≡ summary_in m
    → (s.number ≡ 0 → ⊥) → (s.number ≡ 1 → ⊥) → (s.number ≡ 13 → ⊥) → Along MemoryHanded m parts r → r ≡ m
unfolding summary_in
report_stays m s parts r e not-0 not-1 not-13 handed =
    let number : s.number ≡ report_number (finish (state_in m).lengths (walk_in (state_in m))) = ap (λ (x : Summary). x.number) e in
    refused_stays m parts r handed
    (answered_stopped (state_in m) _ refl (λ h. not-0 (number ∙ h)) (λ h. not-1 (number ∙ h)) (λ h. not-13 (number ∙ h)))

-- Document 01's claim on lists of parts, of the exported functions: for all lengths, all lists of parts and every sequence of memories
-- that meets their contracts, what is reported is the report of the whole batch.
pub memory_whole : (l : Lengths) (parts : List (List ℕ)) (m : List ℕ) (r : Summary) → MemoryHandedOver l parts m → r ≡ summary_in m
    → r ≡ summary_of (report l (flatten parts))
unfolding summary_in
memory_whole l parts m r h reported =
    let handed = along_view state_in MemoryHanded Handed (λ a part b one. one.handed) h.0 parts m h.2 in
    reported ∙ ap summary_of (parts_whole l parts (state_in m) _ (state_in h.0, h.1, handed) refl)

-- So hromulice_report_of gives the numbers of the check.
pub report_answers : (l : Lengths) (parts : List (List ℕ)) (m : List ℕ) (r : Summary) → MemoryHandedOver l parts m → r ≡ summary_in m
    → CheckedBy (length (flatten parts)) r.number r.place
report_answers l parts m r h reported = check_answers l (flatten parts) r (memory_whole l parts m r h reported)
