-- Demand 3 of the exported functions: what they answer as structs is read as the answers that they are made of.
use mathlib.Core.List.{List}
use mathlib.Core.Path.{◌≡◌, refl, sym, ap, subst, ◌∙◌}
use Prim.Native.Nat.{ℕ}
use Rattle.batch.specs.Demand.{Reading, reading_of, KeepsOthers, AllEnough, Demand3, Checked}
use Rattle.batch.specs.Reports.{report, Report}
use Rattle.batch.specs.declared.Lengths.{Lengths}
use Rattle.batch.proofs.BufferLengths.{demand_through, demand_whole}
use Rattle.decoding.specs.Logs.{decoded, DecodedInto, RoomIn}
use Rattle.decoding.proofs.DecodingLengths.{demand_decoding, same_records}
use Rattle.interface.specs.Promises.{SummaryOfCheck, SummaryInParts, SummaryOfDecode, SummaryDecodedInto}
use Rattle.interface.specs.Summaries.{summary_of, summary_reading}
use Rattle.interface.specs.declared.Summary.{Summary}
use Rattle.interface.proofs.InParts.{memory_whole}
use Rattle.interface.proofs.SummaryLaws.{summary_read}

-- a batch that is seen to keep the other rules by a struct keeps them by its report
kept_by : (s : Summary) (r : Report) → s ≡ summary_of r → KeepsOthers (summary_reading s) → KeepsOthers (reading_of r)
kept_by s r e k = subst KeepsOthers (ap summary_reading e ∙ summary_read r) k

-- an answer in parts is the answer to the whole batch
as_whole : (ws : List ℕ) (l : Lengths) (s : Summary) → SummaryInParts ws l s → s ≡ summary_of (report l ws)
as_whole ws l s a = memory_whole l a.0 a.2.0 s a.2.1 a.2.2 ∙ ap (λ (x : List ℕ). summary_of (report l x)) a.1

-- Functions that answer what the check answers to the whole batch.
as_checked : (ws : List ℕ) (Gives : Lengths → Summary → Type 0) → ((l : Lengths) (s : Summary) → Gives l s → s ≡ summary_of (report l ws))
    → (l₀ : Lengths) (s₀ : Summary) → Gives l₀ s₀ → KeepsOthers (summary_reading s₀) → Demand3 summary_reading ws (Unit {0}) Gives
as_checked ws Gives is l₀ s₀ a kept =
    demand_through reading_of summary_reading summary_of summary_read ws (Unit {0}) (Checked ws) Gives (λ l s g. (report l ws, refl, is l s g))
    (demand_whole ws l₀ (kept_by s₀ (report l₀ ws) (is l₀ s₀ a) kept))

-- Demand 3 of `hromulice_check`. That the batch keeps the other rules is asked of some call, and the claims hold of all.
pub c_demand_whole : (ws : List ℕ) (l₀ : Lengths) (s₀ : Summary) → SummaryOfCheck ws l₀ s₀ → KeepsOthers (summary_reading s₀)
    → Demand3 summary_reading ws (Unit {0}) (SummaryOfCheck ws)
c_demand_whole ws = as_checked ws (SummaryOfCheck ws) (λ l s g. g)

-- Demand 3 of `hromulice_begin`, `hromulice_hand_over` and `hromulice_report_of`, along all lists of parts that make the batch up,
-- whatever memory the functions left on the way.
pub c_demand_parts : (ws : List ℕ) (l₀ : Lengths) (s₀ : Summary) → SummaryInParts ws l₀ s₀ → KeepsOthers (summary_reading s₀)
    → Demand3 summary_reading ws (Unit {0}) (SummaryInParts ws)
c_demand_parts ws = as_checked ws (SummaryInParts ws) (as_whole ws)

-- Demand 3 of `hromulice_decode`, into any log.
pub c_demand_decoding : (ws : List ℕ) (l₀ : Lengths) (log₀ : List ℕ) (s₀ : Summary) (after₀ : List ℕ) → SummaryOfDecode ws log₀ l₀ s₀ after₀
    → KeepsOthers (summary_reading s₀)
    → (log : List ℕ) → Demand3 summary_reading ws (RoomIn log ws) (SummaryDecodedInto log ws)
c_demand_decoding ws l₀ log₀ s₀ after₀ a kept log =
    demand_through reading_of summary_reading summary_of summary_read ws (RoomIn log ws) (DecodedInto log ws) (SummaryDecodedInto log ws)
    (λ l s g. (decoded l ws log, refl, g.1.0))
    (demand_decoding ws l₀ log₀ (kept_by s₀ (decoded l₀ ws log₀) a.0 kept) log)

-- "Under any two sets of lengths that are all long enough, the answer and the records are the same": the whole log afterwards, from the
-- same log before.
pub c_same_records : (ws log : List ℕ) (l k : Lengths) (s q : Summary) (after other : List ℕ)
    → SummaryOfDecode ws log l s after → SummaryOfDecode ws log k q other
    → KeepsOthers (summary_reading s) → AllEnough (summary_reading s) l → AllEnough (summary_reading q) k → (s ≡ q) × (after ≡ other)
c_same_records ws log l k s q after other a b kept h i =
    let read : (l : Lengths) (s : Summary) → s ≡ summary_of (decoded l ws log) → AllEnough (summary_reading s) l → AllEnough (reading_of (decoded l ws log)) l =
    λ l s e. subst (λ (x : Reading). AllEnough x l) (ap summary_reading e ∙ summary_read (decoded l ws log)) in
    let same = same_records ws log l k (kept_by s (decoded l ws log) a.0 kept) (read l s a.0 h) (read k q b.0 i) in
    (a.0 ∙ ap summary_of same.0 ∙ sym b.0, a.1 ∙ same.1 ∙ sym b.1)
