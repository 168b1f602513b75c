-- Answers as structs of numbers: document 01's number, place and lengths, and document 02's first bytes (R-8).
-- To be believed: the structs' fields. `summary_read` and `outcome_fields_lem` (proofs/SummaryLaws.antt) read them in their order.
use Rattle.answers.specs.Answers as answer
use Rattle.answers.specs.Answers.{Answer}
use Rattle.progress.specs.Buffers.{Buffer, source, reconstructed, forward, backward}
use Rattle.batch.specs.Demand.{Reading, reading_of, length_for, first_for}
use Rattle.batch.specs.Reports.{report_number, report_place, Report}
use Rattle.batch.specs.declared.Lengths.{Lengths}
use Rattle.interface.specs.declared.Outcome.{Outcome}
use Rattle.interface.specs.declared.Summary.{Summary}
use Rattle.std.specs.Prelude.{List, [], ◌∷◌, ◌++◌, ℕ}

-- A number for each buffer, as a struct; and the numbers of such a struct, in the order of the buffers.
abbrev pub for_each : (Buffer → ℕ) → Lengths
for_each n = record { source = n source; reconstructed = n reconstructed; forward = n forward; backward = n backward }

abbrev pub in_order : Lengths → List ℕ
in_order n = n.source ∷ n.reconstructed ∷ n.forward ∷ n.backward ∷ []

-- The answer to a batch. "The four lengths are reported with 0, 13 and 14, else zeros."; document 02 (R-8): "The first bytes are reported
-- whenever the lengths are, else zeros".
abbrev pub summary_of : Report → Summary
summary_of r =
    record {
      number = report_number r;
      place = report_place r;
      lengths = for_each (λ b. length_for b (reading_of r));
      firsts = for_each (λ b. first_for b (reading_of r));
    }

-- The answer to one command or one record.
abbrev pub outcome_of : Answer → Outcome
outcome_of a = record { number = answer.number_of a; place = answer.place_of a }

-- How a struct is read: its number, its place, and what is reported, its lengths and then its first bytes.
abbrev pub summary_reading : Summary → Reading
summary_reading s = record { number = s.number; place = s.place; reported = in_order s.lengths ++ in_order s.firsts }

-- And the fields of the struct for one command or record.
abbrev pub outcome_fields : Outcome → List ℕ
outcome_fields o = o.number ∷ o.place ∷ []
