-- The fields of the answers' structs, in the order of their declaration, and the numbers and places that they can have.
use mathlib.Core.List.{List, [], ◌∷◌}
use mathlib.Core.Path.{◌≡◌, refl, sym, subst}
use Prim.Native.Nat.{ℕ}
use lib.ListN.{length}
use Rattle.answers.specs.Answers as answer
use Rattle.answers.specs.Numbers.{Among}
use Rattle.std.specs.Prelude.{Ok, Err}
use Rattle.batch.specs.declared.Refusal.TheVariants.{Short, Broken}
use Rattle.answers.specs.Answers.{Answer}
use Rattle.answers.proofs.NumberLaws.{in_places}
use Rattle.commands.specs.Commands.{batch_picture}
use Rattle.records.specs.Alone.{read_answer, write_answer}
use Rattle.records.specs.Numbers.{read_places, write_places}
use Rattle.records.proofs.Numbers.{read_numbers, write_numbers}
use Rattle.batch.specs.Numbers.{CheckedBy}
use Rattle.batch.specs.Demand.{reading_of}
use Rattle.batch.specs.Reports.{report, Report}
use Rattle.batch.specs.declared.Lengths.{Lengths}
use Rattle.batch.proofs.Numbers.{check_numbers}
use Rattle.decoding.specs.Logs.{log_length, decoded}
use Rattle.decoding.specs.Numbers.{DecodedBy}
use Rattle.decoding.proofs.Numbers.{decode_numbers}
use Rattle.interface.specs.Summaries.{summary_of, outcome_of, summary_reading, outcome_fields}
use Rattle.interface.specs.declared.Outcome.{Outcome}
use Rattle.interface.specs.declared.Summary.{Summary}

-- They are document 01's number and place, and all that is reported with them, in its order.
pub summary_read : (r : Report) → summary_reading (summary_of r) ≡ reading_of r
summary_read (Ok e) = refl
summary_read (Err (Short f e)) = refl
summary_read (Err (Broken f)) = refl

pub outcome_fields_lem : (a : Answer) → outcome_fields (outcome_of a) ≡ answer.number_of a ∷ answer.place_of a ∷ []
outcome_fields_lem a = refl

-- What include/hromulice.h says of the numbers that each function gives, from the function's contract: hromulice_check, ..
pub check_answers : (l : Lengths) (ws : List ℕ) (r : Summary) → r ≡ summary_of (report l ws) → CheckedBy (length ws) r.number r.place
check_answers l ws r e = subst (λ (x : Summary). CheckedBy (length ws) x.number x.place) (sym e) (check_numbers l ws)

-- .. hromulice_decode, ..
pub decode_answers : (l : Lengths) (ws log : List ℕ) (r : Summary) → r ≡ summary_of (decoded l ws log)
    → DecodedBy (length ws) (log_length (batch_picture ws).grid) r.number r.place
decode_answers l ws log r e =
    subst (λ (x : Summary). DecodedBy (length ws) (log_length (batch_picture ws).grid) x.number x.place) (sym e) (decode_numbers l ws log)

-- .. hromulice_read_command ..
pub read_answers : (words room : List ℕ) (r : Outcome) → r ≡ outcome_of (read_answer words room) → Among r.number r.place (read_places words)
read_answers words room r e = subst (λ (x : Outcome). Among x.number x.place (read_places words)) (sym e) (in_places (read_places words) (read_answer words room) (read_numbers words room))

-- .. and hromulice_write_command.
pub write_answers : (bytes room : List ℕ) (r : Outcome) → r ≡ outcome_of (write_answer bytes room) → Among r.number r.place (write_places bytes)
write_answers bytes room r e = subst (λ (x : Outcome). Among x.number x.place (write_places bytes)) (sym e) (in_places (write_places bytes) (write_answer bytes room) (write_numbers bytes room))
