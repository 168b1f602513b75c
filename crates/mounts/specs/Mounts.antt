-- Asking for a sheet and adding one, in lent bytes. What is quoted is document 02 (R-9).
-- To be believed: what asking and adding answer, and what the bytes hold afterwards.
use Rattle.std.specs.Prelude.{ℕ, zero, suc, ◌*◌, Bool, cond, ◌&&◌, eqb, leb, ltb, Ok, Err, Some, None, Result}
use Rattle.answers.specs.declared.Fault.{Fault}
use mathlib.Core.List.{List, [], ◌∷◌, foldl}
use Rattle.std.proofs.lemmas.List.Edits.{sets}
use Rattle.answers.specs.Answers.{Rule, rule, unless, Accepted, refused, fault_at, Answer}
use Rattle.fields.specs.Parts.{value_at}
use Rattle.mounts.specs.Editions.{newest, next_edition, Newest}
use Rattle.mounts.specs.Layout.{sheet_length, sheet_filler_part, port}
use Rattle.mounts.specs.Sheets.{sheet_record, sheet_in, stored, sheets_in, capacity}
use Rattle.mounts.specs.declared.Added.{Added}
use Rattle.mounts.specs.declared.Sheet.{Sheet}

-- The answer to asking: a sheet, or why there is none.
abbrev pub Asked : Type 0
Asked = Result Sheet Fault

-- A record behind these sheets is good: "(side above 1, non-zero filler, or not its boat's next edition)" makes it bad.
abbrev pub good_after : List Sheet → List ℕ → Bool
good_after before r =
    leb (sheet_in r).side port && (eqb (value_at sheet_filler_part r) 0 && eqb (sheet_in r).edition (next_edition (sheet_in r).boat before))

-- Record k is good.
unfoldable pub good_at : List ℕ → ℕ → Bool
good_at bytes k = good_after (sheets_in k bytes) (stored bytes k)

-- "the first bad stored record .. gives 20 with its number", of the first so many.
abbrev pub first_bad : ℕ → List ℕ → Answer
first_bad zero bytes = Accepted
first_bad (suc k) bytes = unless (first_bad k bytes) (rule 20 k (good_at bytes k))

-- "A number of records that the bytes can't hold gives 20 with the number they can; then the first bad stored record".
unfoldable pub stored_fault : List ℕ → ℕ → Answer
stored_fault bytes count = cond (ltb (capacity bytes) count) (refused 20 (capacity bytes)) (first_bad count bytes)

-- "Asking for boat and edition gives that boat's newest sheet not above it, or 19 if none."
abbrev pub found_or_none : Newest → Asked
found_or_none (Some s) = Ok s
found_or_none None = Err (fault_at 19 0)

abbrev pub unless_fault : Answer → Asked → Asked
unless_fault Accepted a = a
unless_fault (Err f) a = Err f

unfoldable pub asked : List ℕ → ℕ → ℕ → ℕ → Asked
asked bytes count boat edition = unless_fault (stored_fault bytes count) (found_or_none (newest boat edition (sheets_in count bytes)))

-- "adding another edition than the next (none follows 4294967295) gives 21, a side above 1 gives 22, no room gives 14, here at 0. The checks come as
-- 20, 19, 22, 21, 14."
abbrev pub add_rules : List ℕ → ℕ → Sheet → List Rule
add_rules bytes count s =
    rule 22 0 (leb s.side port)
    ∷ rule 21 0 (eqb s.edition (next_edition s.boat (sheets_in count bytes)))
    ∷ rule 14 0 (ltb count (capacity bytes))
    ∷ []

unfoldable pub add_answer : List ℕ → ℕ → Sheet → Answer
add_answer bytes count s = foldl unless (stored_fault bytes count) (add_rules bytes count s)

-- "adding writes behind the last", one record more; a refusal leaves the number and every byte as they were.
abbrev pub added_count : Answer → ℕ → ℕ
added_count Accepted count = suc count
added_count (Err f) count = count

abbrev pub added_bytes : Answer → List ℕ → ℕ → Sheet → List ℕ
added_bytes Accepted bytes count s = sets bytes (sheet_length * count) (sheet_record s)
added_bytes (Err f) bytes count s = bytes

unfoldable pub added : List ℕ → ℕ → Sheet → Added
added bytes count s = record { answer = add_answer bytes count s; count = added_count (add_answer bytes count s) count }

unfoldable pub bytes_after : List ℕ → ℕ → Sheet → List ℕ
bytes_after bytes count s = added_bytes (add_answer bytes count s) bytes count s
