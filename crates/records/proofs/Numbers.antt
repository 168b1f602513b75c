-- The numbers and places that one command read alone and one record written alone are answered with.
use mathlib.Core.Bool.{Bool, true, false, cond, not}
use mathlib.Core.List.{List, [], ◌∷◌, ◌++◌}
use mathlib.Core.Logic.{inl, inr}
use mathlib.Core.Path.{◌≡◌, refl, sym}
use Prim.Native.Nat.{ℕ}
use native.Mathlib.Omega.{arith}
use borrow.Author.Tests.{eqb-true}
use lib.Dec.{T, eqb, ltb}
use lib.ListN.{length}
use Rattle.answers.specs.Answers.{number_of, judged, Accepted, refused}
use Rattle.answers.specs.Lending.{then_room}
use Rattle.answers.specs.Numbers.{OneOf, all_among}
use Rattle.answers.proofs.NumberLaws.{is_listed, table_listed, room_listed, by_0}
use Rattle.headers.specs.Headers.{macroblock_header}
use Rattle.headers.specs.Words.{word_at}
use Rattle.macroblock.specs.Rules.{kept_by, field_rules, vector_rules, command_rules, alone}
use Rattle.records.specs.Alone.{read_fault, read_answer, record_fault, write_answer}
use Rattle.records.specs.Layout.{record_length, kind_part, filler_part, forward_part, backward_part}
use Rattle.records.specs.Numbers.{read_places, record_places, write_places}
use Rattle.records.specs.RecordRules.{has_forward, has_backward, unused_part, byte_rules, zero_rules, record_rules}
use Rattle.records.specs.Records.{macroblock_in}
use Rattle.fields.specs.Parts.{value_at}

read_fault_lem : (words : List ℕ) → OneOf (read_places words) (read_fault words)
unfolding read_fault command_rules field_rules vector_rules
read_fault_lem words = by (eqb (length words) 0) refl (eqb (word_at words 0) macroblock_header) (ltb (length words) 9)
  where
    by : (none : Bool) → eqb (length words) 0 ≡ none → (macroblock few : Bool)
        → OneOf (read_places words) (cond none (refused 1 0) (cond (not macroblock) (refused 2 0) (cond few (refused 1 (length words)) (judged (command_rules alone words)))))
    by true e macroblock few = (omega arith, inr (inl (refl, sym (eqb-true (length words) 0 e))))
    by false e false few = (omega arith, is_listed 2 0 (read_places words) tt)
    by false e true true = (omega arith, inr (inl (refl, refl)))
    by false e true false = table_listed (read_places words) (command_rules alone words) tt tt

pub read_numbers : (words room : List ℕ) → OneOf (read_places words) (read_answer words room)
unfolding read_answer
read_numbers words room = room_listed (read_places words) (read_fault words) record_length room tt tt (read_fault_lem words)

-- the rules of a record, whichever vectors it has
rules_listed : (bytes : List ℕ) → T (all_among record_places (record_rules bytes))
unfolding record_rules byte_rules zero_rules
rules_listed bytes = by (has_forward (value_at kind_part bytes)) (has_backward (value_at kind_part bytes))
  where
    by : (f b : Bool) → T (all_among record_places (byte_rules bytes (kept_by (macroblock_in bytes))
        ++ (unused_part false filler_part bytes ++ (unused_part f forward_part bytes ++ unused_part b backward_part bytes))))
    by true true = tt
    by true false = tt
    by false true = tt
    by false false = tt

pub write_numbers : (bytes room : List ℕ) → OneOf (write_places bytes) (write_answer bytes room)
unfolding write_answer record_fault
write_numbers bytes room = by (eqb (length bytes) record_length)
  where
    by : (whole : Bool) → OneOf (cond whole record_places ((15, 0) ∷ [])) (then_room (cond whole (judged (record_rules bytes)) (refused 15 0)) 9 room)
    by true = room_listed record_places (judged (record_rules bytes)) 9 room tt tt (table_listed record_places (record_rules bytes) tt (rules_listed bytes))
    by false = (omega arith, inl (refl, refl))

-- A command and a record are accepted by number 0 alone.
pub read_by_0 : (words room : List ℕ) → number_of (read_answer words room) ≡ 0 → read_answer words room ≡ Accepted
read_by_0 words room = by_0 (read_places words) (read_answer words room) (read_numbers words room)

pub written_by_0 : (bytes room : List ℕ) → number_of (write_answer bytes room) ≡ 0 → write_answer bytes room ≡ Accepted
written_by_0 bytes room = by_0 (write_places bytes) (write_answer bytes room) (write_numbers bytes room)
