-- The papers' own numbers, computed from the definitions.
use mathlib.Core.Path.{◌≡◌, refl}
use mathlib.Core.Bool.{true, false}
use mathlib.Core.List.{map}
use lib.ListN.{replicate}
use Rattle.prediction.specs.Vectors.{vector_of, word_of}
use Rattle.answers.specs.Examples.{found, due, all_shown}
use Rattle.headers.specs.Examples.{read_by, said}
use Rattle.macroblock.specs.Cases.{motion_of, case_of, vector_words}
use Rattle.macroblock.specs.Macroblocks.{macroblock_of, words_of}
use Rattle.macroblock.specs.Rules.{kept_by, field_rules, vector_rules, command_rules}
use Rattle.records.specs.Alone.{read_fault, read_answer, read_room, record_fault, write_answer, write_room}
use Rattle.records.specs.Examples.{p1_record, record_readings, short_readings, byte_examples, clash_examples, absent_examples, record_examples, read_examples, either_sort, write_examples}
use Rattle.records.specs.Records.{uses_neither, record_of, macroblock_in}
use Rattle.records.specs.RecordRules.{byte_rules, zero_rules, record_rules}

-- each command's record, read into 24 bytes, and each record's command, written into nine words
logged : read_by (λ ws. read_room ws (replicate 24 255)) record_readings ≡ said record_readings
unfolding record_readings read_room read_answer read_fault command_rules field_rules vector_rules kept_by macroblock_of case_of motion_of vector_words vector_of word_of record_of
logged = refl

commands : map (λ x. write_room x.says (replicate 9 255)) record_readings ≡ map (λ x. x.words) record_readings
unfolding record_readings write_room write_answer record_fault record_rules byte_rules zero_rules kept_by macroblock_in words_of case_of motion_of vector_words vector_of word_of
commands = refl

-- the records that have no room for all of a command, and what they give back
shortened_logged : map (λ x. read_room x.command (replicate 24 255)) short_readings ≡ map (λ x. x.bytes) short_readings
unfolding short_readings read_room read_answer read_fault command_rules field_rules vector_rules kept_by macroblock_of case_of motion_of vector_words vector_of word_of record_of
shortened_logged = refl

shortened_back : map (λ x. write_room x.bytes (replicate 9 255)) short_readings ≡ map (λ x. x.back) short_readings
unfolding short_readings write_room write_answer record_fault record_rules byte_rules zero_rules kept_by macroblock_in words_of case_of motion_of vector_words vector_of word_of
shortened_back = refl

-- they are those that use bit 15 or type 04h
uses : (map (λ x. uses_neither x.command) short_readings ≡ map (λ x. false) short_readings) × (map (λ x. uses_neither x.words) record_readings ≡ map (λ x. true) record_readings)
unfolding short_readings record_readings
uses = (refl, refl)

-- each example has the bad bytes that it says and no other, and every rule is shown
record_rules_lem : (found record_rules record_examples ≡ due record_examples) × (all_shown record_examples (record_rules p1_record) ≡ true)
unfolding record_examples record_readings byte_examples clash_examples absent_examples record_rules byte_rules zero_rules macroblock_in kept_by case_of
record_rules_lem = (refl, refl)

-- what is answered to a command and to a record alone
read_answers : map (λ x. read_answer x.given (replicate x.room 0)) read_examples ≡ map (λ x. x.answer) read_examples
unfolding read_examples read_answer read_fault command_rules field_rules vector_rules kept_by macroblock_of case_of motion_of vector_words
read_answers = refl

either_sort_lem : map (λ x. read_answer x.given (replicate x.room 0)) either_sort ≡ map (λ x. x.answer) either_sort
unfolding either_sort read_answer read_fault command_rules field_rules vector_rules kept_by macroblock_of case_of motion_of vector_words
either_sort_lem = refl

write_answers : map (λ x. write_answer x.given (replicate x.room 0)) write_examples ≡ map (λ x. x.answer) write_examples
unfolding write_examples write_answer record_fault record_rules byte_rules zero_rules kept_by macroblock_in case_of
write_answers = refl
