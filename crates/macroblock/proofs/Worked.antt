-- The papers' own numbers, computed from the definitions.
use mathlib.Core.Path.{◌≡◌, refl}
use mathlib.Core.Bool.{true}
use mathlib.Core.List.{map}
use Rattle.answers.specs.Examples.{found, due, all_shown}
use Rattle.headers.specs.Examples.{read_by, said}
use Rattle.prediction.specs.Vectors.{vector_of, word_of}
use Rattle.macroblock.specs.Cases.{motion_of, case_of, vector_words}
use Rattle.macroblock.specs.Examples.{intra_command, macroblock_readings, word1_examples, skip_examples, word3_examples, word4_examples, vector_examples, dct_examples, field_allowed, field_refused, choices_allowed, choices_refused, field_vector_examples, command_examples}
use Rattle.macroblock.specs.Macroblocks.{macroblock_of, words_of}
use Rattle.macroblock.specs.Rules.{kept_by, alone, field_rules, vector_rules, command_rules}

-- what the words say, and the words again, every vector in each of its places
macroblock_fields : read_by macroblock_of macroblock_readings ≡ said macroblock_readings
unfolding macroblock_readings macroblock_of case_of vector_of
macroblock_fields = refl

written : map (λ x. words_of x.says) macroblock_readings ≡ map (λ x. x.words) macroblock_readings
unfolding macroblock_readings words_of motion_of vector_words word_of
written = refl

-- each example breaks the rules that it says and no other, and every rule is shown
command_rules_lem : (found (λ x. command_rules x.0 x.1) command_examples ≡ due command_examples) × (all_shown command_examples (command_rules alone intra_command) ≡ true)
unfolding command_examples macroblock_readings word1_examples skip_examples word3_examples word4_examples vector_examples
    dct_examples field_allowed field_refused choices_allowed choices_refused field_vector_examples
    command_rules field_rules vector_rules kept_by macroblock_of case_of motion_of vector_words
command_rules_lem = (refl, refl)
