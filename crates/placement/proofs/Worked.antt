-- Worked examples of the rules of a MACROBLOCK in its picture and of what it changes, computed from the definitions.
use mathlib.Core.Path.{◌≡◌, refl}
use mathlib.Core.Bool.{true}
use mathlib.Core.List.{List, [], map}
use Prim.Native.Nat.{ℕ}
use Rattle.prediction.specs.Vectors.{vector_of, word_of}
use Rattle.prediction.specs.Ranges.{vector_in_range}
use Rattle.prediction.specs.Addresses.{address}
use Rattle.prediction.specs.Extents.{empty_extent, joined}
use Rattle.prediction.specs.Blocks.{block_at, block_extent}
use Rattle.answers.specs.Answers.{Rule}
use Rattle.answers.specs.Examples.{found, due, all_broken, all_shown}
use Rattle.macroblock.specs.Cases.{motion_of, case_of, vector_words}
use Rattle.macroblock.specs.Macroblocks.{macroblock_of}
use Rattle.macroblock.specs.Rules.{kept_by, field_rules, vector_rules, command_rules}
use Rattle.progress.specs.Progress.{fresh}
use Rattle.progress.specs.declared.Progress.{Progress}
use Rattle.placement.specs.Blocks.{forward_of, backward_of, bottom_of, predicted, blocks_of}
use Rattle.placement.specs.Examples.{Change, placed_examples, placed_changes}
use Rattle.placement.specs.Placing.{allowed_in, placed_rules, macroblock_rules}
use Rattle.placement.specs.Progressing.{position_after, stage_after, extents_after, progress_after, macroblock_next}

abbrev table : Progress × List ℕ → List Rule
table x = macroblock_rules x.0 x.1

abbrev placed_table : Progress × List ℕ → List Rule
placed_table x = placed_rules x.0 (blocks_of x.0 (macroblock_of x.1).case) (macroblock_of x.1) x.1

-- Each example breaks the rules that document 01 says and no other, and every rule is shown; of the picture's rules each by itself, as some
-- have number and place in common with one that a command keeps alone.
every_example : (found table placed_examples ≡ due placed_examples)
    × (all_shown placed_examples (macroblock_rules fresh []) ≡ true)
    × (all_broken (found placed_table placed_examples) (placed_table (fresh, [])) ≡ true)
unfolding placed_examples macroblock_rules placed_rules blocks_of predicted forward_of backward_of bottom_of allowed_in fresh
    command_rules field_rules vector_rules kept_by macroblock_of case_of motion_of vector_words
    vector_of word_of vector_in_range block_at block_extent joined empty_extent address
every_example = (refl, refl, refl)

every_change : map (λ (c : Change). macroblock_next c.before c.words) placed_changes ≡ map (λ (c : Change). c.after) placed_changes
unfolding placed_changes macroblock_next progress_after extents_after stage_after position_after blocks_of predicted forward_of backward_of bottom_of
    macroblock_of case_of motion_of vector_of word_of vector_in_range block_at block_extent joined empty_extent address
every_change = refl
