-- Worked examples of each header's table and of what each command changes, computed from the definitions.
use mathlib.Core.Path.{◌≡◌, refl}
use mathlib.Core.Bool.{true}
use mathlib.Core.List.{List, [], map}
use Prim.Native.Nat.{ℕ}
use Rattle.prediction.specs.Vectors.{vector_of, word_of}
use Rattle.prediction.specs.Ranges.{vector_in_range}
use Rattle.prediction.specs.Addresses.{address}
use Rattle.prediction.specs.Extents.{empty_extent, joined}
use Rattle.prediction.specs.Blocks.{block_at, block_extent}
use Rattle.answers.specs.Examples.{found, due, all_shown}
use Rattle.headers.specs.declared.Header.{Header}
use Rattle.headers.specs.declared.Header.TheVariants.{Known, Carried, Unknown}
use Rattle.headers.specs.declared.Opcode.TheVariants.{Noop, End, Surface, Picture, SliceGroup, Macroblock}
use Rattle.macroblock.specs.Cases.{motion_of, case_of, vector_words}
use Rattle.macroblock.specs.Macroblocks.{macroblock_of}
use Rattle.macroblock.specs.Rules.{kept_by, field_rules, vector_rules, command_rules}
use Rattle.picture.specs.Surfaces.{surface_of, surface_rules}
use Rattle.picture.specs.Pictures.{picture_of, picture_rules}
use Rattle.progress.specs.Progress.{fresh}
use Rattle.progress.specs.declared.Progress.{Progress}
use Rattle.placement.specs.Blocks.{forward_of, backward_of, bottom_of, predicted, blocks_of}
use Rattle.placement.specs.Examples.{Judged, Change}
use Rattle.placement.specs.Placing.{allowed_in, placed_rules, macroblock_rules}
use Rattle.placement.specs.Progressing.{position_after, stage_after, extents_after, progress_after, macroblock_next}
use Rattle.sequence.specs.Sequence.{surface_next, picture_next, group_next, end_next}
use Rattle.sequence.specs.Judging.{rules_of, next_of}
use Rattle.sequence.specs.Examples.{noops, surfaces, pictures, groups, macroblocks, carrieds, ends, unknowns, sequence_changes}

-- Under a header each example breaks the rules that document 01 says and no other.
abbrev Worked : Header → List Judged → Type 0
Worked h examples = found (λ (x : Progress × List ℕ). rules_of h x.0 x.1) examples ≡ due examples

-- .. and every rule of its table is shown.
abbrev Shown : Header → List Judged → Type 0
Shown h examples = Worked h examples × (all_shown examples (rules_of h fresh []) ≡ true)

every_noop : Shown (Known Noop 1) noops
unfolding rules_of noops fresh
every_noop = (refl, refl)

every_surface : Shown (Known Surface 6) surfaces
unfolding rules_of surfaces surface_rules surface_of fresh
every_surface = (refl, refl)

every_picture : Shown (Known Picture 13) pictures
unfolding rules_of pictures picture_rules picture_of fresh
every_picture = (refl, refl)

every_group : Shown (Known SliceGroup 8) groups
unfolding rules_of groups fresh
every_group = (refl, refl)

every_carried : Shown (Carried 5) carrieds
unfolding rules_of carrieds fresh
every_carried = (refl, refl)

every_end : Shown (Known End 1) ends
unfolding rules_of ends fresh
every_end = (refl, refl)

every_unknown : Shown Unknown unknowns
unfolding rules_of unknowns fresh
every_unknown = (refl, refl)

-- A MACROBLOCK is judged by its picture's rules (`macroblock_table` of JudgingLaws.antt), whose examples are `placement`'s.
every_macroblock : Worked (Known Macroblock 9) macroblocks
unfolding rules_of macroblocks macroblock_rules placed_rules blocks_of predicted forward_of backward_of bottom_of allowed_in fresh
    command_rules field_rules vector_rules kept_by macroblock_of case_of motion_of vector_words
    vector_of word_of vector_in_range block_at block_extent joined empty_extent address
every_macroblock = refl

every_change : map (λ (c : Header × Change). next_of c.0 c.1.before c.1.words) sequence_changes ≡ map (λ (c : Header × Change). c.1.after) sequence_changes
unfolding sequence_changes next_of surface_next picture_next group_next end_next surface_of picture_of fresh
    macroblock_next progress_after extents_after stage_after position_after blocks_of predicted forward_of backward_of bottom_of
    macroblock_of case_of motion_of vector_of word_of vector_in_range block_at block_extent joined empty_extent address
every_change = refl
