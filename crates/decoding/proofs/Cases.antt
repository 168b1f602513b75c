-- Document 01's cases P1 to P13, and a picture with field prediction: one statement over each list, computed from the definitions.
use mathlib.Core.Path.{◌≡◌, refl}
use mathlib.Core.List.{map, flatten}
use Rattle.prediction.specs.Vectors.{vector_of, word_of}
use Rattle.prediction.specs.Ranges.{vector_in_range}
use Rattle.prediction.specs.Addresses.{address}
use Rattle.prediction.specs.Extents.{empty_extent, joined}
use Rattle.prediction.specs.Blocks.{block_at, block_extent}
use Rattle.headers.specs.Headers.{table, look_up, header_of}
use Rattle.macroblock.specs.Cases.{motion_of, case_of, vector_words}
use Rattle.macroblock.specs.Macroblocks.{macroblock_of}
use Rattle.macroblock.specs.Rules.{kept_by, field_rules, vector_rules, command_rules}
use Rattle.picture.specs.Surfaces.{surface_of, surface_rules}
use Rattle.picture.specs.Pictures.{picture_of, picture_rules}
use Rattle.progress.specs.Progress.{fresh}
use Rattle.placement.specs.Blocks.{forward_of, backward_of, bottom_of, predicted, blocks_of}
use Rattle.placement.specs.Placing.{allowed_in, placed_rules, macroblock_rules}
use Rattle.placement.specs.Progressing.{position_after, stage_after, extents_after, progress_after, macroblock_next}
use Rattle.commands.specs.Commands.{cut, commands_of, macroblocks_in, last_said}
use Rattle.records.specs.Records.{record_of}
use Rattle.sequence.specs.Sequence.{surface_next, picture_next, group_next, end_next}
use Rattle.sequence.specs.Judging.{rules_of, next_of, judge}
use Rattle.batch.specs.Walk.{after, step}
use Rattle.batch.specs.Reports.{buffer_rules, measured, verdict_of, report}
use Rattle.decoding.specs.Cases.{p1, moved, cases, field_moved, field_pictures, answered, expected}
use Rattle.decoding.specs.Logs.{log_of, decoded, decoded_log}

-- To see which number differs, put one case in place of `cases`, as `take 1 (drop 9 cases)` for P10.
every_case : map answered cases ≡ map expected cases
unfolding cases p1 moved
    log_of decoded decoded_log cut commands_of macroblocks_in last_said record_of flatten
    report verdict_of measured buffer_rules step after
    judge rules_of next_of surface_next picture_next group_next end_next
    macroblock_rules placed_rules macroblock_next progress_after extents_after stage_after position_after
    blocks_of predicted forward_of backward_of bottom_of allowed_in fresh
    surface_rules surface_of picture_rules picture_of
    header_of look_up table command_rules field_rules vector_rules kept_by macroblock_of case_of motion_of vector_words
    vector_of vector_in_range block_at block_extent joined empty_extent address
every_case = refl

field_pictures_lem : map answered field_pictures ≡ map expected field_pictures
unfolding field_pictures field_moved
    log_of decoded decoded_log cut commands_of macroblocks_in last_said record_of flatten
    report verdict_of measured buffer_rules step after
    judge rules_of next_of surface_next picture_next group_next end_next
    macroblock_rules placed_rules macroblock_next progress_after extents_after stage_after position_after
    blocks_of predicted forward_of backward_of bottom_of allowed_in fresh
    surface_rules surface_of picture_rules picture_of
    header_of look_up table command_rules field_rules vector_rules kept_by macroblock_of case_of motion_of vector_words
    vector_of word_of vector_in_range block_at block_extent joined empty_extent address
field_pictures_lem = refl
