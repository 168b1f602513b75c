-- Worked examples of asking, adding and turning, all in one statement; and the edition that follows the highest.
use mathlib.Core.Path.{◌≡◌, refl}
use mathlib.Core.List.{[], ◌∷◌}
use Rattle.mounts.specs.Editions.{newest, next_edition}
use Rattle.mounts.specs.Examples.{ask_examples, add_examples, turn_examples, read_sheets, due_sheets, given_answers, due_answers}
use Rattle.mounts.specs.Mounts.{good_at, stored_fault, asked, add_answer, added, bytes_after}
use Rattle.mounts.specs.Sheets.{sheet, sheet_record}
use Rattle.mounts.specs.Signs.{vector_on}

worked : given_answers ≡ due_answers
unfolding given_answers due_answers ask_examples add_examples turn_examples asked added bytes_after add_answer stored_fault good_at next_edition newest sheet_record vector_on
worked = refl

-- one record by itself
sheets_read : read_sheets ≡ due_sheets
unfolding read_sheets due_sheets
sheets_read = refl

-- 32 bits do not hold what follows 4294967295.
after_highest : next_edition 7 (sheet 7 4294967295 0 ∷ []) ≡ 4294967296
unfolding next_edition newest
after_highest = refl
