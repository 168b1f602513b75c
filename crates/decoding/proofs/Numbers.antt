-- The numbers and places that decoding a batch is answered with.
use mathlib.Core.List.{List}
use mathlib.Core.Path.{refl}
use Prim.Native.Nat.{ℕ}
use lib.Dec.{ltb}
use lib.ListN.{length}
use Rattle.lists.proofs.Booleans.{either}
use Rattle.commands.specs.Commands.{batch_picture}
use Rattle.batch.specs.Numbers.{CheckedBy}
use Rattle.batch.specs.Reports.{report_number, report_place, report, Report}
use Rattle.batch.specs.declared.Lengths.{Lengths}
use Rattle.std.specs.Prelude.{Ok, Err}
use Rattle.answers.specs.Answers.{fault_at}
use Rattle.batch.specs.declared.Refusal.TheVariants.{Short, Broken}
use Rattle.batch.proofs.Numbers.{check_numbers}
use Rattle.decoding.specs.Logs.{log_length, roomed, decoded}
use Rattle.decoding.specs.Numbers.{DecodedBy, checked, short_room}

module _ (words needed : ℕ) (log : List ℕ) where
  abbrev Numbered : Report → Type 0
  Numbered r = DecodedBy words needed (report_number r) (report_place r)

  room_numbers : (r : Report) → CheckedBy words (report_number r) (report_place r) → Numbered (roomed needed log r)
  room_numbers (Ok e) c = either Numbered (ltb (length log) needed) (Err (Short (fault_at 14 needed) e)) (Ok e) (short_room refl refl) (checked c)
  room_numbers (Err (Short f e)) c = checked c
  room_numbers (Err (Broken f)) c = checked c

-- "Decoding needs 24·W·H bytes": 14 has this place.
pub decode_numbers : (l : Lengths) (ws log : List ℕ)
    → DecodedBy (length ws) (log_length (batch_picture ws).grid) (report_number (decoded l ws log)) (report_place (decoded l ws log))
unfolding decoded
decode_numbers l ws log = room_numbers (length ws) (log_length (batch_picture ws).grid) log (report l ws) (check_numbers l ws)
