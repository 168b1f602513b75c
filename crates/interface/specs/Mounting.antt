-- Mount sheets, as structs of numbers: document 02's numbers and places (R-9), and what the exported functions promise.
-- To be believed: the structs' fields. `found_fields`, `added_fields` and `turned_fields` (proofs/MountLaws.antt) read them in their order.
use Rattle.std.specs.Prelude.{ℕ, ℤ, pos, List, ◌≡◌, Ok, Err}
use Rattle.answers.specs.Answers as answer
use Rattle.mounts.specs.Claims.{Book, Call, lent_with}
use Rattle.mounts.specs.Mounts.{asked, added, bytes_after, Asked}
use Rattle.mounts.specs.Sheets.{sheet}
use Rattle.mounts.specs.Signs.{shift, vector_on, Turned}
use Rattle.mounts.specs.declared.Added.{Added}
use Rattle.interface.specs.declared.Mount.{Mount}
use Rattle.interface.specs.declared.MountShift.{MountShift}
use Rattle.interface.specs.declared.Mounts.{Mounts}

-- What asking, adding and turning answer. Values beside a refusal are zeros, but adding gives the number of sheets as it was.
abbrev pub mount_of : Asked → Mount
mount_of (Ok s) = record { number = 0; place = 0; edition = s.edition; side = s.side }
mount_of (Err f) = record { number = f.number; place = f.place; edition = 0; side = 0 }

abbrev pub mounts_of : Added → Mounts
mounts_of a = record { number = answer.number_of a.answer; place = answer.place_of a.answer; count = a.count }

abbrev pub mount_shift_of : Turned → MountShift
mount_shift_of (Ok v) = record { number = 0; place = 0; x = v.x; y = v.y }
mount_shift_of (Err f) = record { number = f.number; place = f.place; x = pos 0; y = pos 0 }

-- Asking in lent bytes, adding to them, and turning a shift.
abbrev pub MountAsked : List ℕ → ℕ → ℕ → ℕ → Mount → Type 0
MountAsked bytes count boat edition m = m ≡ mount_of (asked bytes count boat edition)

abbrev pub MountAdded : List ℕ → ℕ → ℕ → ℕ → ℕ → Mounts → List ℕ → Type 0
MountAdded before count boat edition side m after =
    (m ≡ mounts_of (added before count (sheet boat edition side))) × (after ≡ bytes_after before count (sheet boat edition side))

abbrev pub MountTurned : ℕ → ℤ → ℤ → MountShift → Type 0
MountTurned side x y m = m ≡ mount_shift_of (vector_on side (shift x y))

-- A call of hromulice_add_mount: the sheets are handed over as they were returned, with any bytes behind them, and it left these bytes and this number.
abbrev pub MountStep : Book → Call → Book → Type 0
MountStep b c r =
    (m : Mounts) × MountAdded (lent_with b c.beyond) b.count c.new.boat c.new.edition c.new.side m r.bytes × (r.count ≡ m.count)

-- What hromulice_ask_mount answers for an edition that the boat has: number 0, and that very edition.
pub record MountHas (b : Book) (boat edition : ℕ) (m : Mount) : Type 0 where
  pub asked : MountAsked b.bytes b.count boat edition m
  pub accepted : m.number ≡ 0
  pub its_own : m.edition ≡ edition
