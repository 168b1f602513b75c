-- What is found among stored sheets, where judging them comes first.
use mathlib.Core.Path.{◌≡◌, refl}
use Rattle.std.specs.Prelude.{Ok, Err}
use Rattle.std.specs.Result.{result_and}
use Rattle.answers.specs.Answers.{Answer, Accepted}
use Rattle.answers.specs.declared.Fault.{Fault}

-- A fault is that of the stored sheets; what is found is found where they have none.
pub fault_stored : {T : Type 0} (stored : Answer) (found : T) (f : Fault) → result_and stored (Ok found) ≡ Err f → stored ≡ Err f
fault_stored Accepted found f e = cc
fault_stored (Err g) found f e = cc

pub found_sound : {T : Type 0} (stored : Answer) (found x : T) → result_and stored (Ok found) ≡ Ok x → (stored ≡ Accepted) × (x ≡ found)
found_sound Accepted found x e = (refl, cc)
found_sound (Err g) found x e = cc
