-- The sign: the vector of a measured shift, by the side of the mount. What is quoted is document 02 (R-9).
-- To be believed: that x alone is turned, and on port alone.
use Rattle.std.specs.Prelude.{ℕ, cond, eqb, leb, ℤ, pos, negsuc, neg_ℤ, Ok, Err, Result}
use Rattle.answers.specs.declared.Fault.{Fault}
use Rattle.mounts.specs.Layout.{starboard, port}
use Rattle.mounts.specs.declared.Shift.{Shift}
use Rattle.answers.specs.Answers.{fault_at}

-- The vector of a measured shift, or why there is none.
abbrev pub Turned : Type 0
Turned = Result Shift Fault

abbrev pub shift : ℤ → ℤ → Shift
shift x y = record { x = x; y = y }

-- "(−x, y) on port"; "x = −32768 on port gives 23": negsuc n is -(n + 1).
abbrev pub on_port : ℤ → ℤ → Turned
on_port (pos n) y = Ok (shift (neg_ℤ (pos n)) y)
on_port (negsuc n) y = cond (eqb n 32767) (Err (fault_at 23 0)) (Ok (shift (neg_ℤ (negsuc n)) y))

-- "A measured shift (x, y) gives vector (x, y) on starboard and (−x, y) on port"; "a side above 1 gives 22 first".
unfoldable pub vector_on : ℕ → Shift → Turned
vector_on side s = cond (leb side port) (cond (eqb side starboard) (Ok s) (on_port s.x s.y)) (Err (fault_at 22 0))
