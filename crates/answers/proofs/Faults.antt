-- Two refusals that are one have one number and one place.
use mathlib.Core.Path.{◌≡◌, ap}
use Prim.Native.Nat.{ℕ}
use Rattle.std.specs.Prelude.{Result, Ok, Err}
use Rattle.answers.specs.declared.Fault.{Fault}

abbrev number_in : {A : Type 0} → Result A Fault → ℕ
number_in (Ok x) = 0
number_in (Err f) = f.number

abbrev place_in : {A : Type 0} → Result A Fault → ℕ
place_in (Ok x) = 0
place_in (Err f) = f.place

pub same_number : {A : Type 0} {f g : Fault} → ◌≡◌ {A = Result A Fault} (Err f) (Err g) → f.number ≡ g.number
same_number e = ap number_in e

pub same_place : {A : Type 0} {f g : Fault} → ◌≡◌ {A = Result A Fault} (Err f) (Err g) → f.place ≡ g.place
same_place e = ap place_in e
