-- A list is its elements.
use mathlib.Core.Path.{◌≡◌, refl, sym, ap, ◌∙◌}
use mathlib.Core.List.{List, [], ◌∷◌}
use Prim.Native.Nat.{ℕ, zero, suc, ◌≤◌}
use native.Mathlib.Nat.{le_of_suc-le-suc, not-suc-le-zero}
use lib.ListN.{length, get_or, take}
use Rattle.fields.specs.Bytes.{elements}

later : (x : ℕ) (xs : List ℕ) (i k : ℕ) → elements (x ∷ xs) (suc i) k ≡ elements xs i k
later x xs i zero = refl
later x xs i (suc k) = ap (λ (ys : List ℕ). get_or xs i 0 ∷ ys) (later x xs (suc i) k)

all : (xs : List ℕ) → elements xs 0 (length xs) ≡ xs
all [] = refl
all (x ∷ xs) = ap (λ (ys : List ℕ). x ∷ ys) (later x xs 0 (length xs) ∙ all xs)

pub elements_all : (xs : List ℕ) (k : ℕ) → length xs ≡ k → elements xs 0 k ≡ xs
elements_all xs k e = ap (elements xs 0) (sym e) ∙ all xs

pub elements_take : (xs : List ℕ) (k : ℕ) → k ≤ length xs → elements xs 0 k ≡ take k xs
elements_take xs zero h = refl
elements_take [] (suc k) h = absurd (not-suc-le-zero h)
elements_take (x ∷ xs) (suc k) h = ap (λ (ys : List ℕ). x ∷ ys) (later x xs 0 k ∙ elements_take xs k (le_of_suc-le-suc h))
