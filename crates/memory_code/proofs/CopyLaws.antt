-- The first words of memory that are replaced one by one.
use mathlib.Core.List.{List}
use mathlib.Core.Path.{◌≡◌, sym, ap, ap₂, ◌∙◌}
use Prim.Native.Nat.{ℕ, ◌+◌, ◌<◌}
use native.Mathlib.Nat.{zero-add}
use native.Mathlib.Numerals.{add-one}
use native.Mathlib.Omega.{arith}
use lib.ListN.{length, get_or, set}
use lib.Seq.{paste, paste-suc}

-- one word more
pub copied_one : (before words : List ℕ) (i : ℕ) (m : List ℕ) (w : ℕ) → i < length before → i < length words → w ≡ get_or words i 0
    → m ≡ paste before 0 words i → set m i w ≡ paste before 0 words (i + 1)
copied_one before words i m w room more is h =
    ap₂ (λ (ws : List ℕ) (x : ℕ). set ws i x) h is
    ∙ ap (λ (j : ℕ). set (paste before 0 words i) j (get_or words i 0)) (sym (zero-add i))
    ∙ paste-suc before 0 words i 0 (omega arith) more
    ∙ ap (paste before 0 words) (sym (add-one i))
