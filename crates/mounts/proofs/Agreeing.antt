-- Bytes that agree in their first records hold the same sheets, and these are judged alike.
use mathlib.Core.Path.{◌≡◌, refl, sym, ap, ap₂, ◌∙◌}
use mathlib.Core.Bool.{Bool}
use mathlib.Core.List.{List, [], ◌∷◌, ◌++◌}
use Prim.Native.Nat.{ℕ, zero, suc, ◌+◌, ◌*◌, ◌≤◌, ◌<◌}
use native.Mathlib.Omega.{arith}
use lib.ListN.{length, take, drop, length-drop, take-append-drop}
use lib.Seq.{length-take-le, take-append-le, drop-append-le}
use Rattle.answers.specs.Answers.{rule, unless, Answer}
use Rattle.mounts.specs.Mounts.{good_after, good_at, first_bad}
use Rattle.mounts.specs.Sheets.{sheet_in, stored, sheets_in}
use Rattle.mounts.specs.declared.Sheet.{Sheet}

-- a part within the first p elements
within : (xs : List ℕ) (p m n : ℕ) → p ≤ length xs → m + n ≤ p → take n (drop m xs) ≡ take n (drop m (take p xs))
within xs p m n h l =
    let size = length-take-le p xs h in
    let left = length-drop m (take p xs) in
    ap (λ (z : List ℕ). take n (drop m z)) (sym (take-append-drop p xs))
    ∙ ap (take n) (drop-append-le m (take p xs) (drop p xs) (omega arith))
    ∙ take-append-le n (drop m (take p xs)) (drop p xs) (omega arith)

-- Two lists of bytes with the same first records.
pub record Agree (xs ys : List ℕ) (count : ℕ) : Type 0 where
  pub in_first : 16 * count ≤ length xs
  pub in_second : 16 * count ≤ length ys
  pub same : take (16 * count) xs ≡ take (16 * count) ys

module _ {xs ys : List ℕ} {count : ℕ} (a : Agree xs ys count) where
  pub same_record : (k : ℕ) → k < count → stored xs k ≡ stored ys k
  same_record k l =
      within xs (16 * count) (16 * k) 16 a.in_first (omega arith)
      ∙ ap (λ (z : List ℕ). take 16 (drop (16 * k) z)) a.same
      ∙ sym (within ys (16 * count) (16 * k) 16 a.in_second (omega arith))

  pub same_sheets : (k : ℕ) → k ≤ count → sheets_in k xs ≡ sheets_in k ys
  same_sheets zero l = refl
  same_sheets (suc k) l = ap₂ (λ (ss : List Sheet) (r : List ℕ). ss ++ sheet_in r ∷ []) (same_sheets k (omega arith)) (same_record k (omega arith))

  same_good : (k : ℕ) → k < count → good_at xs k ≡ good_at ys k
  unfolding good_at
  same_good k l = ap₂ good_after (same_sheets k (omega arith)) (same_record k l)

  pub same_judged : (k : ℕ) → k ≤ count → first_bad k xs ≡ first_bad k ys
  same_judged zero l = refl
  same_judged (suc k) l = ap₂ (λ (f : Answer) (g : Bool). unless f (rule 20 k g)) (same_judged k (omega arith)) (same_good k (omega arith))
