-- What stands in front of a list that elements were put into, and what is put there.
use mathlib.Core.List.{List, [], ◌++◌, append_assoc}
use mathlib.Core.Logic.{◌⊎◌, inl, inr}
use mathlib.Core.Path.{◌≡◌, refl, sym, ap, ◌∙◌}
use Prim.Native.Nat.{ℕ, ◌+◌, ◌-◌, ◌≤◌, ◌<◌}
use native.Mathlib.Nat.{le_refl, le_of_lt, min-eq_left, min-eq_right, min-le_right}
use native.Mathlib.Omega.{arith}
use lib.ListN.{length, take, drop, length-append, drop_of_length-le}
use lib.Seq.{length-take-le, take_all, take_at, take-append-add, take-append_seam}
use Rattle.std.specs.Prelude.{min}
use Rattle.std.proofs.lemmas.Bool.{cases_lt}
use Rattle.lists.specs.Appending.{appended}

module _ {A : Type 0} (old : List A) (from : ℕ) (items : List A) where
  -- where there is room for all
  pub appended_front : from + length items ≤ length old → take (from + length items) (appended old from items) ≡ take from old ++ items
  appended_front room =
      let first : length (take from old) ≡ from = length-take-le from old (omega arith) in
      let both : length (take from old ++ items) ≡ length (take from old) + length items = length-append (take from old) items in
      let all : take (length old) (take from old ++ items) ≡ take from old ++ items = take_all (length old) (take from old ++ items) (omega arith) in
      ap (λ (x : List A). take (from + length items) (x ++ drop (from + length items) old)) all
      ∙ take_at (take from old ++ items) (drop (from + length items) old) (from + length items) (omega arith)

  -- The elements between are replaced by those for which there is room.
  pub appended_part : (a k : ℕ) → a ≡ min from (length old) → k ≡ min (length items) (length old - a)
      → take a old ++ (take k items ++ drop (a + k) old) ≡ appended old from items
  appended_part a k at count = by (cases_lt from (length old)) (cases_lt (length items) (length old - a))
    where
      by : (from < length old) ⊎ (length old ≤ from) → (length items < length old - a) ⊎ (length old - a ≤ length items)
          → take a old ++ (take k items ++ drop (a + k) old) ≡ appended old from items
      by (inl h) (inl few) =
          let a-is : a ≡ from = at ∙ min-eq_left (le_of_lt h) in
          let k-is : k ≡ length items = count ∙ min-eq_left (le_of_lt few) in
          let first : length (take from old) ≡ from = length-take-le from old (le_of_lt h) in
          let both : length (take from old ++ items) ≡ length (take from old) + length items = length-append (take from old) items in
          rw (a-is, k-is, take_all (length items) items (le_refl (length items)), take_all (length old) (take from old ++ items) (omega arith))
          (sym (append_assoc (take from old) items (drop (from + length items) old)))
      by (inl h) (inr many) =
          let a-is : a ≡ from = at ∙ min-eq_left (le_of_lt h) in
          let k-is : k ≡ length old - from = count ∙ min-eq_right many ∙ ap (λ (x : ℕ). length old - x) a-is in
          let first : length (take from old) ≡ from = length-take-le from old (le_of_lt h) in
          let size : length old ≡ length (take from old) + (length old - from) = omega arith in
          let none : drop (from + (length old - from)) old ≡ [] = drop_of_length-le old (omega arith) in
          let over : drop (from + length items) old ≡ [] = drop_of_length-le old (omega arith) in
          let front : take (length old) (take from old ++ items) ≡ take from old ++ take (length old - from) items =
          ap (λ (n : ℕ). take n (take from old ++ items)) size ∙ take-append-add (take from old) items (length old - from) in
          rw (a-is, k-is, none, over, front) (sym (append_assoc (take from old) (take (length old - from) items) []))
      by (inr h) many =
          let a-is : a ≡ length old = at ∙ min-eq_right h in
          let k-is : k ≡ 0 = omega (arith, count, min-le_right (length items) (length old - a)) in
          let none : drop (length old + 0) old ≡ [] = drop_of_length-le old (omega arith) in
          let over : drop (from + length items) old ≡ [] = drop_of_length-le old (omega arith) in
          rw (a-is, k-is, none, over, take_all (length old) old (le_refl (length old)), take_all from old h, take-append_seam old items) refl
