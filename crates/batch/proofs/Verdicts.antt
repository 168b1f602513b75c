-- The verdict depends on the ends alone, of any two answers that demand 3 holds of, by whichever operation and to whichever batches.
use mathlib.Core.Bool.{Bool, true, false}
use mathlib.Core.List.{List}
use mathlib.Core.Logic.{◌⊎◌, inl, inr}
use mathlib.Core.Path.{◌≡◌, refl, sym, ◌∙◌}
use Prim.Native.Nat.{ℕ, ◌<◌}
use native.Mathlib.Omega.{arith}
use borrow.Author.Tests.{leb-true, leb-false}
use lib.Dec.{leb}
use Rattle.progress.specs.Buffers.{Buffer, source, reconstructed, forward, backward, buffer_number}
use Rattle.batch.specs.Demand.{Reading, length_for, AllEnough, TooShort, NamesLowest, SameLengths, SameVerdict, Demand3}
use Rattle.batch.specs.Reports.{length_of}
use Rattle.batch.specs.declared.Lengths.{Lengths}

-- All buffers are long enough, or one is too short.
some_short : (a : Reading) (l : Lengths) → AllEnough a l ⊎ ((b : Buffer) × TooShort a l b)
some_short a l = by (long source) (long reconstructed) (long forward) (long backward) refl refl refl refl
  where
    long : Buffer → Bool
    long b = leb (length_for b a) (length_of b l)

    not_so : (b : Buffer) → long b ≡ false → AllEnough a l ⊎ ((c : Buffer) × TooShort a l c)
    not_so b h = inr (b, leb-false (length_for b a) (length_of b l) h)

    by : (s r f k : Bool) → long source ≡ s → long reconstructed ≡ r → long forward ≡ f → long backward ≡ k → AllEnough a l ⊎ ((b : Buffer) × TooShort a l b)
    by false r f k es er ef ek = not_so source es
    by true false f k es er ef ek = not_so reconstructed er
    by true true false k es er ef ek = not_so forward ef
    by true true true false es er ef ek = not_so backward ek
    by true true true true es er ef ek = inl all
      where
        all : AllEnough a l
        all source = leb-true _ _ es
        all reconstructed = leb-true _ _ er
        all forward = leb-true _ _ ef
        all backward = leb-true _ _ ek

-- Two that name the lowest buffer that is too short name the same one.
module _ (a c : Reading) (l : Lengths) (same : SameLengths a c) (n : NamesLowest a l) (m : NamesLowest c l) where
  not_before : buffer_number n.named < buffer_number m.named → ⊥
  not_before h = omega (arith, m.lowest n.named h, n.too_short, same n.named)

  not_behind : buffer_number m.named < buffer_number n.named → ⊥
  not_behind h = omega (arith, n.lowest m.named h, m.too_short, same m.named)

  same_place : a.place ≡ c.place
  same_place = omega (arith, n.at_place, m.at_place, not_before, not_behind)

-- Document 02, R-8: "The verdict still depends on the end alone." Under the same lengths two answers with the same reported lengths have the
-- same verdict, short lent room apart.
pub ends_decide : {A B : Type 0} (read : A → Reading) (seen : B → Reading) (ws vs : List ℕ) (Room Space : Type 0) (Answers : Lengths → A → Type 0) (Gives : Lengths → B → Type 0)
    → Demand3 read ws Room Answers → Demand3 seen vs Space Gives → Room → Space
    → (l : Lengths) (r : A) (q : B) → Answers l r → Gives l q → SameLengths (read r) (seen q) → SameVerdict (read r) (seen q)
ends_decide read seen ws vs Room Space Answers Gives d e room space l r q a g same = by (some_short (read r) l)
  where
    by : AllEnough (read r) l ⊎ ((b : Buffer) × TooShort (read r) l b) → SameVerdict (read r) (seen q)
    by (inl enough) =
        let here = d.passes l r a room enough in
        let there = e.passes l q g space (λ b. omega (arith, enough b, same b)) in
        (here ∙ sym there, inl here)
    by (inr (b, short)) =
        let n = d.lowest_named l r a b short in
        let m = e.lowest_named l q g b (omega (arith, short, same b)) in
        (n.is_13 ∙ sym m.is_13, inr (same_place (read r) (seen q) l same n m))
