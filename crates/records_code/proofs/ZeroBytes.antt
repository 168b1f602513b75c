-- The first of some bytes that is not zero.
use mathlib.Core.Path.{◌≡◌, refl, sym, ap, subst, ◌∙◌}
use mathlib.Core.Bool.{Bool, true, false, not, ◌&&◌}
use mathlib.Core.List.{List}
use Prim.Native.Nat.{ℕ, zero, suc, ◌+◌, ◌<◌}
use native.Mathlib.Omega.{arith}
use borrow.Author.Tests.{ne_eqb}
use lib.Dec.{T, eqb}
use lib.ListN.{get_or}
use Rattle.answers.specs.Answers.{Answer, rule, answer_by, judged, earlier, before, Accepted, refused}
use Rattle.answers.proofs.Judging.{after_place, in_order}
use Rattle.records.specs.RecordRules.{zero_bytes}
use Rattle.answers.specs.Tables.{none_before, ascending}

both : (a b : Bool) → T a → T b → T (a && b)
both true b s t = t
both false b s t = s

not_before : (b : Bool) → b ≡ false → T (not b)
not_before b e = subst (λ (x : Bool). T (not x)) (sym e) tt

later : (bs : List ℕ) (i j k : ℕ) → i < j → T (none_before 15 i (zero_bytes bs j k))
later bs i j zero h = tt
later bs i j (suc k) h =
    both (not (before 15 j 15 i)) (none_before 15 i (zero_bytes bs (suc j) k)) (not_before (before 15 j 15 i) (after_place 15 j 15 i h)) (later bs i (suc j) k (omega arith))

rising : (bs : List ℕ) (i k : ℕ) → T (ascending (zero_bytes bs i k))
rising bs i zero = tt
rising bs i (suc k) =
    both (none_before 15 i (zero_bytes bs (suc i) k)) (ascending (zero_bytes bs (suc i) k)) (later bs i (suc i) k (omega arith)) (rising bs (suc i) k)

-- the two ways of the code's turn, with n bytes left of which m come behind this one
pub zero_stops : (bs : List ℕ) (i n : ℕ) → (n ≡ 0 → ⊥) → (get_or bs i 0 ≡ 0 → ⊥) → refused 15 i ≡ judged (zero_bytes bs i n)
zero_stops bs i zero d h = absurd (d refl)
zero_stops bs i (suc k) d h = sym (in_order (zero_bytes bs i (suc k)) (rising bs i (suc k)) ∙ simp (ne_eqb (get_or bs i 0) 0 h))

pub zero_passes : (bs : List ℕ) (i n m : ℕ) → n ≡ suc m → answer_by (rule 15 i (eqb (get_or bs i 0) 0)) ≡ Accepted
    → judged (zero_bytes bs (i + 1) m) ≡ judged (zero_bytes bs i n)
zero_passes bs i n m e h =
    let up : i + 1 ≡ suc i = omega arith in
    ap (λ (x : ℕ). judged (zero_bytes bs x m)) up
    ∙ sym (ap (λ (x : ℕ). judged (zero_bytes bs i x)) e ∙ ap (λ (x : Answer). earlier x (judged (zero_bytes bs (suc i) m))) h)
