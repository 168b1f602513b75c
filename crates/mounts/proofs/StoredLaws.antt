-- Stored records judged one behind the other.
use mathlib.Core.Path.{◌≡◌, refl, sym, ap, subst, ◌∙◌}
use mathlib.Core.Bool.{Bool, true, false}
use mathlib.Core.List.{List}
use Prim.Native.Nat.{ℕ, zero, suc, ◌≤◌, ◌<◌}
use native.Mathlib.Omega.{arith}
use borrow.Author.Tests.{eqb-true, eqb-false}
use lib.Dec.{eqb}
use Rattle.answers.proofs.Judging.{no_accepted}
use Rattle.answers.specs.Answers.{number_of, place_of, rule, answer_by, unless, Accepted, refused, Answer}
use Rattle.std.specs.Prelude.{Err}
use Rattle.mounts.specs.Claims.{FirstBad}
use Rattle.mounts.specs.Mounts.{good_at, first_bad}

-- The next record, where none before it is bad.
pub next_judged : (bytes : List ℕ) (k : ℕ) (g : Bool) → first_bad k bytes ≡ Accepted → good_at bytes k ≡ g → first_bad (suc k) bytes ≡ answer_by (rule 20 k g)
next_judged bytes k g none e = ap (λ (a : Answer). unless a (rule 20 k (good_at bytes k))) none ∙ ap (λ (b : Bool). answer_by (rule 20 k b)) e

-- A refusal stays, whatever stands behind it; so the first records are good where more are.
pub bad_stays : (bytes : List ℕ) (k n p : ℕ) → first_bad k bytes ≡ refused n p → (count : ℕ) → k ≤ count → first_bad count bytes ≡ refused n p
bad_stays bytes k n p e zero l = let same : k ≡ 0 = omega arith in ap (λ (i : ℕ). first_bad i bytes) (sym same) ∙ e
bad_stays bytes k n p e (suc m) l = by (λ h. bad_stays bytes k n p e m h) (eqb k (suc m)) refl
  where
    by : (k ≤ m → first_bad m bytes ≡ refused n p) → (b : Bool) → eqb k (suc m) ≡ b → first_bad (suc m) bytes ≡ refused n p
    by before true t = ap (λ (i : ℕ). first_bad i bytes) (sym (eqb-true k (suc m) t)) ∙ e
    by before false t =
        let other = eqb-false k (suc m) t in
        ap (λ (a : Answer). unless a (rule 20 m (good_at bytes m))) (before (omega (arith, other)))

pub good_before : (bytes : List ℕ) (k count : ℕ) → first_bad count bytes ≡ Accepted → k ≤ count → first_bad k bytes ≡ Accepted
good_before bytes k count e l = by (first_bad k bytes) refl
  where
    by : (a : Answer) → first_bad k bytes ≡ a → a ≡ Accepted
    by Accepted r = refl
    by (Err f) r = absurd (no_accepted (sym (bad_stays bytes k f.number f.place r count l) ∙ e))

-- None of the first records is bad exactly where each is good.
pub good_each : (bytes : List ℕ) (k : ℕ) → first_bad k bytes ≡ Accepted → (j : ℕ) → j < k → good_at bytes j ≡ true
good_each bytes k e j l = by (good_at bytes j) refl
  where
    by : (g : Bool) → good_at bytes j ≡ g → g ≡ true
    by true t = refl
    by false t = absurd (no_accepted (sym (next_judged bytes j false (good_before bytes j k e (omega arith)) t) ∙ good_before bytes (suc j) k e l))

pub all_good : (bytes : List ℕ) (k : ℕ) → ((j : ℕ) → j < k → good_at bytes j ≡ true) → first_bad k bytes ≡ Accepted
all_good bytes zero h = refl
all_good bytes (suc k) h = next_judged bytes k true (all_good bytes k (λ j l. h j (omega arith))) (h k (omega arith))

-- The number is 20, and the record is one of those counted.
pub bad_place : (bytes : List ℕ) (count n p : ℕ) → first_bad count bytes ≡ refused n p → (n ≡ 20) × FirstBad bytes count p
bad_place bytes zero n p e = absurd (no_accepted (sym e))
bad_place bytes (suc k) n p e = by (λ m q x. bad_place bytes k m q x) (first_bad k bytes) (good_at bytes k) refl refl e
  where
    by : ((m q : ℕ) → first_bad k bytes ≡ refused m q → (m ≡ 20) × FirstBad bytes k q)
        → (a : Answer) (g : Bool) → first_bad k bytes ≡ a → good_at bytes k ≡ g → unless a (rule 20 k g) ≡ refused n p → (n ≡ 20) × FirstBad bytes (suc k) p
    by before Accepted true ea eg x = absurd (no_accepted (sym x))
    by before Accepted false ea eg x =
        let number = ap number_of x in
        let here = ap place_of x in
        (sym number, subst (FirstBad bytes (suc k)) here (record { counted = omega arith; good_before = λ j l. good_each bytes k ea j l; bad = eg }))
    by before (Err f) g ea eg x =
        let b = before f.number f.place ea in
        let number = ap number_of x in
        let here = ap place_of x in
        let l = b.1.counted in
        (sym number ∙ b.0, subst (FirstBad bytes (suc k)) here (record { counted = omega arith; good_before = b.1.good_before; bad = b.1.bad }))

-- The first bad record is given, and what is given is the first bad record.
pub first_bad_given : (bytes : List ℕ) (count k : ℕ) → FirstBad bytes count k → first_bad count bytes ≡ refused 20 k
first_bad_given bytes count k b =
    bad_stays bytes (suc k) 20 k (next_judged bytes k false (all_good bytes k b.good_before) b.bad) count b.counted
