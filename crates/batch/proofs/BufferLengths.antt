-- Demand 3 of the check whole, and of every operation that answers what the check whole answers or 14; first bytes are exact as lengths are.
use mathlib.Core.List.{List}
use mathlib.Core.Logic.{◌⊎◌, inl, inr}
use mathlib.Core.Path.{◌≡◌, refl, sym, ap, subst, ◌∙◌}
use Prim.Native.Nat.{ℕ, zero, suc, ◌+◌, ◌≤◌, ◌<◌}
use native.Mathlib.Nat.{eq-zero-or-pos}
use native.Mathlib.Omega.{arith}
use lib.ListN.{length, get_or}
use Rattle.prediction.specs.Extents.{Exact}
use Rattle.prediction.specs.declared.Extent.{Extent}
use Rattle.progress.specs.Buffers.{Buffer, source, reconstructed, forward, backward, buffer_number, buffers, extent_of}
use Rattle.progress.specs.declared.Progress.{Progress}
use Rattle.std.specs.Prelude.{Ok, Err}
use Rattle.answers.specs.Answers.{fault_at}
use Rattle.batch.specs.declared.Refusal.TheVariants.{Short}
use Rattle.progress.specs.Progress.{Verdict}
use Rattle.batch.specs.Demand.{Reading, reading_of, KeepsOthers, IsLength, IsFirst, length_for, first_for, TooShort, AllEnough, NamesLowest, Demand3, Checked}
use Rattle.batch.specs.Reports.{report_number, report_place, reportable, length_in, first_in, values_of, reported_of, measured, concluding, verdict_of, report, Report}
use Rattle.batch.specs.Touched.{Touched}
use Rattle.batch.specs.declared.Lengths.{Lengths}
use Rattle.batch.specs.declared.Reported.{Reported}
use Rattle.batch.proofs.Exactness.{touched_exact}
use Rattle.batch.proofs.Measuring.{outcome}
use Rattle.batch.proofs.Numbers.{verdict_numbers}
use Rattle.batch.proofs.Runs.{gone_through}
use Rattle.batch.specs.Outcomes.{Outcome, enough, short}

-- A batch that passes keeps every rule.
pub passed_keeps : (r : Report) → report_number r ≡ 0 → KeepsOthers (reading_of r)
passed_keeps r e = record { none_to_12 = λ h i. omega arith; not_27 = λ h. omega arith }

-- A batch that keeps every rule but the one on buffer length has come to its END.
pub kept_verdict : (l : Lengths) (ws : List ℕ) → KeepsOthers (reading_of (report l ws)) → (p : Progress) × (verdict_of ws ≡ Ok p)
unfolding report
kept_verdict l ws k = by (verdict_of ws) refl k
  where
    by : (v : Verdict) → verdict_of ws ≡ v → KeepsOthers (reading_of (concluding l v)) → (p : Progress) × (verdict_of ws ≡ Ok p)
    by (Ok p) e k = (p, e)
    by (Err f) e k = absurd (broken (verdict_numbers ws f.number f.place e))
      where
        broken : ((1 ≤ f.number) × (f.number ≤ 12)) ⊎ (f.number ≡ 27) → ⊥
        broken (inl h) = k.none_to_12 h.0 h.1
        broken (inr h) = k.not_27 h

verdict_measured : (ws : List ℕ) (p : Progress) → verdict_of ws ≡ Ok p → (l : Lengths) → report l ws ≡ measured (reportable p) l
unfolding report
verdict_measured ws p v l = ap (concluding l) v

-- The end of an exact extent is the demand's length, and its first byte is document 02's (R-8).
pub exact_length : {T : ℕ → Type 0} (e : Extent) → Exact T e → IsLength T e.end
exact_length {T} e x = by e.end refl
  where
    by : (n : ℕ) → e.end ≡ n → IsLength T n
    by zero h = inl (λ byte t. absurd (let l = x.below byte t in omega arith), refl)
    by (suc n) h =
        let r = x.reached (omega arith) in
        let top : r.0 ≡ n = omega (arith, r.2) in
        inr (r.0, r.1, (λ other t. let l = x.below other t in omega (arith, r.2)), omega arith)

pub exact_first : {T : ℕ → Type 0} (e : Extent) → Exact T e → IsFirst T e.first
exact_first {T} e x = by (eq-zero-or-pos e.end)
  where
    by : (e.end ≡ 0) ⊎ (0 < e.end) → IsFirst T e.first
    by (inl z) = inl (λ byte t. absurd (let l = x.below byte t in omega arith), x.untouched z)
    by (inr h) = inr (x.begun h, x.from)

-- What an operation makes of the answer to the whole batch: it leaves a refusal by 13 as it is, and may refuse an accepted batch by 14,
-- for want of room.
abbrev pub Accepts : Type 0 → Reported → Report → Type 0
Accepts Room v r = (r ≡ Ok v) ⊎ ((Room → ⊥) × (needed : ℕ) × (r ≡ Err (Short (fault_at 14 needed) v)))

pub record Settles (Room : Type 0) (settle : Report → Report) : Type 0 where
  pub keeps_13 : (place : ℕ) (v : Reported) → settle (Err (Short (fault_at 13 place) v)) ≡ Err (Short (fault_at 13 place) v)
  pub accepts : (v : Reported) → Accepts Room v (settle (Ok v))

-- the check itself
pub settles_nothing : Settles (Unit {0}) (λ r. r)
settles_nothing = record { keeps_13 = λ place v. refl; accepts = λ v. inl refl }

-- where the values stand in the list of what is reported
value_places : (v : Reported) (b : Buffer)
    → (get_or (values_of v) (buffer_number b) 0 ≡ length_in b v) × (get_or (values_of v) (length buffers + buffer_number b) 0 ≡ first_in b v)
value_places v source = (refl, refl)
value_places v reconstructed = (refl, refl)
value_places v forward = (refl, refl)
value_places v backward = (refl, refl)

module _ (ws : List ℕ) (v : Reported) (Room : Type 0) (settle : Report → Report) (settles : Settles Room settle) (l : Lengths) (r : Report) (is : r ≡ settle (measured v l)) where
  -- what is reported
  reports : reported_of r ≡ values_of v
  reports = by (outcome v l)
    where
      room : Accepts Room v (settle (Ok v)) → measured v l ≡ Ok v → reported_of r ≡ values_of v
      room (inl s) m = ap reported_of (is ∙ ap settle m ∙ s)
      room (inr s) m = ap reported_of (is ∙ ap settle m ∙ s.2)

      by : Outcome v l → reported_of r ≡ values_of v
      by (enough all m) = room (settles.accepts v) m
      by (short c s low m) = ap reported_of (is ∙ ap settle m ∙ settles.keeps_13 (buffer_number c) v)

  -- each number of it, whichever value it is
  nth : (k : ℕ) → get_or (reported_of r) k 0 ≡ get_or (values_of v) k 0
  nth k = ap (λ (n : List ℕ). get_or n k 0) reports

  for : (b : Buffer) → length_for b (reading_of r) ≡ length_in b v
  for b = nth (buffer_number b) ∙ (value_places v b).0

  first : (b : Buffer) → first_for b (reading_of r) ≡ first_in b v
  first b = nth (length buffers + buffer_number b) ∙ (value_places v b).1

  -- every buffer is long enough, and nothing else is refused
  all_long : AllEnough (reading_of r) l → r ≡ settle (Ok v)
  all_long h = by (outcome v l)
    where
      by : Outcome v l → r ≡ settle (Ok v)
      by (enough all m) = is ∙ ap settle m
      by (short c s low m) = absurd (let k = h c in let f = for c in omega arith)

  passing : Room → AllEnough (reading_of r) l → report_number r ≡ 0
  passing room h = by (settles.accepts v)
    where
      by : Accepts Room v (settle (Ok v)) → report_number r ≡ 0
      by (inl s) = ap report_number (all_long h ∙ s)
      by (inr s) = absurd (s.0 room)

  only : report_number r ≡ 0 → AllEnough (reading_of r) l
  only passed = by (outcome v l)
    where
      by : Outcome v l → AllEnough (reading_of r) l
      by (enough all m) = λ b. let k = all b in let f = for b in omega arith
      by (short c s low m) = absurd (let n = ap report_number (is ∙ ap settle m ∙ settles.keeps_13 (buffer_number c) v) in omega (arith, n, passed))

  names : (b : Buffer) → TooShort (reading_of r) l b → NamesLowest (reading_of r) l
  names b t = by (outcome v l)
    where
      by : Outcome v l → NamesLowest (reading_of r) l
      by (enough all m) = absurd (let k = all b in let f = for b in omega arith)
      by (short c s low m) =
          let q = is ∙ ap settle m ∙ settles.keeps_13 (buffer_number c) v in
          record {
            is_13 = ap report_number q;
            named = c;
            at_place = ap report_place q;
            too_short = let f = for c in omega arith;
            lowest = λ d h. let k = low d h in let f = for d in omega arith;
          }

-- Demand 3 of an operation that answers so to a batch that keeps every rule but the one on buffer length.
pub demand_by : (ws : List ℕ) (Room : Type 0) (settle : Report → Report) → Settles Room settle → (Answers : Lengths → Report → Type 0)
    → ((l : Lengths) (r : Report) → Answers l r → r ≡ settle (report l ws))
    → (l₀ : Lengths) → KeepsOthers (reading_of (report l₀ ws)) → Demand3 reading_of ws Room Answers
demand_by ws Room settle settles Answers answers l₀ kept =
    record {
      exact = λ l r a b. subst (IsLength (Touched ws b)) (sym (for ws v Room settle settles l r (is l r a) b)) (exact_length (extent_of b v.extents) (exactly b));
      first_exact = λ l r a b. subst (IsFirst (Touched ws b)) (sym (first ws v Room settle settles l r (is l r a) b)) (exact_first (extent_of b v.extents) (exactly b));
      passes = λ l r a. passing ws v Room settle settles l r (is l r a);
      only_then = λ l r a. only ws v Room settle settles l r (is l r a);
      one_less = λ l r a b byte t h passed. absurd (let n = (names ws v Room settle settles l r (is l r a) b (omega (arith, h))).is_13 in omega (arith, n, passed));
      lowest_named = λ l r a. names ws v Room settle settles l r (is l r a);
      same_reported = λ l k r q a c. reports ws v Room settle settles l r (is l r a) ∙ sym (reports ws v Room settle settles k q (is k q c));
      same_answer = λ l k r q a c h i. all_long ws v Room settle settles l r (is l r a) h ∙ sym (all_long ws v Room settle settles k q (is k q c) i);
    }
  where
    ended : (p : Progress) × (verdict_of ws ≡ Ok p)
    ended = kept_verdict l₀ ws kept

    v : Reported
    v = reportable ended.0

    is : (l : Lengths) (r : Report) → Answers l r → r ≡ settle (measured v l)
    is l r a = answers l r a ∙ ap settle (verdict_measured ws ended.0 ended.1 l)

    exactly : (b : Buffer) → Exact (Touched ws b) (extent_of b v.extents)
    exactly b = let w = gone_through ws ended.0 ended.1 in touched_exact b ws w.0 ended.0 w.1 w.2

-- Demand 3 of what is made of each answer, where it is read as the answer is.
pub demand_through : {A B : Type 0} (read : A → Reading) (seen : B → Reading) (made : A → B) → ((a : A) → seen (made a) ≡ read a)
    → (ws : List ℕ) (Room : Type 0) (Answers : Lengths → A → Type 0) (Gives : Lengths → B → Type 0)
    → ((l : Lengths) (b : B) → Gives l b → (a : A) × Answers l a × (b ≡ made a))
    → Demand3 read ws Room Answers → Demand3 seen ws Room Gives
demand_through {A = A} {B = B} read seen made alike ws Room Answers Gives from d =
    record {
      exact = λ l r g b. subst (λ (x : Reading). IsLength (Touched ws b) (length_for b x)) (sym (same l r g)) (d.exact l (by l r g) (answers l r g) b);
      first_exact = λ l r g b. subst (λ (x : Reading). IsFirst (Touched ws b) (first_for b x)) (sym (same l r g)) (d.first_exact l (by l r g) (answers l r g) b);
      passes = λ l r g room h. ap (λ (x : Reading). x.number) (same l r g) ∙ d.passes l (by l r g) (answers l r g) room (enough-by l r g h);
      only_then = λ l r g e. subst (λ (x : Reading). AllEnough x l) (sym (same l r g)) (d.only_then l (by l r g) (answers l r g) (passed-by l r g e));
      one_less = λ l r g b byte t h e.
          d.one_less l (by l r g) (answers l r g) b byte t (h ∙ ap (length_for b) (same l r g)) (passed-by l r g e);
      lowest_named = λ l r g b t.
          subst (λ (x : Reading). NamesLowest x l) (sym (same l r g)) (d.lowest_named l (by l r g) (answers l r g) b (subst (λ (x : Reading). TooShort x l b) (same l r g) t));
      same_reported = λ l k r q g h.
          ap (λ (x : Reading). x.reported) (same l r g)
          ∙ d.same_reported l k (by l r g) (by k q h) (answers l r g) (answers k q h)
          ∙ sym (ap (λ (x : Reading). x.reported) (same k q h));
      same_answer = λ l k r q g h i j.
          (from l r g).2
          ∙ ap made (d.same_answer l k (by l r g) (by k q h) (answers l r g) (answers k q h) (enough-by l r g i) (enough-by k q h j))
          ∙ sym (from k q h).2;
    }
  where
    by : (l : Lengths) (r : B) → Gives l r → A
    by l r g = (from l r g).0

    answers : (l : Lengths) (r : B) (g : Gives l r) → Answers l (from l r g).0
    answers l r g = (from l r g).1

    same : (l : Lengths) (r : B) (g : Gives l r) → seen r ≡ read (from l r g).0
    same l r g = ap seen (from l r g).2 ∙ alike (from l r g).0

    enough-by : (l : Lengths) (r : B) (g : Gives l r) → AllEnough (seen r) l → AllEnough (read (from l r g).0) l
    enough-by l r g h = subst (λ (x : Reading). AllEnough x l) (same l r g) h

    passed-by : (l : Lengths) (r : B) (g : Gives l r) → (seen r).number ≡ 0 → (read (from l r g).0).number ≡ 0
    passed-by l r g e = sym (ap (λ (x : Reading). x.number) (same l r g)) ∙ e

-- Demand 3 of the check whole: "Take any batch that keeps every rule but the one on buffer length, and any four buffer lengths beside
-- it." That it keeps them is asked under some lengths, and the claims hold under all.
pub demand_whole : (ws : List ℕ) (l₀ : Lengths) → KeepsOthers (reading_of (report l₀ ws)) → Demand3 reading_of ws (Unit {0}) (Checked ws)
demand_whole ws = demand_by ws (Unit {0}) (λ r. r) settles_nothing (Checked ws) (λ l r a. a)
