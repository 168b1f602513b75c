-- Tables of rules: what is judged of one that is in order, of two together, and when nothing is refused.
use mathlib.Core.Path.{◌≡◌, refl, sym, ap, subst, ◌∙◌}
use mathlib.Core.Bool.{Bool, true, false, cond, not, ◌&&◌, ◌||◌}
use mathlib.Core.List.{List, [], ◌∷◌, ◌++◌, foldl}
use Prim.Native.Nat.{ℕ, ◌<◌, ◌≤◌}
use native.Mathlib.Omega.{arith}
use borrow.Author.Tests.{not-false, ltb-true, ltb-false, le-ltb, eqb-true, eqb-false, ne_eqb}
use lib.Dec.{T, eqb, leb, ltb, leb→le}
use Rattle.lists.proofs.Booleans.{no, both, either}
use Rattle.answers.specs.Answers.{Rule, earlier, answer_by, judged, holds_at, unless, before, Accepted, refused, Answer}
use Rattle.std.specs.Prelude.{Err}
use Rattle.answers.specs.Tables.{first_broken, none_before, ascending, Hold, Each, within}

is_before : (m q n p : ℕ) → before m q n p ≡ true → (q ≤ p) × (q ≡ p → m < n)
is_before m q n p e = by (ltb q p) (eqb q p) (ltb m n) refl refl refl e
  where
    by : (a b c : Bool) → ltb q p ≡ a → eqb q p ≡ b → ltb m n ≡ c → (a || (b && c)) ≡ true → (q ≤ p) × (q ≡ p → m < n)
    by true b c ea eb ec e = let l = ltb-true q p ea in (omega arith, λ s. absurd (omega arith))
    by false true true ea eb ec e = let s = eqb-true q p eb in (omega arith, λ s. ltb-true m n ec)
    by false true false ea eb ec e = absurd (no e)
    by false false c ea eb ec e = absurd (no e)

is_not : (m q n p : ℕ) → before m q n p ≡ false → (p ≤ q) × (q ≡ p → n ≤ m)
is_not m q n p e = by (ltb q p) (eqb q p) (ltb m n) refl refl refl e
  where
    by : (a b c : Bool) → ltb q p ≡ a → eqb q p ≡ b → ltb m n ≡ c → (a || (b && c)) ≡ false → (p ≤ q) × (q ≡ p → n ≤ m)
    by true b c ea eb ec e = absurd (no (sym e))
    by false true true ea eb ec e = absurd (no (sym e))
    by false true false ea eb ec e = (ltb-false q p ea, λ s. ltb-false m n ec)
    by false false c ea eb ec e = (ltb-false q p ea, λ s. absurd (eqb-false q p eb s))

-- no three go round
round_up : (m q n p k r : ℕ) → before m q n p ≡ true → before k r m q ≡ true → before k r n p ≡ false → ⊥
round_up m q n p k r e f g =
    let a = is_before m q n p e in
    let b = is_before k r m q f in
    let c = is_not k r n p g in
    let la = a.0 in
    let lb = b.0 in
    let lc = c.0 in
    let ma = a.1 (omega arith) in
    let mb = b.1 (omega arith) in
    let mc = c.1 (omega arith) in
    omega arith

round_down : (m q n p k r : ℕ) → before m q n p ≡ false → before k r m q ≡ false → before k r n p ≡ true → ⊥
round_down m q n p k r e f g =
    let a = is_not m q n p e in
    let b = is_not k r m q f in
    let c = is_before k r n p g in
    let la = a.0 in
    let lb = b.0 in
    let lc = c.0 in
    let ma = a.1 (omega arith) in
    let mb = b.1 (omega arith) in
    let mc = c.1 (omega arith) in
    omega arith

-- a refusal at a later place is not earlier
pub after_place : (m q n p : ℕ) → p < q → before m q n p ≡ false
after_place m q n p h = simp (le-ltb q p (omega arith), ne_eqb q p (λ e. absurd (omega arith)))

-- Judging in one order or another: the earlier of three is taken two at a time.
pub earlier_accepted : (a : Answer) → earlier a Accepted ≡ a
earlier_accepted Accepted = refl
earlier_accepted (Err f) = refl

pub earlier_assoc : (a b c : Answer) → earlier a (earlier b c) ≡ earlier (earlier a b) c
earlier_assoc Accepted b c = refl
earlier_assoc (Err f) Accepted c = refl
earlier_assoc (Err f) (Err g) Accepted = sym (earlier_accepted (earlier (Err f) (Err g)))
earlier_assoc (Err f1) (Err f2) (Err f3) = by (before f2.number f2.place f1.number f1.place) (before f3.number f3.place f2.number f2.place) (before f3.number f3.place f1.number f1.place) refl refl refl
  where
    by : (x y z : Bool) → before f2.number f2.place f1.number f1.place ≡ x → before f3.number f3.place f2.number f2.place ≡ y → before f3.number f3.place f1.number f1.place ≡ z → earlier (Err f1) (cond y (Err f3) (Err f2)) ≡ earlier (cond x (Err f2) (Err f1)) (Err f3)
    by true true true e f g = simp (f, g)
    by true true false e f g = absurd (round_up f2.number f2.place f1.number f1.place f3.number f3.place e f g)
    by true false z e f g = simp (e, f)
    by false true z e f g = refl
    by false false true e f g = absurd (round_down f2.number f2.place f1.number f1.place f3.number f3.place e f g)
    by false false false e f g = simp (e, g)

pub judged_append : (rs ss : List Rule) → judged (rs ++ ss) ≡ earlier (judged rs) (judged ss)
judged_append [] ss = refl
judged_append (r ∷ rs) ss = ap (earlier (answer_by r)) (judged_append rs ss) ∙ earlier_assoc (answer_by r) (judged rs) (judged ss)

-- an answer that is not before n at p
abbrev late : ℕ → ℕ → Answer → Bool
late n p Accepted = true
late n p (Err f) = not (before f.number f.place n p)

late_by : (n p : ℕ) (h : Bool) (a b : Answer) → T (late n p a) → T (late n p b) → T (late n p (cond h a b))
late_by n p true a b s t = s
late_by n p false a b s t = t

late_earlier : (n p : ℕ) (a b : Answer) → T (late n p a) → T (late n p b) → T (late n p (earlier a b))
late_earlier n p Accepted b s t = t
late_earlier n p (Err f) Accepted s t = s
late_earlier n p (Err f) (Err g) s t = late_by n p (before g.number g.place f.number f.place) (Err g) (Err f) t s

late_judged : (n p : ℕ) (rs : List Rule) → T (none_before n p rs) → T (late n p (judged rs))
late_judged n p [] t = tt
late_judged n p (r ∷ rs) t =
    let h = both (not (before r.number r.place n p)) (none_before n p rs) t in
    late_earlier n p (answer_by r) (judged rs) (late_by n p r.holds Accepted (refused r.number r.place) tt h.0) (late_judged n p rs h.1)

stays : (n p : ℕ) (a : Answer) → T (late n p a) → earlier (refused n p) a ≡ refused n p
stays n p Accepted t = refl
stays n p (Err f) t = by (before f.number f.place n p) t
  where
    by : (b : Bool) → T (not b) → cond b (Err f) (refused n p) ≡ refused n p
    by true t = absurd t
    by false t = refl

pub in_order : (rs : List Rule) → T (ascending rs) → judged rs ≡ first_broken rs
in_order [] t = refl
in_order (r ∷ rs) t = by (both (none_before r.number r.place rs) (ascending rs) t) (in_order rs) r.holds
  where
    by : T (none_before r.number r.place rs) × T (ascending rs)
        → (T (ascending rs) → judged rs ≡ first_broken rs)
        → (h : Bool)
        → earlier (cond h Accepted (refused r.number r.place)) (judged rs) ≡ cond h (first_broken rs) (refused r.number r.place)
    by t rest true = rest t.1
    by t rest false = stays r.number r.place (judged rs) (late_judged r.number r.place rs t.0)

-- The rules of a table in order, one behind the other, each unless one before it was broken.
broken_stays : (n p : ℕ) (rs : List Rule) → foldl unless (refused n p) rs ≡ refused n p
broken_stays n p [] = refl
broken_stays n p (r ∷ rs) = broken_stays n p rs

first_of : (rs : List Rule) → foldl unless Accepted rs ≡ first_broken rs
first_of [] = refl
first_of (r ∷ rs) = by (first_of rs) r.holds
  where
    by : foldl unless Accepted rs ≡ first_broken rs → (h : Bool)
        → foldl unless (cond h Accepted (refused r.number r.place)) rs ≡ cond h (first_broken rs) (refused r.number r.place)
    by rest true = rest
    by rest false = broken_stays r.number r.place rs

pub in_turn : (rs : List Rule) → T (ascending rs) → foldl unless Accepted rs ≡ judged rs
in_turn rs t = first_of rs ∙ sym (in_order rs t)

-- The test of the code says whether a rule holds.
pub kept : {t h : Bool} → t ≡ h → not t ≡ false → h ≡ true
kept {t} e f = sym e ∙ not-false t f

abbrev accepted : Answer → Bool
accepted Accepted = true
accepted (Err f) = false

pub no_accepted : {n p : ℕ} → refused n p ≡ Accepted → ⊥
no_accepted e = no (ap accepted e)

-- A rule behind an answer: nothing is refused where neither was.
pub unless_accepted : (a : Answer) (r : Rule) → unless a r ≡ Accepted → (a ≡ Accepted) × (r.holds ≡ true)
unless_accepted Accepted r e = (refl, by r.holds e)
  where
    by : (b : Bool) → cond b Accepted (refused r.number r.place) ≡ Accepted → b ≡ true
    by true x = refl
    by false x = absurd (no_accepted x)
unless_accepted (Err f) r e = absurd (no_accepted e)

pub all_hold : (rs : List Rule) → judged rs ≡ Accepted → Hold rs
all_hold [] e = tt
all_hold (r ∷ rs) e = let h = both-accepted r.holds (judged rs) e in (h.0, all_hold rs h.1)
  where
    not_accepted : (a : Answer) → earlier (refused r.number r.place) a ≡ Accepted → ⊥
    not_accepted Accepted e = no_accepted e
    not_accepted (Err f) e = by (before f.number f.place r.number r.place) e
      where
        by : (b : Bool) → cond b (Err f) (refused r.number r.place) ≡ Accepted → ⊥
        by true e = no_accepted e
        by false e = no_accepted e

    both-accepted : (h : Bool) (a : Answer) → earlier (cond h Accepted (refused r.number r.place)) a ≡ Accepted → (h ≡ true) × (a ≡ Accepted)
    both-accepted true a e = (refl, e)
    both-accepted false a e = absurd (not_accepted a e)

-- A rule of such a table, by its number and place.
held : (n p : ℕ) (rs : List Rule) → Hold rs → holds_at n p rs ≡ true
held n p [] h = refl
held n p (r ∷ rs) h = either (λ b. b ≡ true) (eqb r.number n && eqb r.place p) r.holds (holds_at n p rs) h.0 (held n p rs h.1)

pub rule_kept : (n p : ℕ) (rs : List Rule) → judged rs ≡ Accepted → holds_at n p rs ≡ true
rule_kept n p rs e = held n p rs (all_hold rs e)

pub none_broken : (rs : List Rule) → Hold rs → judged rs ≡ Accepted
none_broken [] h = refl
none_broken (r ∷ rs) h = simp h.0 (none_broken rs h.1)

pub hold_both : (rs ss : List Rule) → Hold rs → Hold ss → Hold (rs ++ ss)
hold_both [] ss h k = k
hold_both (r ∷ rs) ss h k = (h.0, hold_both rs ss h.1 k)

pub hold_each : (rs ss : List Rule) → Hold (rs ++ ss) → Hold rs × Hold ss
hold_each [] ss h = (tt, h)
hold_each (r ∷ rs) ss h = let k = hold_each rs ss h.1 in ((h.0, k.0), k.1)

-- Two tables that refuse nothing together refuse nothing alone.
pub both_accept : (rs ss : List Rule) → judged (rs ++ ss) ≡ Accepted → (judged rs ≡ Accepted) × (judged ss ≡ Accepted)
both_accept rs ss e = let h = hold_each rs ss (all_hold (rs ++ ss) e) in (none_broken rs h.0, none_broken ss h.1)

-- What holds of 'accepted' and of the refusal by each rule of a table holds of what it answers.
by_earlier : (P : Answer → Type 0) (a b : Answer) → P a → P b → P (earlier a b)
by_earlier P Accepted b x y = y
by_earlier P (Err f) Accepted x y = x
by_earlier P (Err f) (Err g) x y = either P (before g.number g.place f.number f.place) (Err g) (Err f) y x

pub judged_by : (P : Answer → Type 0) → P Accepted → (rs : List Rule) → Each P rs → P (judged rs)
judged_by P a [] e = a
judged_by P a (r ∷ rs) e =
    by_earlier P (answer_by r) (judged rs) (either P r.holds Accepted (refused r.number r.place) a e.0) (judged_by P a rs e.1)

abbrev Within : ℕ → ℕ → Answer → Type 0
Within m n Accepted = Unit {0}
Within m n (Err f) = (2 ≤ f.number) × (f.number ≤ m) × (f.place ≤ n)

each_within : (m n : ℕ) (rs : List Rule) → T (within m n rs) → Each (Within m n) rs
each_within m n [] t = tt
each_within m n (r ∷ rs) t =
    let h = both (leb 2 r.number && leb r.number m) (leb r.place n && within m n rs) t in
    let k = both (leb 2 r.number) (leb r.number m) h.0 in
    let p = both (leb r.place n) (within m n rs) h.1 in
    ((leb→le 2 r.number k.0, leb→le r.number m k.1, leb→le r.place n p.0), each_within m n rs p.1)

pub judged_within : (m n : ℕ) (rs : List Rule) {k p : ℕ} → T (within m n rs) → judged rs ≡ refused k p → (2 ≤ k) × (k ≤ m) × (p ≤ n)
judged_within m n rs t e = subst (Within m n) e (judged_by (Within m n) tt rs (each_within m n rs t))

pub within_both : (m n : ℕ) (rs ss : List Rule) → T (within m n rs) → T (within m n ss) → T (within m n (rs ++ ss))
within_both m n [] ss t u = u
within_both m n (r ∷ rs) ss t u =
    let h = both (leb 2 r.number && leb r.number m) (leb r.place n && within m n rs) t in
    let p = both (leb r.place n) (within m n rs) h.1 in
    together (leb 2 r.number && leb r.number m) (leb r.place n && within m n (rs ++ ss)) h.0
    (together (leb r.place n) (within m n (rs ++ ss)) p.0 (within_both m n rs ss p.1 u))
  where
    together : (a b : Bool) → T a → T b → T (a && b)
    together true b t u = u
    together false b t u = absurd t
