-- The empty extent is exact for nothing, and the join of two exact extents for what either is exact for. Laws of joins hold for all
-- extents, also for those that touch nothing and yet name a first byte.
use mathlib.Core.Path.{◌≡◌, refl, sym, ap, ap₂, subst, ◌∙◌}
use mathlib.Core.Bool.{Bool, cond}
use mathlib.Core.Logic.{◌⊎◌, inl, inr}
use Prim.Native.Nat.{ℕ, ◌+◌, ◌≤◌, ◌<◌, min, max}
use native.Mathlib.Nat.{le_antisymm, eq-zero-or-pos}
use native.Mathlib.Omega.{arith}
use borrow.Author.Tests.{eq-eqb, ne_eqb}
use lib.Dec.{eqb}
use Rattle.prediction.specs.Extents.{empty_extent, joined, Exact}
use Rattle.prediction.specs.declared.Extent.{Extent}
use Rattle.prediction.proofs.Integers.{split}

abbrev pub between : ℕ → ℕ → Extent
between a b = record { first = a; end = b }

-- ---- a join by what its parts touch
module _ (a b : Extent) where
  abbrev by_tests : Bool → Bool → Extent
  by_tests none_right none_left = cond none_right a (cond none_left b (between (min a.first b.first) (max a.end b.end)))

  pub join_right : b.end ≡ 0 → joined a b ≡ a
  unfolding joined
  join_right e = ap (λ (t : Bool). by_tests t (eqb a.end 0)) (eq-eqb b.end 0 e)

  pub join_left : 0 < b.end → a.end ≡ 0 → joined a b ≡ b
  unfolding joined
  join_left h e = ap₂ by_tests (ne_eqb b.end 0 (λ z. omega arith)) (eq-eqb a.end 0 e)

  pub join_both : 0 < a.end → 0 < b.end → joined a b ≡ between (min a.first b.first) (max a.end b.end)
  unfolding joined
  join_both h k = ap₂ by_tests (ne_eqb b.end 0 (λ z. omega arith)) (ne_eqb a.end 0 (λ z. omega arith))

  -- The end of a join does not ask what is touched.
  pub join_end : (joined a b).end ≡ max a.end b.end
  join_end = by (eq-zero-or-pos b.end) (eq-zero-or-pos a.end)
    where
      by : (b.end ≡ 0) ⊎ (0 < b.end) → (a.end ≡ 0) ⊎ (0 < a.end) → (joined a b).end ≡ max a.end b.end
      by (inl z) t = ap (λ (x : Extent). x.end) (join_right z) ∙ omega arith
      by (inr k) (inl z) = ap (λ (x : Extent). x.end) (join_left k z) ∙ omega arith
      by (inr k) (inr h) = ap (λ (x : Extent). x.end) (join_both h k)

  -- What touches nothing after a join has not been changed by it.
  pub join_nothing : (joined a b).end ≡ 0 → joined a b ≡ a
  join_nothing z = join_right (omega (arith, join_end))

  -- A first byte that is no higher stays.
  pub join_first : 0 < a.end → a.first ≤ b.first → (joined a b).first ≡ a.first
  join_first h l = by (eq-zero-or-pos b.end)
    where
      by : (b.end ≡ 0) ⊎ (0 < b.end) → (joined a b).first ≡ a.first
      by (inl z) = ap (λ (x : Extent). x.first) (join_right z)
      by (inr k) = ap (λ (x : Extent). x.first) (join_both h k) ∙ omega arith

-- ---- what it is exact for
pub empty_exact : Exact (λ (byte : ℕ). ⊥) empty_extent
unfolding empty_extent
empty_exact =
    record {
      below = λ byte h. absurd h;
      reached = λ h. absurd (omega arith);
      from = λ byte h. absurd h;
      begun = λ h. absurd (omega arith);
      untouched = λ e. refl;
    }

pub empty_end : empty_extent.end ≡ 0
unfolding empty_extent
empty_end = refl

-- An extent is exact for whatever touches the same bytes.
pub exact_same : {P Q : ℕ → Type 0} {e : Extent} → ((byte : ℕ) → P byte → Q byte) → ((byte : ℕ) → Q byte → P byte) → Exact P e → Exact Q e
exact_same {P} {Q} {e} f g p =
    record {
      below = λ byte h. p.below byte (g byte h);
      reached = λ h. let r = p.reached h in (r.0, f r.0 r.1, r.2);
      from = λ byte h. p.from byte (g byte h);
      begun = λ h. f e.first (p.begun h);
      untouched = p.untouched;
    }

-- nothing is touched where the end is 0
nothing : {P : ℕ → Type 0} {e : Extent} → Exact P e → e.end ≡ 0 → (byte : ℕ) → P byte → ⊥
nothing p z byte h = omega (arith, p.below byte h)

pub join_exact : {P Q : ℕ → Type 0} {a b : Extent} → Exact P a → Exact Q b → Exact (λ (byte : ℕ). P byte ⊎ Q byte) (joined a b)
join_exact {P} {Q} {a} {b} p q = by (eq-zero-or-pos b.end) (eq-zero-or-pos a.end)
  where
    Either : ℕ → Type 0
    Either byte = P byte ⊎ Q byte

    one : b.end ≡ 0 → (byte : ℕ) → Either byte → P byte
    one z byte (inl h) = h
    one z byte (inr h) = absurd (nothing q z byte h)

    other : a.end ≡ 0 → (byte : ℕ) → Either byte → Q byte
    other z byte (inl h) = absurd (nothing p z byte h)
    other z byte (inr h) = h

    both : 0 < a.end → 0 < b.end → Exact Either (between (min a.first b.first) (max a.end b.end))
    both h k = record { below = under; reached = λ t. top (split a.end b.end); from = over; begun = λ t. low (split a.first b.first); untouched = λ t. absurd (omega arith) }
      where
        under : (byte : ℕ) → Either byte → byte < max a.end b.end
        under byte (inl h) = omega (arith, p.below byte h)
        under byte (inr h) = omega (arith, q.below byte h)

        over : (byte : ℕ) → Either byte → min a.first b.first ≤ byte
        over byte (inl h) = omega (arith, p.from byte h)
        over byte (inr h) = omega (arith, q.from byte h)

        top : (a.end < b.end) ⊎ (b.end ≤ a.end) → (byte : ℕ) × Either byte × (byte + 1 ≡ max a.end b.end)
        top (inl l) = let r = q.reached k in (r.0, inr r.1, omega (arith, r.2))
        top (inr l) = let r = p.reached h in (r.0, inl r.1, omega (arith, r.2))

        low : (a.first < b.first) ⊎ (b.first ≤ a.first) → Either (min a.first b.first)
        low (inl l) = let e : a.first ≡ min a.first b.first = omega arith in inl (subst P e (p.begun h))
        low (inr l) = let e : b.first ≡ min a.first b.first = omega arith in inr (subst Q e (q.begun k))

    by : (b.end ≡ 0) ⊎ (0 < b.end) → (a.end ≡ 0) ⊎ (0 < a.end) → Exact Either (joined a b)
    by (inl z) t = subst (Exact Either) (sym (join_right a b z)) (exact_same (λ byte h. inl h) (one z) p)
    by (inr k) (inl z) = subst (Exact Either) (sym (join_left a b k z)) (exact_same (λ byte h. inr h) (other z) q)
    by (inr k) (inr h) = subst (Exact Either) (sym (join_both a b h k)) (both h k)

-- One set of touched bytes has one exact extent.
pub exact_once : {P : ℕ → Type 0} {e f : Extent} → Exact P e → Exact P f → e ≡ f
exact_once {P} {e} {f} p q = ap₂ between (firsts (eq-zero-or-pos e.end) (eq-zero-or-pos f.end)) (le_antisymm (up p q) (up q p))
  where
    up : {a b : Extent} → Exact P a → Exact P b → a.end ≤ b.end
    up {a} {b} h k = by (split b.end a.end)
      where
        by : (b.end < a.end) ⊎ (a.end ≤ b.end) → a.end ≤ b.end
        by (inl l) = let r = h.reached (omega arith) in omega (arith, k.below r.0 r.1, r.2)
        by (inr l) = l

    firsts : (e.end ≡ 0) ⊎ (0 < e.end) → (f.end ≡ 0) ⊎ (0 < f.end) → e.first ≡ f.first
    firsts (inl y) (inl z) = p.untouched y ∙ sym (q.untouched z)
    firsts (inl y) (inr k) = absurd (nothing p y f.first (q.begun k))
    firsts (inr h) (inl z) = absurd (nothing q z e.first (p.begun h))
    firsts (inr h) (inr k) = le_antisymm (p.from f.first (q.begun k)) (q.from e.first (p.begun h))

-- ---- joins of joins
-- Joining extents goes in any grouping.
pub join_assoc : (a b c : Extent) → joined (joined a b) c ≡ joined a (joined b c)
join_assoc a b c = by (eq-zero-or-pos c.end) (eq-zero-or-pos b.end) (eq-zero-or-pos a.end)
  where
    by : (c.end ≡ 0) ⊎ (0 < c.end) → (b.end ≡ 0) ⊎ (0 < b.end) → (a.end ≡ 0) ⊎ (0 < a.end) → joined (joined a b) c ≡ joined a (joined b c)
    by (inl z) t u = join_right (joined a b) c z ∙ ap (joined a) (sym (join_right b c z))
    by (inr k) (inl z) u = ap (λ (x : Extent). joined x c) (join_right a b z) ∙ ap (joined a) (sym (join_left b c k z))
    by (inr k) (inr h) (inl z) = ap (λ (x : Extent). joined x c) (join_left a b h z) ∙ sym (join_left a (joined b c) (omega (arith, join_end b c)) z)
    by (inr k) (inr h) (inr l) =
        let first : min (min a.first b.first) c.first ≡ min a.first (min b.first c.first) = omega arith in
        let end : max (max a.end b.end) c.end ≡ max a.end (max b.end c.end) = omega arith in
        ap (λ (x : Extent). joined x c) (join_both a b l h)
        ∙ join_both (between (min a.first b.first) (max a.end b.end)) c (omega arith) k
        ∙ ap₂ between first end
        ∙ sym (join_both a (between (min b.first c.first) (max b.end c.end)) l (omega arith))
        ∙ ap (joined a) (sym (join_both b c h k))

-- No byte adds nothing.
pub join_empty : (a : Extent) → joined a empty_extent ≡ a
unfolding empty_extent
join_empty a = join_right a empty_extent refl
