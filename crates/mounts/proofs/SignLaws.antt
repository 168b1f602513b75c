-- The sign: on starboard a shift stays as it is, on port x alone is turned, and y is never touched.
use mathlib.Core.Path.{◌≡◌, refl, sym, ap, ap₂, subst, ◌∙◌}
use mathlib.Core.Bool.{Bool, true, false, cond}
use Prim.Native.Nat.{ℕ, zero, suc, ◌≤◌, ◌<◌}
use native.Mathlib.Omega.{arith}
use borrow.Author.Tests.{le-leb, lt-leb, eq-eqb, ne_eqb}
use mathlib.Core.Logic.{◌⊎◌, inl, inr}
use lib.Dec.{eqb, leb}
use Rattle.lists.proofs.Booleans.{no}
use lib.IntN.{ℤ, pos, negsuc, neg_ℤ, neg_ℤ-neg_ℤ, ◌-ℤ◌, +ℤ_idl}
use mir.Syntax.{w16}
use mir.Val.{of_z, SFits}
use Rattle.mounts.specs.Layout.{starboard, port}
use Rattle.mounts.specs.Signs.{shift, on_port, vector_on, Turned}
use Rattle.mounts.specs.declared.Shift.{Shift}
use Rattle.std.specs.Prelude.{Ok, Err}
use Rattle.answers.specs.Answers.{fault_at}

abbrev is_vector : Turned → Bool
is_vector (Ok v) = true
is_vector (Err f) = false

abbrev vector_or : Shift → Turned → Shift
vector_or d (Ok v) = v
vector_or d (Err f) = d

abbrev number_or : Turned → ℕ
number_or (Ok v) = 0
number_or (Err f) = f.number

abbrev place_or : Turned → ℕ
place_or (Ok v) = 0
place_or (Err f) = f.place

-- The sixteen bits of -32768, and of no other number, are 32768.
pub lowest_refused : (x y : ℤ) → SFits w16 x → of_z w16 x ≡ 32768 → on_port x y ≡ Err (fault_at 23 0)
lowest_refused (pos n) y f e = absurd (omega (arith, f.sfits))
lowest_refused (negsuc n) y f e = let is : n ≡ 32767 = omega (arith, f.sfits) in simp (eq-eqb n 32767 is)

other_bits : (n : ℕ) → (of_z w16 (negsuc n) ≡ 32768 → ⊥) → n ≡ 32767 → ⊥
other_bits n h e = h (omega arith)

negated_fits : (x : ℤ) → SFits w16 x → (of_z w16 x ≡ 32768 → ⊥) → SFits w16 (neg_ℤ x)
negated_fits (pos zero) f h = record { sfits = omega arith }
negated_fits (pos (suc n)) f h = record { sfits = omega (arith, f.sfits) }
negated_fits (negsuc n) f h = let other = other_bits n h in record { sfits = omega (arith, f.sfits, other) }

pub turned_fits : (x : ℤ) → SFits w16 x → (of_z w16 x ≡ 32768 → ⊥) → SFits w16 (pos 0 -ℤ x)
turned_fits x f h = subst (SFits w16) (sym (+ℤ_idl (neg_ℤ x))) (negated_fits x f h)

pub turned_port : (x y : ℤ) → SFits w16 x → (of_z w16 x ≡ 32768 → ⊥) → on_port x y ≡ Ok (shift (pos 0 -ℤ x) y)
turned_port (pos n) y f h = ap (λ (z : ℤ). Ok (shift z y)) (sym (+ℤ_idl (neg_ℤ (pos n))))
turned_port (negsuc n) y f h =
    simp (ne_eqb n 32767 (other_bits n h)) (ap (λ (z : ℤ). Ok (shift z y)) (sym (+ℤ_idl (neg_ℤ (negsuc n)))))

-- On starboard a shift is the vector.
pub starboard_keeps : (s : Shift) → vector_on starboard s ≡ Ok s
unfolding vector_on
starboard_keeps s = refl

-- On port x alone is turned.
pub port_turns_x : (s v : Shift) → vector_on port s ≡ Ok v → (v.x ≡ neg_ℤ s.x) × (v.y ≡ s.y)
unfolding vector_on
port_turns_x s v e = by s.x e
  where
    by : (x : ℤ) → on_port x s.y ≡ Ok v → (v.x ≡ neg_ℤ x) × (v.y ≡ s.y)
    by (pos n) t = let w = ap (vector_or v) (sym t) in (ap (λ (u : Shift). u.x) w, ap (λ (u : Shift). u.y) w)
    by (negsuc n) t = held (eqb n 32767) t
      where
        held : (b : Bool) → cond b (Err (fault_at 23 0)) (Ok (shift (neg_ℤ (negsuc n)) s.y)) ≡ Ok v → (v.x ≡ neg_ℤ (negsuc n)) × (v.y ≡ s.y)
        held true u = absurd (no (ap is_vector u))
        held false u = let w = ap (vector_or v) (sym u) in (ap (λ (u : Shift). u.x) w, ap (λ (u : Shift). u.y) w)

-- Twice turned is the shift itself.
pub port_twice : (s v w : Shift) → vector_on port s ≡ Ok v → vector_on port v ≡ Ok w → w ≡ s
port_twice s v w e f =
    let a = port_turns_x s v e in
    let b = port_turns_x v w f in
    ap₂ shift (b.0 ∙ ap neg_ℤ a.0 ∙ neg_ℤ-neg_ℤ s.x) (b.1 ∙ a.1)

-- Whatever the side, y is the y that was measured, and x is x or its negative.
pub y_untouched : (side : ℕ) (s v : Shift) → vector_on side s ≡ Ok v → (v.y ≡ s.y) × ((v.x ≡ s.x) ⊎ (v.x ≡ neg_ℤ s.x))
unfolding vector_on
y_untouched side s v e = by (leb side port) (eqb side starboard) e
  where
    by : (known other : Bool) → cond known (cond other (Ok s) (on_port s.x s.y)) (Err (fault_at 22 0)) ≡ Ok v
        → (v.y ≡ s.y) × ((v.x ≡ s.x) ⊎ (v.x ≡ neg_ℤ s.x))
    by true true t = let w = ap (vector_or v) (sym t) in (ap (λ (u : Shift). u.y) w, inl (ap (λ (u : Shift). u.x) w))
    by true false t = let p = port_turns_x s v t in (p.1, inr p.0)
    by false other t = absurd (no (ap is_vector t))

-- 22 is given exactly for a side above 1, and 23 exactly for x = -32768 on port.
pub side_exactly : (side : ℕ) (s : Shift) → 1 < side → vector_on side s ≡ Err (fault_at 22 0)
unfolding vector_on
side_exactly side s h = simp (lt-leb side 1 h)

pub lowest_exactly : (y : ℤ) → vector_on port (shift (negsuc 32767) y) ≡ Err (fault_at 23 0)
unfolding vector_on
lowest_exactly y = refl

pub others_turned : (side : ℕ) (s : Shift) → side ≤ 1 → (s.x ≡ negsuc 32767 → ⊥) → (v : Shift) × (vector_on side s ≡ Ok v)
unfolding vector_on
others_turned side s h other = by (eqb side 0) s.x refl
  where
    by : (b : Bool) (x : ℤ) → s.x ≡ x → (v : Shift) × (cond (leb side 1) (cond b (Ok s) (on_port s.x s.y)) (Err (fault_at 22 0)) ≡ Ok v)
    by true x e = (s, simp (le-leb side 1 h))
    by false (pos n) e = (shift (neg_ℤ (pos n)) s.y, simp (le-leb side 1 h, e))
    by false (negsuc n) e = (shift (neg_ℤ (negsuc n)) s.y, simp (le-leb side 1 h, e, ne_eqb n 32767 (λ t. other (e ∙ ap negsuc t))))

-- The numbers and places of refusals.
pub turn_numbers : (side : ℕ) (s : Shift) (n p : ℕ) → vector_on side s ≡ Err (fault_at n p) → ((n ≡ 22) ⊎ (n ≡ 23)) × (p ≡ 0)
unfolding vector_on
turn_numbers side s n p e = by (leb side port) (eqb side starboard) s.x e
  where
    at : (m : ℕ) → ◌≡◌ {A = Turned} (Err (fault_at m 0)) (Err (fault_at n p)) → (n ≡ m) × (p ≡ 0)
    at m t = (sym (ap number_or t), sym (ap place_or t))

    by : (known other : Bool) (x : ℤ) → cond known (cond other (Ok s) (on_port x s.y)) (Err (fault_at 22 0)) ≡ Err (fault_at n p) → ((n ≡ 22) ⊎ (n ≡ 23)) × (p ≡ 0)
    by false other x t = let y = at 22 t in (inl y.0, y.1)
    by true true x t = absurd (no (sym (ap is_vector t)))
    by true false (pos m) t = absurd (no (sym (ap is_vector t)))
    by true false (negsuc m) t = held (eqb m 32767) t
      where
        held : (b : Bool) → cond b (Err (fault_at 23 0)) (Ok (shift (neg_ℤ (negsuc m)) s.y)) ≡ Err (fault_at n p) → ((n ≡ 22) ⊎ (n ≡ 23)) × (p ≡ 0)
        held true u = let y = at 23 u in (inr y.0, y.1)
        held false u = absurd (no (sym (ap is_vector u)))
