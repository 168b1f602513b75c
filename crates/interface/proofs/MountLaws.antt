-- Mount sheets through the exported functions: the fields of their answers, and no later adding changes an edition that a boat has.
use mathlib.Core.List.{List}
use mathlib.Core.Path.{◌≡◌, refl, sym, ap, subst, ◌∙◌}
use mathlib.Core.Logic.{◌⊎◌, inl, inr}
use Prim.Native.Nat.{ℕ, ◌^◌, ◌≤◌, ◌<◌}
use native.Mathlib.Omega.{arith}
use lib.IntN.{ℤ, pos, neg_ℤ}
use Rattle.answers.specs.Answers as answer
use Rattle.std.specs.Prelude.{Ok, Err}
use Rattle.answers.specs.Answers.{Accepted, fault_at, Answer}
use Rattle.lists.specs.Calls.{Along}
use Rattle.lists.proofs.Stepping.{along_view}
use Rattle.mounts.specs.Claims.{Book, Call, AddStep, HasEdition, AskRefusal, AddRefusal}
use Rattle.mounts.specs.Mounts.{asked, added, add_answer, Asked}
use Rattle.mounts.specs.Sheets.{sheet}
use Rattle.mounts.specs.Signs.{shift, vector_on, Turned}
use Rattle.mounts.specs.declared.Added.{Added}
use Rattle.mounts.specs.declared.Shift.{Shift}
use Rattle.mounts.specs.declared.Sheet.{Sheet}
use Rattle.mounts.proofs.AddLaws.{add_numbers}
use Rattle.mounts.proofs.SignLaws.{y_untouched, turn_numbers}
use Rattle.mounts.proofs.Finding.{ask_numbers, found_side}
use Rattle.mounts.proofs.Later.{later_adding}
use Rattle.interface.specs.Mounting.{mount_of, mounts_of, mount_shift_of, MountAsked, MountAdded, MountTurned, MountStep, MountHas}
use Rattle.interface.specs.declared.Mount.{Mount}
use Rattle.interface.specs.declared.Mounts.{Mounts}
use Rattle.interface.specs.declared.MountShift.{MountShift}

-- The fields of what is found, of what is added and of what is turned; and those of a refusal.
pub found_fields : (s : Sheet) → mount_of (Ok s) ≡ record { number = 0; place = 0; edition = s.edition; side = s.side }
found_fields s = refl

pub not_found_fields : (n p : ℕ) → mount_of (Err (fault_at n p)) ≡ record { number = n; place = p; edition = 0; side = 0 }
not_found_fields n p = refl

pub added_fields : (a : Added) → mounts_of a ≡ record { number = answer.number_of a.answer; place = answer.place_of a.answer; count = a.count }
added_fields a = refl

pub turned_fields : (v : Shift) → mount_shift_of (Ok v) ≡ record { number = 0; place = 0; x = v.x; y = v.y }
turned_fields v = refl

pub not_turned_fields : (n p : ℕ) → mount_shift_of (Err (fault_at n p)) ≡ record { number = n; place = p; x = pos 0; y = pos 0 }
not_turned_fields n p = refl

-- One exported call is one call.
one_call : (b : Book) (c : Call) (r : Book) → MountStep b c r → AddStep b c r
unfolding added
one_call b c r s = record { bytes = s.1.1; count = s.2 ∙ ap (λ (m : Mounts). m.count) s.1.0 }

-- Number 0 is given for a sheet alone.
has_found : (b : Book) (boat edition : ℕ) (m : Mount) → MountHas b boat edition m → (s : Sheet) × (HasEdition b boat edition s) × (m ≡ mount_of (Ok s))
has_found b boat edition m h = by (asked b.bytes b.count boat edition) refl
  where
    by : (a : Asked) → asked b.bytes b.count boat edition ≡ a → (s : Sheet) × (HasEdition b boat edition s) × (m ≡ mount_of (Ok s))
    by (Ok s) e =
        let is = h.asked ∙ ap mount_of e in
        (s, record { found = e; its_own = sym (ap (λ (x : Mount). x.edition) is) ∙ h.its_own }, is)
    by (Err f) e = absurd (zero (ask_numbers b.bytes b.count boat edition f.number f.place e))
      where
        number : f.number ≡ 0
        number = sym (ap (λ (x : Mount). x.number) (h.asked ∙ ap mount_of e)) ∙ h.accepted

        zero : AskRefusal b.count f.number f.place → ⊥
        zero (inl x) = let y = x.0 in let z = number in absurd (omega arith)
        zero (inr x) = let y = x.0 in let z = number in absurd (omega arith)

-- Document 02's claim, of the exported functions: for every list of later calls of hromulice_add_mount, accepted or refused, what hromulice_ask_mount answers for
-- an edition that the boat already had stays the same.
pub mounts_stay : (b : Book) (calls : List Call) (r : Book) (boat edition : ℕ) (m n : Mount) → edition < 2 ^ 32 → Along MountStep b calls r
    → MountHas b boat edition m → MountAsked r.bytes r.count boat edition n → n ≡ m
mounts_stay b calls r boat edition m n h steps has again =
    let before = has_found b boat edition m has in
    let after = later_adding b calls r boat edition before.0 h (along_view (λ (x : Book). x) MountStep AddStep one_call b calls r steps) before.1 in
    again ∙ ap mount_of after.found ∙ sym before.2

-- The sign, of the exported function: y is the y that was measured, and x is x or its negative.
pub mount_y_untouched : (side : ℕ) (x y : ℤ) (m : MountShift) → MountTurned side x y m → m.number ≡ 0 → (m.y ≡ y) × ((m.x ≡ x) ⊎ (m.x ≡ neg_ℤ x))
mount_y_untouched side x y m e accepted = by (vector_on side (shift x y)) refl
  where
    by : (t : Turned) → vector_on side (shift x y) ≡ t → (m.y ≡ y) × ((m.x ≡ x) ⊎ (m.x ≡ neg_ℤ x))
    by (Ok v) f =
        let is = e ∙ ap mount_shift_of f in
        let w = y_untouched side (shift x y) v f in
        (ap (λ (u : MountShift). u.y) is ∙ w.0, either (ap (λ (u : MountShift). u.x) is) w.1)
      where
        either : m.x ≡ v.x → (v.x ≡ x) ⊎ (v.x ≡ neg_ℤ x) → (m.x ≡ x) ⊎ (m.x ≡ neg_ℤ x)
        either s (inl t) = inl (s ∙ t)
        either s (inr t) = inr (s ∙ t)
    by (Err g) f = absurd (zero (turn_numbers side (shift x y) g.number g.place f).0)
      where
        number : g.number ≡ 0
        number = sym (ap (λ (u : MountShift). u.number) (e ∙ ap mount_shift_of f)) ∙ accepted

        zero : (g.number ≡ 22) ⊎ (g.number ≡ 23) → ⊥
        zero (inl t) = let z = number in absurd (omega arith)
        zero (inr t) = let z = number in absurd (omega arith)

-- What include/hromulice.h says of the numbers that each function gives: hromulice_ask_mount, ..
pub ask_answers : (bytes : List ℕ) (count boat edition : ℕ) (m : Mount) → MountAsked bytes count boat edition m
    → (m.number ≡ 0) ⊎ AskRefusal count m.number m.place
ask_answers bytes count boat edition m e = by (asked bytes count boat edition) refl
  where
    by : (a : Asked) → asked bytes count boat edition ≡ a → (m.number ≡ 0) ⊎ AskRefusal count m.number m.place
    by (Ok s) f = inl (ap (λ (u : Mount). u.number) (e ∙ ap mount_of f))
    by (Err g) f =
        inr (subst (λ (u : Mount). AskRefusal count u.number u.place) (sym (e ∙ ap mount_of f)) (ask_numbers bytes count boat edition g.number g.place f))

-- .. whose side is always 0 or 1, ..
pub ask_side : (bytes : List ℕ) (count boat edition : ℕ) (m : Mount) → MountAsked bytes count boat edition m → m.side ≤ 1
ask_side bytes count boat edition m e = by (asked bytes count boat edition) refl
  where
    by : (a : Asked) → asked bytes count boat edition ≡ a → m.side ≤ 1
    by (Ok s) f = subst (λ (u : Mount). u.side ≤ 1) (sym (e ∙ ap mount_of f)) (found_side bytes count boat edition s f)
    by (Err g) f = subst (λ (u : Mount). u.side ≤ 1) (sym (e ∙ ap mount_of f)) (omega arith)

-- .. hromulice_mount_vector ..
pub turn_answers : (side : ℕ) (x y : ℤ) (m : MountShift) → MountTurned side x y m
    → (m.number ≡ 0) ⊎ (((m.number ≡ 22) ⊎ (m.number ≡ 23)) × (m.place ≡ 0))
turn_answers side x y m e = by (vector_on side (shift x y)) refl
  where
    by : (t : Turned) → vector_on side (shift x y) ≡ t → (m.number ≡ 0) ⊎ (((m.number ≡ 22) ⊎ (m.number ≡ 23)) × (m.place ≡ 0))
    by (Ok v) f = inl (ap (λ (u : MountShift). u.number) (e ∙ ap mount_shift_of f))
    by (Err g) f =
        inr
        (subst (λ (u : MountShift). ((u.number ≡ 22) ⊎ (u.number ≡ 23)) × (u.place ≡ 0)) (sym (e ∙ ap mount_shift_of f)) (turn_numbers side (shift x y) g.number g.place f))

-- .. and hromulice_add_mount.
pub add_answers : (before : List ℕ) (count boat edition side : ℕ) (m : Mounts) (after : List ℕ) → MountAdded before count boat edition side m after
    → (m.number ≡ 0) ⊎ AddRefusal count m.number m.place
unfolding added
add_answers before count boat edition side m after e = by (add_answer before count (sheet boat edition side)) refl
  where
    by : (a : Answer) → add_answer before count (sheet boat edition side) ≡ a → (m.number ≡ 0) ⊎ AddRefusal count m.number m.place
    by Accepted f = inl (ap (λ (u : Mounts). u.number) e.0 ∙ ap answer.number_of f)
    by (Err g) f =
        inr
        (subst (λ (i : ℕ). AddRefusal count i m.place) (sym (ap (λ (u : Mounts). u.number) e.0 ∙ ap answer.number_of f))
        (subst (AddRefusal count g.number) (sym (ap (λ (u : Mounts). u.place) e.0 ∙ ap answer.place_of f)) (add_numbers before count (sheet boat edition side) g.number g.place f)))
