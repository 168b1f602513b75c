-- Adding: what each refusal and an acceptance come from, and what an acceptance says.
use mathlib.Core.Path.{◌≡◌, refl, sym, ap, subst, ◌∙◌}
use mathlib.Core.Bool.{Bool, true, false, cond}
use mathlib.Core.List.{List, ◌++◌, append_assoc}
use Prim.Native.Nat.{ℕ, suc, ◌+◌, ◌*◌, ◌^◌, ◌≤◌, ◌<◌}
use native.Mathlib.Omega.{arith}
use borrow.Author.Tests.{leb-true, ltb-true, ltb-false, eqb-true, le-leb, lt-leb, le-ltb, lt-ltb, eq-eqb, ne_eqb}
use mathlib.Core.Logic.{inl, inr}
use lib.Dec.{eqb, leb, ltb}
use lib.ListN.{length, take, drop}
use lib.Seq.{sets, sets-eq, drop-drop}
use Rattle.mounts.proofs.SheetLaws.{record_length_lem}
use Rattle.mounts.proofs.StoredLaws.{bad_place}
use Rattle.answers.specs.Answers.{number_of, place_of, rule, unless, Accepted, refused, Answer}
use Rattle.std.specs.Prelude.{Err, Some}
use Rattle.answers.proofs.Judging.{no_accepted, unless_accepted}
use Rattle.mounts.specs.Claims.{AddRefusal}
use Rattle.mounts.specs.Editions.{newest, next_edition, edition_of, highest_edition, Newest}
use Rattle.mounts.specs.Mounts.{stored_fault, first_bad, add_answer, added, bytes_after}
use Rattle.mounts.specs.Sheets.{sheet_record, sheets_in, capacity}
use Rattle.mounts.specs.declared.Sheet.{Sheet}

-- Lent bytes that hold so many records.
pub fits_exactly : (bytes : List ℕ) (count : ℕ) → count ≤ capacity bytes → 16 * count ≤ length bytes
fits_exactly bytes count l = omega arith

-- Stored sheets none of which is bad.
pub stored_judged : (bytes : List ℕ) (count : ℕ) → count ≤ capacity bytes → stored_fault bytes count ≡ first_bad count bytes
unfolding stored_fault
stored_judged bytes count l = simp (le-ltb (capacity bytes) count l)

pub record Sound (bytes : List ℕ) (count : ℕ) : Type 0 where
  pub held : count ≤ capacity bytes
  pub good : first_bad count bytes ≡ Accepted

pub stored_sound : (bytes : List ℕ) (count : ℕ) → stored_fault bytes count ≡ Accepted → Sound bytes count
unfolding stored_fault
stored_sound bytes count e = by (ltb (capacity bytes) count) refl e
  where
    by : (b : Bool) → ltb (capacity bytes) count ≡ b → cond b (refused 20 (capacity bytes)) (first_bad count bytes) ≡ Accepted → Sound bytes count
    by true t r = absurd (no_accepted r)
    by false t r = record { held = ltb-false (capacity bytes) count t; good = r }

pub sound_stored : (bytes : List ℕ) (count : ℕ) → Sound bytes count → stored_fault bytes count ≡ Accepted
sound_stored bytes count s = stored_judged bytes count s.held ∙ s.good

-- What is added: the stored sheets are sound, and the side, the edition and the room are right.
pub record Addable (bytes : List ℕ) (count : ℕ) (s : Sheet) : Type 0 where
  pub sound : Sound bytes count
  pub side : s.side ≤ 1
  pub edition : s.edition ≡ next_edition s.boat (sheets_in count bytes)
  pub room : count < capacity bytes

pub add_addable : (bytes : List ℕ) (count : ℕ) (s : Sheet) → add_answer bytes count s ≡ Accepted → Addable bytes count s
unfolding add_answer
add_addable bytes count s e =
    let next = next_edition s.boat (sheets_in count bytes) in
    let last = unless_accepted _ (rule 14 0 (ltb count (capacity bytes))) e in
    let third = unless_accepted _ (rule 21 0 (eqb s.edition next)) last.0 in
    let second = unless_accepted (stored_fault bytes count) (rule 22 0 (leb s.side 1)) third.0 in
    record {
      sound = stored_sound bytes count second.0;
      side = leb-true s.side 1 second.1;
      edition = eqb-true s.edition next third.1;
      room = ltb-true count (capacity bytes) last.1;
    }

pub addable_added : (bytes : List ℕ) (count : ℕ) (s : Sheet) → Addable bytes count s → add_answer bytes count s ≡ Accepted
unfolding add_answer
addable_added bytes count s a =
    simp (sound_stored bytes count a.sound, le-leb s.side 1 a.side, eq-eqb s.edition (next_edition s.boat (sheets_in count bytes)) a.edition, lt-ltb count (capacity bytes) a.room)

-- Each refusal in its turn.
module _ (bytes : List ℕ) (count : ℕ) (s : Sheet) where
  pub first_refused : (n p : ℕ) → stored_fault bytes count ≡ refused n p → add_answer bytes count s ≡ refused n p
  unfolding add_answer
  first_refused n p e = simp e

  pub side_refused : stored_fault bytes count ≡ Accepted → 1 < s.side → add_answer bytes count s ≡ refused 22 0
  unfolding add_answer
  side_refused e h = simp (e, lt-leb s.side 1 h)

  pub edition_refused : stored_fault bytes count ≡ Accepted → s.side ≤ 1 → (s.edition ≡ next_edition s.boat (sheets_in count bytes) → ⊥)
      → add_answer bytes count s ≡ refused 21 0
  unfolding add_answer
  edition_refused e h other = simp (e, le-leb s.side 1 h, ne_eqb s.edition (next_edition s.boat (sheets_in count bytes)) other)

  pub room_refused : stored_fault bytes count ≡ Accepted → s.side ≤ 1 → s.edition ≡ next_edition s.boat (sheets_in count bytes) → capacity bytes ≤ count
      → add_answer bytes count s ≡ refused 14 0
  unfolding add_answer
  room_refused e h is full = simp (e, le-leb s.side 1 h, eq-eqb s.edition (next_edition s.boat (sheets_in count bytes)) is, le-ltb count (capacity bytes) full)

-- The next edition, from the boat's newest sheet.
pub next_after : (boat : ℕ) (bytes : List ℕ) (count : ℕ) (m : Newest) (next : ℕ) → m ≡ newest boat highest_edition (sheets_in count bytes) → next ≡ edition_of m + 1
    → next ≡ next_edition boat (sheets_in count bytes)
unfolding next_edition
next_after boat bytes count m next em en = en ∙ ap (λ (x : Newest). edition_of x + 1) em

-- What is answered and left: where a rule is broken, and where the record was put behind the last.
pub add_refused : (bytes : List ℕ) (count : ℕ) (s : Sheet) (a : Answer) (n p : ℕ) → a ≡ add_answer bytes count s → a ≡ refused n p
    → (record { answer = a; count = count } ≡ added bytes count s) × (bytes ≡ bytes_after bytes count s)
unfolding added bytes_after
add_refused bytes count s a n p e r = simp (← e, r) (refl, refl)

pub add_accepted : (bytes : List ℕ) (count : ℕ) (s : Sheet) (part : List ℕ) → add_answer bytes count s ≡ Accepted → part ≡ sheet_record s ++ drop 16 (drop (16 * count) bytes)
    → (record { answer = Accepted; count = count + 1 } ≡ added bytes count s) × (take (16 * count) bytes ++ part ≡ bytes_after bytes count s)
unfolding added bytes_after
add_accepted bytes count s part e w =
    let a = add_addable bytes count s e in
    let one : count + 1 ≡ suc count = omega arith in
    let long = record_length_lem s in
    let fits = fits_exactly bytes (suc count) a.room in
    let there : take (16 * count) bytes ++ part ≡ sets bytes (16 * count) (sheet_record s) =
    ap (λ (z : List ℕ). take (16 * count) bytes ++ z) (w ∙ ap (λ (z : List ℕ). sheet_record s ++ z) (drop-drop 16 (16 * count) bytes ∙ ap (λ (n : ℕ). drop (16 * count + n) bytes) (sym long)))
    ∙ sym (append_assoc (take (16 * count) bytes) (sheet_record s) (drop (16 * count + length (sheet_record s)) bytes))
    ∙ sym (sets-eq (sheet_record s) bytes (16 * count) (omega arith)) in
    simp e (ap (λ (n : ℕ). record { answer = Accepted; count = n }) one, there)

-- "none follows 4294967295": behind the highest edition every 32-bit one is refused.
pub none_follows : (bytes : List ℕ) (count : ℕ) (s t : Sheet) → stored_fault bytes count ≡ Accepted → s.side ≤ 1 → s.edition < 2 ^ 32
    → newest s.boat highest_edition (sheets_in count bytes) ≡ Some t → t.edition ≡ highest_edition → add_answer bytes count s ≡ refused 21 0
none_follows bytes count s t e h fits n highest =
    let next = next_after s.boat bytes count (Some t) (t.edition + 1) (sym n) refl in
    edition_refused bytes count s e h (λ same. absurd (omega (arith, same, next)))

-- The numbers and places of refusals.
pub fault_place : (bytes : List ℕ) (count n p : ℕ) → stored_fault bytes count ≡ refused n p → (n ≡ 20) × (p < count)
unfolding stored_fault
fault_place bytes count n p e = by (ltb (capacity bytes) count) refl e
  where
    by : (b : Bool) → ltb (capacity bytes) count ≡ b → cond b (refused 20 (capacity bytes)) (first_bad count bytes) ≡ refused n p → (n ≡ 20) × (p < count)
    by true t x = (sym (ap number_of x), subst (λ (i : ℕ). i < count) (ap place_of x) (ltb-true (capacity bytes) count t))
    by false t x = let b = bad_place bytes count n p x in (b.0, b.1.counted)

pub add_numbers : (bytes : List ℕ) (count : ℕ) (s : Sheet) (n p : ℕ) → add_answer bytes count s ≡ refused n p → AddRefusal count n p
unfolding add_answer
add_numbers bytes count s n p e =
    by (stored_fault bytes count) (leb s.side 1) (eqb s.edition (next_edition s.boat (sheets_in count bytes))) (ltb count (capacity bytes)) refl e
  where
    at : (m : ℕ) → ◌≡◌ {A = Answer} (refused m 0) (refused n p) → (n ≡ m) × (p ≡ 0)
    at m x = (sym (ap number_of x), sym (ap place_of x))

    by : (f : Answer) (side edition room : Bool) → stored_fault bytes count ≡ f
        → unless (unless (unless f (rule 22 0 side)) (rule 21 0 edition)) (rule 14 0 room) ≡ refused n p → AddRefusal count n p
    by (Err g) side edition room f x =
        inl (let o = fault_place bytes count g.number g.place f in (sym (ap number_of x) ∙ o.0, subst (λ (i : ℕ). i < count) (ap place_of x) o.1))
    by Accepted false edition room f x = let y = at 22 x in inr (inl y.0, y.1)
    by Accepted true false room f x = let y = at 21 x in inr (inr (inl y.0), y.1)
    by Accepted true true false f x = let y = at 14 x in inr (inr (inr y.0), y.1)
    by Accepted true true true f x = absurd (no_accepted (sym x))
