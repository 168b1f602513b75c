-- What asking finds: the boat's newest sheet not above the edition, and 19 exactly where the boat has no sheet or 0 is asked.
use mathlib.Core.Path.{◌≡◌, refl, sym, ap, subst, ◌∙◌}
use mathlib.Core.Bool.{Bool, true, false, cond, ◌&&◌}
use mathlib.Core.List.{List}
use mathlib.Core.Logic.{◌⊎◌, inl, inr}
use Prim.Native.Nat.{ℕ, zero, suc, ◌+◌, ◌^◌, ◌≤◌, ◌<◌}
use native.Mathlib.Omega.{arith}
use borrow.Author.Tests.{leb-true, eqb-true, eqb-false, le-leb, eq-eqb}
use lib.Dec.{eqb, leb}
use Rattle.std.specs.Prelude.{Ok, Err, Some, None}
use Rattle.answers.specs.Answers.{Accepted, fault_at, Answer}
use Rattle.lists.proofs.Booleans.{no, and_left, and_right, both_true}
use Rattle.mounts.specs.Claims.{NewestNotAbove, NoSheet, AskRefusal}
use Rattle.mounts.specs.Editions.{newest, edition_of, next_edition, highest_edition, Newest}
use Rattle.mounts.specs.Mounts.{good_at, first_bad, stored_fault, found_or_none, unless_fault, asked, Asked}
use Rattle.mounts.specs.Sheets.{sheet_at, sheets_in}
use Rattle.mounts.specs.declared.Sheet.{Sheet}
use Rattle.mounts.proofs.AddLaws.{stored_sound, fault_place}
use Rattle.mounts.proofs.EditionLaws.{newest_next, newest_none, none_between}
use Rattle.mounts.proofs.StoredLaws.{good_before, good_each}
use Rattle.mounts.proofs.Rising.{kept_rises, newest_below, good_edition, good_both}

-- whether record j is the boat's and not above the edition
abbrev takes : List ℕ → ℕ → ℕ → ℕ → Bool
takes bytes boat edition j = eqb (sheet_at bytes j).boat boat && leb (sheet_at bytes j).edition edition

abbrev sheet_or : Sheet → Newest → Sheet
sheet_or d (Some t) = t
sheet_or d None = d

abbrev some : Newest → Bool
some (Some t) = true
some None = false

nothing_at : {t : Sheet} → None ≡ Some t → ⊥
nothing_at x = no (sym (ap some (sym x)))

-- Without a sheet of the boat there is no newest.
no_sheet_nothing : (bytes : List ℕ) (boat edition count : ℕ) → NoSheet bytes count boat → newest boat edition (sheets_in count bytes) ≡ None
no_sheet_nothing bytes boat edition count none =
    let e : 0 + count ≡ count = omega arith in
    ap (λ (k : ℕ). newest boat edition (sheets_in k bytes)) (sym e)
    ∙ none_between boat edition bytes 0 count (λ j l b. none j (omega arith))
    ∙ newest_none boat edition

-- A good record's edition is at least 1.
edition_some : (bytes : List ℕ) (k : ℕ) → good_at bytes k ≡ true → 1 ≤ (sheet_at bytes k).edition
unfolding next_edition
edition_some bytes k e = let next = good_edition bytes k e in omega (arith, next)

-- The newest sheet is stored, and taken.
pub record Stands (bytes : List ℕ) (count boat edition : ℕ) (s : Sheet) : Type 0 where
  pub at : ℕ
  pub counted : at < count
  pub stored : sheet_at bytes at ≡ s
  pub taken : takes bytes boat edition at ≡ true

pub newest_stands : (bytes : List ℕ) (boat edition count : ℕ) (s : Sheet) → newest boat edition (sheets_in count bytes) ≡ Some s → Stands bytes count boat edition s
newest_stands bytes boat edition zero s e = absurd (nothing_at (sym (newest_none boat edition) ∙ e))
newest_stands bytes boat edition (suc k) s e =
    by (λ x. newest_stands bytes boat edition k s x) (takes bytes boat edition k) refl (sym (newest_next boat edition (sheets_in k bytes) (sheet_at bytes k)) ∙ e)
  where
    by : (newest boat edition (sheets_in k bytes) ≡ Some s → Stands bytes k boat edition s) → (b : Bool) → takes bytes boat edition k ≡ b
        → cond b (Some (sheet_at bytes k)) (newest boat edition (sheets_in k bytes)) ≡ Some s → Stands bytes (suc k) boat edition s
    by before true t x = record { at = k; counted = omega arith; stored = ap (sheet_or s) x; taken = t }
    by before false t x =
        let b = before x in
        let l = b.counted in
        record { at = b.at; counted = omega arith; stored = b.stored; taken = b.taken }

-- No stored sheet of the boat that is not above the edition has a higher one.
pub none_higher : (bytes : List ℕ) (boat edition count : ℕ) → edition ≤ highest_edition → first_bad count bytes ≡ Accepted
    → (j : ℕ) → j < count → takes bytes boat edition j ≡ true → (sheet_at bytes j).edition ≤ edition_of (newest boat edition (sheets_in count bytes))
none_higher bytes boat edition zero h g j l t = absurd (omega arith)
none_higher bytes boat edition (suc k) h g j l t =
    subst (λ (n : Newest). (sheet_at bytes j).edition ≤ edition_of n) (sym (newest_next boat edition (sheets_in k bytes) (sheet_at bytes k)))
    (by (λ i below taken. none_higher bytes boat edition k h good.0 i below taken) (takes bytes boat edition k) refl (eqb j k) refl)
  where
    good : (first_bad k bytes ≡ Accepted) × (good_at bytes k ≡ true)
    good = good_both bytes k g

    earlier : eqb j k ≡ false → j < k
    earlier u = let other = eqb-false j k u in omega (arith, other)

    by : ((i : ℕ) → i < k → takes bytes boat edition i ≡ true → (sheet_at bytes i).edition ≤ edition_of (newest boat edition (sheets_in k bytes)))
        → (b : Bool) → takes bytes boat edition k ≡ b → (last : Bool) → eqb j k ≡ last
        → (sheet_at bytes j).edition ≤ edition_of (cond b (Some (sheet_at bytes k)) (newest boat edition (sheets_in k bytes)))
    by before true x true u = let same = ap (λ (i : ℕ). (sheet_at bytes i).edition) (eqb-true j k u) in omega (arith, same)
    by before true x false u =
        let here = eqb-true (sheet_at bytes k).boat boat (and_left (eqb (sheet_at bytes k).boat boat) (leb (sheet_at bytes k).edition edition) x) in
        let next = good_edition bytes k good.1 ∙ ap (λ (b : ℕ). next_edition b (sheets_in k bytes)) here in
        let below = newest_below boat edition (sheets_in k bytes) h (kept_rises bytes boat k good.0) in
        let lower = before j (earlier u) t in
        omega (arith, next, below, lower)
    by before false x true u = absurd (no (sym x ∙ ap (takes bytes boat edition) (sym (eqb-true j k u)) ∙ t))
    by before false x false u = before j (earlier u) t

newest_is : (bytes : List ℕ) (boat edition count : ℕ) (s : Sheet) → edition ≤ highest_edition → first_bad count bytes ≡ Accepted
    → newest boat edition (sheets_in count bytes) ≡ Some s → NewestNotAbove bytes count boat edition s
newest_is bytes boat edition count s h g e =
    let f = newest_stands bytes boat edition count s e in
    let t = sheet_at bytes f.at in
    record {
      at = f.at;
      counted = f.counted;
      stored = f.stored;
      of_boat = ap (λ (x : Sheet). x.boat) (sym f.stored) ∙ eqb-true t.boat boat (and_left (eqb t.boat boat) (leb t.edition edition) f.taken);
      not_above =
          subst (λ (x : Sheet). x.edition ≤ edition) f.stored (leb-true t.edition edition (and_right (eqb t.boat boat) (leb t.edition edition) f.taken));
      highest = λ j l b a.
          subst (λ (n : Newest). (sheet_at bytes j).edition ≤ edition_of n) e
          (none_higher bytes boat edition count h g j l (both_true (eq-eqb (sheet_at bytes j).boat boat b) (le-leb (sheet_at bytes j).edition edition a)));
    }

-- Asking finds something exactly where no stored sheet is bad and there is a newest sheet.
abbrev sheet_found : Sheet → Asked → Sheet
sheet_found d (Ok t) = t
sheet_found d (Err f) = d

abbrev is_found : Asked → Bool
is_found (Ok t) = true
is_found (Err f) = false

abbrev refused_by : Asked → ℕ
refused_by (Ok t) = 0
refused_by (Err f) = f.number

abbrev refused_at : Asked → ℕ
refused_at (Ok t) = 0
refused_at (Err f) = f.place

found_at : (n : Newest) (s : Sheet) → found_or_none n ≡ Ok s → n ≡ Some s
found_at (Some t) s e = ap Some (ap (sheet_found s) e)
found_at None s e = absurd (no (ap is_found e))

refused_nothing : (n : Newest) (p : ℕ) → found_or_none n ≡ Err (fault_at 19 p) → n ≡ None
refused_nothing (Some t) p e = absurd (no (sym (ap is_found e)))
refused_nothing None p e = refl

pub asked_found : (bytes : List ℕ) (count boat edition : ℕ) (s : Sheet) → asked bytes count boat edition ≡ Ok s
    → (stored_fault bytes count ≡ Accepted) × (newest boat edition (sheets_in count bytes) ≡ Some s)
unfolding asked
asked_found bytes count boat edition s e = by (stored_fault bytes count) refl e
  where
    by : (f : Answer) → stored_fault bytes count ≡ f → unless_fault f (found_or_none (newest boat edition (sheets_in count bytes))) ≡ Ok s
        → (stored_fault bytes count ≡ Accepted) × (newest boat edition (sheets_in count bytes) ≡ Some s)
    by Accepted f x = (f, found_at (newest boat edition (sheets_in count bytes)) s x)
    by (Err g) f x = absurd (no (ap is_found x))

pub found_asked : (bytes : List ℕ) (count boat edition : ℕ) (s : Sheet) → stored_fault bytes count ≡ Accepted → newest boat edition (sheets_in count bytes) ≡ Some s
    → asked bytes count boat edition ≡ Ok s
unfolding asked
found_asked bytes count boat edition s f e = simp (f, e)

-- What asking gives is the boat's newest sheet not above the edition.
pub found_newest : (bytes : List ℕ) (count boat edition : ℕ) (s : Sheet) → edition < 2 ^ 32 → asked bytes count boat edition ≡ Ok s
    → NewestNotAbove bytes count boat edition s
found_newest bytes count boat edition s h e =
    let f = asked_found bytes count boat edition s e in
    newest_is bytes boat edition count s (omega arith) (stored_sound bytes count f.0).good f.1

-- Where nothing is found and another edition than 0 is asked, no sheet of the boat is stored.
nothing_none : (bytes : List ℕ) (boat edition count : ℕ) → 1 ≤ edition → first_bad count bytes ≡ Accepted → newest boat edition (sheets_in count bytes) ≡ None
    → NoSheet bytes count boat
unfolding next_edition
nothing_none bytes boat edition zero h g e = λ j l b. absurd (omega arith)
nothing_none bytes boat edition (suc k) h g e = by (λ x. nothing_none bytes boat edition k h good.0 x) (takes bytes boat edition k) refl (sym (newest_next boat edition (sheets_in k bytes) (sheet_at bytes k)) ∙ e)
  where
    good : (first_bad k bytes ≡ Accepted) × (good_at bytes k ≡ true)
    good = good_both bytes k g

    -- the boat's first sheet has edition 1
    first : NoSheet bytes k boat → (sheet_at bytes k).boat ≡ boat → (sheet_at bytes k).edition ≡ 1
    first none b =
        good_edition bytes k good.1 ∙ ap (λ (x : ℕ). next_edition x (sheets_in k bytes)) b
        ∙ ap (λ (n : Newest). edition_of n + 1) (no_sheet_nothing bytes boat highest_edition k none)

    by : (newest boat edition (sheets_in k bytes) ≡ None → NoSheet bytes k boat) → (b : Bool) → takes bytes boat edition k ≡ b
        → cond b (Some (sheet_at bytes k)) (newest boat edition (sheets_in k bytes)) ≡ None → NoSheet bytes (suc k) boat
    by before true t x = absurd (nothing_at (sym x))
    by before false t x = λ j l b. last j l b (eqb j k) refl
      where
        last : (j : ℕ) → j < suc k → (sheet_at bytes j).boat ≡ boat → (u : Bool) → eqb j k ≡ u → ⊥
        last j l b false u = let other = eqb-false j k u in before x j (omega (arith, other)) b
        last j l b true u =
            let here = ap (λ (i : ℕ). (sheet_at bytes i).boat) (sym (eqb-true j k u)) ∙ b in
            let one = first (before x) here in
            no (sym t ∙ both_true (eq-eqb (sheet_at bytes k).boat boat here) (le-leb (sheet_at bytes k).edition edition (omega arith)))

-- 19 is given exactly where no stored sheet is bad, and the boat has none or 0 is asked.
pub none_found : (bytes : List ℕ) (count boat edition p : ℕ) → asked bytes count boat edition ≡ Err (fault_at 19 p)
    → (stored_fault bytes count ≡ Accepted) × (NoSheet bytes count boat ⊎ (edition ≡ 0))
unfolding asked
none_found bytes count boat edition p e = by (stored_fault bytes count) refl e
  where
    asked-zero : stored_fault bytes count ≡ Accepted → newest boat edition (sheets_in count bytes) ≡ None → (z : Bool) → eqb edition 0 ≡ z
        → NoSheet bytes count boat ⊎ (edition ≡ 0)
    asked-zero f n true z = inr (eqb-true edition 0 z)
    asked-zero f n false z =
        let other = eqb-false edition 0 z in
        inl (nothing_none bytes boat edition count (omega (arith, other)) (stored_sound bytes count f).good n)

    by : (f : Answer) → stored_fault bytes count ≡ f → unless_fault f (found_or_none (newest boat edition (sheets_in count bytes))) ≡ Err (fault_at 19 p)
        → (stored_fault bytes count ≡ Accepted) × (NoSheet bytes count boat ⊎ (edition ≡ 0))
    by Accepted f x = (f, asked-zero f (refused_nothing (newest boat edition (sheets_in count bytes)) p x) (eqb edition 0) refl)
    by (Err g) f x = let number = ap refused_by x in let only = (fault_place bytes count g.number g.place f).0 in absurd (omega arith)

pub found_none : (bytes : List ℕ) (count boat edition : ℕ) → stored_fault bytes count ≡ Accepted → NoSheet bytes count boat ⊎ (edition ≡ 0)
    → asked bytes count boat edition ≡ Err (fault_at 19 0)
unfolding asked
found_none bytes count boat edition f why = simp (f, nothing why)
  where
    zero-none : edition ≡ 0 → (n : Newest) → newest boat edition (sheets_in count bytes) ≡ n → n ≡ None
    zero-none e None x = refl
    zero-none e (Some t) x =
        let s = newest_stands bytes boat edition count t x in
        let sound = (stored_sound bytes count f).good in
        let good = good_both bytes s.at (good_before bytes (suc s.at) count sound s.counted) in
        let one = edition_some bytes s.at good.1 in
        let u = sheet_at bytes s.at in
        let low = leb-true u.edition edition (and_right (eqb u.boat boat) (leb u.edition edition) s.taken) in
        absurd (omega arith)

    nothing : NoSheet bytes count boat ⊎ (edition ≡ 0) → newest boat edition (sheets_in count bytes) ≡ None
    nothing (inl none) = no_sheet_nothing bytes boat edition count none
    nothing (inr e) = zero-none e (newest boat edition (sheets_in count bytes)) refl

-- The numbers and places of refusals.
pub ask_numbers : (bytes : List ℕ) (count boat edition n p : ℕ) → asked bytes count boat edition ≡ Err (fault_at n p) → AskRefusal count n p
unfolding asked
ask_numbers bytes count boat edition n p e = by (stored_fault bytes count) (newest boat edition (sheets_in count bytes)) refl e
  where
    by : (f : Answer) (m : Newest) → stored_fault bytes count ≡ f → unless_fault f (found_or_none m) ≡ Err (fault_at n p) → AskRefusal count n p
    by (Err g) w f x =
        inl (let o = fault_place bytes count g.number g.place f in (sym (ap refused_by x) ∙ o.0, subst (λ (i : ℕ). i < count) (ap refused_at x) o.1))
    by Accepted (Some t) f x = absurd (no (sym (ap is_found x)))
    by Accepted None f x = inr (sym (ap refused_by x), sym (ap refused_at x))

-- A sheet that is found has one of the two sides.
pub found_side : (bytes : List ℕ) (count boat edition : ℕ) (s : Sheet) → asked bytes count boat edition ≡ Ok s → s.side ≤ 1
unfolding good_at
found_side bytes count boat edition s e =
    let f = asked_found bytes count boat edition s e in
    let n = newest_stands bytes boat edition count s f.1 in
    let g = good_each bytes count (stored_sound bytes count f.0).good n.at n.counted in
    subst (λ (t : Sheet). t.side ≤ 1) n.stored (leb-true (sheet_at bytes n.at).side 1 (and_left (leb (sheet_at bytes n.at).side 1) _ g))
