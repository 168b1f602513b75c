-- How many records reach to the last whose boat's number has a remainder; and a record judged by them.
use mathlib.Core.Path.{◌≡◌, refl, sym, ap, ◌∙◌}
use mathlib.Core.Bool.{Bool, true, false, ◌&&◌}
use mathlib.Core.List.{List}
use Prim.Native.Nat.{ℕ, ◌+◌, ◌-◌, ◌%◌, ◌≤◌, ◌<◌}
use native.Mathlib.Omega.{arith}
use borrow.Author.Tests.{eqb-true, eqb-false}
use lib.Dec.{eqb, leb}
use lib.ListN.{length, get_or, set, replicate, length-set, get_or-replicate}
use lib.Seq.{get_or-set_same, get_or-set_other}
use Rattle.fields.specs.Parts.{value_at}
use Rattle.mounts.specs.Editions.{newest, edition_of, next_edition, Newest}
use Rattle.mounts.specs.Layout.{sheet_filler_part}
use Rattle.mounts.specs.Mounts.{good_at}
use Rattle.mounts.specs.Sheets.{stored, sheet_at, sheets_in}
use Rattle.mounts.specs.declared.Sheet.{Sheet}
use Rattle.mounts.proofs.EditionLaws.{none_between}

-- Of the first k records those from `get_or ends r 0` on have another remainder than r.
pub record Ends (bytes : List ℕ) (k : ℕ) (ends : List ℕ) : Type 0 where
  pub size : length ends ≡ 509
  pub within : (r : ℕ) → r < 509 → get_or ends r 0 ≤ k
  pub none : (r j : ℕ) → r < 509 → get_or ends r 0 ≤ j → j < k → (sheet_at bytes j).boat % 509 ≡ r → ⊥

pub ends_begin : (bytes : List ℕ) → Ends bytes 0 (replicate 509 0)
ends_begin bytes =
    record {
      size = refl;
      within = λ r h. omega (arith, get_or-replicate {A = ℕ} 509 r 0 0 h);
      none = λ r j h l m e. absurd (omega arith);
    }

pub ends_next : (bytes : List ℕ) (k : ℕ) (ends : List ℕ) (boat : ℕ) → boat ≡ (sheet_at bytes k).boat → Ends bytes k ends
    → Ends bytes (k + 1) (set ends (boat % 509) (k + 1))
ends_next bytes k ends boat is e =
    record {
      size = length-set ends (boat % 509) (k + 1) ∙ e.size;
      within = λ r h. within_by r h (eqb r (boat % 509)) refl;
      none = λ r j h l m t. none-by r j h l m t (eqb r (boat % 509)) refl;
    }
  where
    here : (r : ℕ) → r < 509 → r ≡ boat % 509 → get_or (set ends (boat % 509) (k + 1)) r 0 ≡ k + 1
    here r h t =
        ap (λ (i : ℕ). get_or (set ends (boat % 509) (k + 1)) i 0) t
        ∙ get_or-set_same ends (boat % 509) (k + 1) 0 (omega (arith, e.size))

    there : (r : ℕ) → eqb r (boat % 509) ≡ false → get_or (set ends (boat % 509) (k + 1)) r 0 ≡ get_or ends r 0
    there r t = get_or-set_other ends (boat % 509) r (k + 1) 0 (eqb-false r (boat % 509) t)

    within_by : (r : ℕ) → r < 509 → (b : Bool) → eqb r (boat % 509) ≡ b → get_or (set ends (boat % 509) (k + 1)) r 0 ≤ k + 1
    within_by r h true t = omega (arith, here r h (eqb-true r (boat % 509) t))
    within_by r h false t = omega (arith, there r t, e.within r h)

    none-by : (r j : ℕ) → r < 509 → get_or (set ends (boat % 509) (k + 1)) r 0 ≤ j → j < k + 1 → (sheet_at bytes j).boat % 509 ≡ r
        → (b : Bool) → eqb r (boat % 509) ≡ b → ⊥
    none-by r j h l m t true s = absurd (omega (arith, here r h (eqb-true r (boat % 509) s)))
    none-by r j h l m t false s = last (eqb j k) refl
      where
        last : (b : Bool) → eqb j k ≡ b → ⊥
        last true u =
            eqb-false r (boat % 509) s
            (sym t ∙ ap (λ (i : ℕ). (sheet_at bytes i).boat % 509) (eqb-true j k u) ∙ ap (λ (i : ℕ). i % 509) (sym is))
        last false u =
            let other = eqb-false j k u in
            let same = there r s in
            e.none r j h (omega arith) (omega (arith, other)) t

-- A boat's newest sheet is among the records that reach to its remainder's last.
pub ends_newest : (bytes : List ℕ) (k : ℕ) (ends : List ℕ) → Ends bytes k ends → (boat edition : ℕ)
    → newest boat edition (sheets_in (get_or ends (boat % 509) 0) bytes) ≡ newest boat edition (sheets_in k bytes)
ends_newest bytes k ends e boat edition =
    let m = get_or ends (boat % 509) 0 in
    let l = e.within (boat % 509) (omega arith) in
    let whole : m + (k - m) ≡ k = omega arith in
    sym
    (ap (λ (i : ℕ). newest boat edition (sheets_in i bytes)) (sym whole)
    ∙ none_between boat edition bytes m (k - m)
    (λ j from below t. e.none (boat % 509) j (omega arith) from (omega arith) (ap (λ (b : ℕ). b % 509) t)))

-- The test of the code says whether record k is good.
pub good_here : (bytes : List ℕ) (k : ℕ) (ends : List ℕ) (s : Sheet) (filler : Bool) (m : Newest) (next : ℕ) → Ends bytes k ends
    → s ≡ sheet_at bytes k
    → filler ≡ eqb (value_at sheet_filler_part (stored bytes k)) 0
    → m ≡ newest s.boat 4294967295 (sheets_in (get_or ends (s.boat % 509) 0) bytes)
    → next ≡ edition_of m + 1
    → (leb s.side 1 && (filler && eqb s.edition next)) ≡ good_at bytes k
unfolding good_at next_edition
good_here bytes k ends s filler m next e es ef em en =
    let newer = em ∙ ends_newest bytes k ends e s.boat 4294967295 in
    let follows : next ≡ next_edition s.boat (sheets_in k bytes) = en ∙ ap (λ (x : Newest). edition_of x + 1) newer in
    ap (λ (x : Bool). leb s.side 1 && (x && eqb s.edition next)) ef
    ∙ ap (λ (x : ℕ). leb s.side 1 && (eqb (value_at sheet_filler_part (stored bytes k)) 0 && eqb s.edition x)) follows
    ∙ ap (λ (x : Sheet). leb x.side 1 && (eqb (value_at sheet_filler_part (stored bytes k)) 0 && eqb x.edition (next_edition x.boat (sheets_in k bytes)))) es
