-- The newest sheet of a boat not above an edition: by one sheet more, and by sheets of other boats.
use mathlib.Core.Path.{◌≡◌, refl, sym, ap, ◌∙◌}
use mathlib.Core.Bool.{Bool, true, false, cond, ◌&&◌}
use mathlib.Core.List.{List, [], ◌∷◌, ◌++◌}
use Prim.Native.Nat.{ℕ, zero, suc, ◌+◌, ◌≤◌, ◌<◌}
use native.Mathlib.Omega.{arith}
use borrow.Author.Tests.{ne_eqb}
use lib.Dec.{eqb, leb}
use Rattle.mounts.specs.Editions.{those, of_boat, not_above, latest, newest, Newest}
use Rattle.mounts.specs.Sheets.{sheet_at, sheets_in}
use Rattle.std.specs.Prelude.{Some, None}
use Rattle.mounts.specs.declared.Sheet.{Sheet}

-- The sheets that a test takes of two lists, one behind the other.
pub those_both : (test : Sheet → Bool) (ss ts : List Sheet) → those test (ss ++ ts) ≡ those test ss ++ those test ts
those_both test [] ts = refl
those_both test (s ∷ ss) ts = by (test s) (those_both test ss ts)
  where
    by : (b : Bool) → those test (ss ++ ts) ≡ those test ss ++ those test ts
        → cond b (s ∷ those test (ss ++ ts)) (those test (ss ++ ts)) ≡ cond b (s ∷ those test ss) (those test ss) ++ those test ts
    by true e = ap (λ (x : List Sheet). s ∷ x) e
    by false e = e

pub last_both : (n : Newest) (ss ts : List Sheet) → latest n (ss ++ ts) ≡ latest (latest n ss) ts
last_both n [] ts = refl
last_both n (s ∷ ss) ts = last_both (Some s) ss ts

-- The newest of sheets behind others.
pub newest_both : (boat edition : ℕ) (ss ts : List Sheet) → newest boat edition (ss ++ ts) ≡ latest (newest boat edition ss) (not_above edition (of_boat boat ts))
unfolding newest
newest_both boat edition ss ts =
    ap (λ (x : List Sheet). latest None (not_above edition x)) (those_both (λ s. eqb s.boat boat) ss ts)
    ∙ ap (latest None) (those_both (λ s. leb s.edition edition) (of_boat boat ss) (of_boat boat ts))
    ∙ last_both None (not_above edition (of_boat boat ss)) (not_above edition (of_boat boat ts))

-- One sheet more is the newest if it is the boat's and not above the edition.
pub newest_next : (boat edition : ℕ) (ss : List Sheet) (s : Sheet)
    → newest boat edition (ss ++ s ∷ []) ≡ cond (eqb s.boat boat && leb s.edition edition) (Some s) (newest boat edition ss)
newest_next boat edition ss s = newest_both boat edition ss (s ∷ []) ∙ by (newest boat edition ss) (eqb s.boat boat) (leb s.edition edition) refl
  where
    above : (n : Newest) (c : Bool) → leb s.edition edition ≡ c → latest n (cond (leb s.edition edition) (s ∷ []) []) ≡ cond c (Some s) n
    above n true e = simp e
    above n false e = simp e

    by : (n : Newest) (b c : Bool) → leb s.edition edition ≡ c → latest n (not_above edition (cond b (s ∷ []) [])) ≡ cond (b && c) (Some s) n
    by n true c e = above n c e
    by n false c e = refl

-- Records of other boats change nothing.
pub none_between : (boat edition : ℕ) (bytes : List ℕ) (m d : ℕ)
    → ((j : ℕ) → m ≤ j → j < m + d → (sheet_at bytes j).boat ≡ boat → ⊥)
    → newest boat edition (sheets_in (m + d) bytes) ≡ newest boat edition (sheets_in m bytes)
none_between boat edition bytes m zero h = let e : m + 0 ≡ m = omega arith in ap (λ (k : ℕ). newest boat edition (sheets_in k bytes)) e
none_between boat edition bytes m (suc d) h =
    let e : m + suc d ≡ suc (m + d) = omega arith in
    let s = sheet_at bytes (m + d) in
    ap (λ (k : ℕ). newest boat edition (sheets_in k bytes)) e
    ∙ newest_next boat edition (sheets_in (m + d) bytes) s
    ∙ ap (λ (b : Bool). cond (b && leb s.edition edition) (Some s) (newest boat edition (sheets_in (m + d) bytes))) (ne_eqb s.boat boat (h (m + d) (omega arith) (omega arith)))
    ∙ none_between boat edition bytes m d (λ j l g. h j l (omega arith))

-- The last of the first records is the newest, or it is passed over.
pub newest_here : (boat edition : ℕ) (bytes : List ℕ) (left k : ℕ) (s : Sheet) (b : Bool) → left ≡ suc k → s ≡ sheet_at bytes k
    → (eqb s.boat boat && leb s.edition edition) ≡ b
    → newest boat edition (sheets_in left bytes) ≡ cond b (Some s) (newest boat edition (sheets_in k bytes))
newest_here boat edition bytes left k s b l e t =
    ap (λ (n : ℕ). newest boat edition (sheets_in n bytes)) l
    ∙ newest_next boat edition (sheets_in k bytes) (sheet_at bytes k)
    ∙ ap (λ (r : Sheet). cond (eqb r.boat boat && leb r.edition edition) (Some r) (newest boat edition (sheets_in k bytes))) (sym e)
    ∙ ap (λ (x : Bool). cond x (Some s) (newest boat edition (sheets_in k bytes))) t

pub newest_none : (boat edition : ℕ) → newest boat edition [] ≡ None
unfolding newest
newest_none boat edition = refl
