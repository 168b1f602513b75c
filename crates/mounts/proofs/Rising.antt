-- In stored sheets none of which is bad the editions of a boat are 1, 2, 3 and so on.
use mathlib.Core.Path.{◌≡◌, refl, sym, ap, ap₂, subst, ◌∙◌}
use mathlib.Core.Bool.{Bool, true, false, cond, ◌&&◌}
use mathlib.Core.List.{List, [], ◌∷◌, ◌++◌, append-nil}
use Prim.Native.Nat.{ℕ, zero, suc, ◌+◌, ◌*◌, ◌≤◌, ◌<◌}
use native.Mathlib.Omega.{arith}
use borrow.Author.Tests.{leb-true, leb-false, eqb-true, le-leb}
use lib.Dec.{eqb, leb}
use lib.ListN.{length}
use Rattle.answers.specs.Answers.{rule, Accepted}
use Rattle.std.specs.Prelude.{Some, None}
use Rattle.lists.proofs.Booleans.{and_right}
use Rattle.mounts.specs.Claims.{Rising}
use Rattle.mounts.specs.Editions.{of_boat, not_above, latest, newest, edition_of, next_edition, highest_edition, Newest}
use Rattle.mounts.specs.Mounts.{good_at, first_bad, stored_fault}
use Rattle.fields.specs.Bytes.{elements, Bytes}
use Rattle.fields.specs.Parts.{value_at}
use Rattle.fields.proofs.PartLaws.{part_bytes, number_lt}
use Rattle.mounts.specs.Layout.{sheet_filler_part}
use Rattle.mounts.specs.Sheets.{stored, sheet_at, sheets_in}
use Rattle.mounts.specs.declared.Sheet.{Sheet}
use Rattle.answers.proofs.Judging.{unless_accepted}
use Rattle.mounts.proofs.AddLaws.{stored_sound}
use Rattle.mounts.proofs.EditionLaws.{those_both}
use Rattle.mounts.proofs.SheetLaws.{sheet_there}

rising_next : (n : ℕ) (ss : List Sheet) (s : Sheet) → Rising n ss → s.edition ≡ n + length ss → Rising n (ss ++ s ∷ [])
rising_next n [] s r e = (omega arith, tt)
rising_next n (t ∷ ss) s r e = (r.0, rising_next (suc n) ss s r.1 (omega arith))

-- The last of them, and the last of those not above an edition.
last_rising : (n : ℕ) (ss : List Sheet) (m : Newest) → Rising n ss → edition_of m + 1 ≡ n → edition_of (latest m ss) + 1 ≡ n + length ss
last_rising n [] m r e = omega arith
last_rising n (s ∷ ss) m r e = let first = r.0 in let rest = last_rising (suc n) ss (Some s) r.1 (omega arith) in omega arith

last_most : (n e : ℕ) (ss : List Sheet) (m : Newest) → Rising n ss → edition_of m + 1 ≤ n → edition_of (latest m (not_above e ss)) + 1 ≤ n + length ss
last_most n e [] m r h = omega arith
last_most n e (s ∷ ss) m r h = by (λ x l. last_most (suc n) e ss x r.1 l) (leb s.edition e)
  where
    by : ((x : Newest) → edition_of x + 1 ≤ suc n → edition_of (latest x (not_above e ss)) + 1 ≤ suc n + length ss)
        → (b : Bool) → edition_of (latest m (cond b (s ∷ not_above e ss) (not_above e ss))) + 1 ≤ n + suc (length ss)
    by rest true = let first = r.0 in let more = rest (Some s) (omega arith) in omega arith
    by rest false = let more = rest m (omega arith) in omega arith

-- Those not above a lower edition are among those not above a higher one.
twice_above : (e f : ℕ) → e ≤ f → (ss : List Sheet) → not_above e (not_above f ss) ≡ not_above e ss
twice_above e f h [] = refl
twice_above e f h (s ∷ ss) = by (twice_above e f h ss) (leb s.edition f) (leb s.edition e) refl refl
  where
    outer : not_above e (not_above f ss) ≡ not_above e ss → (x : Bool) → leb s.edition e ≡ x
        → not_above e (s ∷ not_above f ss) ≡ cond x (s ∷ not_above e ss) (not_above e ss)
    outer rest true t = simp t (ap (λ (z : List Sheet). s ∷ z) rest)
    outer rest false t = simp t rest

    by : not_above e (not_above f ss) ≡ not_above e ss → (y x : Bool) → leb s.edition f ≡ y → leb s.edition e ≡ x
        → not_above e (cond y (s ∷ not_above f ss) (not_above f ss)) ≡ cond x (s ∷ not_above e ss) (not_above e ss)
    by rest true x u t = outer rest x t
    by rest false true u t = let low = leb-true s.edition e t in let high = leb-false s.edition f u in absurd (omega arith)
    by rest false false u t = rest

-- The sheets of a boat, with editions of 32 bits.
abbrev pub kept : ℕ → List Sheet → List Sheet
kept boat sheets = not_above highest_edition (of_boat boat sheets)

kept_both : (boat : ℕ) (ss ts : List Sheet) → kept boat (ss ++ ts) ≡ kept boat ss ++ kept boat ts
kept_both boat ss ts =
    ap (not_above highest_edition) (those_both (λ s. eqb s.boat boat) ss ts)
    ∙ those_both (λ s. leb s.edition highest_edition) (of_boat boat ss) (of_boat boat ts)

-- What follows the newest is one more than how many there are.
pub next_rising : (boat : ℕ) (sheets : List Sheet) → Rising 1 (kept boat sheets) → next_edition boat sheets ≡ 1 + length (kept boat sheets)
unfolding next_edition newest
next_rising boat sheets r = last_rising 1 (kept boat sheets) None r refl

-- A boat's newest sheet not above an edition is below the next one.
pub newest_below : (boat e : ℕ) (sheets : List Sheet) → e ≤ highest_edition → Rising 1 (kept boat sheets) → edition_of (newest boat e sheets) < next_edition boat sheets
unfolding newest
newest_below boat e sheets h r =
    let some = last_most 1 e (kept boat sheets) None r (omega arith) in
    let same = ap (λ (z : List Sheet). edition_of (latest None z)) (twice_above e highest_edition h (of_boat boat sheets)) in
    let next = next_rising boat sheets r in
    omega arith

-- One sheet more, with its boat's next edition.
pub rising_on : (boat : ℕ) (sheets : List Sheet) (s : Sheet) → Rising 1 (kept boat sheets) → s.edition ≡ next_edition s.boat sheets → Rising 1 (kept boat (sheets ++ s ∷ []))
rising_on boat sheets s r e = subst (Rising 1) (sym (kept_both boat sheets (s ∷ []))) (by (eqb s.boat boat) refl)
  where
    same : Rising 1 (kept boat sheets ++ [])
    same = subst (Rising 1) (sym (append-nil (kept boat sheets))) r

    above : (c : Bool) → s.boat ≡ boat → Rising 1 (kept boat sheets ++ cond c (s ∷ []) [])
    above true t = rising_next 1 (kept boat sheets) s r (e ∙ ap (λ (b : ℕ). next_edition b sheets) t ∙ next_rising boat sheets r)
    above false t = same

    by : (b : Bool) → eqb s.boat boat ≡ b → Rising 1 (kept boat sheets ++ not_above highest_edition (cond b (s ∷ []) []))
    by true t = above (leb s.edition highest_edition) (eqb-true s.boat boat t)
    by false t = same

-- A good record has its boat's next edition.
pub good_edition : (bytes : List ℕ) (k : ℕ) → good_at bytes k ≡ true → (sheet_at bytes k).edition ≡ next_edition (sheet_at bytes k).boat (sheets_in k bytes)
unfolding good_at
good_edition bytes k e =
    let s = sheet_at bytes k in
    let zero_filler_lem = eqb (value_at sheet_filler_part (stored bytes k)) 0 in
    let follows = eqb s.edition (next_edition s.boat (sheets_in k bytes)) in
    eqb-true s.edition (next_edition s.boat (sheets_in k bytes)) (and_right zero_filler_lem follows (and_right (leb s.side 1) (zero_filler_lem && follows) e))

-- The first records are good, and record k is.
pub good_both : (bytes : List ℕ) (k : ℕ) → first_bad (suc k) bytes ≡ Accepted → (first_bad k bytes ≡ Accepted) × (good_at bytes k ≡ true)
good_both bytes k e = unless_accepted (first_bad k bytes) (rule 20 k (good_at bytes k)) e

-- The editions of a boat in stored sheets none of which is bad.
pub kept_rises : (bytes : List ℕ) (boat k : ℕ) → first_bad k bytes ≡ Accepted → Rising 1 (kept boat (sheets_in k bytes))
kept_rises bytes boat zero e = tt
kept_rises bytes boat (suc k) e =
    let g = good_both bytes k e in
    rising_on boat (sheets_in k bytes) (sheet_at bytes k) (kept_rises bytes boat k g.0) (good_edition bytes k g.1)

-- Bytes hold no edition above the highest.
kept_all : (bytes : List ℕ) → Bytes bytes → (boat k : ℕ) → kept boat (sheets_in k bytes) ≡ of_boat boat (sheets_in k bytes)
kept_all bytes h boat zero = refl
kept_all bytes h boat (suc k) =
    kept_both boat (sheets_in k bytes) (s ∷ [])
    ∙ ap₂ (λ (x y : List Sheet). x ++ y) (kept_all bytes h boat k) (by (eqb s.boat boat))
    ∙ sym (those_both (λ t. eqb t.boat boat) (sheets_in k bytes) (s ∷ []))
  where
    s : Sheet
    s = sheet_at bytes k

    held : leb s.edition highest_edition ≡ true
    held =
        let there = ap (λ (t : Sheet). t.edition) (sheet_there bytes k) in
        let low = number_lt (elements bytes (16 * k + 4) 4) (part_bytes bytes h (16 * k + 4) 4) in
        le-leb s.edition highest_edition (omega (arith, there, low))

    by : (b : Bool) → not_above highest_edition (cond b (s ∷ []) []) ≡ cond b (s ∷ []) []
    by true = simp held
    by false = refl

pub editions_rise : (bytes : List ℕ) (count boat : ℕ) → Bytes bytes → stored_fault bytes count ≡ Accepted → Rising 1 (of_boat boat (sheets_in count bytes))
editions_rise bytes count boat h e = subst (Rising 1) (kept_all bytes h boat count) (kept_rises bytes boat count (stored_sound bytes count e).good)
