-- What adding leaves: one sheet more behind the others, which are judged as before; and what was added is found again.
use mathlib.Core.Path.{◌≡◌, refl, sym, ap, ap₂, subst, ◌∙◌}
use mathlib.Core.Bool.{Bool, true, cond, ◌&&◌}
use mathlib.Core.List.{List, [], ◌∷◌, ◌++◌}
use Prim.Native.Nat.{ℕ, suc, ◌+◌, ◌*◌, ◌/◌, ◌^◌, ◌≤◌, ◌<◌}
use native.Mathlib.Omega.{arith}
use borrow.Author.Tests.{le-leb, eq-eqb}
use lib.Dec.{eqb, leb}
use lib.ListN.{length, take, drop}
use lib.Seq.{length-sets, length-take-le, take_at, drop_at, drop-drop}
use Rattle.std.specs.Prelude.{Ok, Some}
use Rattle.answers.specs.Answers.{Accepted, refused}
use Rattle.lists.proofs.Booleans.{both_true}
use Rattle.mounts.specs.Claims.{AddLeaves}
use Rattle.mounts.specs.Editions.{newest, next_edition}
use Rattle.mounts.specs.Mounts.{good_after, good_at, stored_fault, asked, add_answer, added, bytes_after}
use Rattle.mounts.specs.Sheets.{sheet_record, sheet_in, stored, sheets_in}
use Rattle.mounts.specs.declared.Added.{Added}
use Rattle.mounts.specs.declared.Sheet.{Sheet}
use Rattle.mounts.proofs.AddLaws.{add_addable, add_refused, add_accepted, fits_exactly, sound_stored}
use Rattle.mounts.proofs.Agreeing.{Agree, same_sheets, same_judged}
use Rattle.mounts.proofs.EditionLaws.{newest_next}
use Rattle.mounts.proofs.Finding.{found_asked}
use Rattle.mounts.proofs.SheetLaws.{record_length_lem, sheet_back, filler_zero}
use Rattle.mounts.proofs.StoredLaws.{next_judged}

-- A refusal leaves the number and every byte as they were.
pub refused_leaves : (bytes : List ℕ) (count : ℕ) (s : Sheet) (n p : ℕ) → add_answer bytes count s ≡ refused n p
    → (bytes_after bytes count s ≡ bytes) × ((added bytes count s).count ≡ count)
refused_leaves bytes count s n p e =
    let same = add_refused bytes count s (add_answer bytes count s) n p refl e in
    (sym same.1, sym (ap (λ (a : Added). a.count) same.0))

-- The record of a sheet with one of the two sides and its boat's next edition is good.
record_good : (before : List Sheet) (s : Sheet) → s.boat < 2 ^ 32 → s.edition < 2 ^ 32 → s.side ≤ 1 → s.edition ≡ next_edition s.boat before
    → good_after before (sheet_record s) ≡ true
record_good before s hb he hs next =
    ap₂ (λ (t : Sheet) (filler : ℕ). leb t.side 1 && (eqb filler 0 && eqb t.edition (next_edition t.boat before))) (sheet_back s hb he (omega arith)) (filler_zero s)
    ∙ both_true (le-leb s.side 1 hs) (both_true (eq-eqb 0 0 refl) (eq-eqb s.edition (next_edition s.boat before) next))

-- A sheet that is added, as three parts: what stood before it, its record, and what stood beyond.
module _ (bytes : List ℕ) (count : ℕ) (s : Sheet) (e : add_answer bytes count s ≡ Accepted) where
  abbrev at : ℕ
  at = 16 * count

  abbrev after : List ℕ
  after = bytes_after bytes count s

  room : 16 * suc count ≤ length bytes
  room = fits_exactly bytes (suc count) (add_addable bytes count s e).room

  -- its bytes, and what stood there and behind
  abbrev rest : List ℕ
  rest = drop 16 (drop at bytes)

  done : (record { answer = Accepted; count = count + 1 } ≡ added bytes count s) × (take at bytes ++ (sheet_record s ++ rest) ≡ after)
  done = add_accepted bytes count s (sheet_record s ++ rest) e refl

  pub added_count : (added bytes count s).count ≡ suc count
  added_count = let one : count + 1 ≡ suc count = omega arith in sym (ap (λ (a : Added). a.count) done.0) ∙ one

  front : length (take at bytes) ≡ at
  front = let l = room in length-take-le at bytes (omega arith)

  before_it : take at after ≡ take at bytes
  before_it = ap (take at) (sym done.1) ∙ take_at (take at bytes) (sheet_record s ++ rest) at front

  behind : drop at after ≡ sheet_record s ++ rest
  behind = ap (drop at) (sym done.1) ∙ drop_at (take at bytes) (sheet_record s ++ rest) at front

  the_record : stored after count ≡ sheet_record s
  the_record = ap (take 16) behind ∙ take_at (sheet_record s) rest 16 (record_length_lem s)

  beyond_it : drop (16 * suc count) after ≡ drop (16 * suc count) bytes
  beyond_it =
      let sum : at + 16 ≡ 16 * suc count = omega arith in
      ap (λ (i : ℕ). drop i after) (sym sum)
      ∙ sym (drop-drop 16 at after)
      ∙ ap (drop 16) behind
      ∙ drop_at (sheet_record s) rest 16 (record_length_lem s)
      ∙ drop-drop 16 at bytes
      ∙ ap (λ (i : ℕ). drop i bytes) sum

  same_length : length after ≡ length bytes
  unfolding bytes_after
  same_length = simp e (length-sets bytes at (sheet_record s))

  pub add_leaves : AddLeaves bytes count s (bytes_after bytes count s)
  add_leaves = record { same_length = same_length; before_it = before_it; the_record = the_record; beyond_it = beyond_it }

  agree : Agree bytes after count
  agree = let l = room in let n = same_length in record { in_first = omega arith; in_second = omega arith; same = sym before_it }

  -- The sheets are those of before, and the new one.
  pub sheets_after : s.boat < 2 ^ 32 → s.edition < 2 ^ 32 → sheets_in (suc count) after ≡ sheets_in count bytes ++ s ∷ []
  sheets_after hb he =
      let a = (add_addable bytes count s e).side in
      ap₂ (λ (ss : List Sheet) (r : List ℕ). ss ++ sheet_in r ∷ []) (sym (same_sheets agree count (omega arith))) the_record
      ∙ ap (λ (t : Sheet). sheets_in count bytes ++ t ∷ []) (sheet_back s hb he (omega arith))

  new_good : s.boat < 2 ^ 32 → s.edition < 2 ^ 32 → good_at after count ≡ true
  unfolding good_at
  new_good hb he =
      ap₂ good_after (sym (same_sheets agree count (omega arith))) the_record ∙ record_good (sheets_in count bytes) s hb he (add_addable bytes count s e).side (add_addable bytes count s e).edition

  -- None of them is bad.
  pub sound_after : s.boat < 2 ^ 32 → s.edition < 2 ^ 32 → stored_fault after (suc count) ≡ Accepted
  sound_after hb he =
      let a = add_addable bytes count s e in
      let r = a.room in
      let n = same_length in
      let good = next_judged after count true (sym (same_judged agree count (omega arith)) ∙ a.sound.good) (new_good hb he) in
      sound_stored after (suc count) (record { held = subst (λ (i : ℕ). suc count ≤ i / 16) (sym n) r; good = good })

  -- Asking for its edition or a later one gives what was added.
  pub added_found : s.boat < 2 ^ 32 → s.edition < 2 ^ 32 → (edition : ℕ) → s.edition ≤ edition → asked (bytes_after bytes count s) (suc count) s.boat edition ≡ Ok s
  added_found hb he edition l =
      let test = both_true (eq-eqb s.boat s.boat refl) (le-leb s.edition edition l) in
      found_asked after (suc count) s.boat edition s (sound_after hb he)
      (ap (newest s.boat edition) (sheets_after hb he) ∙ newest_next s.boat edition (sheets_in count bytes) s ∙ ap (λ (b : Bool). cond b (Some s) (newest s.boat edition (sheets_in count bytes))) test)
