-- No later adding changes the answer for an edition that a boat already has.
use mathlib.Core.Path.{◌≡◌, refl, sym, ap, ap₂, ◌∙◌}
use mathlib.Core.Bool.{Bool, true, false, cond, ◌&&◌}
use mathlib.Core.List.{List, [], ◌∷◌, ◌++◌}
use Prim.Native.Nat.{ℕ, suc, ◌+◌, ◌*◌, ◌^◌, ◌≤◌, ◌<◌}
use native.Mathlib.Omega.{arith}
use borrow.Author.Tests.{eqb-true, lt-leb}
use lib.Dec.{eqb, leb}
use lib.ListN.{length, take, length-append}
use lib.Seq.{length-take-le, take_at}
use Rattle.std.specs.Prelude.{Ok, Err, Some}
use Rattle.answers.specs.Answers.{Accepted, Answer}
use Rattle.lists.specs.Calls.{Along}
use Rattle.lists.proofs.Stepping.{along}
use Rattle.mounts.specs.Claims.{Book, Call, lent_with, AddStep, HasEdition}
use Rattle.mounts.specs.Editions.{newest, edition_of, next_edition}
use Rattle.mounts.specs.Mounts.{asked, add_answer, bytes_after}
use Rattle.mounts.specs.Sheets.{sheets_in}
use Rattle.mounts.specs.declared.Sheet.{Sheet}
use Rattle.mounts.proofs.AddLaws.{stored_sound, sound_stored, add_addable, fits_exactly}
use Rattle.mounts.proofs.Adding.{refused_leaves, added_count, sheets_after, sound_after}
use Rattle.mounts.proofs.Agreeing.{Agree, same_sheets, same_judged}
use Rattle.mounts.proofs.EditionLaws.{newest_next}
use Rattle.mounts.proofs.Finding.{asked_found, found_asked}
use Rattle.mounts.proofs.Rising.{kept_rises, newest_below}

-- A sheet that was added later is above an edition that its boat already has.
later_above : (bytes : List ℕ) (count : ℕ) (s t : Sheet) (boat e : ℕ) → e < 2 ^ 32 → add_answer bytes count s ≡ Accepted
    → newest boat e (sheets_in count bytes) ≡ Some t → t.edition ≡ e
    → newest boat e (sheets_in count bytes ++ s ∷ []) ≡ Some t
later_above bytes count s t boat e h accepted n own = newest_next boat e (sheets_in count bytes) s ∙ by (eqb s.boat boat) refl ∙ n
  where
    above : s.boat ≡ boat → leb s.edition e ≡ false
    above same =
        let a = add_addable bytes count s accepted in
        let below = newest_below boat e (sheets_in count bytes) (omega arith) (kept_rises bytes boat count a.sound.good) in
        let next = a.edition ∙ ap (λ (b : ℕ). next_edition b (sheets_in count bytes)) same in
        let is = ap edition_of n in
        lt-leb s.edition e (omega (arith, below, next, is, own))

    by : (b : Bool) → eqb s.boat boat ≡ b
        → cond (b && leb s.edition e) (Some s) (newest boat e (sheets_in count bytes)) ≡ newest boat e (sheets_in count bytes)
    by true x = ap (λ (c : Bool). cond c (Some s) (newest boat e (sheets_in count bytes))) (above (eqb-true s.boat boat x))
    by false x = refl

-- Other bytes behind the records change nothing.
lent_agree : (b : Book) (beyond : List ℕ) → 16 * b.count ≤ length b.bytes → Agree b.bytes (lent_with b beyond) b.count
lent_agree b beyond l =
    let front = length-take-le (16 * b.count) b.bytes l in
    let all = length-append (take (16 * b.count) b.bytes) beyond in
    record { in_first = l; in_second = omega arith; same = sym (take_at (take (16 * b.count) b.bytes) beyond (16 * b.count) front) }

agree_has : (xs ys : List ℕ) (count boat e : ℕ) (t : Sheet) → Agree xs ys count → asked xs count boat e ≡ Ok t → asked ys count boat e ≡ Ok t
agree_has xs ys count boat e t a f =
    let g = asked_found xs count boat e t f in
    let s = stored_sound xs count g.0 in
    let l = a.in_second in
    found_asked ys count boat e t
    (sound_stored ys count (record { held = omega arith; good = sym (same_judged a count (omega arith)) ∙ s.good }))
    (ap (newest boat e) (sym (same_sheets a count (omega arith))) ∙ g.1)

-- One call.
module _ (boat e : ℕ) (t : Sheet) (h : e < 2 ^ 32) where
  one_step : (b : Book) (c : Call) (r : Book) → AddStep b c r → HasEdition b boat e t → HasEdition r boat e t
  one_step b c r s has = by (add_answer lent b.count c.new) refl
    where
      lent : List ℕ
      lent = lent_with b c.beyond

      first : asked lent b.count boat e ≡ Ok t
      first =
          let g = asked_found b.bytes b.count boat e t has.found in
          let held = (stored_sound b.bytes b.count g.0).held in
          agree_has b.bytes lent b.count boat e t (lent_agree b c.beyond (fits_exactly b.bytes b.count held)) has.found

      by : (a : Answer) → add_answer lent b.count c.new ≡ a → HasEdition r boat e t
      by (Err f) x =
          let same = refused_leaves lent b.count c.new f.number f.place x in
          record {
            found =
                ap₂ (λ (bytes : List ℕ) (count : ℕ). asked bytes count boat e) (s.bytes ∙ same.0) (s.count ∙ same.1) ∙ first;
            its_own = has.its_own;
          }
      by Accepted x =
          let after = bytes_after lent b.count c.new in
          let n = (asked_found lent b.count boat e t first).1 in
          let still = ap (newest boat e) (sheets_after lent b.count c.new x c.boat_fits c.edition_fits) ∙ later_above lent b.count c.new t boat e h x n has.its_own in
          record {
            found =
                ap₂ (λ (bytes : List ℕ) (count : ℕ). asked bytes count boat e) s.bytes (s.count ∙ added_count lent b.count c.new x)
                ∙ found_asked after (suc b.count) boat e t (sound_after lent b.count c.new x c.boat_fits c.edition_fits) still;
            its_own = has.its_own;
          }

-- Every list of later calls.
pub later_adding : (b : Book) (calls : List Call) (r : Book) (boat e : ℕ) (t : Sheet) → e < 2 ^ 32 → Along AddStep b calls r
    → HasEdition b boat e t → HasEdition r boat e t
later_adding b calls r boat e t h steps =
    along AddStep (λ x cs y. HasEdition x boat e t → HasEdition y boat e t) (λ x has. has) (λ x c y cs z one others has. others (one_step boat e t h x c y one has)) b calls r steps
