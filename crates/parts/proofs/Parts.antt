-- A batch in parts is answered as the whole batch.
use mathlib.Core.Bool.{true, false}
use mathlib.Core.Logic.{◌⊎◌, inl, inr}
use mathlib.Core.List.{List, [], ◌++◌, foldl, flatten}
use mathlib.Core.Path.{◌≡◌, refl, sym, ◌∙◌, ap}
use Prim.Native.Nat.{ℕ}
use Rattle.lists.proofs.Stepping.{along_whole, folds_both}
use Rattle.batch.specs.Reports.{report_number, report_place, reported_of, finish, verdict_of, report, Report}
use Rattle.batch.specs.Walk.{Walk, going, stopped, step}
use Rattle.batch.specs.declared.Lengths.{Lengths}
use Rattle.batch.proofs.Numbers.{going_numbers}
use Rattle.batch.proofs.WalkLaws.{stays}
use Rattle.std.specs.Prelude.{Option, None, Some, is_some}
use Rattle.parts.specs.States.{gathered, has_stopped, walk_of_fault, walk_in, Handed, Answered, HandedOver}
use Rattle.answers.specs.declared.Fault.{Fault}
use Rattle.parts.specs.declared.State.{State}

-- The walk of a check that has stopped, and of another.
pub walk_stopped : (s : State) (f : Fault) → s.fault ≡ Some f → walk_in s ≡ stopped f.number f.place
unfolding walk_in
walk_stopped s f e = ap (λ (x : Option Fault). walk_of_fault x (going s.at s.progress (gathered s))) e

pub walk_going : (s : State) → s.fault ≡ None → walk_in s ≡ going s.at s.progress (gathered s)
unfolding walk_in
walk_going s e = ap (λ (x : Option Fault). walk_of_fault x (going s.at s.progress (gathered s))) e

-- A check that has stopped takes no more words.
pub stopped_stays : (s : State) (ws : List ℕ) → has_stopped s ≡ true → walk_in s ≡ foldl step (walk_in s) ws
stopped_stays s ws e = by s.fault refl
  where
    by : (x : Option Fault) → s.fault ≡ x → walk_in s ≡ foldl step (walk_in s) ws
    by None z = let no : false ≡ true = ap is_some (sym z) ∙ e in cc
    by (Some f) z = let is = walk_stopped s f z in rw is (sym (stays f.number f.place ws))

-- A check that is answered by another number than 0, 1 and 13 has stopped.
pub answered_stopped : (s : State) (r : Report) → Answered s r → (report_number r ≡ 0 → ⊥) → (report_number r ≡ 1 → ⊥) → (report_number r ≡ 13 → ⊥) → has_stopped s ≡ true
answered_stopped s r a not-0 not-1 not-13 = by s.fault refl
  where
    none : (report_number r ≡ 0) ⊎ ((report_number r ≡ 1) ⊎ (report_number r ≡ 13)) → ⊥
    none (inl e) = not-0 e
    none (inr (inl e)) = not-1 e
    none (inr (inr e)) = not-13 e

    by : (x : Option Fault) → s.fault ≡ x → is_some x ≡ true
    by (Some f) e = refl
    by None e =
        let is = walk_going s e in
        absurd (none (going_numbers s.lengths s.at s.progress (gathered s) (report_number r) (sym (ap report_number (a ∙ ap (finish s.lengths) is)))))

-- two parts, one after the other, are one part of both, and nothing changes without a part
handed_none : (s : State) → Handed s [] s
handed_none s = (refl, refl)

handed_both : (s : State) (a : List ℕ) (t : State) (b : List ℕ) (r : State) → Handed s a t → Handed t b r → Handed s (a ++ b) r
handed_both s a t b r h k =
    (folds_both walk_in step s a t b r h.0 k.0, k.1 ∙ h.1)

-- Document 01's claim on lists of parts: what is answered when a batch is handed over in parts is the answer to the whole batch,
-- in number, place and all that is reported. For all lengths, all lists of parts (the empty list, empty parts, parts after a fault, more than
-- 4294967295 words in all), and every state so handed over.
pub parts_whole : (l : Lengths) (parts : List (List ℕ)) (s : State) (r : Report) → HandedOver l parts s → Answered s r
    → r ≡ report l (flatten parts)
unfolding report verdict_of finish
parts_whole l parts s r h answered =
    let begun = h.1 in
    let rest = along_whole Handed handed_none handed_both h.0 parts s h.2 in
    answered
    ∙ ap (λ (k : Lengths). finish k (walk_in s)) (rest.1 ∙ begun.1)
    ∙ ap (finish l) (rest.0 ∙ ap (λ (w : Walk). foldl step w (flatten parts)) begun.0)

-- The same of document 01's number, place and "all that is reported with them".
pub parts_reported : (l : Lengths) (parts : List (List ℕ)) (s : State) (r : Report) → HandedOver l parts s → Answered s r
    → let whole = report l (flatten parts) in
    (report_number r ≡ report_number whole) × ((report_place r ≡ report_place whole) × (reported_of r ≡ reported_of whole))
parts_reported l parts s r h a = let e = parts_whole l parts s r h a in (ap report_number e, (ap report_place e, ap reported_of e))
