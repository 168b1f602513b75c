-- The numbers of refusals.
use mathlib.Core.Bool.{Bool, true, false, cond}
use mathlib.Core.List.{List, [], ◌∷◌, ◌++◌, foldl}
use mathlib.Core.Logic.{◌⊎◌, inl, inr}
use mathlib.Core.Path.{◌≡◌, refl, sym, ap, ◌∙◌}
use Prim.Native.Nat.{ℕ, suc, ◌+◌, ◌≤◌, ◌<◌}
use native.Mathlib.Nat.{add-zero, zero-add}
use native.Mathlib.Omega.{arith}
use borrow.Author.Tests.{ltb-false}
use lib.Dec.{eqb, leb, ltb}
use lib.ListN.{length, length-append}
use Rattle.headers.specs.Headers.{header_of, words_in}
use Rattle.headers.specs.Words.{word_at}
use Rattle.headers.specs.declared.Header.{Header}
use Rattle.progress.specs.Buffers.{Buffer, source, reconstructed, forward, backward, buffer_number}
use Rattle.progress.specs.declared.Progress.{Progress}
use Rattle.std.specs.Prelude.{Ok, Err}
use Rattle.answers.specs.Answers.{fault_at}
use Rattle.answers.proofs.Faults.{same_number, same_place}
use Rattle.progress.specs.Progress.{Verdict}
use Rattle.sequence.specs.Judging.{judge}
use Rattle.sequence.proofs.JudgingLaws.{stops_within, stops_inside}
use Rattle.batch.specs.Numbers.{RefusedBy, run_out, broken, too_many, CheckedBy, accepted, refused, short_buffer}
use Rattle.batch.specs.Reports.{report_number, report_place, reportable, measured, ending, concluding, finish, verdict_of, report}
use Rattle.batch.specs.Walk.{Walk, going, stopped, limit, after, step, start}
use Rattle.batch.specs.declared.Lengths.{Lengths}
use Rattle.batch.specs.declared.Reported.{Reported}
use Rattle.batch.proofs.Measuring.{outcome}
use Rattle.batch.proofs.WalkLaws.{Counted, counted_step, counted_fold}
use Rattle.batch.specs.Outcomes.{Outcome, enough, short}

-- the numbers with which a walk stops within so many words, and where
abbrev StopNumber : ℕ → ℕ → ℕ → Type 0
StopNumber k n place = ((2 ≤ n) × (n ≤ 12) × (place < k)) ⊎ ((n ≡ 27) × (place ≡ limit))

abbrev Numbered : ℕ → Walk → Type 0
Numbered k (going at p g) = Unit {0}
Numbered k (stopped n place) = StopNumber k n place

later : (k n place : ℕ) → StopNumber k n place → StopNumber (k + 1) n place
later k n place (inl h) = inl (h.0, h.1, omega (arith, h.2))
later k n place (inr h) = inr h

-- a command that was judged
numbered_after : (k at next : ℕ) (v : Verdict) → ((n w : ℕ) → v ≡ Err (fault_at n w) → (2 ≤ n) × (n ≤ 12) × (at + w < k)) → Numbered k (after at next v)
unfolding after
numbered_after k at next (Ok q) h = tt
numbered_after k at next (Err f) h = inl (h f.number f.place refl)

numbered_step : (k : ℕ) (s : Walk) (w : ℕ) → Counted k s → Numbered k s → Numbered (k + 1) (step s w)
unfolding step
numbered_step k (stopped n place) w e h = later k n place h
numbered_step k (going at p g) w e _ = by (leb limit (at + length g)) p.stage.ended (eqb w 0) (eqb (words_in h) 0) (ltb (length g+) (words_in h)) refl refl
  where
    g+ : List ℕ
    g+ = g ++ (w ∷ [])

    h : Header
    h = header_of (word_at (g ++ (w ∷ [])) 0)

    all : at + length g+ ≡ k + 1
    all = omega (arith, length-append g (w ∷ []))

    by : (full ended z unknown more : Bool) → eqb (words_in h) 0 ≡ unknown → ltb (length g+) (words_in h) ≡ more
        → Numbered (k + 1) (cond full (stopped 27 limit)
        (cond ended
        (cond z (going (at + length g + 1) p []) (stopped 12 (at + length g)))
        (cond unknown (stopped 2 at) (cond more (going at p g+) (after at (at + length g+) (judge h p g+))))))
    by true ended z unknown more u m = inr (refl, refl)
    by false true true unknown more u m = tt
    by false true false unknown more u m = inl (omega arith, omega arith, omega arith)
    by false false z true more u m = inl (omega arith, omega arith, omega arith)
    by false false z false true u m = tt
    by false false z false false u m =
        let whole = ltb-false (length g+) (words_in h) m in
        numbered_after (k + 1) at (at + length g+) (judge h p g+)
        (λ n x j. let near = stops_within h p g+ n x j in
        let own = stops_inside (word_at g+ 0) p g+ n x j u in
        (near.0, near.1, omega (arith, own, whole, all)))

numbered_fold : (k : ℕ) (s : Walk) (ws : List ℕ) → Counted k s → Numbered k s → Numbered (k + length ws) (foldl step s ws)
numbered_fold k s [] e h = rw add-zero h
numbered_fold k s (w ∷ ws) e h =
    let sum : k + suc (length ws) ≡ k + 1 + length ws = omega arith in
    rw sum (numbered_fold (k + 1) (step s w) ws (counted_step k s w e) (numbered_step k s w e h))

-- A batch is refused by one of its rules, by 27, or, where it lacks END, by 1 at the words given.
pub refused_by : (ws : List ℕ) (n place : ℕ) → verdict_of ws ≡ Err (fault_at n place) → RefusedBy (length ws) n place
unfolding verdict_of
refused_by ws n place e = by (foldl step start ws) (rw zero-add at (counted_fold 0 start ws refl)) (rw zero-add at (numbered_fold 0 start ws refl tt)) e
  where
    lacks : (p : Progress) (at : ℕ) → at ≡ length ws → (ended : Bool) → cond ended (Ok p) (Err (fault_at 1 at)) ≡ Err (fault_at n place) → RefusedBy (length ws) n place
    lacks p at all true e = let z : ◌≡◌ {A = ℕ} 0 1 = cc in absurd (omega arith)
    lacks p at all false e = let i : 1 ≡ n = same_number e in let j : at ≡ place = same_place e in run_out (sym i) (sym j ∙ all)

    stops : StopNumber (length ws) n place → RefusedBy (length ws) n place
    stops (inl k) = broken k.0 k.1 k.2
    stops (inr k) = too_many k.0 k.1

    by : (s : Walk) → Counted (length ws) s → Numbered (length ws) s → ending s ≡ Err (fault_at n place) → RefusedBy (length ws) n place
    by (stopped m q) c k e = let i : m ≡ n = same_number e in let j : q ≡ place = same_place e in stops (rw (i, j) at k)
    by (going at p g) c k e = lacks p (at + length g) c p.stage.ended e

-- The number is none but 1 to 12 and 27.
pub verdict_numbers : (ws : List ℕ) (n place : ℕ) → verdict_of ws ≡ Err (fault_at n place) → ((1 ≤ n) × (n ≤ 12)) ⊎ (n ≡ 27)
verdict_numbers ws n place e = by (refused_by ws n place e)
  where
    by : RefusedBy (length ws) n place → ((1 ≤ n) × (n ≤ 12)) ⊎ (n ≡ 27)
    by (run_out i at) = inl (omega arith, omega arith)
    by (broken low high at) = inl (omega arith, high)
    by (too_many i at) = inr i

-- What the check answers.
pub check_numbers : (l : Lengths) (ws : List ℕ) → CheckedBy (length ws) (report_number (report l ws)) (report_place (report l ws))
unfolding report
check_numbers l ws = by (verdict_of ws) refl
  where
    buffer : (b : Buffer) → buffer_number b ≤ 3
    buffer source = omega arith
    buffer reconstructed = omega arith
    buffer forward = omega arith
    buffer backward = omega arith

    measures : (r : Reported) → Outcome r l → CheckedBy (length ws) (report_number (measured r l)) (report_place (measured r l))
    measures r (enough all a) = accepted (ap report_number a) (ap report_place a)
    measures r (short c s low a) = short_buffer (ap report_number a) (rw (ap report_place a) (buffer c))

    by : (v : Verdict) → verdict_of ws ≡ v → CheckedBy (length ws) (report_number (concluding l v)) (report_place (concluding l v))
    by (Ok p) s = measures (reportable p) (outcome (reportable p) l)
    by (Err f) s = refused (refused_by ws f.number f.place s)

-- A batch is accepted by number 0 alone.
pub accepted_by_0 : (l : Lengths) (ws : List ℕ) → report_number (report l ws) ≡ 0 → (r : Reported) × (report l ws ≡ Ok r)
unfolding report
accepted_by_0 l ws h = by (verdict_of ws) refl h
  where
    measured-0 : (r : Reported) → Outcome r l → report_number (measured r l) ≡ 0 → (x : Reported) × (measured r l ≡ Ok x)
    measured-0 r (enough all a) h = (r, a)
    measured-0 r (short c s low a) h = let z : ◌≡◌ {A = ℕ} 13 0 = sym (ap report_number a) ∙ h in absurd (omega arith)

    stopped-0 : (n place : ℕ) → RefusedBy (length ws) n place → n ≡ 0 → ⊥
    stopped-0 n place (run_out i at) h = omega arith
    stopped-0 n place (broken low high at) h = omega arith
    stopped-0 n place (too_many i at) h = omega arith

    by : (v : Verdict) → verdict_of ws ≡ v → report_number (concluding l v) ≡ 0 → (r : Reported) × (concluding l v ≡ Ok r)
    by (Ok p) s h = measured-0 (reportable p) (outcome (reportable p) l) h
    by (Err f) s h = absurd (stopped-0 f.number f.place (refused_by ws f.number f.place s) h)

-- A walk that goes on is answered by 0, 1 or 13: nothing is refused for good.
pub going_numbers : (l : Lengths) (at : ℕ) (p : Progress) (g : List ℕ) (n : ℕ) → report_number (finish l (going at p g)) ≡ n → (n ≡ 0) ⊎ ((n ≡ 1) ⊎ (n ≡ 13))
unfolding finish
going_numbers l at p g n e = by p.stage.ended e
  where
    lengths : Outcome (reportable p) l → report_number (measured (reportable p) l) ≡ n → (n ≡ 0) ⊎ ((n ≡ 1) ⊎ (n ≡ 13))
    lengths (enough all a) e = inl (sym e ∙ ap report_number a)
    lengths (short c s low a) e = inr (inr (sym e ∙ ap report_number a))

    by : (ended : Bool) → report_number (concluding l (cond ended (Ok p) (Err (fault_at 1 (at + length g))))) ≡ n → (n ≡ 0) ⊎ ((n ≡ 1) ⊎ (n ≡ 13))
    by true e = lengths (outcome (reportable p) l) e
    by false e = inr (inl (sym e))
