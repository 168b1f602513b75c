-- The line of an input in pieces is the line of all its bytes.
use mathlib.Core.Bool.{Bool, true, false}
use mathlib.Core.List.{List, [], foldl, flatten}
use mathlib.Core.Path.{◌≡◌, refl, ◌∙◌, ap}
use Prim.Native.Nat.{ℕ, ◌+◌}
use native.Mathlib.Omega.{arith}
use borrow.Author.Tests.{ltb-true, ltb-false}
use lib.Dec.{ltb}
use lib.ListN.{length, take, drop}
use lib.Seq.{length-take-le}
use Rattle.lists.proofs.Stepping.{along_whole, folds_both}
use Rattle.lists.proofs.Slices.{split}
use Rattle.progress.specs.Progress.{fresh}
use Rattle.batch.specs.Reports.{finish, verdict_of, report}
use Rattle.batch.specs.Walk.{Walk, going, stopped, step, start}
use Rattle.batch.specs.declared.Lengths.{Lengths}
use Rattle.batch.proofs.WalkLaws.{counted}
use Rattle.input.specs.Line.{lengths_of, words_from, left_over, answer_to, input_report, report_line, input_line}
use Rattle.input.specs.Input.{Input, head, body, feed, words_through, finished, input_in, output_line, InputHanded, InPieces}
use Rattle.input.specs.declared.OutputLine.{OutputLine}
use Rattle.input.proofs.Feeding.{lengths_gathered, lengths_completed, rest_of, rest_length, words_fed}

-- the words that the check of some words has gone through, where it refuses nothing, are those words
through : (k : ℕ) (l : Lengths) (ws : List ℕ)
    → let w = foldl step start ws in
    left_over k (words_through w) (finish l w) ≡ left_over k (length ws) (finish l w)
unfolding finish
through k l ws = by (foldl step start ws) refl
  where
    by : (w : Walk) → foldl step start ws ≡ w → left_over k (words_through w) (finish l w) ≡ left_over k (length ws) (finish l w)
    by (stopped n place) e = refl
    by (going at p g) e =
        let all = counted 0 fresh [] ws at p g e in
        let same : at + length g ≡ length ws = omega arith in
        ap (λ (n : ℕ). left_over k n (finish l (going at p g))) same

-- the batch behind the lengths
batch_fed : (l : Lengths) (bs : List ℕ) → finished (foldl feed (body l start []) bs) ≡ answer_to l bs
unfolding answer_to report verdict_of finish
batch_fed l bs =
    ap finished (words_fed l start bs)
    ∙ through (length (rest_of bs)) l (words_from bs)
    ∙ ap (λ (k : ℕ). left_over k (length (words_from bs)) (report l (words_from bs))) (rest_length bs)

-- the whole input
all_fed : (bs : List ℕ) → finished (foldl feed (head []) bs) ≡ input_report bs
unfolding input_report
all_fed bs = by (ltb (length bs) 32) refl
  where
    by : (t : Bool) → ltb (length bs) 32 ≡ t → finished (foldl feed (head []) bs) ≡ input_report bs
    by true e =
        let few = ltb-true (length bs) 32 e in
        ap finished (lengths_gathered [] bs (omega arith)) ∙ simp e
    by false e =
        let enough = ltb-false (length bs) 32 e in
        let len = length-take-le 32 bs (omega arith) in
        ap finished (split feed (head []) 32 bs ∙ ap (λ (x : Input). foldl feed x (drop 32 bs)) (lengths_completed [] (take 32 bs) (omega arith) (omega arith)))
        ∙ batch_fed (lengths_of (take 32 bs)) (drop 32 bs)
        ∙ simp e

-- For every list of pieces (the empty list and empty pieces among them), whatever states the functions returned on the way, the line is
-- that of all bytes in order.
pub pieces_line : (pieces : List (List ℕ)) (r : OutputLine) → InPieces pieces r → r ≡ output_line (input_line (flatten pieces))
unfolding input_line
pieces_line pieces r h =
    let t = h.2.0 in
    h.2.2.0
    ∙ ap (λ (x : Input). output_line (report_line (finished x))) (along_whole InputHanded (λ s. refl) (folds_both input_in feed) h.0 pieces t h.2.1 ∙ ap (λ (x : Input). foldl feed x (flatten pieces)) h.1)
    ∙ ap (λ x. output_line (report_line x)) (all_fed (flatten pieces))
