-- Numbers and places of what the walk's parts answer, up to the report.
use mathlib.Core.Bool.{Bool, false, cond}
use mathlib.Core.List.{List, [], foldl}
use mathlib.Core.Path.{◌≡◌, refl, sym, ap, ◌∙◌}
use Prim.Native.Nat.{ℕ, ◌+◌, ◌≤◌}
use lib.ListN.{length, take, drop}
use Rattle.answers.specs.Answers.{judged, refused, fault_at}
use Rattle.std.specs.Prelude.{Ok, Err}
use Rattle.answers.proofs.Judging.{no_accepted}
use Rattle.headers.specs.declared.Header.{Header}
use Rattle.headers.specs.declared.Header.TheVariants as headers
use Rattle.progress.specs.Progress.{verdict_answer, Verdict}
use Rattle.progress.specs.declared.Progress.{Progress}
use Rattle.sequence.specs.Judging.{rules_of, judge}
use Rattle.commands.specs.Commands.{next_in, by_next, header_answer, next_answer}
use Rattle.commands.specs.declared.NextCommand.{NextCommand}
use Rattle.commands.specs.declared.NextCommand.TheVariants.{Unknown, Incomplete, Whole}
use Rattle.batch.specs.Walk.{Walk, going, stopped, limit, after, step, walk_of, walk_answer, walked_answer, Walked}
use Rattle.batch.specs.Reports.{report_number, report_place, ending, concluding, verdict_of, report}
use Rattle.batch.specs.declared.Lengths.{Lengths}
use Rattle.batch.proofs.WalkLaws.{walk_next}

-- A header that is refused by itself is refused so by the table of its command.
pub header_ruled : (h : Header) (p : Progress) (ws : List ℕ) (n word : ℕ) → header_answer 0 h ≡ refused n word → judged (rules_of h p ws) ≡ refused n word
unfolding rules_of
header_ruled (headers.Known o m) p ws n word e = absurd (no_accepted (sym e))
header_ruled (headers.Carried m) p ws n word e = absurd (no_accepted (sym e))
header_ruled headers.Unknown p ws n word e = e

-- What a run of words came to answers what its walk answers.
pub walked_answer_lem : (base : ℕ) (ws : List ℕ) (r : Walked) → walk_answer (walk_of base ws r) ≡ walked_answer r
walked_answer_lem base ws (Err f) = refl
walked_answer_lem base ws (Ok f) = refl

-- A walk that is refused stays the verdict.
pub walk_verdict : (w : Walk) (n place : ℕ) → walk_answer w ≡ refused n place → verdict_answer (ending w) ≡ refused n place
walk_verdict (stopped m q) n place e = e
walk_verdict (going at p g) n place e = absurd (no_accepted (sym e))

-- A verdict that refuses is the report, whatever the lengths.
pub verdict_reported : (l : Lengths) (ws : List ℕ) (n place : ℕ) → verdict_answer (verdict_of ws) ≡ refused n place
    → (report_number (report l ws) ≡ n) × (report_place (report l ws) ≡ place)
unfolding report
verdict_reported l ws n place e = by (verdict_of ws) e
  where
    by : (v : Verdict) → verdict_answer v ≡ refused n place → (report_number (concluding l v) ≡ n) × (report_place (concluding l v) ≡ place)
    by (Ok p) e = absurd (no_accepted (sym e))
    by (Err f) e = (cc, cc)

-- Words that are not a whole command, before END: refused as what they begin with says.
pub next_answered : (at : ℕ) (p : Progress) (ws : List ℕ) (n place : ℕ) → p.stage.ended ≡ false → at + length ws ≤ limit
    → next_answer at (at + length ws) (next_in ws) ≡ refused n place → verdict_answer (ending (foldl step (going at p []) ws)) ≡ refused n place
next_answered at p ws n place e l h = ap (λ (w : Walk). verdict_answer (ending w)) (walk_next at p e ws l) ∙ by (next_in ws) h
  where
    by : (c : NextCommand) → next_answer at (at + length ws) c ≡ refused n place
        → verdict_answer (ending (by_next (stopped 2 at) (going at p ws) (λ h n. foldl step (after at (at + n) (judge h p (take n ws))) (drop n ws)) c)) ≡ refused n place
    by Unknown h = h
    by Incomplete h = ap (λ (b : Bool). verdict_answer (cond b (Ok p) (Err (fault_at 1 (at + length ws))))) e ∙ h
    by (Whole x m) h = absurd (no_accepted (sym h))
