-- Document 02, R-6: "All else stays for bit 10 = 1." Of every batch: it is answered and measured as before.
use mathlib.Core.Bool.{Bool, true, false, cond}
use mathlib.Core.List.{List, [], ◌∷◌, ◌++◌, foldl}
use mathlib.Core.Path.{◌≡◌, refl, sym, ap, ◌∙◌}
use Prim.Native.Nat.{ℕ, ◌+◌}
use lib.Dec.{eqb, leb, ltb}
use lib.ListN.{length}
use Rattle.lists.proofs.Booleans.{no}
use Rattle.headers.specs.Headers.{header_of, words_in}
use Rattle.headers.specs.Words.{word_at}
use Rattle.headers.specs.declared.Header.{Header}
use Rattle.progress.specs.Progress.{fresh, Verdict}
use Rattle.progress.specs.declared.Progress.{Progress}
use Rattle.std.specs.Prelude.{Ok, Err}
use Rattle.sequence.specs.Before.{judge_before}
use Rattle.sequence.specs.Judging.{judge}
use Rattle.sequence.proofs.Before.{judge_before_lem, frames_next}
use Rattle.commands.specs.Commands.{Command, command, cut, commands_of}
use Rattle.batch.specs.Before.{step_by, report_before, FramesOnly}
use Rattle.batch.specs.Reports.{ending, concluding, verdict_of, report}
use Rattle.batch.specs.Walk.{Walk, going, stopped, limit, after, step, start}
use Rattle.batch.specs.declared.Lengths.{Lengths}
use Rattle.batch.proofs.WalkLaws.{stays}

-- The walk is the same but for the judge.
pub step_by_judge : (s : Walk) (w : ℕ) → step s w ≡ step_by judge s w
unfolding step step_by
step_by_judge (going at p g) w = refl
step_by_judge (stopped n place) w = refl

stays_before : (n place : ℕ) (ws : List ℕ) → foldl (step_by judge_before) (stopped n place) ws ≡ stopped n place
unfolding step_by
stays_before n place [] = refl
stays_before n place (w ∷ ws) = stays_before n place ws

-- two walks from one state
abbrev Alike : Walk → List ℕ → Type 0
Alike s ws = foldl step s ws ≡ foldl (step_by judge_before) s ws

stopped_alike : (n place : ℕ) (ws : List ℕ) → Alike (stopped n place) ws
stopped_alike n place ws = stays n place ws ∙ sym (stays_before n place ws)

after_alike : (at next : ℕ) (v : Verdict) (ws : List ℕ) → ((q : Progress) → v ≡ Ok q → Alike (going next q []) ws) → Alike (after at next v) ws
unfolding after
after_alike at next (Ok q) ws h = h q refl
after_alike at next (Err f) ws h = stopped_alike f.number (at + f.place) ws

-- one more word, by the tests of a step
abbrev outcome : ℕ → Progress → List ℕ → ℕ → Bool → Bool → Bool → Bool → Bool → Verdict → Walk
outcome at p g w full ended zero none more v =
    cond full (stopped 27 limit)
    (cond ended
    (cond zero (going (at + length g + 1) p []) (stopped 12 (at + length g)))
    (cond none (stopped 2 at) (cond more (going at p (g ++ (w ∷ []))) (after at (at + length (g ++ (w ∷ []))) v))))

-- After END no command is judged.
ended_alike : (ws : List ℕ) (at : ℕ) (p : Progress) (g : List ℕ) → p.stage.ended ≡ true → Alike (going at p g) ws
unfolding step step_by
ended_alike [] at p g e = refl
ended_alike (w ∷ ws) at p g e =
    by (ended_alike ws (at + length g + 1) p [] e) (leb limit (at + length g)) p.stage.ended e (eqb w 0)
  where
    h : Header
    h = header_of (word_at (g ++ (w ∷ [])) 0)

    n : Bool
    n = eqb (words_in h) 0

    m : Bool
    m = ltb (length (g ++ (w ∷ []))) (words_in h)

    by : Alike (going (at + length g + 1) p []) ws → (full ended : Bool) → ended ≡ true → (zero : Bool)
        → foldl step (outcome at p g w full ended zero n m (judge h p (g ++ (w ∷ [])))) ws
        ≡ foldl (step_by judge_before) (outcome at p g w full ended zero n m (judge_before h p (g ++ (w ∷ [])))) ws
    by others true ended t zero = stopped_alike 27 limit ws
    by others false true t true = others
    by others false true t false = stopped_alike 12 (at + length g) ws
    by others false false t zero = absurd (no t)

-- The walks from every state whose picture has bit 10 = 1, over words of which every PICTURE has it.
walks_alike : (ws : List ℕ) (at : ℕ) (p : Progress) (g : List ℕ) → p.picture.frame_pred_frame_dct ≡ true → FramesOnly (cut at g ws) → Alike (going at p g) ws
unfolding step step_by cut
walks_alike [] at p g frames only = refl
walks_alike (w ∷ ws) at p g frames only =
    by (walks_alike ws) (leb limit (at + length g)) p.stage.ended refl (eqb w 0) (eqb (words_in h) 0) (ltb (length (g ++ (w ∷ []))) (words_in h)) only
  where
    h : Header
    h = header_of (word_at (g ++ (w ∷ [])) 0)

    by : ((at : ℕ) (p : Progress) (g : List ℕ) → p.picture.frame_pred_frame_dct ≡ true → FramesOnly (cut at g ws) → Alike (going at p g) ws)
        → (full ended : Bool) → p.stage.ended ≡ ended → (zero none more : Bool)
        → FramesOnly (cond none [] (cond more (cut at (g ++ (w ∷ [])) ws) (command at h (g ++ (w ∷ [])) ∷ cut (at + length (g ++ (w ∷ []))) [] ws)))
        → foldl step (outcome at p g w full ended zero none more (judge h p (g ++ (w ∷ [])))) ws
        ≡ foldl (step_by judge_before) (outcome at p g w full ended zero none more (judge_before h p (g ++ (w ∷ [])))) ws
    by others true ended e zero none more c = stopped_alike 27 limit ws
    by others false true e true none more c = ended_alike ws (at + length g + 1) p [] e
    by others false true e false none more c = stopped_alike 12 (at + length g) ws
    by others false false e zero true more c = stopped_alike 2 at ws
    by others false false e zero false true c = others at p (g ++ (w ∷ [])) frames c
    by others false false e zero false false c =
        let next = at + length (g ++ (w ∷ [])) in
        after_alike at next (judge h p (g ++ (w ∷ []))) ws (λ q s. others next q [] (frames_next h p (g ++ (w ∷ [])) q s frames c.0) c.1)
        ∙ ap (λ (v : Verdict). foldl (step_by judge_before) (after at next v) ws) (judge_before_lem h p (g ++ (w ∷ [])) frames c.0)

fresh_frames : fresh.picture.frame_pred_frame_dct ≡ true
unfolding fresh
fresh_frames = refl

-- Every batch whose PICTURE has bit 10 = 1 gets the report that it got: number, place, lengths and first bytes, under all lengths of the buffers.
pub frames_as_before : (l : Lengths) (ws : List ℕ) → FramesOnly (commands_of ws) → report l ws ≡ report_before l ws
unfolding report report_before verdict_of commands_of
frames_as_before l ws only = ap (λ (s : Walk). concluding l (ending s)) (walks_alike ws 0 fresh [] fresh_frames only)
