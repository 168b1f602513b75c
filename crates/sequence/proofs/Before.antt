-- Where PICTURE's bit 10 is 1, every command comes to what it came to before document 02's R-6.
use mathlib.Core.Path.{◌≡◌, refl, ap, ◌∙◌}
use mathlib.Core.Bool.{Bool, true, false, cond}
use mathlib.Core.List.{List}
use Prim.Native.Nat.{ℕ}
use lib.Dec.{eqb}
use Rattle.fields.specs.Word.{bits}
use Rattle.answers.specs.Answers.{rule, judged, earlier, answer_by, Accepted, Answer}
use Rattle.std.specs.Prelude.{Ok, Err}
use Rattle.headers.specs.Headers.{begins}
use Rattle.headers.specs.Words.{word_at}
use Rattle.headers.specs.declared.Header.{Header}
use Rattle.headers.specs.declared.Header.TheVariants.{Known, Carried, Unknown}
use Rattle.headers.specs.declared.Opcode.TheVariants.{Noop, End, Surface, Picture, SliceGroup, Macroblock}
use Rattle.picture.specs.Pictures.{picture_of}
use Rattle.picture.specs.declared.Picture as pictures
use Rattle.picture.proofs.Before.{picture_before}
use Rattle.progress.specs.Progress.{concluded}
use Rattle.progress.specs.declared.Progress.{Progress}
use Rattle.placement.specs.Placing.{macroblock_rules}
use Rattle.placement.specs.Progressing.{macroblock_next}
use Rattle.placement.specs.Before.{macroblock_next_before}
use Rattle.placement.proofs.Before.{macroblock_before_lem}
use Rattle.sequence.specs.Before.{rules_before, next_before, judge_before}
use Rattle.sequence.specs.Judging.{rules_of, next_of, judge}
use Rattle.sequence.specs.Sequence.{picture_permitted}
use Rattle.sequence.proofs.JudgingLaws.{goes_on}
use Rattle.sequence.proofs.SequenceLaws.{said_next}

-- what comes of an answer, where the progress matters if it accepts
same_conclusion : (a : Answer) (p q : Progress) → (a ≡ Accepted → p ≡ q) → concluded a p ≡ concluded a q
same_conclusion Accepted p q h = ap Ok (h refl)
same_conclusion (Err f) p q h = refl

pub judge_before_lem : (h : Header) (p : Progress) (ws : List ℕ) → p.picture.frame_pred_frame_dct ≡ true
    → (begins Picture h ≡ true → bits (word_at ws 1) 10 10 ≡ 1) → judge h p ws ≡ judge_before h p ws
unfolding judge judge_before rules_of rules_before next_before
judge_before_lem (Known Noop n) p ws frames set = refl
judge_before_lem (Known End n) p ws frames set = refl
judge_before_lem (Known Surface n) p ws frames set = refl
judge_before_lem (Known Picture n) p ws frames set =
    ap (λ (a : Answer). concluded (earlier (answer_by (rule 3 0 (picture_permitted p.stage))) a) (next_of (Known Picture n) p ws)) (picture_before p.frame ws (set refl))
judge_before_lem (Known SliceGroup n) p ws frames set = refl
judge_before_lem (Known Macroblock n) p ws frames set =
    unfold next_of in
    let b = macroblock_before_lem p ws frames in
    same_conclusion (judged (macroblock_rules p ws)) (macroblock_next p ws) (macroblock_next_before p ws) b.1
    ∙ ap (λ (a : Answer). concluded a (macroblock_next_before p ws)) b.0
judge_before_lem (Carried n) p ws frames set = refl
judge_before_lem Unknown p ws frames set = refl

-- The picture stays one with bit 10 = 1.
pub frames_next : (h : Header) (p : Progress) (ws : List ℕ) (q : Progress) → judge h p ws ≡ Ok q → p.picture.frame_pred_frame_dct ≡ true
    → (begins Picture h ≡ true → bits (word_at ws 1) 10 10 ≡ 1) → q.picture.frame_pred_frame_dct ≡ true
unfolding picture_of
frames_next h p ws q e frames set =
    ap (λ (x : Progress). x.picture.frame_pred_frame_dct) (goes_on h p ws q e).1
    ∙ ap (λ (x : pictures.Picture). x.frame_pred_frame_dct) (said_next h p ws).picture_said
    ∙ by (begins Picture h) refl
  where
    by : (b : Bool) → begins Picture h ≡ b → (cond b (picture_of ws) p.picture).frame_pred_frame_dct ≡ true
    by true s = ap (λ (x : ℕ). eqb x 1) (set s)
    by false s = frames
