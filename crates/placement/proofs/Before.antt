-- In a picture whose bit 10 is 1 a MACROBLOCK is answered as before document 02's R-6, and changes what it changed.
use mathlib.Core.Path.{◌≡◌, refl, sym, ap, ◌∙◌}
use mathlib.Core.Bool.{Bool, true, false, not, ◌&&◌}
use mathlib.Core.List.{List, [], ◌∷◌, ◌++◌}
use Prim.Native.Nat.{ℕ}
use borrow.Author.Tests.{eqb-true}
use lib.Dec.{eqb}
use Rattle.lists.proofs.Booleans.{no}
use Rattle.prediction.specs.Extents.{empty_extent, joined}
use Rattle.prediction.specs.declared.Extent.{Extent}
use Rattle.prediction.proofs.ExtentLaws.{join_right, empty_end}
use Rattle.answers.specs.Answers.{Rule, rule, judged, earlier, answer_by, Accepted}
use Rattle.answers.proofs.Judging.{both_accept}
use Rattle.headers.specs.Words.{word_at}
use Rattle.macroblock.specs.Before.{macroblock_before, command_rules_before}
use Rattle.macroblock.specs.Cases.{motion_of, is_field}
use Rattle.macroblock.specs.Macroblocks.{kind_in, motion_in, macroblock_of}
use Rattle.macroblock.specs.Rules.{neither, command_rules}
use Rattle.macroblock.specs.declared.Allowed.{Allowed}
use Rattle.macroblock.specs.declared.Case.{Case}
use Rattle.macroblock.specs.declared.Case.TheVariants.{Intra, Inter}
use Rattle.macroblock.specs.declared.Macroblock.{Macroblock}
use Rattle.macroblock.specs.declared.Prediction.TheVariants.{Forward, Backward, Both, Field}
use Rattle.macroblock.proofs.AllowedLaws.{field_allowed}
use Rattle.macroblock.proofs.Before.{same_rules, same_said, said_before, four_placed}
use Rattle.macroblock.proofs.CaseLaws.{field_case}
use Rattle.macroblock.proofs.Congruence.{made}
use Rattle.picture.specs.declared.Picture.{Picture}
use Rattle.progress.specs.declared.Progress.{Progress}
use Rattle.placement.specs.Before.{placed_rules_before, macroblock_rules_before, forward_block_before, progress_before, macroblock_next_before}
use Rattle.placement.specs.Blocks.{forward_of, backward_of, bottom_of, predicted, blocks_of}
use Rattle.placement.specs.Placing.{in_sequence, allowed_in, placed_rules, macroblock_rules}
use Rattle.placement.specs.Progressing.{extents_after, progress_after, macroblock_next}

-- Such a picture allows neither type 04h nor a dct type.
abbrev allowing : Bool → Bool → Allowed
allowing dct field = record { dct_type = dct; field = field }

pub allowed_before : (p : Picture) → p.frame_pred_frame_dct ≡ true → allowed_in p ≡ neither
unfolding allowed_in
allowed_before p e = ap (λ (x : Bool). allowing (not x) (not x && eqb p.coding 2)) e

-- a macroblock with another case
abbrev with_case : Macroblock → Case → Macroblock
with_case m c =
    made m.column m.row m.upper c m.skip m.dct_type m.pattern m.max_size m.target_size m.quantiser m.flags

-- progress with these touched bytes of the forward reference
abbrev with_forward : Progress → Extent → Progress
with_forward p x =
    record {
      stage = p.stage;
      frame = p.frame;
      picture = p.picture;
      position = p.position;
      previous = p.previous;
      extents = record { source = p.extents.source; reconstructed = p.extents.reconstructed; forward = x; backward = p.extents.backward };
    }

none_joined : (a : Extent) → joined a empty_extent ≡ a
none_joined a = join_right a empty_extent empty_end

module _ (p : Progress) (ws : List ℕ) where
  -- Of every case but a field prediction the picture's rules answer alike, beside whatever other rules.
  same_placed : (m : Macroblock) (rs : List Rule) → is_field m.case ≡ false
      → judged (placed_rules p (blocks_of p m.case) m ws ++ rs) ≡ judged (placed_rules_before p m ws ++ rs)
  unfolding placed_rules placed_rules_before blocks_of predicted forward_of backward_of bottom_of motion_of
  same_placed m rs = by m.case
    where
      by : (c : Case) → is_field c ≡ false → judged (placed_rules p (blocks_of p c) (with_case m c) ws ++ rs) ≡ judged (placed_rules_before p (with_case m c) ws ++ rs)
      by Intra e = refl
      by (Inter (Forward f)) e = refl
      by (Inter (Backward b)) e = refl
      by (Inter (Both f b)) e = refl
      by (Inter (Field t b i j)) e = absurd (no (sym e))

  -- and the same comes of it
  same_progress : (m : Macroblock) → is_field m.case ≡ false → progress_after p (blocks_of p m.case) m ws ≡ progress_before p m ws
  unfolding progress_after extents_after blocks_of predicted forward_of backward_of bottom_of motion_of
  same_progress m = by m.case
    where
      by : (c : Case) → is_field c ≡ false → progress_after p (blocks_of p c) (with_case m c) ws ≡ progress_before p (with_case m c) ws
      by Intra e = ap (with_forward (progress_before p (with_case m Intra) ws)) (none_joined (joined p.extents.forward (forward_block_before p Intra).extent))
      by (Inter (Forward f)) e =
          ap (with_forward (progress_before p (with_case m (Inter (Forward f))) ws)) (none_joined (joined p.extents.forward (forward_block_before p (Inter (Forward f))).extent))
      by (Inter (Backward b)) e =
          ap (with_forward (progress_before p (with_case m (Inter (Backward b))) ws)) (none_joined (joined p.extents.forward (forward_block_before p (Inter (Backward b))).extent))
      by (Inter (Both f b)) e =
          ap (with_forward (progress_before p (with_case m (Inter (Both f b))) ws)) (none_joined (joined p.extents.forward (forward_block_before p (Inter (Both f b))).extent))
      by (Inter (Field t b i j)) e = absurd (no (sym e))

  module _ (frames : p.picture.frame_pred_frame_dct ≡ true) where
    abbrev placed : List Rule
    placed = placed_rules p (blocks_of p (macroblock_of ws).case) (macroblock_of ws) ws

    allowed : judged (macroblock_rules p ws) ≡ judged (placed ++ command_rules neither ws)
    unfolding macroblock_rules
    allowed = ap (λ (a : Allowed). judged (placed ++ command_rules a ws)) (allowed_before p.picture frames)

    -- of any type but 04h
    any-other : eqb (kind_in (word_at ws 1)) 4 ≡ false → judged (placed ++ command_rules neither ws) ≡ judged (macroblock_rules_before p ws)
    unfolding macroblock_rules_before macroblock_of placed_rules_before
    any-other h =
        ap (λ (rs : List Rule). judged (placed ++ rs)) (same_rules ws h)
        ∙ same_placed (macroblock_of ws) (command_rules_before ws) (field_case (motion_in ws) ∙ h)
        ∙ ap (λ (m : Macroblock). judged (placed_rules_before p m ws ++ command_rules_before ws)) (same_said ws h)

    -- the rules behind the first
    abbrev others : List Rule → List Rule
    others [] = []
    others (r ∷ rs) = rs

    -- type 04h is no type: 4 or 5 at word 1, unless the command is out of sequence
    field-type : kind_in (word_at ws 1) ≡ 4 → judged (placed ++ command_rules neither ws) ≡ judged (macroblock_rules_before p ws)
    unfolding macroblock_rules_before placed_rules placed_rules_before
    field-type h =
        ap (earlier (answer_by (rule 3 0 (in_sequence p.stage p.picture.grid p.position))))
        (four_placed ws h (others placed) (others (placed_rules_before p (macroblock_before ws) ws))
        ((refl, refl), ((refl, refl), ((refl, refl), ((refl, refl), ((refl, refl), ((refl, refl), ((refl, refl), ((refl, refl), ((refl, refl), ((refl, refl), ((refl, refl), tt)))))))))))
        ((refl, refl), ((refl, refl), ((refl, refl), ((refl, refl), ((refl, refl), ((refl, refl), ((refl, refl), ((refl, refl), ((refl, refl), tt))))))))))

    answered-before : judged (macroblock_rules p ws) ≡ judged (macroblock_rules_before p ws)
    answered-before = allowed ∙ by (eqb (kind_in (word_at ws 1)) 4) refl
      where
        by : (x : Bool) → eqb (kind_in (word_at ws 1)) 4 ≡ x → judged (placed ++ command_rules neither ws) ≡ judged (macroblock_rules_before p ws)
        by true e = field-type (eqb-true (kind_in (word_at ws 1)) 4 e)
        by false e = any-other e

    next-before : judged (macroblock_rules p ws) ≡ Accepted → macroblock_next p ws ≡ macroblock_next_before p ws
    unfolding macroblock_next macroblock_next_before
    next-before k =
        let kept = (both_accept placed (command_rules neither ws) (sym allowed ∙ k)).1 in
        same_progress (macroblock_of ws) (by (is_field (macroblock_of ws).case) refl kept) ∙ ap (λ (m : Macroblock). progress_before p m ws) (said_before ws kept)
      where
        by : (x : Bool) → is_field (macroblock_of ws).case ≡ x → judged (command_rules neither ws) ≡ Accepted → is_field (macroblock_of ws).case ≡ false
        by true e kept = absurd (no (field_allowed neither ws kept e))
        by false e kept = e

-- Document 02, R-6: "All else stays for bit 10 = 1." Every command is answered as before, and one that is accepted changes what it changed.
pub macroblock_before_lem : (p : Progress) (ws : List ℕ) → p.picture.frame_pred_frame_dct ≡ true
    → (judged (macroblock_rules p ws) ≡ judged (macroblock_rules_before p ws)) × (judged (macroblock_rules p ws) ≡ Accepted → macroblock_next p ws ≡ macroblock_next_before p ws)
macroblock_before_lem p ws frames = (answered-before p ws frames, next-before p ws frames)
