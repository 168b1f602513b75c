-- A MACROBLOCK's rules in its picture, and what it changes, as they were before document 02's R-6: no type 04h, and no block of a field. "All else
-- stays for bit 10 = 1." What is quoted besides is document 01.
-- Proved: where PICTURE's bit 10 is 1, against the rules and the changes as they are, by `macroblock_before_lem` (proofs/Before.antt).
use Rattle.std.specs.Prelude.{ℕ, Bool, not, ◌&&◌, ◌||◌, List, [], ◌∷◌, ◌++◌, eqb, Some, None}
use Rattle.prediction.specs.Vectors.{still}
use Rattle.prediction.specs.Extents.{joined}
use Rattle.prediction.specs.Blocks.{block_at}
use Rattle.prediction.specs.declared.Structure.TheVariants.{Frame}
use Rattle.answers.specs.Answers.{Rule, rule}
use Rattle.macroblock.specs.Before.{macroblock_before, command_rules_before}
use Rattle.macroblock.specs.Cases.{motion_of}
use Rattle.macroblock.specs.declared.Case.{Case}
use Rattle.macroblock.specs.declared.Case.TheVariants.{Intra, Inter}
use Rattle.macroblock.specs.declared.Macroblock.{Macroblock}
use Rattle.macroblock.specs.declared.Prediction.TheVariants.{Forward, Backward, Both, Field}
use Rattle.progress.specs.declared.Extents.{Extents}
use Rattle.progress.specs.declared.Progress.{Progress}
use Rattle.placement.specs.Blocks.{extent_in, predicted, Reference}
use Rattle.placement.specs.Placing.{in_sequence, skip_permitted, at_position, conversion_permitted, flags_agree}
use Rattle.placement.specs.Progressing.{position_after, stage_after, previous_of}
use Rattle.placement.specs.declared.Predicted.{Predicted}

-- "I allows intra only, P intra and 1, B all."
abbrev pub coding_permits_before : ℕ → ℕ → Bool
coding_permits_before coding kind = eqb kind 0 || ((eqb coding 2 && eqb kind 1) || eqb coding 3)

-- "An inter macroblock carries its prediction, and that is forward, backward or both", in the frame. There was no other case.
abbrev pub forward_before : Case → Reference
forward_before Intra = None
forward_before (Inter (Forward f)) = Some (Frame, f)
forward_before (Inter (Backward b)) = None
forward_before (Inter (Both f b)) = Some (Frame, f)
forward_before (Inter (Field t b i j)) = None

abbrev pub backward_before : Case → Reference
backward_before Intra = None
backward_before (Inter (Forward f)) = None
backward_before (Inter (Backward b)) = Some (Frame, b)
backward_before (Inter (Both f b)) = Some (Frame, b)
backward_before (Inter (Field t b i j)) = None

-- The blocks that a macroblock is predicted from in the forward and in the backward reference.
abbrev pub forward_block_before : Progress → Case → Predicted
forward_block_before p case = predicted p.frame.surface p.picture.grid p.position p.picture.forward (forward_before case)

abbrev pub backward_block_before : Progress → Case → Predicted
backward_block_before p case = predicted p.frame.surface p.picture.grid p.position p.picture.backward (backward_before case)

-- The table: "9 vector beyond f code: word 5 or 6"; "10 luma block outside picture: word 5 or 6".
unfoldable pub placed_rules_before : Progress → Macroblock → List ℕ → List Rule
placed_rules_before p m ws =
    rule 3 0 (in_sequence p.stage p.picture.grid p.position)
    ∷ rule 5 1 (coding_permits_before p.picture.coding (motion_of m.case).kind)
    ∷ rule 11 1 (not m.skip || skip_permitted p.picture.coding p.previous (motion_of m.case).kind ws)
    ∷ rule 6 2 (at_position p.position m)
    ∷ rule 5 4 (conversion_permitted p.picture.coding m.flags)
    ∷ rule 7 4 (flags_agree p.stage p.picture.grid p.position m.flags)
    ∷ rule 9 5 (forward_block_before p m.case).in_range
    ∷ rule 10 5 (forward_block_before p m.case).inside
    ∷ rule 9 6 (backward_block_before p m.case).in_range
    ∷ rule 10 6 (backward_block_before p m.case).inside
    ∷ []

unfoldable pub macroblock_rules_before : Progress → List ℕ → List Rule
macroblock_rules_before p ws = placed_rules_before p (macroblock_before ws) ws ++ command_rules_before ws

-- "touches its 16×16 luma and 8×8 chroma samples in buffers 0 and 1, and its predicted blocks in 2 (forward) and 3 (backward)"
abbrev pub extents_before : Progress → Case → Extents
extents_before p case =
    record {
      source = joined p.extents.source (extent_in (block_at Frame p.frame.surface p.picture.grid p.position still));
      reconstructed = joined p.extents.reconstructed (extent_in (block_at Frame p.frame.surface p.picture.grid p.position still));
      forward = joined p.extents.forward (forward_block_before p case).extent;
      backward = joined p.extents.backward (backward_block_before p case).extent;
    }

abbrev pub progress_before : Progress → Macroblock → List ℕ → Progress
progress_before p m ws =
    record {
      stage = stage_after p.stage m.flags;
      frame = p.frame;
      picture = p.picture;
      position = position_after p.picture.grid p.position;
      previous = previous_of (motion_of m.case).kind ws;
      extents = extents_before p m.case;
    }

unfoldable pub macroblock_next_before : Progress → List ℕ → Progress
macroblock_next_before p ws = progress_before p (macroblock_before ws) ws
