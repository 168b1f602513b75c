-- What a command that the tests let pass comes to: each of its rules holds, and what it touches is joined.
-- Proved: against the rules and the progress after them, by `accepted` (proofs/Keeping.antt) and `found_comes` (proofs/Taking.antt).
use Rattle.std.specs.Prelude.{true, not, ◌&&◌, ◌||◌, List, ◌≡◌, ℕ, ◌<◌, length}
use Rattle.headers.specs.Words.{word_at}
use Rattle.macroblock.specs.Cases.{motion_of}
use Rattle.macroblock.specs.Macroblocks.{macroblock_of, kind_in}
use Rattle.macroblock.specs.Rules.{kept_by, type_permitted, field_in, fixed1, fixed3, fixed4, copied}
use Rattle.placement.specs.Blocks.{blocks_of}
use Rattle.placement.specs.Placing.{allowed_in, in_sequence, coding_permits, skip_permitted, at_position, conversion_permitted, flags_agree}
use Rattle.progress.specs.declared.Progress.{Progress}
use Rattle.prediction.specs.Extents.{joined}
use Rattle.prediction.specs.declared.Extent.{Extent}
use Rattle.macroblock.specs.declared.Flags.{Flags}
use Rattle.placement.specs.Progressing.{stage_after}
use Rattle.rows.specs.Rows.{previous_in, own_in}
use Rattle.rows.specs.Steps.{place_in, reach_in}
use Rattle.rows.specs.Touching.{reached, AllFit, across_of, down_of, forward_points, backward_points}
use Rattle.rows.specs.Words.{due_bits}

-- Every rule of a command where it comes, one by one.
pub record Keeps (q : Progress) (c : List ℕ) : Type 0 where
  pub sequence : in_sequence q.stage q.picture.grid q.position ≡ true
  pub coding : coding_permits q.picture.coding (motion_of (macroblock_of c).case).kind ≡ true
  pub skip : (not (macroblock_of c).skip || skip_permitted q.picture.coding q.previous (motion_of (macroblock_of c).case).kind c) ≡ true
  pub position : at_position q.position (macroblock_of c) ≡ true
  pub conversion : conversion_permitted q.picture.coding (macroblock_of c).flags ≡ true
  pub flags : flags_agree q.stage q.picture.grid q.position (macroblock_of c).flags ≡ true
  pub forward_range : (blocks_of q (macroblock_of c).case).forward.in_range ≡ true
  pub forward_inside : (blocks_of q (macroblock_of c).case).forward.inside ≡ true
  pub backward_range : (blocks_of q (macroblock_of c).case).backward.in_range ≡ true
  pub backward_inside : (blocks_of q (macroblock_of c).case).backward.inside ≡ true
  pub bottom_range : (blocks_of q (macroblock_of c).case).bottom.in_range ≡ true
  pub bottom_inside : (blocks_of q (macroblock_of c).case).bottom.inside ≡ true
  pub fixed_1 : fixed1 (allowed_in q.picture) (word_at c 1) ≡ true
  pub typed : (type_permitted (allowed_in q.picture) (word_at c 1) && (kept_by (macroblock_of c)).intra_not_skipped) ≡ true
  pub skipped : ((kept_by (macroblock_of c)).skip_inside_slice && ((kept_by (macroblock_of c)).skip_pattern && (kept_by (macroblock_of c)).field_not_skipped)) ≡ true
  pub fixed_3 : fixed3 (word_at c 3) ≡ true
  pub intra_pattern : (kept_by (macroblock_of c)).intra_pattern ≡ true
  pub fixed_4 : fixed4 (field_in (allowed_in q.picture) (word_at c 1)) (word_at c 4) ≡ true
  pub quantiser : (kept_by (macroblock_of c)).quantiser ≡ true
  pub five : copied c 5 0 ≡ true
  pub six : copied c 6 1 ≡ true
  pub seven : copied c 7 2 ≡ true
  pub eight : copied c 8 3 ≡ true

-- What a command that is taken comes to: its rules hold, and what it touches of the references is joined.
pub record Joins (q : Progress) (ws : List ℕ) (f b : Extent) : Type 0 where
  pub keeps : Keeps q ws
  pub kind_is : (motion_of (macroblock_of ws).case).kind ≡ kind_in (word_at ws 1)
  pub forward_next : joined (joined q.extents.forward (blocks_of q (macroblock_of ws).case).forward.extent) (blocks_of q (macroblock_of ws).case).bottom.extent ≡ f
  pub backward_next : joined q.extents.backward (blocks_of q (macroblock_of ws).case).backward.extent ≡ b

-- Where the batch stands before the command at a column: `q` is the progress there, `p` was that before the first of the row that
-- was taken, and `before` the command just before.
pub record Stands (p : Progress) (column due : ℕ) (f b : Extent) (before : List ℕ) (q : Progress) : Type 0 where
  pub open_group : q.stage.in_group ≡ true
  pub due_is : due ≡ due_bits (not q.stage.in_slice) q.stage.group_start
  pub same_frame : q.frame ≡ p.frame
  pub same_picture : q.picture ≡ p.picture
  pub here : q.position ≡ place_in p column
  pub in_columns : column < p.picture.grid.columns
  pub in_rows : p.position.row < p.picture.grid.rows
  pub previous_is : (length before ≡ 0 → ⊥) → q.previous ≡ previous_in before
  pub stage_next : (fl : Flags) → stage_after q.stage fl ≡ stage_after p.stage fl
  pub source_next : joined q.extents.source (reach_in p column 0) ≡ joined p.extents.source (own_in p column)
  pub reconstructed_next : joined q.extents.reconstructed (reach_in p column 0) ≡ joined p.extents.reconstructed (own_in p column)
  pub forward_is : q.extents.forward ≡ f
  pub backward_is : q.extents.backward ≡ b

-- What a command comes to whose tests found the ends `f'` and `b'`: its rules hold, and what is touched of both references, `f` and `b` before it, is
-- joined with what it touches of them; its vectors keep their lines.
pub record Comes (p q : Progress) (column : ℕ) (f b : Extent) (ws : List ℕ) (f' b' : ℕ) : Type 0 where
  pub joins : Joins q ws (reached p.frame.surface (place_in p column) (forward_points p ws) f) (reached p.frame.surface (place_in p column) (backward_points p ws) b)
  pub forward_end : f' ≡ (reached p.frame.surface (place_in p column) (forward_points p ws) f).end
  pub backward_end : b' ≡ (reached p.frame.surface (place_in p column) (backward_points p ws) b).end
  pub forward_fits : AllFit (across_of p.picture.grid p.picture.forward) (down_of p.picture.grid p.picture.forward) (place_in p column) (forward_points p ws)
  pub backward_fits : AllFit (across_of p.picture.grid p.picture.backward) (down_of p.picture.grid p.picture.backward) (place_in p column) (backward_points p ws)
