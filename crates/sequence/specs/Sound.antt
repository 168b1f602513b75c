-- What holds of every progress that commands lead to.
-- Proved: of every progress that accepted commands lead to, by `fresh_sound` and `sound_next` (proofs/SequenceLaws.antt).
use Rattle.std.specs.Prelude.{true, false, ◌≡◌, ℕ, ◌≤◌, ◌<◌}
use Rattle.progress.specs.declared.Progress.{Progress}
use Rattle.placement.specs.Progressing.{count_before, Reached}

-- What holds of every progress: a group is open only after PICTURE, which comes after SURFACE; before PICTURE no macroblock has
-- come; after it the pitch holds a macroblock, the next one is in a column of the picture, and no more than W·H come; after END
-- they have all come.
pub record Sound (p : Progress) : Type 0 where
  pub group_pictured : p.stage.in_group ≡ true → p.stage.pictured ≡ true
  pub pictured_surfaced : p.stage.pictured ≡ true → p.stage.surfaced ≡ true
  pub none_yet : p.stage.pictured ≡ false → (p.position.column ≡ 0) × (p.position.row ≡ 0)
  pub wide : p.stage.pictured ≡ true → 16 ≤ p.frame.surface.pitch
  pub in_row : p.stage.pictured ≡ true → p.position.column < p.picture.grid.columns
  pub reached : p.stage.pictured ≡ true → Reached p.picture.grid p.position
  pub ended_full : p.stage.ended ≡ true → (p.stage.pictured ≡ true) × (p.picture.grid.rows ≤ p.position.row)

-- How many macroblocks have come.
abbrev pub have_come : Progress → ℕ
have_come p = count_before p.picture.grid.columns p.position
