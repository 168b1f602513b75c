-- What holds of the tables, and of what PICTURE says.
use mathlib.Core.Bool.{◌&&◌}
use mathlib.Core.List.{List}
use mathlib.Core.Path.{◌≡◌}
use Prim.Native.Nat.{ℕ, ◌*◌, ◌≤◌}
use native.Mathlib.Omega.{arith}
use borrow.Author.Tests.{leb-true}
use lib.Dec.{T, leb}
use Rattle.lists.proofs.Booleans.{and_left, and_right}
use Rattle.answers.specs.Answers.{judged, Accepted}
use Rattle.answers.proofs.Judging.{rule_kept}
use Rattle.picture.specs.Pictures.{picture_of, fits, picture_rules}
use Rattle.picture.specs.Surfaces.{surface_rules}
use Rattle.picture.specs.declared.Frame.{Frame}
use Rattle.answers.specs.Tables.{within}

-- They refuse with numbers from 2 to 12, at words up to 4.
pub surface_within : (ws : List ℕ) → T (within 12 4 (surface_rules ws))
unfolding surface_rules
surface_within ws = tt

pub picture_within : (f : Frame) (ws : List ℕ) → T (within 12 4 (picture_rules f ws))
unfolding picture_rules
picture_within f ws = tt

-- A picture has a column and a row of macroblocks.
pub some_columns : (ws : List ℕ) → 1 ≤ (picture_of ws).grid.columns
unfolding picture_of
some_columns ws = omega arith

pub some_rows : (ws : List ℕ) → 1 ≤ (picture_of ws).grid.rows
unfolding picture_of
some_rows ws = omega arith

-- Over a picture that is accepted the pitch is at least the 16 columns of one macroblock.
pub wide : (f : Frame) (ws : List ℕ) → judged (picture_rules f ws) ≡ Accepted → 16 ≤ f.surface.pitch
unfolding picture_rules
wide f ws a =
    let g = (picture_of ws).grid in
    let fit = fits f.width g.columns && fits f.height g.rows in
    let columns = leb (16 * g.columns) f.surface.pitch in
    let rows = leb (16 * g.rows) f.surface.chroma_row in
    let size = rule_kept 5 3 (picture_rules f ws) a in
    let pitch = leb-true (16 * g.columns) f.surface.pitch (and_left columns rows (and_right fit (columns && rows) (and_right (leb g.rows 175) (fit && (columns && rows)) size))) in
    omega (arith, pitch, some_columns ws)
