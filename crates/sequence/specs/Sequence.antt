-- Which commands may come when, and what each changes. Document 01, "Sequence".
-- To be believed: document 01's sequence.
use Rattle.std.specs.Prelude.{Bool, true, not, ◌&&◌, leb, ltb}
use Rattle.prediction.specs.declared.Grid.{Grid}
use Rattle.prediction.specs.declared.Position.{Position}
use Rattle.picture.specs.declared.Frame.{Frame}
use Rattle.picture.specs.declared.Picture.{Picture}
use Rattle.progress.specs.declared.Progress.{Progress}
use Rattle.progress.specs.declared.Stage.{Stage}

-- "SURFACE once"
abbrev pub surface_permitted : Stage → Bool
surface_permitted s = not s.surfaced

-- "PICTURE once, after it"
abbrev pub picture_permitted : Stage → Bool
picture_permitted s = s.surfaced && not s.pictured

-- "SLICEGROUP only after PICTURE, with no group open and the picture unfinished". The position's row is H when W×H have come.
abbrev pub group_permitted : Stage → Grid → Position → Bool
group_permitted s g at = (s.pictured && not s.in_group) && ltb at.row g.rows

-- "carried commands only before the first SLICEGROUP"
abbrev pub carried_permitted : Stage → Bool
carried_permitted s = not s.grouped

-- "END only with exactly W×H seen and no group open"
abbrev pub end_permitted : Stage → Grid → Position → Bool
end_permitted s g at = (s.pictured && not s.in_group) && leb g.rows at.row

abbrev pub with_stage : Progress → Stage → Progress
with_stage p s =
    record {
      stage = s;
      frame = p.frame;
      picture = p.picture;
      position = p.position;
      previous = p.previous;
      extents = p.extents;
    }

unfoldable pub surface_next : Progress → Frame → Progress
surface_next p f =
    record {
      stage =
          record {
            surfaced = true;
            pictured = p.stage.pictured;
            grouped = p.stage.grouped;
            in_group = p.stage.in_group;
            group_start = p.stage.group_start;
            in_slice = p.stage.in_slice;
            ended = p.stage.ended;
          };
      frame = f;
      picture = p.picture;
      position = p.position;
      previous = p.previous;
      extents = p.extents;
    }

unfoldable pub picture_next : Progress → Picture → Progress
picture_next p x =
    record {
      stage =
          record {
            surfaced = p.stage.surfaced;
            pictured = true;
            grouped = p.stage.grouped;
            in_group = p.stage.in_group;
            group_start = p.stage.group_start;
            in_slice = p.stage.in_slice;
            ended = p.stage.ended;
          };
      frame = p.frame;
      picture = x;
      position = p.position;
      previous = p.previous;
      extents = p.extents;
    }

-- "SLICEGROUP opens a group"
unfoldable pub group_next : Progress → Progress
group_next p =
    with_stage p
    (record {
      surfaced = p.stage.surfaced;
      pictured = p.stage.pictured;
      grouped = true;
      in_group = true;
      group_start = true;
      in_slice = p.stage.in_slice;
      ended = p.stage.ended;
    })

unfoldable pub end_next : Progress → Progress
end_next p =
    with_stage p
    (record {
      surfaced = p.stage.surfaced;
      pictured = p.stage.pictured;
      grouped = p.stage.grouped;
      in_group = p.stage.in_group;
      group_start = p.stage.group_start;
      in_slice = p.stage.in_slice;
      ended = true;
    })
