-- How far a batch has come.
-- To be believed: that nothing has come at first.
use Rattle.std.specs.Prelude.{true, false, Ok, Err, Result}
use Rattle.answers.specs.declared.Fault.{Fault}
use Rattle.prediction.specs.Extents.{empty_extent}
use Rattle.answers.specs.Answers.{Accepted, Answer}
use Rattle.progress.specs.declared.Progress.{Progress}

-- What a whole command comes to: the progress after it, or the first rule that it breaks, with its word as the place.
abbrev pub Verdict : Type 0
Verdict = Result Progress Fault

-- Nothing has come, nothing is open and no byte is touched.
unfoldable pub fresh : Progress
fresh =
    record {
      stage =
          record {
            surfaced = false;
            pictured = false;
            grouped = false;
            in_group = false;
            group_start = false;
            in_slice = false;
            ended = false;
          };
      frame = record { width = 0; height = 0; surface = record { pitch = 0; chroma_row = 0 } };
      picture =
          record {
            coding = 0;
            forward = record { x = 0; y = 0 };
            backward = record { x = 0; y = 0 };
            grid = record { columns = 0; rows = 0 };
            frame_pred_frame_dct = true;
          };
      position = record { column = 0; row = 0 };
      previous = record { kind = 0; five = 0; six = 0; seven = 0; eight = 0 };
      extents = record { source = empty_extent; reconstructed = empty_extent; forward = empty_extent; backward = empty_extent };
    }

-- Document 01's number and place of a verdict: 0 where there is a progress after it. The place is a word, of the command or of the batch.
abbrev pub verdict_answer : Verdict → Answer
verdict_answer (Ok p) = Accepted
verdict_answer (Err f) = Err f

-- A command that was judged, and the progress after it if it keeps its rules.
abbrev pub concluded : Answer → Progress → Verdict
concluded Accepted p = Ok p
concluded (Err f) p = Err f
