-- `hand_words`: whole words handed over; the loop has handed over those before what the iterator has left.
use Rattle.std.proofs.Common.{length, ◌≡◌, ◌%◌}
use Rattle.std.specs.Slice.Iter.{chunks_rest, chunks_size}
use mathlib.Core.List.{foldl}
use Rattle.batch.specs.Walk.{step}
use Rattle.parts.specs.States.{walk_in}
use Rattle.input.specs.Line.{words_from}
use Rattle.input_code.proofs.words.hand_words.Given as goal

abbrev pub invariant-loop-bytes : goal.invariant-loop-bytes
invariant-loop-bytes l =
    record {
      next : goal.iterator-loop-bytes.can_next l.bytes-iterator;
      ends : goal.iterator-loop-bytes.is_finite l.bytes-iterator;
      size : chunks_size l.bytes-iterator ≡ 16384;
      room : length l.room ≡ 4096;
      whole : length (chunks_rest l.bytes-iterator) % 4 ≡ 0;
      lengths : l.next.lengths ≡ l.initial.next.lengths;
      walk : foldl step (walk_in l.next) (words_from (chunks_rest l.bytes-iterator)) ≡ foldl step (walk_in l.initial.next) (words_from l.words);
    }
