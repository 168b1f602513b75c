-- `buffer_in`: the words of a buffer, each cut to 32 bits; the loop has read those before it.
use mathlib.Core.Path.{◌≡◌}
use lib.Seq.{paste}
use Rattle.memory.specs.Memory.{stored_buffer}
use Rattle.memory_code.proofs.reading.buffer_in.Given as goal

abbrev pub invariant-loop-i : goal.invariant-loop-i
invariant-loop-i l = l.word-items ≡ paste l.initial.word-items 0 (stored_buffer l.memory) l.i
