-- `put_buffer`: the words of the buffer in place of the first; the loop has stored those before it.
use mathlib.Core.Path.{◌≡◌}
use lib.Seq.{paste}
use Rattle.memory_code.proofs.storing.put_buffer.Given as goal

abbrev pub invariant-loop-i : goal.invariant-loop-i
invariant-loop-i l = l.memory ≡ paste l.initial.memory 0 l.fn.buffer l.i
