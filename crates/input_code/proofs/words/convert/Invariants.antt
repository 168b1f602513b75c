-- `convert`: the words of some bytes; the loop has converted those before it.
use Rattle.input_code.proofs.WordLaws.{Converted}
use Rattle.input_code.proofs.words.convert.Given as goal

abbrev pub invariant-loop-i : goal.invariant-loop-i
invariant-loop-i l = Converted l.bytes l.room l.i
