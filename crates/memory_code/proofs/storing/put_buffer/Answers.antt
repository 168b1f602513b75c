-- `put_buffer`: the words of the buffer in place of the first; the loop has stored those before it.
use mathlib.Core.Path.{refl}
use borrow.Author.Rules.{rules}
use Rattle.memory_code.proofs.CopyLaws.{copied_one}
use Rattle.memory_code.proofs.storing.put_buffer.Goals as goal

pub loop-i-preserved : goal.loop-i-preserved
loop-i-preserved c = let l = c.loop-i in
    let a = c.args in
    copied_one a.memory.now a.buffer l.i l.memory _ (search rules) (search rules) refl l.invariant
