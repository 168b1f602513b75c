-- `buffer_in`: the words of a buffer, each cut to 32 bits; the loop has read those before it.
use mathlib.Core.List.{append-nil}
use mathlib.Core.Path.{◌≡◌, sym, ap, ◌∙◌}
use Prim.Native.Nat.{◌<◌}
use native.Mathlib.Omega.{arith}
use lib.ListN.{take, replicate}
use lib.Seq.{paste, take_all}
use Rattle.memory.specs.Places.{buffer_words}
use Rattle.memory.specs.Memory.{stored_buffer}
use Rattle.memory.proofs.MemoryLaws.{buffer_length, buffer_at}
use Rattle.memory_code.proofs.CopyLaws.{copied_one}
use Rattle.memory_code.proofs.reading.buffer_in.Goals as goal

pub loop-i-preserved : goal.loop-i-preserved
loop-i-preserved c = let l = c.loop-i in
    let m = c.args.memory.now in
    let more : l.i < buffer_words = omega arith in
    copied_one (replicate buffer_words 0) (stored_buffer m) l.i l.word-items _ more (omega (arith, buffer_length m)) (sym (buffer_at m l.i more)) l.invariant

pub returns : goal.returns
returns c = let l = c.loop-i in
    let m = c.args.memory.now in
    let e : l.i ≡ buffer_words = omega arith in
    l.invariant
    ∙ ap (paste (replicate buffer_words 0) 0 (stored_buffer m)) e
    ∙ append-nil (take buffer_words (stored_buffer m))
    ∙ take_all buffer_words (stored_buffer m) (omega (arith, buffer_length m))
