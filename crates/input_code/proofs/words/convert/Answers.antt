-- `convert`: the words of some bytes, in a room of as many.
use mathlib.Core.Path.{◌≡◌, sym, ◌∙◌}
use native.Mathlib.Omega.{arith}
use Prim.Native.Nat.{◌/◌}
use lib.ListN.{length}
use lib.Seq.{take_all}
use Rattle.input_code.proofs.WordLaws.{one_more, all_converted}
use Rattle.input_code.proofs.words.convert.Goals as goal

pub loop-i-preserved : goal.loop-i-preserved
loop-i-preserved c =
    let l = c.loop-i in
    one_more c.args.bytes.now l.room l.i _ l.invariant (omega arith) (omega arith) c.word_at.ensures

pub returns : goal.returns
returns c =
    let l = c.loop-i in
    let bs = c.args.bytes.now in
    let long : length l.room ≡ length bs / 4 = omega arith in
    sym (take_all (length bs / 4) l.room (omega arith)) ∙ all_converted bs l.room l.i l.invariant (omega arith)
