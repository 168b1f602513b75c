-- `hand_words`: whole words handed over, as many at a time as the room holds.
use mathlib.Core.List.{◌++◌, foldl, foldl-append}
use mathlib.Core.Path.{◌≡◌, sym, ◌∙◌, ap}
use Prim.Native.Nat.{ℕ, ◌+◌, ◌%◌}
use native.Mathlib.Omega.{arith}
use lib.ListN.{length, length-append}
use Rattle.std.specs.Prelude.{min}
use Rattle.std.specs.Slice.Iter.{chunks_rest}
use Rattle.batch.specs.Walk.{Walk, step}
use Rattle.parts.specs.States.{walk_in}
use Rattle.input.specs.Line.{words_from}
use Rattle.input_code.proofs.WordLaws.{words_append}
use Rattle.input_code.proofs.words.hand_words.Goals as goal

pub loop-bytes-preserved : goal.loop-bytes-preserved
loop-bytes-preserved c =
    let l = c.loop-bytes in
    let v = l.invariant in
    let h = c.hand_chunk-next in
    let steps = c.in-Some.ensures.steps in
    let bytes = c.in-Some.bytes.now in
    let rest = chunks_rest l.bytes-iterator in
    let left = chunks_rest c.next.new.self in
    let parts : rest ≡ bytes ++ left = steps.1.0 in
    let size : length bytes ≡ min 16384 (length rest) = steps.1.1 ∙ ap (λ (n : ℕ). min n (length rest)) v.size in
    let all : length rest ≡ length bytes + length left = ap length parts ∙ length-append bytes left in
    let some : length bytes % 4 ≡ 0 = omega (arith, v.whole) in
    record {
      next = omega (arith, v.size, steps.0);
      ends = tt;
      size = steps.0 ∙ v.size;
      room = h.auto.room ∙ v.room;
      whole = omega (arith, v.whole);
      lengths = h.ensures.1 ∙ v.lengths;
      walk =
          ap (λ (w : Walk). foldl step w (words_from left)) h.ensures.0
          ∙ sym (foldl-append step (walk_in l.next) (words_from bytes) (words_from left))
          ∙ ap (foldl step (walk_in l.next)) (sym (words_append bytes left some) ∙ ap words_from (sym parts))
          ∙ v.walk;
    }
