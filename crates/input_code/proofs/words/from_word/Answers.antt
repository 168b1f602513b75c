-- `from_word`: a piece that begins with a word.
use mathlib.Core.List.{List, [], foldl}
use mathlib.Core.Path.{◌≡◌, sym, ◌∙◌, ap, ap₂}
use Prim.Native.Nat.{ℕ, ◌-◌, ◌%◌, ◌<◌}
use native.Mathlib.Omega.{arith}
use lib.ListN.{length, take, drop, length-drop}
use lib.Seq.{length-take-le}
use Rattle.lists.proofs.Slices.{split}
use Rattle.batch.specs.Walk.{Walk, step}
use Rattle.batch.specs.declared.Lengths.{Lengths}
use Rattle.parts.specs.States.{walk_in}
use Rattle.input.specs.Line.{words_from}
use Rattle.input.specs.Input.{Input, body, feed}
use Rattle.input.proofs.Feeding.{whole_fed}
use Rattle.input_code.proofs.WordLaws.{few_held}
use Rattle.input_code.proofs.words.from_word.Goals as goal

pub returns-then-piece-lt4 : goal.returns-then-piece-lt4
returns-then-piece-lt4 c =
    let a = c.args in
    c.hold.ensures ∙ sym (few_held a.state.lengths (walk_in a.state) a.piece.now c.if-piece-lt4.true)

pub returns : goal.returns
returns c =
    let l = c.args.state.lengths in
    let w = walk_in c.args.state in
    let bs = c.args.piece.now in
    let m = length bs - length bs % 4 in
    let words = take m bs in
    let rest = drop m bs in
    let some : length words ≡ m = length-take-le m bs (omega arith) in
    let few : length rest < 4 = omega (arith, length-drop m bs) in
    let h = c.hand_words.ensures in
    c.hold-2.ensures
    ∙ ap₂ (λ (k : Lengths) (x : Walk). body k x c.split_at.result.1.now) h.1 (h.0 ∙ ap (λ (ws : List ℕ). foldl step w (words_from ws)) c.split_at.ensures.front)
    ∙ ap (body l (foldl step w (words_from words))) c.split_at.ensures.back
    ∙ sym (few_held l (foldl step w (words_from words)) rest few)
    ∙ ap (λ (x : Input). foldl feed x rest) (sym (whole_fed l w words (omega arith)))
    ∙ sym (split feed (body l w []) m bs)
