-- `complete_word`: a piece behind the first bytes of a word.
use mathlib.Core.List.{[], foldl}
use mathlib.Core.Path.{◌≡◌, sym, ◌∙◌, ap, ap₂}
use Prim.Native.Nat.{◌+◌, ◌-◌}
use native.Mathlib.Omega.{arith}
use borrow.Author.Rules.{rules}
use lib.ListN.{length, take, drop}
use lib.Seq.{length-take-le}
use Rattle.lists.proofs.Slices.{split, part_rest}
use Rattle.fields.specs.Bytes.{number_in}
use Rattle.fields.proofs.Elements.{elements_take}
use Rattle.batch.specs.Walk.{Walk, step}
use Rattle.batch.specs.declared.Lengths.{Lengths}
use Rattle.parts.specs.States.{walk_in}
use Rattle.input.specs.Input.{Input, body, feed}
use Rattle.input.proofs.Feeding.{word_gathered, word_completed}
use Rattle.input_code.proofs.HeldBytes.{held_length, start_length, filled}
use Rattle.input_code.proofs.handing.complete_word.Goals as goal

pub returns-then-piece-need : goal.returns-then-piece-need
returns-then-piece-need c =
    let a = c.args in
    let few = c.if-piece-need.true in
    let p = c.append-bytes in
    let long : length p.result ≡ 32 = search rules in
    let stored = p.ensures.front (omega arith) in
    let len = held_length a.held a.old a.piece.now p.result long (omega arith) stored in
    c.hold.ensures
    ∙ ap (body a.state.lengths (walk_in a.state)) stored
    ∙ sym (word_gathered a.state.lengths (walk_in a.state) (take a.held a.old) a.piece.now (omega arith))

pub returns : goal.returns
returns c =
    let a = c.args in
    let l = a.state.lengths in
    let w = walk_in a.state in
    let enough = c.if-piece-need.false in
    let p = c.append-bytes-2 in
    let h = c.hand_over-next in
    let g = take a.held a.old in
    let need = 4 - a.held in
    let size : a.held + need ≡ 4 = omega arith in
    let long : length p.result ≡ 32 = search rules in
    let some = length-take-le need a.piece.now enough in
    let stored = p.ensures.front (omega arith) in
    let len = start_length a.held need 4 a.old a.piece.now p.result long (omega arith) enough size stored in
    let whole = filled a.held need 4 a.old a.piece.now p.result long (omega arith) enough size stored in
    let word = c.word_at.ensures ∙ ap number_in (elements_take p.result 4 (omega arith) ∙ whole) in
    c.from_word.ensures
    ∙ ap (foldl feed (body h.result.lengths (walk_in h.result) [])) (part_rest need a.piece.now)
    ∙ ap (λ (x : Input). foldl feed x (drop need a.piece.now))
    (ap₂ (λ (l : Lengths) (w : Walk). body l w []) h.ensures.1 (h.ensures.0 ∙ ap (step w) word)
    ∙ sym (word_completed l w g (take need a.piece.now) (omega arith) (omega arith)))
    ∙ sym (split feed (body l w g) need a.piece.now)
