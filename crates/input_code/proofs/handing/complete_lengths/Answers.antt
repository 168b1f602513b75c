-- `complete_lengths`: a piece behind the first bytes of the lengths.
use mathlib.Core.List.{[], ◌++◌, foldl}
use mathlib.Core.Path.{◌≡◌, refl, sym, ◌∙◌, ap, ap₂}
use Prim.Native.Nat.{◌+◌, ◌-◌}
use native.Mathlib.Omega.{arith}
use borrow.Author.Rules.{rules}
use lib.ListN.{length, take, drop}
use lib.Seq.{length-take-le, take_all}
use Rattle.lists.proofs.Slices.{split, part_rest}
use Rattle.batch.specs.Walk.{Walk}
use Rattle.batch.specs.declared.Lengths.{Lengths}
use Rattle.parts.specs.States.{walk_in}
use Rattle.input.specs.Line.{lengths_of}
use Rattle.input.specs.Input.{Input, head, body, feed}
use Rattle.input.proofs.Feeding.{lengths_gathered, lengths_completed}
use Rattle.input_code.proofs.HeldBytes.{held_some, in_head, held_length, start_length, filled}
use Rattle.input_code.proofs.handing.complete_lengths.Goals as goal

pub returns-then-piece-need : goal.returns-then-piece-need
returns-then-piece-need c =
    let a = c.args in
    let few = c.if-piece-need.true in
    let p = c.append in
    let g = take a.held a.old in
    let long : length p.result ≡ 32 = search rules in
    let stored = p.ensures.front (omega arith) in
    let len = held_length a.held a.old a.piece.now p.result long (omega arith) stored in
    in_head _ refl ∙ ap head (held_some 32 _ (omega arith) ∙ stored) ∙ sym (lengths_gathered g a.piece.now (omega arith))

pub returns : goal.returns
returns c =
    let a = c.args in
    let enough = c.if-piece-need.false in
    let p = c.append-bytes in
    let b = c.begin in
    let g = take a.held a.old in
    let need = 32 - a.held in
    let size : a.held + need ≡ 32 = omega arith in
    let long : length p.result ≡ 32 = search rules in
    let some = length-take-le need a.piece.now enough in
    let stored = p.ensures.front (omega arith) in
    let len = start_length a.held need 32 a.old a.piece.now p.result long (omega arith) enough size stored in
    let whole : p.result ≡ g ++ take need a.piece.now =
    sym (take_all 32 p.result (omega arith)) ∙ filled a.held need 32 a.old a.piece.now p.result long (omega arith) enough size stored in
    c.from_word.ensures
    ∙ ap (foldl feed (body b.result.lengths (walk_in b.result) [])) (part_rest need a.piece.now)
    ∙ ap (λ (x : Input). foldl feed x (drop need a.piece.now))
    (ap₂ (λ (l : Lengths) (w : Walk). body l w []) (b.ensures.1 ∙ c.lengths_of-lengths.ensures ∙ ap lengths_of whole) b.ensures.0
    ∙ sym (lengths_completed g (take need a.piece.now) (omega arith) (omega arith)))
    ∙ sym (split feed (head g) need a.piece.now)
