-- `hand_over`: the next piece, of any size.
use mathlib.Core.List.{[]}
use mathlib.Core.Path.{◌∙◌, ap}
use Prim.Native.Nat.{ℕ}
use lib.ListN.{take}
use Rattle.input_code.proofs.HeldBytes.{handed_head, handed_body}
use Rattle.input_code.proofs.handing.hand_over.Goals as goal

pub returns-in_default : goal.returns-in_default
returns-in_default c =
    let s = c.args.stream in
    let h = c.held_bytes-held in
    handed_head s c.complete_lengths.result (take h.result s.bytes) c.args.piece.now c.in_default.is h.ensures.0 c.complete_lengths.ensures

pub returns-then-held-eq0 : goal.returns-then-held-eq0
returns-then-held-eq0 c =
    let s = c.args.stream in
    let h = c.held_bytes-held-2 in
    let none = ap (λ (k : ℕ). take k s.bytes) c.if-held-eq0.true in
    handed_body s c.from_word.result _ [] c.args.piece.now c.in-Some.is (h.ensures.0 ∙ none) c.from_word.ensures

pub returns : goal.returns
returns c =
    let s = c.args.stream in
    let h = c.held_bytes-held-2 in
    handed_body s c.complete_word.result _ (take h.result s.bytes) c.args.piece.now c.in-Some.is h.ensures.0 c.complete_word.ensures
