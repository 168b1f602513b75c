-- `held_bytes`: how many bytes are held, where they are to be fewer than `most`.
use mathlib.Core.Path.{◌≡◌, sym, ◌∙◌, ap}
use native.Mathlib.Omega.{arith}
use lib.ListN.{length}
use lib.Seq.{length-take-le}
use Rattle.std.proofs.Common.{rules}
use Rattle.input_code.proofs.HeldBytes.{held_some, held_over}
use Rattle.input_code.proofs.holding.held_bytes.Goals as goal

pub returns-then-most-held : goal.returns-then-most-held
returns-then-most-held c =
    let none = held_over c.args.most c.args.stream c.if-most-held.true in
    (none, (sym (ap length none), c.requires.0))

pub returns : goal.returns
returns c =
    let a = c.args in
    let long : length a.stream.bytes ≡ 32 = search rules in
    let some = held_some a.most a.stream c.if-most-held.false in
    (some, (sym (ap length some ∙ length-take-le a.stream.held a.stream.bytes (omega arith)), c.if-most-held.false))
