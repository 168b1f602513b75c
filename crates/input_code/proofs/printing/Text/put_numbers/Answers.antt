-- `put_numbers`: numbers, each with a space before it.
use mathlib.Core.List.{List, [], ◌∷◌, ◌++◌}
use mathlib.Core.Path.{ap, ◌∙◌}
use Prim.Native.Nat.{ℕ, ◌+◌, ◌≤◌}
use native.Mathlib.Omega.{arith}
use lib.ListN.{length, get_or, length-append}
use Rattle.input.specs.Text.{decimal}
use Rattle.input_code.proofs.Texts.{room_for_one, one_spaced}
use Rattle.input_code.proofs.printing.Text.put_numbers.Goals as goal

pub put-requires : goal.put-requires
put-requires c =
    let l = c.loop-n in
    let room : length l.self + 21 ≤ 256 = room_for_one l.self _ c.args.numbers.now l.n-index l.invariant c.loop-n-test.true c.requires in
    omega arith

pub put_decimal-requires : goal.put_decimal-requires
put_decimal-requires c =
    let l = c.loop-n in
    let room : length l.self + 21 ≤ 256 = room_for_one l.self _ c.args.numbers.now l.n-index l.invariant c.loop-n-test.true c.requires in
    omega (arith, ap length c.put.ensures ∙ length-append l.self (32 ∷ []))

pub loop-n-preserved : goal.loop-n-preserved
loop-n-preserved c =
    let l = c.loop-n in
    let ns = c.args.numbers.now in
    c.put_decimal.ensures
    ∙ ap (λ (x : List ℕ). x ++ decimal (get_or ns l.n-index 0)) c.put.ensures
    ∙ one_spaced l.self c.args.self.now ns l.n-index l.invariant c.loop-n-test.true
