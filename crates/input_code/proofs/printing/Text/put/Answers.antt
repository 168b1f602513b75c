-- `put`: some bytes behind those of the text.
use mathlib.Core.Path.{◌≡◌, sym, ◌∙◌, ap}
use Prim.Native.Nat.{◌+◌, ◌≤◌}
use native.Mathlib.Omega.{arith}
use lib.ListN.{length, take}
use Rattle.input.specs.Input.{output_line}
use Rattle.input.specs.declared.OutputLine.{OutputLine}
use Rattle.input_code.proofs.Lines.{put_behind}
use Rattle.input_code.proofs.printing.Text.put.Goals as goal

pub invariant_of-self : goal.invariant_of-self
invariant_of-self c =
    let old = c.self.inside.line in
    let text = take old.len old.bytes in
    let same : old.len ≡ length text = ap (λ (x : OutputLine). x.len) c.self.invariant.1 in
    let seen : length text ≡ length c.args.self.now = ap length c.self.view_is in
    let asked = c.requires in
    let fits : old.len + length c.args.bytes.now ≤ 256 = omega arith in (
      fits,
      put_behind old text c.args.bytes.now c.append.result c.self.invariant.1 fits c.append.ensures.list
          ∙ ap output_line (sym (c.append.ensures.front fits)),
    )
