-- `put_decimal`: the kit's digits are the number's decimal.
use mathlib.Core.List.{◌++◌}
use mathlib.Core.Path.{◌∙◌, ap}
use Rattle.input_code.proofs.Texts.{kit_decimal}
use Rattle.input_code.proofs.printing.Text.put_decimal.Goals as goal

pub returns : goal.returns
returns c =
    let d = c.decimal-count in
    c.put.ensures ∙ ap (λ x. c.args.self.now ++ x) (d.ensures.digits ∙ kit_decimal c.args.n d.result c.ranges.n.fits d.ensures.len)
