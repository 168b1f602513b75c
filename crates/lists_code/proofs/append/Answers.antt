-- `append`: some items behind the first of a list.
use mathlib.Core.List.{◌++◌}
use mathlib.Core.Path.{◌≡◌, sym, ap, ap₂, ◌∙◌}
use Prim.Native.Nat.{ℕ, ◌+◌, ◌-◌}
use native.Mathlib.Omega.{arith}
use borrow.Author.Rules.{rules}
use borrow.Rule.Slice.PartMut.{Post-is}
use lib.ListN.{length, take}
use Rattle.std.specs.Prelude.{min}
use Rattle.lists.proofs.Appending.{appended_part}
use Rattle.lists_code.proofs.append.Goals as goal

pub returns-clause-list : goal.returns-clause-list
returns-clause-list g c =
    let old = c.args.list in
    let a = c.min-from.result in
    let k = c.min-count.result in
    let long : length old ≡ g.row.N = search rules in
    ap₂ (λ x y. take a old ++ (x ++ y)) c.copy_from_slice.ensures.after (Post-is a (a + k) old (omega arith))
    ∙ appended_part old c.args.from c.args.items.now a k
    (c.min-from.ensures ∙ ap (min c.args.from) (sym long))
    (c.min-count.ensures ∙ ap (λ (n : ℕ). min (length c.args.items.now) (n - a)) (sym long))
