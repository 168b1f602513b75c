-- `judge_coded`: what a command behind its words 0 and 2 comes to, by its type.
use mathlib.Core.Logic.{inl, inr}
use Rattle.std.proofs.lemmas.Option.{IfSome_then}
use borrow.Author.Rules.{rules}
use Rattle.rows.specs.Steps.{lines_of}
use Rattle.rows_code.proofs.stepping.Row.judge_coded.Goals as goal

pub returns-then-low-ne-INTRA : goal.returns-then-low-ne-INTRA
returns-then-low-ne-INTRA c = IfSome_then c.judge_inter.result c.judge_inter.ensures (λ e h. inr (search rules, inr h))

pub returns : goal.returns
unfolding lines_of
returns c = inr (search rules, inl (search rules))
