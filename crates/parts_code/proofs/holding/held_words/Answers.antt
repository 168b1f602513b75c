-- `held_words`: how many words the state holds of the command in progress.
use mathlib.Core.Path.{◌≡◌, sym, ap}
use Prim.Native.Nat.{◌≤◌, ◌<◌}
use native.Mathlib.Omega.{arith}
use borrow.Author.Rules.{rules}
use lib.ListN.{length}
use Rattle.headers.specs.Words.{word_at}
use Rattle.headers.proofs.HeaderLaws.{words_few}
use Rattle.parts_code.proofs.HeldLaws.{asked, ended_none, over_none, beyond_none, held_count}
use Rattle.parts_code.proofs.holding.held_words.Goals as goal

-- the words held are fewer than their command's, which are at most 61
fewer : (c : goal.Else-command_words-held) → (c.args.state.held < asked c.args.state.buffer) × (c.args.state.held ≤ 60)
fewer c =
    let size = c.command_words.ensures in
    let few = words_few (word_at c.args.state.buffer 0) in
    (omega (arith, c.if-command_words-held.false), omega (arith, c.if-command_words-held.false))

pub returns-then-state : goal.returns-then-state
returns-then-state c = (sym (ap length (ended_none c.args.state c.if-state.true)), omega arith)

pub returns-then-command_words-held : goal.returns-then-command_words-held
returns-then-command_words-held c =
    let size = c.command_words.ensures in
    (sym (ap length (over_none c.args.state c.if-state.false (omega (arith, c.if-command_words-held.true)))), omega arith)

pub overflow_add-state : goal.overflow_add-state
overflow_add-state c = omega (arith, fewer c)

pub returns-then-state-held-gt4294967295 : goal.returns-then-state-held-gt4294967295
returns-then-state-held-gt4294967295 c =
    (sym (ap length (beyond_none c.args.state c.if-state.false (fewer c.before).0 c.if-state-held-gt4294967295.true)), omega arith)

pub returns : goal.returns
returns c =
    let long : length c.args.state.buffer ≡ 61 = search rules in
    (held_count c.args.state c.if-state.false long (fewer c.before).0 c.if-state-held-gt4294967295.false, (fewer c.before).1)
