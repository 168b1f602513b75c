-- A command and a record that pass the tests which stand before their rules.
use mathlib.Core.Path.{◌≡◌}
use mathlib.Core.List.{List}
use Prim.Native.Nat.{ℕ, ◌≤◌}
use borrow.Author.Tests.{le-ltb, eq-eqb, ne_eqb}
use lib.ListN.{length}
use Rattle.answers.specs.Answers.{judged}
use Rattle.headers.specs.Headers.{macroblock_header}
use Rattle.headers.specs.Words.{word_at}
use Rattle.macroblock.specs.Rules.{command_rules, alone}
use Rattle.records.specs.Alone.{read_fault, record_fault}
use Rattle.records.specs.RecordRules.{record_rules}

-- A command alone that passes them.
pub whole : (ws : List ℕ) → (length ws ≡ 0 → ⊥) → word_at ws 0 ≡ macroblock_header → 9 ≤ length ws → read_fault ws ≡ judged (command_rules alone ws)
unfolding read_fault
whole ws d e h = simp (ne_eqb (length ws) 0 d, eq-eqb (word_at ws 0) macroblock_header e, le-ltb (length ws) 9 h)

-- A record alone that has its length.
pub right_length : (bs : List ℕ) → length bs ≡ 24 → record_fault bs ≡ judged (record_rules bs)
unfolding record_fault
right_length bs e = simp (eq-eqb (length bs) 24 e)
