-- What holds of a MACROBLOCK command that keeps its rules.
use mathlib.Core.Path.{◌≡◌, refl}
use mathlib.Core.Bool.{Bool, true, ◌&&◌}
use mathlib.Core.List.{List}
use Prim.Native.Nat.{ℕ, ◌<◌, ◌≤◌}
use borrow.Author.Tests.{ltb-true, eqb-true, eq-eqb, le-leb}
use lib.Dec.{T, eqb, ltb}
use Rattle.lists.proofs.Booleans.{and_left, and_right, both_true}
use Rattle.answers.specs.Answers.{judged, Accepted}
use Rattle.answers.proofs.Judging.{both_accept, rule_kept, within_both}
use Rattle.headers.specs.Words.{word_at}
use Rattle.macroblock.specs.Macroblocks.{macroblock_of}
use Rattle.macroblock.specs.Rules.{alone, command_rules}
use Rattle.macroblock.proofs.AllowedLaws.{kept_alone}
use Rattle.macroblock.proofs.CommandLaws.{command_within}
use Rattle.progress.specs.declared.Progress.{Progress}
use Rattle.placement.specs.Blocks.{blocks_of}
use Rattle.placement.specs.Placing.{allowed_in, zero_vectors, repeats, placed_rules, macroblock_rules}
use Rattle.placement.specs.Progressing.{previous_of}
use Rattle.answers.specs.Tables.{within}

-- A macroblock that is accepted comes before the picture is full.
pub row_left : (p : Progress) (ws : List ℕ) → judged (macroblock_rules p ws) ≡ Accepted → p.position.row < p.picture.grid.rows
unfolding macroblock_rules placed_rules
row_left p ws e =
    let g = p.stage.in_group in
    ltb-true p.position.row p.picture.grid.rows (and_right g (ltb p.position.row p.picture.grid.rows) (rule_kept 3 0 (macroblock_rules p ws) e))

-- A macroblock that is accepted keeps the rules of a command read alone.
pub alone_kept : (p : Progress) (ws : List ℕ) → judged (macroblock_rules p ws) ≡ Accepted → judged (command_rules alone ws) ≡ Accepted
unfolding macroblock_rules
alone_kept p ws e =
    let a = allowed_in p.picture in
    kept_alone a ws (both_accept (placed_rules p (blocks_of p (macroblock_of ws).case) (macroblock_of ws) ws) (command_rules a ws) e).1

-- The rules refuse with numbers 1 to 12, at words 0 to 8.
pub macroblock_within : (p : Progress) (ws : List ℕ) → T (within 12 8 (macroblock_rules p ws))
unfolding macroblock_rules placed_rules
macroblock_within p ws = within_both 12 8 (placed_rules p (blocks_of p (macroblock_of ws).case) (macroblock_of ws) ws) (command_rules (allowed_in p.picture) ws) tt (command_within (allowed_in p.picture) ws)

-- Words 5 to 8 that are zero are so each by itself, and a macroblock repeats itself.
pub zero_words : (c : List ℕ) → zero_vectors c ≡ true → (word_at c 5 ≡ 0) × (word_at c 6 ≡ 0) × (word_at c 7 ≡ 0) × (word_at c 8 ≡ 0)
zero_words c z =
    let zero : ℕ → Bool = λ i. eqb (word_at c i) 0 in
    let low = and_left (zero 5 && zero 6) (zero 7 && zero 8) z in
    let high = and_right (zero 5 && zero 6) (zero 7 && zero 8) z in (
      eqb-true (word_at c 5) 0 (and_left (zero 5) (zero 6) low),
      eqb-true (word_at c 6) 0 (and_right (zero 5) (zero 6) low),
      eqb-true (word_at c 7) 0 (and_left (zero 7) (zero 8) high),
      eqb-true (word_at c 8) 0 (and_right (zero 7) (zero 8) high),
    )

repeats_itself : (kind : ℕ) (ws : List ℕ) → 1 ≤ kind → repeats (previous_of kind ws) kind ws ≡ true
repeats_itself kind ws some =
    let same : (n : ℕ) → eqb n n ≡ true = λ n. eq-eqb n n refl in
    both_true (both_true (le-leb 1 kind some) (same kind))
    (both_true (both_true (same (word_at ws 5)) (same (word_at ws 6))) (both_true (same (word_at ws 7)) (same (word_at ws 8))))
