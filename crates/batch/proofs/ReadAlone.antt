-- The MACROBLOCK commands of a batch that is not refused can each be read alone.
use mathlib.Core.Bool.{Bool, true, false, cond}
use mathlib.Core.List.{List, [], ◌∷◌, foldl}
use mathlib.Core.Path.{◌≡◌, refl, sym, ap, ◌∙◌}
use Prim.Native.Nat.{ℕ, zero, suc, ◌≤◌, ◌<◌}
use native.Mathlib.Omega.{arith}
use lib.ListN.{length, get_or}
use Rattle.answers.specs.Answers.{judged, Accepted}
use Rattle.headers.specs.Headers.{header_of, words_in, begins}
use Rattle.headers.specs.Words.{word_at}
use Rattle.headers.specs.declared.Opcode.TheVariants.{Macroblock}
use Rattle.headers.proofs.HeaderLaws.{macroblock_word, macroblock_words}
use Rattle.macroblock.specs.Rules.{alone, command_rules}
use Rattle.progress.specs.Progress.{fresh}
use Rattle.progress.specs.declared.Progress.{Progress}
use Rattle.placement.proofs.MacroblockLaws.{alone_kept}
use Rattle.sequence.proofs.JudgingLaws.{goes_on}
use Rattle.sequence.proofs.SequenceLaws.{macroblock_rules_lem}
use Rattle.commands.specs.Commands.{Command, commands_of, macroblocks_in}
use Rattle.commands.proofs.ListLaws.{AllWhole, cut_whole}
use Rattle.batch.specs.Walk.{going, step, start}
use Rattle.batch.proofs.Runs.{batch_runs}
use Rattle.batch.specs.Listed.{Run, Alone, AllAlone}

-- one MACROBLOCK command
read_alone : (c : Command) → begins Macroblock c.header ≡ true → c.header ≡ header_of (word_at c.words 0) → words_in c.header ≤ length c.words
    → judged (command_rules alone c.words) ≡ Accepted → Alone c.words
read_alone c b h l k =
    let b' : begins Macroblock (header_of (word_at c.words 0)) ≡ true = ap (begins Macroblock) (sym h) ∙ b in
    let n : words_in c.header ≡ 9 = ap words_in h ∙ macroblock_words (word_at c.words 0) b' in
    record { header = macroblock_word (word_at c.words 0) b'; nine = omega (arith, n, l); kept = k }

run_alone : (p : Progress) (cs : List Command) (q : Progress) → Run p cs q → AllWhole cs → AllAlone (macroblocks_in cs)
unfolding macroblocks_in
run_alone p [] q r w = tt
run_alone p (c ∷ cs) q r w = by (begins Macroblock c.header) refl (run_alone r.0 cs q r.2 w.2)
  where
    by : (b : Bool) → begins Macroblock c.header ≡ b → AllAlone (macroblocks_in cs) → AllAlone (cond b (c.words ∷ macroblocks_in cs) (macroblocks_in cs))
    by true b rest =
        let a = (goes_on c.header p c.words r.0 r.1).0 in
        (read_alone c b w.0 w.1 (alone_kept p c.words (macroblock_rules_lem c.header p c.words b a)), rest)
    by false b rest = rest

-- Every MACROBLOCK command of a batch that is not refused keeps the rules of a command read alone.
pub macroblocks_alone : (ws : List ℕ) (at : ℕ) (q : Progress) (g : List ℕ) → foldl step start ws ≡ going at q g → AllAlone (macroblocks_in (commands_of ws))
unfolding commands_of
macroblocks_alone ws at q g e = run_alone fresh (commands_of ws) q (batch_runs ws at q g e) (cut_whole 0 [] ws)

-- the k-th of them
pub alone_at : (ms : List (List ℕ)) (k : ℕ) → AllAlone ms → k < length ms → Alone (get_or ms k [])
alone_at [] k a l = absurd (omega arith)
alone_at (m ∷ ms) zero a l = a.0
alone_at (m ∷ ms) (suc k) a l = alone_at ms k a.1 (omega arith)
