-- What words cut into where a command stands: it and what follows, or nothing.
use mathlib.Core.Bool.{cond}
use mathlib.Core.List.{List, [], ◌∷◌, ◌++◌}
use mathlib.Core.Path.{◌≡◌, refl, sym, ◌∙◌, ap}
use Prim.Native.Nat.{ℕ, ◌+◌, ◌-◌, ◌<◌}
use native.Mathlib.Omega.{arith}
use borrow.Author.Tests.{lt-ltb, le-ltb, ne_eqb}
use lib.ListN.{length, take, drop, length-append}
use lib.Seq.{drop-drop}
use Rattle.headers.specs.Headers.{header_of, words_in, begins}
use Rattle.headers.specs.Words.{word_at}
use Rattle.headers.specs.declared.Header.{Header}
use Rattle.headers.specs.declared.Opcode.TheVariants.{Macroblock}
use Rattle.commands.specs.Commands.{Command, command, next_in, cut, macroblocks_in, by_next}
use Rattle.commands.specs.declared.NextCommand.{NextCommand}
use Rattle.commands.specs.declared.NextCommand.TheVariants.{Unknown, Incomplete, Whole}
use Rattle.commands.proofs.Gathering.{by_next_lem}

-- The words that are cut from a place on.
module _ (at : ℕ) where
  abbrev done : Header → ℕ → List ℕ → List ℕ → List Command
  done h n g ws = command at h g ∷ cut (at + n) [] ws

  -- a word that names no command, wherever the words end
  unknown : (top : ℕ) (w : ℕ) (ws : List ℕ) → 0 < top → words_in (header_of w) ≡ 0 → cut at [] (w ∷ ws) ≡ []
  unfolding cut
  unknown top w ws l e = simp e

  -- one word, with which the command is not whole
  more : (top : ℕ) (g : List ℕ) (w : ℕ) (ws : List ℕ) → 0 + length g < top → length (g ++ (w ∷ [])) < words_in (header_of (word_at (g ++ (w ∷ [])) 0))
      → cut at g (w ∷ ws) ≡ cut at (g ++ (w ∷ [])) ws
  unfolding cut
  more top g w ws l h =
      let n = words_in (header_of (word_at (g ++ (w ∷ [])) 0)) in
      simp (ne_eqb n 0 (λ z. omega arith), lt-ltb (length (g ++ (w ∷ []))) n h)

  -- the last word of a command
  last : (top : ℕ) (g : List ℕ) (w : ℕ) (ws : List ℕ) (h : Header) (n : ℕ) → 0 + length g < top → header_of (word_at (g ++ (w ∷ [])) 0) ≡ h
      → n ≡ words_in h → length (g ++ (w ∷ [])) ≡ n → cut at g (w ∷ ws) ≡ done h n (g ++ (w ∷ [])) ws
  unfolding cut
  last top g w ws h n l s c m =
      let len : length (g ++ (w ∷ [])) ≡ length g + 1 = length-append g (w ∷ []) in
      simp (s, ← c, m, ne_eqb n 0 (λ z. omega arith), le-ltb n n (omega arith))

  -- What words cut into, by what they begin with: a word that names no command ends it, a command that is not whole is none.
  pub cut_next : (ws : List ℕ) → cut at [] ws ≡ by_next [] [] (λ h n. command at h (take n ws) ∷ cut (at + n) [] (drop n ws)) (next_in ws)
  unfolding cut
  cut_next ws = let top = length ws in by_next_lem (cut at) [] done 0 top (unknown top) (more top) (last top) ws (omega arith)

-- The MACROBLOCK commands of what is left of a batch from a word where a command begins.
abbrev pub left : ℕ → List ℕ → List (List ℕ)
left at ws = macroblocks_in (cut at [] (drop at ws))

-- What is left, by what stands there: of a whole command, it is the first of them, if it is one.
abbrev pub left_by : ℕ → List ℕ → NextCommand → List (List ℕ)
left_by at ws = by_next [] [] (λ h n. cond (begins Macroblock h) (take (at + n - at) (drop at ws) ∷ left (at + n) ws) (left (at + n) ws))

pub left_next : (at : ℕ) (ws : List ℕ) (c : NextCommand) → c ≡ next_in (drop at ws) → left at ws ≡ left_by at ws c
unfolding macroblocks_in
left_next at ws c e = ap macroblocks_in (cut_next at (drop at ws) ∙ ap (by_next [] [] _) (sym e)) ∙ by c
  where
    by : (c : NextCommand) → macroblocks_in (by_next [] [] (λ h n. command at h (take n (drop at ws)) ∷ cut (at + n) [] (drop n (drop at ws))) c) ≡ left_by at ws c
    by Unknown = refl
    by Incomplete = refl
    by (Whole h n) = let n' : at + n - at ≡ n = omega arith in rw (n', ← drop-drop n at ws) refl
