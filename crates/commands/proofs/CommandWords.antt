-- The MACROBLOCK commands of 32-bit words have nine words of 32 bits each.
use mathlib.Core.Bool.{Bool, true, false, cond}
use mathlib.Core.List.{List, [], ◌∷◌, ◌++◌, append_assoc}
use mathlib.Core.Path.{◌≡◌, refl, ap, ◌∙◌}
use Prim.Native.Nat.{ℕ, zero, suc, ◌+◌, ◌≤◌, ◌<◌}
use native.Mathlib.Omega.{arith}
use borrow.Author.Tests.{eqb-false, ltb-true, ltb-false}
use lib.Dec.{eqb, ltb}
use lib.ListN.{length, get_or, length-append}
use Rattle.headers.specs.Headers.{header_of, words_in, begins}
use Rattle.headers.specs.Words.{word_at}
use Rattle.headers.specs.declared.Header.{Header}
use Rattle.headers.specs.declared.Opcode.TheVariants.{Macroblock}
use Rattle.headers.proofs.HeaderLaws.{head_stays, macroblock_words}
use Rattle.macroblock.specs.Legal.{Words}
use Rattle.commands.specs.Commands.{command, cut, commands_of, macroblocks_in}

words_both : (xs ys : List ℕ) → Words xs → Words ys → Words (xs ++ ys)
words_both [] ys h k = k
words_both (x ∷ xs) ys h k = (h.0, words_both xs ys h.1 k)

-- Words to which at least one more belongs, whichever comes, unless it names no command.
abbrev Incomplete : List ℕ → Type 0
Incomplete g = (w : ℕ) → 1 ≤ words_in (header_of (word_at (g ++ (w ∷ [])) 0)) → length g < words_in (header_of (word_at (g ++ (w ∷ [])) 0))

still_incomplete : (g : List ℕ) (w : ℕ) → length (g ++ (w ∷ [])) < words_in (header_of (word_at (g ++ (w ∷ [])) 0)) → Incomplete (g ++ (w ∷ []))
still_incomplete g w l v some =
    let assoc : (g ++ (w ∷ [])) ++ (v ∷ []) ≡ g ++ (w ∷ v ∷ []) = append_assoc g (w ∷ []) (v ∷ []) in
    let first : word_at ((g ++ (w ∷ [])) ++ (v ∷ [])) 0 ≡ word_at (g ++ (w ∷ [])) 0 = ap (λ (x : List ℕ). word_at x 0) assoc ∙ head_stays g w (v ∷ []) in
    rw first l

abbrev NineWords : List (List ℕ) → Type 0
NineWords [] = Unit {0}
NineWords (m ∷ ms) = Words m × (length m ≡ 9) × NineWords ms

cut_nine : (at : ℕ) (g ws : List ℕ) → Incomplete g → Words g → Words ws → NineWords (macroblocks_in (cut at g ws))
unfolding cut macroblocks_in
cut_nine at g [] i u v = tt
cut_nine at g (w ∷ ws) i u v =
    by (eqb (words_in h) 0) (ltb (length g+) (words_in h)) refl refl
    (λ j. cut_nine at g+ ws j these v.1)
    (cut_nine (at + length g+) [] ws (λ x some. some) tt v.1)
  where
    g+ : List ℕ
    g+ = g ++ (w ∷ [])

    h : Header
    h = header_of (word_at (g ++ (w ∷ [])) 0)

    these : Words (g ++ (w ∷ []))
    these = words_both g (w ∷ []) u (v.0, tt)

    -- a whole command has as many words as its header says
    whole : (m : Bool) → begins Macroblock h ≡ m → length g+ ≡ words_in h → NineWords (macroblocks_in (cut (at + length g+) [] ws))
        → NineWords (cond m (g+ ∷ macroblocks_in (cut (at + length g+) [] ws)) (macroblocks_in (cut (at + length g+) [] ws)))
    whole true e n next = (these, n ∙ macroblock_words (word_at (g ++ (w ∷ [])) 0) e, next)
    whole false e n next = next

    by : (n s : Bool) → eqb (words_in h) 0 ≡ n → ltb (length g+) (words_in h) ≡ s
        → (Incomplete g+ → NineWords (macroblocks_in (cut at g+ ws)))
        → NineWords (macroblocks_in (cut (at + length g+) [] ws))
        → NineWords (macroblocks_in (cond n [] (cond s (cut at g+ ws) (command at h g+ ∷ cut (at + length g+) [] ws))))
    by true s en es more next = tt
    by false true en es more next = more (still_incomplete g w (ltb-true (length g+) (words_in h) es))
    by false false en es more next =
        let len : length (g ++ (w ∷ [])) ≡ length g + 1 = length-append g (w ∷ []) in
        let all = ltb-false (length g+) (words_in h) es in
        let some = eqb-false (words_in h) 0 en in
        let one = i w (omega arith) in
        whole (begins Macroblock h) refl (omega arith) next

-- The k-th of a batch's MACROBLOCK commands.
pub macroblock_nine : (ws : List ℕ) → Words ws → (k : ℕ) → k < length (macroblocks_in (commands_of ws))
    → Words (get_or (macroblocks_in (commands_of ws)) k []) × (length (get_or (macroblocks_in (commands_of ws)) k []) ≡ 9)
unfolding commands_of
macroblock_nine ws h k l = at (macroblocks_in (commands_of ws)) k (cut_nine 0 [] ws (λ x some. some) tt h) l
  where
    at : (ms : List (List ℕ)) (k : ℕ) → NineWords ms → k < length ms → Words (get_or ms k []) × (length (get_or ms k []) ≡ 9)
    at [] k n l = absurd (omega arith)
    at (m ∷ ms) zero n l = (n.0, n.1)
    at (m ∷ ms) (suc k) n l = at ms k n.2 (omega arith)
