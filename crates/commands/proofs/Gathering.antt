-- Words that are gathered one by one until their command is whole, by what they begin with: said once for the walk and for the list
-- of commands.
use mathlib.Core.Bool.{Bool, true, false, cond}
use mathlib.Core.List.{List, [], ◌∷◌, ◌++◌, append_assoc, append-nil}
use mathlib.Core.Path.{◌≡◌, refl, sym, ◌∙◌, ap, subst}
use Prim.Native.Nat.{ℕ, zero, suc, ◌+◌, ◌-◌, ◌≤◌, ◌<◌}
use native.Mathlib.Nat.{not-suc-le-zero}
use native.Mathlib.Omega.{arith}
use borrow.Author.Tests.{eqb-true, eqb-false, ltb-true, ltb-false}
use lib.Dec.{eqb, ltb}
use lib.ListN.{length, take, drop, length-append, length-drop, take-append-drop}
use lib.Seq.{length-take-le}
use Rattle.lists.proofs.Slices.{part_rest}
use Rattle.headers.specs.Headers.{table, look_up, header_of, words_in}
use Rattle.headers.specs.Words.{word_at}
use Rattle.headers.specs.declared.Header.{Header}
use Rattle.headers.proofs.HeaderLaws.{head_stays}
use Rattle.commands.specs.Commands.{next_in, by_next}
use Rattle.commands.specs.declared.NextCommand.{NextCommand}
use Rattle.commands.specs.declared.NextCommand.TheVariants.{Unknown, Incomplete, Whole}

-- `read g ws` reads the words `ws` behind the words `g` of a command that begins at `base`, all of them before `top`: `unknown`, with
-- a first word that names no command, `none`; `more`, with a word with which it is not whole; `last`, with its last word, `done`.
module _ {A : Type 0} (read : List ℕ → List ℕ → A) (none : A) (done : Header → ℕ → List ℕ → List ℕ → A) (base top : ℕ)
    (unknown : (w : ℕ) (ws : List ℕ) → base < top → words_in (header_of w) ≡ 0 → read [] (w ∷ ws) ≡ none)
    (more : (g : List ℕ) (w : ℕ) (ws : List ℕ) → base + length g < top → length (g ++ (w ∷ [])) < words_in (header_of (word_at (g ++ (w ∷ [])) 0))
    → read g (w ∷ ws) ≡ read (g ++ (w ∷ [])) ws)
    (last : (g : List ℕ) (w : ℕ) (ws : List ℕ) (h : Header) (n : ℕ) → base + length g < top → header_of (word_at (g ++ (w ∷ [])) 0) ≡ h
    → n ≡ words_in h → length (g ++ (w ∷ [])) ≡ n → read g (w ∷ ws) ≡ done h n (g ++ (w ∷ [])) ws) where
  -- The words of a command that is not whole.
  pub gathered : (g ws : List ℕ) → base + length g + length ws ≤ top → length g + length ws < words_in (header_of (word_at (g ++ ws) 0))
      → read g ws ≡ read (g ++ ws) []
  gathered g [] l h = ap (λ (x : List ℕ). read x []) (sym (append-nil g))
  gathered g (w ∷ ws) l h =
      let len : length (g ++ (w ∷ [])) ≡ length g + 1 = length-append g (w ∷ []) in
      let assoc : (g ++ (w ∷ [])) ++ ws ≡ g ++ (w ∷ ws) = append_assoc g (w ∷ []) ws in
      let h' : length g + suc (length ws) < words_in (header_of (word_at (g ++ (w ∷ [])) 0)) = rw (head_stays g w ws) at h in
      more g w ws (omega arith) (omega arith)
      ∙ gathered (g ++ (w ∷ [])) ws (omega arith) (rw assoc (omega arith))
      ∙ ap (λ (x : List ℕ). read x []) assoc

  -- The words that make a command whole, and those behind it.
  completed : (g : List ℕ) (w : ℕ) (ws rest : List ℕ) (h : Header) (n : ℕ) → base + length g + suc (length ws) ≤ top
      → header_of (word_at (g ++ (w ∷ ws)) 0) ≡ h → n ≡ words_in h → length g + suc (length ws) ≡ n
      → read g (w ∷ (ws ++ rest)) ≡ done h n (g ++ (w ∷ ws)) rest
  completed g w [] rest h n l s c m =
      let len : length (g ++ (w ∷ [])) ≡ length g + 1 = length-append g (w ∷ []) in
      last g w rest h n (omega arith) s c (omega arith)
  completed g w (v ∷ ws) rest h n l s c m =
      let len : length (g ++ (w ∷ [])) ≡ length g + 1 = length-append g (w ∷ []) in
      let assoc : (g ++ (w ∷ [])) ++ (v ∷ ws) ≡ g ++ (w ∷ v ∷ ws) = append_assoc g (w ∷ []) (v ∷ ws) in
      let first : header_of (word_at (g ++ (w ∷ [])) 0) ≡ h = ap header_of (sym (head_stays g w (v ∷ ws))) ∙ s in
      let size : words_in (header_of (word_at (g ++ (w ∷ [])) 0)) ≡ words_in h = ap words_in first in
      more g w (v ∷ (ws ++ rest)) (omega arith) (omega arith)
      ∙ rw (← assoc) (completed (g ++ (w ∷ [])) v ws rest h n (omega arith) (rw assoc s) c (omega arith))

  -- Words of which the first n are a whole command.
  pub first_whole : (n : ℕ) (ws : List ℕ) (h : Header) → base + n ≤ top → 1 ≤ n → n ≤ length ws → header_of (word_at ws 0) ≡ h → n ≡ words_in h
      → read [] ws ≡ done h n (take n ws) (drop n ws)
  first_whole zero ws h l some m s c = absurd (not-suc-le-zero some)
  first_whole (suc n) [] h l some m s c = absurd (not-suc-le-zero m)
  first_whole (suc n) (w ∷ ws) h l some m s c =
      let len : length (take n ws) ≡ n = length-take-le n ws (omega arith) in
      ap (λ (x : List ℕ). read [] (w ∷ x)) (sym (take-append-drop n ws)) ∙ completed [] w (take n ws) (drop n ws) h (suc n) (omega arith) s c (omega arith)

  -- Words, by what they begin with.
  pub by_next_lem : (ws : List ℕ) → base + length ws ≤ top → read [] ws ≡ by_next none (read ws []) (λ h n. done h n (take n ws) (drop n ws)) (next_in ws)
  unfolding next_in
  by_next_lem [] l = unfold header_of look_up table in refl
  by_next_lem (w ∷ ws) l = by (eqb n 0) (ltb (suc (length ws)) n) refl refl
    where
      n : ℕ
      n = words_in (header_of w)

      by : (u s : Bool) → eqb n 0 ≡ u → ltb (suc (length ws)) n ≡ s
          → read [] (w ∷ ws)
          ≡ by_next none (read (w ∷ ws) []) (λ h n. done h n (take n (w ∷ ws)) (drop n (w ∷ ws))) (cond u Unknown (cond s Incomplete (Whole (header_of w) n)))
      by true s e f = unknown w ws (omega arith) (eqb-true n 0 e)
      by false true e f = let few = ltb-true (suc (length ws)) n f in gathered [] (w ∷ ws) (omega arith) (omega arith)
      by false false e f =
          let all = ltb-false (suc (length ws)) n f in
          let some = eqb-false n 0 e in
          first_whole n (w ∷ ws) (header_of w) (omega arith) (omega arith) (omega arith) refl refl

-- A whole command has at least one word, and no more than there are.
abbrev Fits : ℕ → NextCommand → Type 0
Fits m Unknown = Unit {0}
Fits m Incomplete = Unit {0}
Fits m (Whole h n) = (1 ≤ n) × (n ≤ m)

next_fits : (ws : List ℕ) → Fits (length ws) (next_in ws)
unfolding next_in
next_fits ws = by (eqb n 0) (ltb (length ws) n) refl refl
  where
    n : ℕ
    n = words_in (header_of (word_at ws 0))

    by : (u s : Bool) → eqb n 0 ≡ u → ltb (length ws) n ≡ s → Fits (length ws) (cond u Unknown (cond s Incomplete (Whole (header_of (word_at ws 0)) n)))
    by true s e f = tt
    by false true e f = tt
    by false false e f =
        let all = ltb-false (length ws) n f in
        let some = eqb-false n 0 e in
        (omega arith, omega arith)

-- The same of words from a place on.
pub whole_fits : (at : ℕ) (ws : List ℕ) (h : Header) (n : ℕ) → at ≤ length ws → next_in (drop at ws) ≡ Whole h n → (1 ≤ n) × (at + n ≤ length ws)
whole_fits at ws h n l e =
    let len = length-drop at ws in
    let fits : (1 ≤ n) × (n ≤ length (drop at ws)) = subst (Fits (length (drop at ws))) e (next_fits (drop at ws)) in
    (fits.0, omega (arith, fits.1))

-- What a function that is asked of the words from a place on answers is what stands there; and a whole command there has some words, all of them given.
pub next_there : (at : ℕ) (ws : List ℕ) (r x : NextCommand) → r ≡ next_in (take (length ws - at) (drop at ws)) → r ≡ x → x ≡ next_in (drop at ws)
next_there at ws r x e i = sym i ∙ e ∙ ap next_in (part_rest at ws)

pub whole_there : (at : ℕ) (ws : List ℕ) (r : NextCommand) (h : Header) (n : ℕ) → at ≤ length ws
    → r ≡ next_in (take (length ws - at) (drop at ws)) → r ≡ Whole h n → (1 ≤ n) × (at + n ≤ length ws)
whole_there at ws r h n m e i = whole_fits at ws h n m (sym (next_there at ws r _ e i))
