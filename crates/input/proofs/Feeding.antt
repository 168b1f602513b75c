-- What bytes come to, fed one by one: the lengths, whole words, and the bytes behind them.
use mathlib.Core.Bool.{Bool, cond}
use mathlib.Core.List.{List, [], ◌∷◌, ◌++◌, foldl, append-nil, append_assoc}
use mathlib.Core.Path.{◌≡◌, refl, sym, ◌∙◌, ap}
use Prim.Native.Nat.{ℕ, ◌+◌, ◌%◌, ◌≤◌, ◌<◌}
use native.Mathlib.Omega.{arith}
use borrow.Author.Tests.{lt-ltb, le-ltb}
use lib.Dec.{ltb}
use lib.ListN.{length, length-append}
use Rattle.lists.proofs.Slices.{no_length}
use Rattle.fields.specs.Bytes.{number_in}
use Rattle.batch.specs.Walk.{Walk, step, start}
use Rattle.batch.specs.declared.Lengths.{Lengths}
use Rattle.input.specs.Line.{lengths_of, words_from}
use Rattle.input.specs.Input.{Input, head, body, feed}

-- Bytes that are gathered until there are `n` of them: `some g` while they are fewer, `all g` then.
module _ (n : ℕ) (some all : List ℕ → Input)
    (one : (g : List ℕ) (b : ℕ) → feed (some g) b ≡ cond (ltb (length (g ++ (b ∷ []))) n) (some (g ++ (b ∷ []))) (all (g ++ (b ∷ [])))) where
  fewer : (g : List ℕ) (b : ℕ) → length g + 1 < n → feed (some g) b ≡ some (g ++ (b ∷ []))
  fewer g b h =
      let len : length (g ++ (b ∷ [])) ≡ length g + 1 = length-append g (b ∷ []) in
      one g b ∙ ap (λ (t : Bool). cond t (some (g ++ (b ∷ []))) (all (g ++ (b ∷ [])))) (lt-ltb (length (g ++ (b ∷ []))) n (omega arith))

  pub gathered : (g bs : List ℕ) → length g + length bs < n → foldl feed (some g) bs ≡ some (g ++ bs)
  gathered g [] h = ap some (sym (append-nil g))
  gathered g (b ∷ bs) h =
      let len : length (g ++ (b ∷ [])) ≡ length g + 1 = length-append g (b ∷ []) in
      ap (λ (x : Input). foldl feed x bs) (fewer g b (omega arith))
      ∙ gathered (g ++ (b ∷ [])) bs (omega arith)
      ∙ ap some (append_assoc g (b ∷ []) bs)

  pub completed : (g bs : List ℕ) → 1 ≤ length bs → length g + length bs ≡ n → foldl feed (some g) bs ≡ all (g ++ bs)
  completed g [] h e = absurd (omega arith)
  completed g (b ∷ []) h e =
      let len : length (g ++ (b ∷ [])) ≡ length g + 1 = length-append g (b ∷ []) in
      one g b ∙ ap (λ (t : Bool). cond t (some (g ++ (b ∷ []))) (all (g ++ (b ∷ [])))) (le-ltb (length (g ++ (b ∷ []))) n (omega arith))
  completed g (b ∷ c ∷ bs) h e =
      let len : length (g ++ (b ∷ [])) ≡ length g + 1 = length-append g (b ∷ []) in
      ap (λ (x : Input). foldl feed x (c ∷ bs)) (fewer g b (omega arith))
      ∙ completed (g ++ (b ∷ [])) (c ∷ bs) (omega arith) (omega arith)
      ∙ ap all (append_assoc g (b ∷ []) (c ∷ bs))

-- The bytes of the lengths.
one_length : (g : List ℕ) (b : ℕ)
    → feed (head g) b ≡ cond (ltb (length (g ++ (b ∷ []))) 32) (head (g ++ (b ∷ []))) (body (lengths_of (g ++ (b ∷ []))) start [])
unfolding feed
one_length g b = refl

pub lengths_gathered : (g bs : List ℕ) → length g + length bs < 32 → foldl feed (head g) bs ≡ head (g ++ bs)
lengths_gathered = gathered 32 head (λ g. body (lengths_of g) start []) one_length

pub lengths_completed : (g bs : List ℕ) → 1 ≤ length bs → length g + length bs ≡ 32 → foldl feed (head g) bs ≡ body (lengths_of (g ++ bs)) start []
lengths_completed = completed 32 head (λ g. body (lengths_of g) start []) one_length

-- The bytes of a word.
one_byte : (l : Lengths) (w : Walk) (g : List ℕ) (b : ℕ)
    → feed (body l w g) b ≡ cond (ltb (length (g ++ (b ∷ []))) 4) (body l w (g ++ (b ∷ []))) (body l (step w (number_in (g ++ (b ∷ [])))) [])
unfolding feed
one_byte l w g b = refl

pub word_gathered : (l : Lengths) (w : Walk) (g bs : List ℕ) → length g + length bs < 4 → foldl feed (body l w g) bs ≡ body l w (g ++ bs)
word_gathered l w = gathered 4 (body l w) (λ g. body l (step w (number_in g)) []) (one_byte l w)

pub word_completed : (l : Lengths) (w : Walk) (g bs : List ℕ) → 1 ≤ length bs → length g + length bs ≡ 4
    → foldl feed (body l w g) bs ≡ body l (step w (number_in (g ++ bs))) []
word_completed l w = completed 4 (body l w) (λ g. body l (step w (number_in g)) []) (one_byte l w)

-- The bytes behind the whole words of some bytes.
abbrev pub rest_of : List ℕ → List ℕ
rest_of [] = []
rest_of (a ∷ []) = a ∷ []
rest_of (a ∷ b ∷ []) = a ∷ b ∷ []
rest_of (a ∷ b ∷ c ∷ []) = a ∷ b ∷ c ∷ []
rest_of (a ∷ b ∷ c ∷ d ∷ bytes) = rest_of bytes

pub rest_length : (bs : List ℕ) → length (rest_of bs) ≡ length bs % 4
rest_length [] = refl
rest_length (a ∷ []) = refl
rest_length (a ∷ b ∷ []) = refl
rest_length (a ∷ b ∷ c ∷ []) = refl
rest_length (a ∷ b ∷ c ∷ d ∷ bs) = rest_length bs ∙ omega arith

-- Bytes from the beginning of a word.
pub words_fed : (l : Lengths) (w : Walk) (bs : List ℕ) → foldl feed (body l w []) bs ≡ body l (foldl step w (words_from bs)) (rest_of bs)
words_fed l w [] = refl
words_fed l w (a ∷ []) = word_gathered l w [] (a ∷ []) (omega arith)
words_fed l w (a ∷ b ∷ []) = word_gathered l w [] (a ∷ b ∷ []) (omega arith)
words_fed l w (a ∷ b ∷ c ∷ []) = word_gathered l w [] (a ∷ b ∷ c ∷ []) (omega arith)
words_fed l w (a ∷ b ∷ c ∷ d ∷ bs) =
    ap (λ (x : Input). foldl feed x bs) (word_completed l w [] (a ∷ b ∷ c ∷ d ∷ []) (omega arith) refl)
    ∙ words_fed l (step w (number_in (a ∷ b ∷ c ∷ d ∷ []))) bs

-- Whole words alone.
pub whole_fed : (l : Lengths) (w : Walk) (bs : List ℕ) → length bs % 4 ≡ 0 → foldl feed (body l w []) bs ≡ body l (foldl step w (words_from bs)) []
whole_fed l w bs e =
    words_fed l w bs ∙ ap (body l (foldl step w (words_from bs))) (no_length (rest_of bs) (rest_length bs ∙ e))

-- some bytes by the first m of them and the others
