-- The words of some bytes, one by one and in parts.
use mathlib.Core.List.{List, [], ◌∷◌, ◌++◌, foldl, append-nil}
use mathlib.Core.Path.{◌≡◌, refl, sym, ◌∙◌, ap}
use Prim.Native.Nat.{ℕ, suc, ◌+◌, ◌*◌, ◌/◌, ◌%◌, ◌≤◌, ◌<◌}
use native.Mathlib.Omega.{arith}
use lib.ListN.{length, get_or, take, drop, set, length-drop}
use lib.Seq.{drop-cons, take-suc-set, append_snoc}
use Rattle.fields.specs.Bytes.{number_in, elements}
use Rattle.batch.specs.Walk.{Walk}
use Rattle.batch.specs.declared.Lengths.{Lengths}
use Rattle.input.specs.Line.{words_from}
use Rattle.input.specs.Input.{body, feed}
use Rattle.input.proofs.Feeding.{word_gathered}

pub no_word : (bs : List ℕ) → length bs < 4 → words_from bs ≡ []
no_word [] h = refl
no_word (a ∷ []) h = refl
no_word (a ∷ b ∷ []) h = refl
no_word (a ∷ b ∷ c ∷ []) h = refl
no_word (a ∷ b ∷ c ∷ d ∷ bs) h = absurd (omega arith)

-- the word at byte `at`, and those behind it
next_word : (bs : List ℕ) (at : ℕ) → at + 4 ≤ length bs → words_from (drop at bs) ≡ number_in (elements bs at 4) ∷ words_from (drop (at + 4) bs)
next_word bs at h =
    let e : at + 4 ≡ suc (suc (suc (suc at))) = omega arith in
    ap words_from
    (drop-cons bs at 0 (omega arith)
    ∙ ap (λ (x : List ℕ). get_or bs at 0 ∷ x) (drop-cons bs (suc at) 0 (omega arith))
    ∙ ap (λ (x : List ℕ). get_or bs at 0 ∷ get_or bs (suc at) 0 ∷ x) (drop-cons bs (suc (suc at)) 0 (omega arith))
    ∙ ap (λ (x : List ℕ). get_or bs at 0 ∷ get_or bs (suc at) 0 ∷ get_or bs (suc (suc at)) 0 ∷ x) (drop-cons bs (suc (suc (suc at))) 0 (omega arith)))
    ∙ ap (λ (k : ℕ). number_in (elements bs at 4) ∷ words_from (drop k bs)) (sym e)

-- The first `i` words stand in the room.
abbrev pub Converted : List ℕ → List ℕ → ℕ → Type 0
Converted bs room i = take i room ++ words_from (drop (4 * i) bs) ≡ words_from bs

pub one_more : (bs room : List ℕ) (i w : ℕ) → Converted bs room i → 4 * i + 4 ≤ length bs → i < length room → w ≡ number_in (elements bs (4 * i) 4)
    → Converted bs (set room i w) (i + 1)
one_more bs room i w so h r e =
    let next : i + 1 ≡ suc i = omega arith in
    let after : 4 * suc i ≡ 4 * i + 4 = omega arith in
    rw (next, after)
    (ap (λ (x : List ℕ). x ++ words_from (drop (4 * i + 4) bs)) (take-suc-set room i w r)
    ∙ append_snoc (take i room) w (words_from (drop (4 * i + 4) bs))
    ∙ ap (λ (x : ℕ). take i room ++ x ∷ words_from (drop (4 * i + 4) bs)) e
    ∙ ap (λ (x : List ℕ). take i room ++ x) (sym (next_word bs (4 * i) h))
    ∙ so)

pub all_converted : (bs room : List ℕ) (i : ℕ) → Converted bs room i → i ≡ length bs / 4 → take (length bs / 4) room ≡ words_from bs
all_converted bs room i so e =
    let len = length-drop (4 * i) bs in
    let none = no_word (drop (4 * i) bs) (omega arith) in
    ap (λ (k : ℕ). take k room) (sym e)
    ∙ sym (append-nil (take i room))
    ∙ ap (λ (x : List ℕ). take i room ++ x) (sym none)
    ∙ so

-- the words of whole words and of what is behind them
pub words_append : (xs ys : List ℕ) → length xs % 4 ≡ 0 → words_from (xs ++ ys) ≡ words_from xs ++ words_from ys
words_append [] ys h = refl
words_append (a ∷ []) ys h = absurd (omega arith)
words_append (a ∷ b ∷ []) ys h = absurd (omega arith)
words_append (a ∷ b ∷ c ∷ []) ys h = absurd (omega arith)
words_append (a ∷ b ∷ c ∷ d ∷ xs) ys h = ap (λ (ws : List ℕ). number_in (a ∷ b ∷ c ∷ d ∷ []) ∷ ws) (words_append xs ys (omega arith))

-- Fewer than four bytes are held.
pub few_held : (l : Lengths) (w : Walk) (bs : List ℕ) → length bs < 4 → foldl feed (body l w []) bs ≡ body l w bs
few_held l w bs h = word_gathered l w [] bs (omega arith)
