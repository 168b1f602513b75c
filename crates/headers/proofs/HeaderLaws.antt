-- How many words commands have, and which word begins MACROBLOCK, by tests of the table's rows; and the first word of a command.
use mathlib.Core.Bool.{Bool, true, false, cond, not, ◌&&◌, ◌||◌}
use mathlib.Core.List.{List, [], ◌∷◌, ◌++◌}
use mathlib.Core.Path.{◌≡◌, refl, sym, ap, subst, ◌∙◌}
use Prim.Native.Nat.{ℕ, ◌≤◌}
use native.Mathlib.Omega.{arith}
use borrow.Author.Tests.{eqb-true}
use lib.Dec.{T, eqb, leb, leb→le, eqb→eq}
use Rattle.lists.proofs.Booleans.{both, either}
use Rattle.headers.specs.Headers.{Row, macroblock_header, table, look_up, header_of, words_in, begins}
use Rattle.headers.specs.Words.{word_at}
use Rattle.headers.specs.declared.Header.{Header}
use Rattle.headers.specs.declared.Header.TheVariants.{Known, Carried, Unknown}
use Rattle.headers.specs.declared.Opcode.{Opcode}
use Rattle.headers.specs.declared.Opcode.TheVariants.{Noop, End, Surface, Picture, SliceGroup, Macroblock}

abbrev pub every : (Header → Bool) → List Row → Bool
every f [] = f Unknown
every f (r ∷ rs) = f r.begins && every f rs

rows : (f : Header → Bool) (rs : List Row) (w : ℕ) → T (every f rs) → T (f (look_up rs w))
unfolding look_up
rows f [] w t = t
rows f (r ∷ rs) w t =
    let h = both (f r.begins) (every f rs) t in
    either (λ (x : Header). T (f x)) (eqb w r.header) r.begins (look_up rs w) h.0 (rows f rs w h.1)

-- What every row of the table keeps, and 'none', holds of every word's header.
pub every_header : (f : Header → Bool) (w : ℕ) → T (unfold table in every f table) → T (f (header_of w))
unfolding header_of table
every_header f w t = rows f table w t

-- the header of a command of 1 to 61 words, and that of MACROBLOCK with its nine
abbrev sized : Header → Bool
sized (Known Noop n) = eqb n 1
sized (Known End n) = eqb n 1
sized (Known Surface n) = eqb n 6
sized (Known Picture n) = eqb n 13
sized (Known SliceGroup n) = eqb n 8
sized (Known Macroblock n) = eqb n 9
sized (Carried n) = leb 1 n && leb n 61
sized Unknown = true

abbrev few : Header → Bool
few (Known o n) = leb 1 n && leb n 61
few (Carried n) = leb 1 n && leb n 61
few Unknown = true

all_few : (w : ℕ) → T (few (header_of w))
unfolding table
all_few w = every_header few w tt

between : (n : ℕ) → T (leb 1 n && leb n 61) → (1 ≤ n) × (n ≤ 61)
between n t = let h = both (leb 1 n) (leb n 61) t in (leb→le 1 n h.0, leb→le n 61 h.1)

-- A word that begins a command begins one of 1 to 61 words.
pub known_size : (w : ℕ) (o : Opcode) (n : ℕ) → header_of w ≡ Known o n → (1 ≤ n) × (n ≤ 61)
known_size w o n e = between n (subst (λ (h : Header). T (few h)) e (all_few w))

pub carried_size : (w n : ℕ) → header_of w ≡ Carried n → (1 ≤ n) × (n ≤ 61)
carried_size w n e = between n (subst (λ (h : Header). T (few h)) e (all_few w))

pub words_few : (w : ℕ) → words_in (header_of w) ≤ 61
words_few w = by (header_of w) (all_few w)
  where
    by : (h : Header) → T (few h) → words_in h ≤ 61
    by (Known o n) t = (between n t).1
    by (Carried n) t = (between n t).1
    by Unknown t = omega arith

-- Each known command has the words that the table gives it.
all_sized : (w : ℕ) → T (sized (header_of w))
unfolding table
all_sized w = every_header sized w tt

pub macroblock_size : (w n : ℕ) → header_of w ≡ Known Macroblock n → n ≡ 9
macroblock_size w n e = eqb→eq n 9 (subst (λ (h : Header). T (sized h)) e (all_sized w))

-- the rows that begin MACROBLOCK have one word
abbrev one_word : List Row → Bool
one_word [] = true
one_word (r ∷ rs) = (not (begins Macroblock r.begins) || eqb r.header macroblock_header) && one_word rs

its_word : (rs : List Row) (w : ℕ) → T (one_word rs) → T (begins Macroblock (look_up rs w)) → w ≡ macroblock_header
unfolding look_up
its_word [] w t b = absurd b
its_word (r ∷ rs) w t b =
    let h = both (not (begins Macroblock r.begins) || eqb r.header macroblock_header) (one_word rs) t in
    by (eqb w r.header) refl (its_word rs w h.1) h.0 b
  where
    row_word : (m : Bool) → T (not m || eqb r.header macroblock_header) → T m → r.header ≡ macroblock_header
    row_word true t b = eqb→eq r.header macroblock_header t
    row_word false t b = absurd b

    by : (s : Bool) → eqb w r.header ≡ s
        → (T (begins Macroblock (look_up rs w)) → w ≡ macroblock_header)
        → T (not (begins Macroblock r.begins) || eqb r.header macroblock_header)
        → T (begins Macroblock (cond s r.begins (look_up rs w)))
        → w ≡ macroblock_header
    by true e rest t b = eqb-true w r.header e ∙ row_word (begins Macroblock r.begins) t b
    by false e rest t b = rest b

-- A word that begins MACROBLOCK is its header, and the command has nine words.
pub macroblock_word : (w : ℕ) → begins Macroblock (header_of w) ≡ true → w ≡ macroblock_header
unfolding header_of table
macroblock_word w b = its_word table w tt (subst T (sym b) tt)

pub macroblock_words : (w : ℕ) → begins Macroblock (header_of w) ≡ true → words_in (header_of w) ≡ 9
unfolding header_of look_up table
macroblock_words w b = ap (λ (x : ℕ). words_in (header_of x)) (macroblock_word w b)

-- The first word of a command is not changed by what follows.
pub head_stays : (g : List ℕ) (w : ℕ) (ws : List ℕ) → word_at (g ++ (w ∷ ws)) 0 ≡ word_at (g ++ (w ∷ [])) 0
head_stays [] w ws = refl
head_stays (x ∷ g) w ws = refl
