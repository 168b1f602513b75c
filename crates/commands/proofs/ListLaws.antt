-- The commands of a list: each is whole, and the k-th macroblock of those in order has its place.
use mathlib.Core.Bool.{Bool, true, false, cond}
use mathlib.Core.List.{List, [], ◌∷◌, ◌++◌}
use mathlib.Core.Path.{◌≡◌, refl}
use Prim.Native.Nat.{ℕ, zero, suc, ◌+◌, ◌/◌, ◌%◌, ◌≤◌, ◌<◌}
use native.Mathlib.Nat.{add-zero}
use native.Mathlib.Omega.{arith}
use borrow.Author.Tests.{ltb-false}
use lib.Dec.{eqb, ltb}
use lib.ListN.{length, get_or}
use Rattle.headers.specs.Headers.{header_of, words_in}
use Rattle.headers.specs.Words.{word_at}
use Rattle.headers.specs.declared.Header.{Header}
use Rattle.macroblock.specs.Macroblocks.{macroblock_of}
use Rattle.commands.specs.Commands.{Command, command, cut, InOrder}

-- Commands that have the header that their first word says, and at least the words of it.
abbrev pub AllWhole : List Command → Type 0
AllWhole [] = Unit {0}
AllWhole (c ∷ cs) = (c.header ≡ header_of (word_at c.words 0)) × (words_in c.header ≤ length c.words) × AllWhole cs

-- What words cut into are such commands.
pub cut_whole : (at : ℕ) (g ws : List ℕ) → AllWhole (cut at g ws)
unfolding cut
cut_whole at g [] = tt
cut_whole at g (w ∷ ws) =
    by (eqb (words_in h) 0) (ltb (length g+) (words_in h)) refl (cut_whole at (g ++ (w ∷ [])) ws) (cut_whole (at + length (g ++ (w ∷ []))) [] ws)
  where
    g+ : List ℕ
    g+ = g ++ (w ∷ [])

    h : Header
    h = header_of (word_at (g ++ (w ∷ [])) 0)

    c : Command
    c = command at h g+

    by : (u s : Bool) → ltb (length g+) (words_in h) ≡ s → AllWhole (cut at g+ ws) → AllWhole (cut (at + length g+) [] ws)
        → AllWhole (cond u [] (cond s (cut at g+ ws) (c ∷ cut (at + length g+) [] ws)))
    by true s e more next = tt
    by false true e more next = more
    by false false e more next = (refl, ltb-false (length g+) (words_in h) e, next)

-- The k-th of macroblocks in order.
pub in_order_at : (w j : ℕ) (ms : List (List ℕ)) (k : ℕ) → InOrder w j ms → k < length ms
    → ((macroblock_of (get_or ms k [])).column ≡ (j + k) % w) × ((macroblock_of (get_or ms k [])).row ≡ (j + k) / w)
in_order_at w j [] k o l = absurd (omega arith)
in_order_at w j (m ∷ ms) zero o l = rw (add-zero j) (o.0, o.1)
in_order_at w j (m ∷ ms) (suc k) o l =
    let e : j + suc k ≡ j + 1 + k = omega arith in
    rw e (in_order_at w (j + 1) ms k o.2 (omega arith))
