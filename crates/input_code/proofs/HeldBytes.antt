-- The bytes that a state holds, by its fields.
use mathlib.Core.List.{List, [], ◌++◌, foldl}
use mathlib.Core.Path.{◌≡◌, sym, ◌∙◌, ap}
use Prim.Native.Nat.{ℕ, ◌+◌, ◌≤◌, ◌<◌}
use native.Mathlib.Omega.{arith}
use borrow.Author.Tests.{lt-ltb, le-ltb}
use lib.ListN.{length, take, length-append}
use lib.Seq.{length-take-le}
use Rattle.lists.proofs.Slices as slices
use Rattle.parts.specs.States.{walk_in}
use Rattle.std.specs.Prelude.{Option, None, Some}
use Rattle.parts.specs.declared.State.{State}
use Rattle.input.specs.Input.{Input, head, body, feed, held_of, checked, input_in}
use Rattle.input.specs.declared.Stream.{Stream}

pub held_some : (most : ℕ) (s : Stream) → s.held < most → held_of most s ≡ take s.held s.bytes
unfolding held_of
held_some most s h = simp (lt-ltb s.held most h)

pub held_over : (most : ℕ) (s : Stream) → most ≤ s.held → held_of most s ≡ []
unfolding held_of
held_over most s h = simp (le-ltb s.held most h)

-- the input of a state before the end of the lengths, and after it
pub in_head : (s : Stream) → s.check ≡ None → input_in s ≡ head (held_of 32 s)
unfolding input_in
in_head s e = ap (λ (c : Option State). checked c s) e

pub in_body : (s : Stream) (check : State) → s.check ≡ Some check → input_in s ≡ body check.lengths (walk_in check) (held_of 4 s)
unfolding input_in
in_body s check e = ap (λ (c : Option State). checked c s) e

-- a piece handed to a state that holds the bytes `g`, of the lengths or of a word
pub handed_head : (s r : Stream) (g piece : List ℕ) → s.check ≡ None → held_of 32 s ≡ g
    → input_in r ≡ foldl feed (head g) piece → input_in r ≡ foldl feed (input_in s) piece
handed_head s r g piece e h came = came ∙ ap (λ (x : Input). foldl feed x piece) (sym (in_head s e ∙ ap head h))

pub handed_body : (s r : Stream) (check : State) (g piece : List ℕ) → s.check ≡ Some check → held_of 4 s ≡ g
    → input_in r ≡ foldl feed (body check.lengths (walk_in check) g) piece → input_in r ≡ foldl feed (input_in s) piece
handed_body s r check g piece e h came =
    came ∙ ap (λ (x : Input). foldl feed x piece) (sym (in_body s check e ∙ ap (body check.lengths (walk_in check)) h))

-- Bytes that were stored behind the first `held` of some bytes: `r` holds them all.
module _ (held : ℕ) (old piece r : List ℕ) (len : length r ≡ 32) (room : held + length piece ≤ 32)
    (stored : take (held + length piece) r ≡ take held old ++ piece) where
  pub held_length : length (take held old) ≡ held
  held_length =
      let all = length-take-le (held + length piece) r (omega arith) in
      let both = length-append (take held old) piece in
      omega (arith, ap length stored)

-- The same where the first `need` bytes of a piece make `n` of them.
module _ (held need n : ℕ) (old piece r : List ℕ) (len : length r ≡ 32) (room : n ≤ 32) (enough : need ≤ length piece) (size : held + need ≡ n)
    (stored : take (held + length (take need piece)) r ≡ take held old ++ take need piece) where
  some : length (take need piece) ≡ need
  some = length-take-le need piece enough

  pub start_length : length (take held old) ≡ held
  start_length = let some' = some in held_length held old (take need piece) r len (omega arith) stored

  pub filled : take n r ≡ take held old ++ take need piece
  filled = slices.filled held need n old piece r enough size stored
