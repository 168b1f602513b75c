-- What is answered and what lent memory holds, in each of the ways that an operation ends, whatever it needs and writes.
use mathlib.Core.List.{List, ◌++◌}
use mathlib.Core.Path.{◌≡◌, sym, ap, ◌∙◌}
use Prim.Native.Nat.{ℕ, ◌<◌, ◌≤◌}
use native.Mathlib.Nat.{le_refl}
use borrow.Author.Tests.{lt-ltb, le-ltb}
use lib.ListN.{length, take, drop}
use lib.Seq.{take_all}
use Rattle.answers.specs.Answers.{next, Accepted, refused, Answer}
use Rattle.answers.specs.Lending.{lent_after, room_for, then_room}

module _ (fault : Answer) (needed : ℕ) (new room : List ℕ) where
  -- a rule is broken
  pub refuses : (n p : ℕ) → fault ≡ refused n p → (refused n p ≡ then_room fault needed room) × (room ≡ lent_after (then_room fault needed room) new room)
  refuses n p e = let a : then_room fault needed room ≡ refused n p = ap (λ (f : Answer). next f (room_for needed room)) e in (sym a, sym (ap (λ (x : Answer). lent_after x new room) a))

  -- the room is too small
  pub lacks_room : fault ≡ Accepted → length room < needed → (refused 14 needed ≡ then_room fault needed room) × (room ≡ lent_after (then_room fault needed room) new room)
  lacks_room e h =
      let a : then_room fault needed room ≡ refused 14 needed = ap (λ (f : Answer). next f (room_for needed room)) e ∙ simp (lt-ltb (length room) needed h) in
      (sym a, sym (ap (λ (x : Answer). lent_after x new room) a))

  -- it is done
  pub writes : (out : List ℕ) → fault ≡ Accepted → needed ≤ length room → out ≡ new ++ drop (length new) room → (Accepted ≡ then_room fault needed room) × (out ≡ lent_after (then_room fault needed room) new room)
  writes out e h o =
      let a : then_room fault needed room ≡ Accepted = ap (λ (f : Answer). next f (room_for needed room)) e ∙ simp (le-ltb (length room) needed h) in
      (sym a, o ∙ sym (ap (λ (x : Answer). lent_after x new room) a))

  -- no rule is broken, and the rest is done by another
  pub hands_on : (out : List ℕ) (r : Answer) → fault ≡ Accepted → r ≡ room_for needed room → out ≡ lent_after (room_for needed room) new room
      → (r ≡ then_room fault needed room) × (out ≡ lent_after (then_room fault needed room) new room)
  hands_on out r e s o =
      let a : room_for needed room ≡ then_room fault needed room = ap (λ (f : Answer). next f (room_for needed room)) (sym e) in
      (s ∙ a, o ∙ ap (λ (x : Answer). lent_after x new room) a)

-- all of some bytes or words, in front of what stood beyond
pub placed_all : (new room out src : List ℕ) → src ≡ new → out ≡ src ++ drop (length src) room → out ≡ new ++ drop (length new) room
placed_all new room out src e o = o ∙ ap (λ (x : List ℕ). x ++ drop (length x) room) e

pub copied_all : (new room out src : List ℕ) → src ≡ new → out ≡ take (length src) src ++ drop (length src) room → out ≡ new ++ drop (length new) room
copied_all new room out src e o = placed_all new room out src e (o ∙ ap (λ (x : List ℕ). x ++ drop (length src) room) (take_all (length src) src (le_refl (length src))))
