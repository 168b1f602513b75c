-- What a state holds of the command in progress, and how the walk goes on from it.
use mathlib.Core.Bool.{Bool, true, false, cond, ◌&&◌}
use mathlib.Core.List.{List, [], ◌∷◌, ◌++◌, foldl}
use mathlib.Core.Logic.{inl, inr}
use mathlib.Core.Path.{◌≡◌, refl, sym, ◌∙◌, ap, subst}
use Prim.Native.Nat.{ℕ, ◌+◌, ◌-◌, ◌≤◌, ◌<◌}
use native.Mathlib.Omega.{arith}
use borrow.Author.Tests.{lt-ltb, le-ltb, lt-leb, le-leb, ltb-true, leb-true}
use lib.Dec.{leb, ltb}
use lib.ListN.{length, take, drop, length-append, length-drop, get_or-append}
use lib.Seq.{get_or-take, length-take-le, drop-length}
use Rattle.lists.proofs.Slices as slices
use Rattle.headers.specs.Headers.{header_of, words_in}
use Rattle.headers.specs.Words.{word_at}
use Rattle.headers.proofs.HeaderLaws.{words_few}
use Rattle.progress.specs.declared.Progress.{Progress}
use Rattle.std.specs.Prelude.{Ok, Err}
use Rattle.progress.specs.Progress.{Verdict}
use Rattle.sequence.specs.Judging.{judge}
use Rattle.batch.specs.Walk.{Walk, going, stopped, limit, after, step, walk_of, Walked}
use Rattle.batch.proofs.WalkLaws.{counted, within_limit, used_within, command, Short, left_short, short_few, resumed}
use Rattle.std.specs.Prelude.{Option, None, Some, is_some}
use Rattle.parts.specs.States.{gathered, has_stopped, walk_in}
use Rattle.answers.specs.declared.Fault.{Fault}
use Rattle.parts.specs.declared.State.{State}
use Rattle.parts.proofs.Parts.{walk_going, stopped_stays}

-- how many words the command asks for whose first word is in the buffer
abbrev pub asked : List ℕ → ℕ
asked b = words_in (header_of (word_at b 0))

-- `gathered`, by the fields that it reads
abbrev pub held_in : Bool → ℕ → ℕ → List ℕ → List ℕ
held_in ended at n b = cond ended [] (cond (ltb n (asked b) && leb (at + n) limit) (take n b) [])

held_some : (at n : ℕ) (b : List ℕ) → n < asked b → at + n ≤ limit → held_in false at n b ≡ take n b
held_some at n b h l = simp (lt-ltb n (asked b) h, le-leb (at + n) limit l)

held_over : (at n : ℕ) (b : List ℕ) → asked b ≤ n → held_in false at n b ≡ []
held_over at n b h = simp (le-ltb n (asked b) h)

held_beyond : (at n : ℕ) (b : List ℕ) → n < asked b → limit < at + n → held_in false at n b ≡ []
held_beyond at n b h l = simp (lt-ltb n (asked b) h, lt-leb (at + n) limit l)

pub held_none : (e : Bool) (at : ℕ) (b : List ℕ) → held_in e at 0 b ≡ []
held_none true at b = refl
held_none false at b = go (ltb 0 (asked b) && leb (at + 0) limit)
  where
    go : (t : Bool) → cond t (take 0 b) [] ≡ []
    go true = refl
    go false = refl

-- how many words a state holds, by the tests of `held_words`
pub ended_none : (s : State) → s.progress.stage.ended ≡ true → gathered s ≡ []
unfolding gathered
ended_none s e = simp e

module _ (s : State) (e : s.progress.stage.ended ≡ false) where
  gathered_is : gathered s ≡ held_in false s.at s.held s.buffer
  unfolding gathered
  gathered_is = ap (λ (x : Bool). held_in x s.at s.held s.buffer) e

  pub over_none : asked s.buffer ≤ s.held → gathered s ≡ []
  over_none h = gathered_is ∙ held_over s.at s.held s.buffer h

  pub beyond_none : s.held < asked s.buffer → limit < s.at + s.held → gathered s ≡ []
  beyond_none h l = gathered_is ∙ held_beyond s.at s.held s.buffer h l

  pub held_count : length s.buffer ≡ 61 → s.held < asked s.buffer → s.at + s.held ≤ limit → s.held ≡ length (gathered s)
  held_count len h l =
      let few = words_few (word_at s.buffer 0) in
      sym (ap length (gathered_is ∙ held_some s.at s.held s.buffer h l) ∙ length-take-le s.held s.buffer (omega arith))

-- The state's fields where a command has begun.
record Open (e : Bool) (at n : ℕ) (b : List ℕ) : Type 0 where
  pub going_on : e ≡ false
  pub fewer : n < asked b
  pub fits : at + n ≤ limit
  pub is : held_in e at n b ≡ take n b
  pub count : length (held_in e at n b) ≡ n

opened : (e : Bool) (at n : ℕ) (b : List ℕ) → length b ≡ 61 → 1 ≤ length (held_in e at n b) → Open e at n b
opened true at n b len some = absurd (omega arith)
opened false at n b len some = go (ltb n (asked b)) (leb (at + n) limit) refl refl some
  where
    go : (t u : Bool) → ltb n (asked b) ≡ t → leb (at + n) limit ≡ u → 1 ≤ length (cond (t && u) (take n b) []) → Open false at n b
    go true true x y z =
        let h = ltb-true n (asked b) x in
        let l = leb-true (at + n) limit y in
        let few = words_few (word_at b 0) in
        let e = held_some at n b h l in
        record { going_on = refl; fewer = h; fits = l; is = e; count = ap length e ∙ length-take-le n b (omega arith) }
    go true false x y z = absurd (omega arith)
    go false true x y z = absurd (omega arith)
    go false false x y z = absurd (omega arith)

-- Words that a walk may have gathered, in a buffer.
pub kept : (p : Progress) (at n : ℕ) (b g : List ℕ) → Short p g → at + length g ≤ limit → n ≡ length g → take n b ≡ g
    → held_in p.stage.ended at n b ≡ g
kept p at n b g (inl e) l q t =
    let z : n ≡ 0 = q ∙ ap length e in
    rw z (held_none p.stage.ended at b) ∙ sym e
kept p at n b [] (inr h) l q t = rw q (held_none p.stage.ended at b)
kept p at n b (w ∷ g) (inr h) l q t =
    let some : 1 ≤ n = omega arith in
    let first : word_at (w ∷ g) 0 ≡ word_at b 0 = ap (λ (x : List ℕ). word_at x 0) (sym t) ∙ get_or-take n b 0 0 some in
    let size : words_in (header_of (word_at (w ∷ g) 0)) ≡ asked b = ap (λ (k : ℕ). words_in (header_of k)) first in
    let fewer = h.1 in
    ap (λ (x : Bool). held_in x at n b) h.0 ∙ held_some at n b (omega arith) (omega arith) ∙ t

-- What whole commands leave of a run of words.
pub record Rest (at used total : ℕ) : Type 0 where
  pub within : used ≤ total
  pub few : total - used ≤ 60
  pub low : at + used ≤ limit

module _ (at : ℕ) (p : Progress) (ws : List ℕ) (r : Walked) (q : Progress) (used : ℕ) (low : at ≤ limit)
    (came : walk_of at ws r ≡ foldl step (going at p []) ws) (is : r ≡ Ok (record { progress = q; used = used })) where
  reached : foldl step (going at p []) ws ≡ going (at + used) q (drop used ws)
  reached = sym came ∙ ap (walk_of at ws) is

  pub rest : Rest at used (length ws)
  rest =
      let left = short_few q (drop used ws) (left_short at p ws (at + used) q (drop used ws) reached) in
      let top = within_limit at p [] ws (at + used) q (drop used ws) (omega arith) reached in
      let len = length-drop used ws in
      record { within = used_within at p ws q used (sym reached); few = omega arith; low = omega arith }

  pub rest_kept : (b : List ℕ) → take (length ws - used) b ≡ drop used ws
      → going (at + used) q (held_in q.stage.ended (at + used) (length ws - used) b) ≡ foldl step (going at p []) ws
  rest_kept b e =
      let len = length-drop used ws in
      ap (going (at + used) q)
      (kept q (at + used) (length ws - used) b (drop used ws) (left_short at p ws (at + used) q (drop used ws) reached)
      (within_limit at p [] ws (at + used) q (drop used ws) (omega arith) reached) (sym len) e)
      ∙ sym reached

-- a walk after a whole command has gathered nothing
abbrev Whole : Walk → Type 0
Whole (going at p g) = g ≡ []
Whole (stopped n place) = Unit

whole_after : (at next : ℕ) (v : Verdict) → Whole (after at next v)
unfolding after
whole_after at next (Ok p) = refl
whole_after at next (Err f) = tt

-- A walk that goes on after the words of one command has gathered nothing.
pub completed : (at : ℕ) (p : Progress) (ws : List ℕ) (at' : ℕ) (p' : Progress) (g' : List ℕ) → p.stage.ended ≡ false → at ≤ limit
    → 1 ≤ length ws → length ws ≡ asked ws → foldl step (going at p []) ws ≡ going at' p' g' → g' ≡ []
completed at p ws at' p' g' e low some size came =
    let all = counted at p [] ws at' p' g' came in
    let top = within_limit at p [] ws at' p' g' (omega arith) came in
    let h = header_of (word_at ws 0) in
    let one = command at p e (length ws) ws h (omega arith) some (omega arith) refl size in
    let judged : foldl step (going at p []) ws ≡ after at (at + length ws) (judge h p (take (length ws) ws)) =
    one ∙ ap (foldl step (after at (at + length ws) (judge h p (take (length ws) ws)))) (drop-length ws) in
    subst Whole (sym judged ∙ came) (whole_after at (at + length ws) (judge h p (take (length ws) ws)))

-- a check that has not stopped
pub no_fault : (s : State) → has_stopped s ≡ false → s.fault ≡ None
no_fault s e = by s.fault refl
  where
    by : (x : Option Fault) → s.fault ≡ x → x ≡ None
    by None z = refl
    by (Some f) z = let no : true ≡ false = ap is_some (sym z) ∙ e in cc

-- A state that holds nothing goes on from the beginning of the command in progress.
pub from_none : (s : State) (ws : List ℕ) → s.fault ≡ None → gathered s ≡ []
    → foldl step (going s.at s.progress []) ws ≡ foldl step (walk_in s) ws
from_none s ws e z = ap (λ (x : Walk). foldl step x ws) (sym (walk_going s e ∙ ap (going s.at s.progress) z))

-- the words of a part by its first m and the others

-- After the first m words of a part the state is `t`: the others.
module _ (w : Walk) (m : ℕ) (ws : List ℕ) (t : State) (came : walk_in t ≡ foldl step w (take m ws)) where
  on : foldl step w ws ≡ foldl step (walk_in t) (drop m ws)
  on = slices.split step w m ws ∙ ap (λ (x : Walk). foldl step x (drop m ws)) (sym came)

  pub then_stopped : has_stopped t ≡ true → walk_in t ≡ foldl step w ws
  then_stopped e = stopped_stays t (drop m ws) e ∙ sym on

  pub then_going : t.fault ≡ None → gathered t ≡ [] → foldl step (going t.at t.progress []) (drop m ws) ≡ foldl step w ws
  then_going e z = from_none t (drop m ws) e z ∙ sym on

-- A state that holds the first n words of a command.
module _ (s : State) (n : ℕ) (e : s.fault ≡ None) (len : length s.buffer ≡ 61) (count : n ≡ length (gathered s)) (some : 1 ≤ n) where
  held_open : Open s.progress.stage.ended s.at s.held s.buffer
  unfolding gathered
  held_open = opened s.progress.stage.ended s.at s.held s.buffer len (omega arith)

  held_is : gathered s ≡ take n s.buffer
  unfolding gathered
  held_is = held_open.is ∙ ap (λ (k : ℕ). take k s.buffer) (sym (count ∙ held_open.count))

  pub held_fewer : n < asked s.buffer
  unfolding gathered
  held_fewer = let q = held_open.count in let f = held_open.fewer in omega arith

  held_fits : s.at + n ≤ limit
  unfolding gathered
  held_fits = let q = held_open.count in let f = held_open.fits in omega arith

  start_length : length (take n s.buffer) ≡ n
  start_length =
      let few = words_few (word_at s.buffer 0) in
      let fewer = held_fewer in
      length-take-le n s.buffer (omega arith)

  start_asked : asked (take n s.buffer) ≡ asked s.buffer
  start_asked = ap (λ (k : ℕ). words_in (header_of k)) (get_or-take n s.buffer 0 0 some)

  -- the walk on, from the beginning of that command
  pub from_held : (ws : List ℕ) → foldl step (going s.at s.progress []) (take n s.buffer ++ ws) ≡ foldl step (walk_in s) ws
  from_held ws =
      let fewer = held_fewer in
      let fits = held_fits in
      let long = start_length in
      let same = start_asked in
      sym (resumed s.at s.progress (take n s.buffer) ws (inr (held_open.going_on, omega arith)) (omega arith))
      ∙ ap (λ (g : List ℕ). foldl step (going s.at s.progress g) ws) (sym held_is)
      ∙ ap (λ (x : Walk). foldl step x ws) (sym (walk_going s e))

  -- a state that goes on when that command is complete holds nothing
  pub held_completed : (ws : List ℕ) → n + length ws ≡ asked s.buffer → (t : State) → t.fault ≡ None
      → walk_in t ≡ foldl step (going s.at s.progress []) (take n s.buffer ++ ws) → gathered t ≡ []
  held_completed ws size t f came =
      let fits = held_fits in
      let long = start_length in
      let all : length (take n s.buffer ++ ws) ≡ length (take n s.buffer) + length ws = length-append (take n s.buffer) ws in
      let first : asked (take n s.buffer ++ ws) ≡ asked (take n s.buffer) =
      ap (λ (k : ℕ). words_in (header_of k)) (get_or-append (take n s.buffer) ws 0 0 (omega arith)) in
      let same = start_asked in
      completed s.at s.progress (take n s.buffer ++ ws) t.at t.progress (gathered t) held_open.going_on (omega arith)
      (omega arith) (omega arith) (sym came ∙ walk_going t f)
