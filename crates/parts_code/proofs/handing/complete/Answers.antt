-- `complete`: a part behind the words that are held.
use mathlib.Core.List.{List, [], ◌++◌, foldl}
use mathlib.Core.Path.{◌≡◌, sym, ap, ◌∙◌}
use Prim.Native.Nat.{ℕ, ◌+◌, ◌-◌, ◌≤◌, ◌<◌}
use native.Mathlib.Omega.{arith}
use borrow.Author.Rules.{rules}
use lib.ListN.{length, take}
use lib.Seq.{length-take-le}
use Rattle.lists.proofs.Slices.{part_rest, filled}
use Rattle.headers.specs.Words.{word_at}
use Rattle.headers.proofs.HeaderLaws.{words_few}
use Rattle.batch.specs.Walk.{going, step}
use Rattle.std.specs.Prelude.{None}
use Rattle.parts.specs.States.{gathered, walk_in}
use Rattle.parts.specs.declared.State.{State}
use Rattle.parts_code.proofs.HeldLaws.{asked, no_fault, held_fewer, from_held, held_completed, then_stopped, then_going}
use Rattle.parts_code.proofs.handing.complete.Goals as goal

-- A state that holds the first words of a command, which has n words.
record Open (s : State) (held n : ℕ) : Type 0 where
  pub going_on : s.fault ≡ None
  pub long : length s.buffer ≡ 61
  pub count : held ≡ length (gathered s)
  pub some : 1 ≤ held
  pub size : n ≡ asked s.buffer
  pub fewer : held < n
  pub most : n ≤ 61

opened : (s : State) (held n : ℕ) → (s.fault ≡ None) × ((held ≡ length (gathered s)) × (1 ≤ held)) → length s.buffer ≡ 61 → n ≡ asked s.buffer → Open s held n
opened s held n r len size =
    let below = held_fewer s held r.0 len r.1.0 r.1.1 in
    let few = words_few (word_at s.buffer 0) in
    record { going_on = r.0; long = len; count = r.1.0; some = r.1.1; size = size; fewer = omega arith; most = omega arith }

-- the words that complete it have room
fits : (s : State) (held n : ℕ) (part : List ℕ) → Open s held n → n - held ≤ length part → held + length (take (n - held) part) ≤ 61
fits s held n part o enough =
    let some = length-take-le (n - held) part enough in
    omega (arith, o.fewer, o.most)

-- The state t when the command is complete, which the first words of the part do.
module _ (s t : State) (held n : ℕ) (part r : List ℕ) (o : Open s held n) (enough : n - held ≤ length part)
    (put : take (held + length (take (n - held) part)) r ≡ take held s.buffer ++ take (n - held) part)
    (came : walk_in t ≡ foldl step (going s.at s.progress []) (take n r)) where
  after : walk_in t ≡ foldl step (going s.at s.progress []) (take held s.buffer ++ take (n - held) part)
  after =
      let below = o.fewer in
      came ∙ ap (foldl step (going s.at s.progress [])) (filled held (n - held) n s.buffer part r enough (omega arith) put)

  after_part : walk_in t ≡ foldl step (walk_in s) (take (n - held) part)
  after_part = after ∙ from_held s held o.going_on o.long o.count o.some (take (n - held) part)

  holds_none : t.fault ≡ None → gathered t ≡ []
  holds_none more =
      let below = o.fewer in
      let size = o.size in
      let len : length (take (n - held) part) ≡ n - held = length-take-le (n - held) part enough in
      held_completed s held o.going_on o.long o.count o.some (take (n - held) part) (omega arith) t more after

pub overflow_sub-need : goal.overflow_sub-need
overflow_sub-need c =
    let long : length c.args.state.buffer ≡ 61 = search rules in
    let o = opened c.args.state c.args.held c.command_words-n.result c.requires long c.command_words-n.ensures in
    omega (arith, o.fewer)

pub slice_bounds-buffer-end : goal.slice_bounds-buffer-end
slice_bounds-buffer-end c =
    let long_1 : length c.append-buffer.result ≡ 61 = search rules in
    let long : length c.args.state.buffer ≡ 61 = search rules in
    let o = opened c.args.state c.args.held c.command_words-n.result c.requires long c.command_words-n.ensures in
    omega (arith, o.fewer, o.most, c.if-part-need.true, long_1)

pub slice_bounds-walk_on-end : goal.slice_bounds-walk_on-end
slice_bounds-walk_on-end c =
    let long_1 : length c.append-buffer.result ≡ 61 = search rules in
    let long : length c.args.state.buffer ≡ 61 = search rules in
    let o = opened c.args.state c.args.held c.command_words-n.result c.requires long c.command_words-n.ensures in
    sym (length-take-le _ _ (omega (arith, o.fewer, o.most, c.if-part-need.true, long_1)))

pub returns-then-part-need : goal.returns-then-part-need
returns-then-part-need c =
    let long : length c.args.state.buffer ≡ 61 = search rules in
    let o = opened c.args.state c.args.held c.command_words-n.result c.requires long c.command_words-n.ensures in
    let room : c.args.held + length c.args.part.now ≤ 61 = omega (arith, o.fewer, o.most, c.if-part-need.true) in
    let s = c.args.state in (
      c.walk_on.ensures.0
          ∙ ap (foldl step (going s.at s.progress [])) (c.append-buffer.ensures.front room)
          ∙ from_held s c.args.held o.going_on o.long o.count o.some c.args.part.now,
      c.walk_on.ensures.1,
    )

pub slice_bounds-buffer-end-2 : goal.slice_bounds-buffer-end-2
slice_bounds-buffer-end-2 c =
    let long_2 : length c.append-buffer-2.result ≡ 61 = search rules in
    let long : length c.args.state.buffer ≡ 61 = search rules in
    let o = opened c.args.state c.args.held c.command_words-n.result c.requires long c.command_words-n.ensures in
    omega (arith, o.most, long_2)

pub slice_bounds-walk_on-end-2 : goal.slice_bounds-walk_on-end-2
slice_bounds-walk_on-end-2 c =
    let long_2 : length c.append-buffer-2.result ≡ 61 = search rules in
    let long : length c.args.state.buffer ≡ 61 = search rules in
    let o = opened c.args.state c.args.held c.command_words-n.result c.requires long c.command_words-n.ensures in
    sym (length-take-le _ _ (omega (arith, o.most, long_2)))

pub returns-then-is_some : goal.returns-then-is_some
returns-then-is_some c =
    let long : length c.args.state.buffer ≡ 61 = search rules in
    let o = opened c.args.state c.args.held c.command_words-n.result c.requires long c.command_words-n.ensures in
    let s = c.args.state in
    let t = c.walk_on-next.result in
    let held = c.args.held in
    let n = c.command_words-n.result in
    let part = c.args.part.now in
    let b = c.append-buffer-2.result in
    let more = c.if-part-need.false in
    let below = o.fewer in
    let enough : n - held ≤ length part = omega arith in (
      then_stopped (walk_in s) (n - held) part t (after_part s t held n part b o enough (c.append-buffer-2.ensures.front (fits s held n part o enough)) c.walk_on-next.ensures.0) (sym c.is_some.ensures ∙ c.if-is_some.true),
      c.walk_on-next.ensures.1,
    )

pub returns : goal.returns
returns c =
    let long : length c.args.state.buffer ≡ 61 = search rules in
    let o = opened c.args.state c.args.held c.command_words-n.result c.requires long c.command_words-n.ensures in
    let s = c.args.state in
    let t = c.walk_on-next.result in
    let held = c.args.held in
    let n = c.command_words-n.result in
    let part = c.args.part.now in
    let b = c.append-buffer-2.result in
    let more = c.if-part-need.false in
    let below = o.fewer in
    let enough : n - held ≤ length part = omega arith in
    let put = c.append-buffer-2.ensures.front (fits s held n part o enough) in
    let came = c.walk_on-next.ensures.0 in
    let none = holds_none s t held n part b o enough put came (no_fault t (sym c.is_some.ensures ∙ c.if-is_some.false)) in (
      c.walk_on-2.ensures.0
          ∙ ap (foldl step (going t.at t.progress [])) (part_rest (n - held) part)
          ∙ then_going (walk_in s) (n - held) part t (after_part s t held n part b o enough put came) (no_fault t (sym c.is_some.ensures ∙ c.if-is_some.false)) none,
      c.walk_on-2.ensures.1 ∙ c.walk_on-next.ensures.1,
    )
