-- The turns of the loop of `walk_within`, and what `walk` does with the words beyond the limit.
use mathlib.Core.List.{List, [], ◌∷◌, foldl, foldl-append}
use mathlib.Core.Bool.{Bool, true, false, not}
use mathlib.Core.Path.{◌≡◌, refl, sym, ◌∙◌, ap}
use Prim.Native.Nat.{ℕ, ◌+◌, ◌-◌, ◌≤◌, ◌<◌}
use native.Mathlib.Nat.{add_assoc, add-zero}
use native.Mathlib.Numerals.{add-one}
use native.Mathlib.Omega.{arith}
use borrow.Author.Tests.{lt-leb, eq-eqb, ne_eqb}
use lib.ListN.{length, take, drop, length-drop, take-append-drop, drop_of_length-le}
use lib.Seq.{drop-cons, drop-drop, length-take-le}
use Rattle.headers.specs.Headers.{table, look_up, header_of}
use Rattle.headers.specs.Words.{word_at}
use Rattle.progress.specs.declared.Progress.{Progress}
use Rattle.headers.specs.declared.Header.TheVariants.{Carried}
use Rattle.sequence.specs.Judging.{judge, rules_of, next_of}
use Rattle.sequence.proofs.SequenceLaws.{noop_passes}
use Rattle.commands.specs.Commands.{next_in, by_next}
use Rattle.commands.specs.declared.NextCommand.{NextCommand}
use Rattle.commands.specs.declared.NextCommand.TheVariants.{Unknown, Incomplete, Whole}
use Rattle.batch.specs.Walk.{Walk, going, stopped, limit, after, step, walk_of}
use Rattle.std.specs.Prelude.{Ok, Err}
use Rattle.answers.specs.Answers.{fault_at}
use Rattle.progress.specs.Progress.{Verdict}
use Rattle.headers.specs.declared.Header.{Header}
use Rattle.batch.proofs.WalkLaws.{stays, walk_next, full, used_within}

-- by what stands there: refused by 2, in progress, or a whole command judged and the words behind it
abbrev pub turn_by : ℕ → ℕ → Progress → List ℕ → NextCommand → Walk
turn_by base at p ws =
    by_next (stopped 2 (base + at)) (going (base + at) p (drop at ws))
    (λ h n. foldl step (after (base + at) (base + (at + n)) (judge h p (take (at + n - at) (drop at ws)))) (drop (at + n) ws))

pub turn_next : (base at : ℕ) (p : Progress) (ws : List ℕ) (c : NextCommand) → p.stage.ended ≡ false → base + length ws ≤ limit → at ≤ length ws
    → c ≡ next_in (drop at ws) → foldl step (going (base + at) p []) (drop at ws) ≡ turn_by base at p ws c
turn_next base at p ws c e l m s =
    let len : length (drop at ws) ≡ length ws - at = length-drop at ws in
    walk_next (base + at) p e (drop at ws) (omega arith) ∙ rw (← s) (by c)
  where
    by : (c : NextCommand)
        → by_next (stopped 2 (base + at)) (going (base + at) p (drop at ws)) (λ h n. foldl step (after (base + at) (base + at + n) (judge h p (take n (drop at ws)))) (drop n (drop at ws))) c
        ≡ turn_by base at p ws c
    by Unknown = refl
    by Incomplete = refl
    by (Whole h n) = let n' : at + n - at ≡ n = omega arith in rw (n', ← drop-drop n at ws, ← add_assoc base at n) refl

-- what the words come to, by the verdict on that command
pub judged_there : (base at : ℕ) (p : Progress) (ws : List ℕ) (h : Header) (n : ℕ) (v : Verdict) → p.stage.ended ≡ false → base + length ws ≤ limit
    → at ≤ length ws → Whole h n ≡ next_in (drop at ws) → judge h p (take (at + n - at) (drop at ws)) ≡ v
    → foldl step (going (base + at) p []) (drop at ws) ≡ foldl step (after (base + at) (base + (at + n)) v) (drop (at + n) ws)
judged_there base at p ws h n v e l m w j =
    turn_next base at p ws (Whole h n) e l m w
    ∙ ap (λ (x : Verdict). foldl step (after (base + at) (base + (at + n)) x) (drop (at + n) ws)) j

module _ (base at : ℕ) (p : Progress) (ws : List ℕ) (l : base + length ws ≤ limit) (m : at < length ws) where
  first_word : foldl step (going (base + at) p []) (drop at ws)
      ≡ foldl step (step (going (base + at) p []) (word_at ws at)) (drop (at + 1) ws)
  first_word = rw (drop-cons ws at 0 m) (rw add-one refl)

  -- a zero word: a NOOP, or one after END
  pub turn_zero : word_at ws at ≡ 0 → foldl step (going (base + at) p []) (drop at ws) ≡ foldl step (going (base + (at + 1)) p []) (drop (at + 1) ws)
  unfolding step after
  turn_zero z = first_word ∙ by p.stage.ended refl
    where
      by : (t : Bool) → p.stage.ended ≡ t
          → foldl step (step (going (base + at) p []) (word_at ws at)) (drop (at + 1) ws) ≡ foldl step (going (base + (at + 1)) p []) (drop (at + 1) ws)
      by true e = simp (add-zero, lt-leb limit (base + at) (omega arith), e, eq-eqb (word_at ws at) 0 z, ← add_assoc base at 1)
      by false e =
          rw z (unfold header_of look_up table in
          simp (add-zero, lt-leb limit (base + at) (omega arith), e, noop_passes 1 p (0 ∷ []), ← add_assoc base at 1))

  -- another word after END
  pub turn_behind : p.stage.ended ≡ true → (word_at ws at ≡ 0 → ⊥)
      → foldl step (going (base + at) p []) (drop at ws) ≡ stopped 12 (base + at)
  unfolding step
  turn_behind e z =
      first_word
      ∙ simp (add-zero, lt-leb limit (base + at) (omega arith), e, ne_eqb (word_at ws at) 0 z)
      (stays 12 (base + at) (drop (at + 1) ws))

-- Before the first group a carried command changes nothing, and after it it is out of sequence.
pub carried_passes : (n : ℕ) (p : Progress) (ws : List ℕ) → not p.stage.grouped ≡ true → judge (Carried n) p ws ≡ Ok p
unfolding judge rules_of next_of
carried_passes n p ws e = rw e refl

pub carried_late : (n : ℕ) (p : Progress) (ws : List ℕ) → p.stage.grouped ≡ true → judge (Carried n) p ws ≡ Err (fault_at 3 0)
unfolding judge rules_of next_of
carried_late n p ws e = rw e refl

-- at the end of the run nothing is left
pub finished : (base at : ℕ) (p : Progress) (ws : List ℕ) → length ws ≤ at
    → foldl step (going (base + at) p []) (drop at ws) ≡ going (base + at) p (drop at ws)
finished base at p ws h = rw (drop_of_length-le ws h)

-- where the words up to the limit are refused, all are
pub capped_stopped : (s : Walk) (m : ℕ) (ws : List ℕ) (n place : ℕ) → stopped n place ≡ foldl step s (take m ws)
    → stopped n place ≡ foldl step s ws
capped_stopped s m ws n place e =
    sym
    (ap (foldl step s) (sym (take-append-drop m ws)) ∙ foldl-append step s (take m ws) (drop m ws)
    ∙ ap (λ (t : Walk). foldl step t (drop m ws)) (sym e) ∙ stays n place (drop m ws))

-- where they are not, and more words follow, the answer is 27
pub capped_full : (base : ℕ) (p : Progress) (m : ℕ) (ws : List ℕ) (p' : Progress) (used : ℕ) → base + m ≡ limit → m < length ws
    → walk_of base (take m ws) (Ok (record { progress = p'; used = used })) ≡ foldl step (going base p []) (take m ws)
    → stopped 27 limit ≡ foldl step (going base p []) ws
capped_full base p m ws p' used f l e =
    let u = used_within base p (take m ws) p' used e in
    let a : length (take m ws) ≡ m = length-take-le m ws (omega arith) in
    let b = length-drop used (take m ws) in
    let c = length-drop m ws in
    sym
    (ap (foldl step (going base p [])) (sym (take-append-drop m ws)) ∙ foldl-append step (going base p []) (take m ws) (drop m ws)
    ∙ ap (λ (t : Walk). foldl step t (drop m ws)) (sym e)
    ∙ full (base + used) p' (drop used (take m ws)) (drop m ws) (omega arith) (omega arith))
