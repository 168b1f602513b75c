-- A walk that was not refused has run through the commands that its words cut into.
use mathlib.Core.Bool.{Bool, true, false, cond}
use mathlib.Core.List.{List, [], ◌∷◌, ◌++◌, foldl}
use mathlib.Core.Logic.{inl, inr}
use mathlib.Core.Path.{◌≡◌, refl, sym, ap, ◌∙◌}
use Prim.Native.Nat.{ℕ, ◌+◌}
use native.Mathlib.Nat.{add-zero}
use native.Mathlib.Omega.{arith}
use borrow.Author.Tests.{ltb-true, eqb-true}
use lib.Dec.{eqb, leb, ltb}
use lib.ListN.{length}
use Rattle.lists.proofs.Booleans.{no}
use Rattle.headers.specs.Headers.{header_of, words_in, look_up, table}
use Rattle.headers.specs.Words.{word_at}
use Rattle.headers.specs.declared.Header.{Header}
use Rattle.progress.specs.Progress.{fresh, Verdict}
use Rattle.progress.specs.declared.Progress.{Progress}
use Rattle.std.specs.Prelude.{Ok, Err}
use Rattle.answers.specs.Answers.{fault_at}
use Rattle.sequence.specs.Judging.{judge}
use Rattle.sequence.proofs.SequenceLaws.{noop_passes}
use Rattle.commands.specs.Commands.{Command, cut, commands_of}
use Rattle.batch.specs.Reports.{ending, verdict_of}
use Rattle.batch.specs.Walk.{Walk, going, stopped, limit, after, settled, step, start}
use Rattle.batch.proofs.WalkLaws.{stays, Short}
use Rattle.batch.specs.Listed.{Run}

refused : (n place : ℕ) (ws : List ℕ) {at : ℕ} {q : Progress} {g : List ℕ} → foldl step (stopped n place) ws ≡ going at q g → ⊥
refused n place ws e = apart (sym (stays n place ws) ∙ e)
  where
    apart : {n place at : ℕ} {q : Progress} {g : List ℕ} → stopped n place ≡ going at q g → ⊥
    apart e = let z : ◌≡◌ {A = ℕ} 0 1 = cc in absurd (omega arith)

-- a zero word behind END is a NOOP of the list
behind_end : (at : ℕ) (p q : Progress) (ws : List ℕ) → Run p (cut (at + 1) [] ws) q → Run p (cut at [] (0 ∷ ws)) q
unfolding cut header_of look_up table
behind_end at p q ws r = (p, noop_passes 1 p (0 ∷ []), r)

-- nothing is in progress behind END
none_held : (p : Progress) (g : List ℕ) → Short p g → p.stage.ended ≡ true → g ≡ []
none_held p g (inl e) t = e
none_held p g (inr h) t = absurd (no (sym h.0 ∙ t))

module _ (w : ℕ) (ws : List ℕ) (at' : ℕ) (q : Progress) (g' : List ℕ)
    (rest : (at : ℕ) (p : Progress) (g : List ℕ) → Short p g → foldl step (going at p g) ws ≡ going at' q g' → Run p (cut at g ws) q) where
  -- a command that has become whole
  whole : (at : ℕ) (p : Progress) (c : Command) (v : Verdict) (n : ℕ) → judge c.header p c.words ≡ v → foldl step (after at n v) ws ≡ going at' q g'
      → Run p (c ∷ cut n [] ws) q
  unfolding after
  whole at p c (Ok t) n j e = (t, j, rest n t [] (inl refl) e)
  whole at p c (Err f) n j e = absurd (refused f.number (at + f.place) ws e)

  -- one word of a command
  one_word : (at : ℕ) (p : Progress) (g : List ℕ) → p.stage.ended ≡ false
      → foldl step (settled (header_of (word_at (g ++ (w ∷ [])) 0)) at p (g ++ (w ∷ []))) ws ≡ going at' q g' → Run p (cut at g (w ∷ ws)) q
  unfolding cut
  one_word at p g ended e = by (eqb (words_in h) 0) (ltb (length g+) (words_in h)) refl e
    where
      g+ : List ℕ
      g+ = g ++ (w ∷ [])

      h : Header
      h = header_of (word_at (g ++ (w ∷ [])) 0)

      c : Command
      c = record { place = at; header = h; words = g ++ (w ∷ []) }

      by : (u s : Bool) → ltb (length g+) (words_in h) ≡ s
          → foldl step (cond u (stopped 2 at) (cond s (going at p g+) (after at (at + length g+) (judge h p g+)))) ws ≡ going at' q g'
          → Run p (cond u [] (cond s (cut at g+ ws) (c ∷ cut (at + length g+) [] ws))) q
      by true s t e = absurd (refused 2 at ws e)
      by false true t e = rest at p g+ (inr (ended, ltb-true (length g+) (words_in h) t)) e
      by false false t e = whole at p c (judge h p g+) (at + length g+) refl e

  -- one word more
  next_word : (at : ℕ) (p : Progress) (g : List ℕ) → Short p g → foldl step (step (going at p g) w) ws ≡ going at' q g' → Run p (cut at g (w ∷ ws)) q
  unfolding step
  next_word at p g short e = by (leb limit (at + length g)) p.stage.ended refl e
    where
      zeros : (z : Bool) → eqb w 0 ≡ z → p.stage.ended ≡ true → foldl step (cond z (going (at + length g + 1) p []) (stopped 12 (at + length g))) ws ≡ going at' q g'
          → Run p (cut at g (w ∷ ws)) q
      zeros true z t e =
          let none = none_held p g short t in
          let r : Run p (cut (at + 1) [] ws) q = rw (add-zero at) at (rw none at (rest (at + length g + 1) p [] (inl refl) e)) in
          rw (none, eqb-true w 0 z) (behind_end at p q ws r)
      zeros false z t e = absurd (refused 12 (at + length g) ws e)

      by : (l b : Bool) → p.stage.ended ≡ b
          → foldl step (cond l (stopped 27 limit) (cond b (cond (eqb w 0) (going (at + length g + 1) p []) (stopped 12 (at + length g))) (settled (header_of (word_at (g ++ (w ∷ [])) 0)) at p (g ++ (w ∷ []))))) ws ≡ going at' q g'
          → Run p (cut at g (w ∷ ws)) q
      by true b t e = absurd (refused 27 limit ws e)
      by false true t e = zeros (eqb w 0) refl t e
      by false false t e = one_word at p g t e

-- A walk that goes on has run through the commands that its words cut into.
pub walk_runs : (at : ℕ) (p : Progress) (g ws : List ℕ) (at' : ℕ) (q : Progress) (g' : List ℕ) → Short p g
    → foldl step (going at p g) ws ≡ going at' q g' → Run p (cut at g ws) q
unfolding cut
walk_runs at p g [] at' q g' short e = cc
walk_runs at p g (w ∷ ws) at' q g' short e = next_word w ws at' q g' (λ a x y. walk_runs a x y ws at' q g') at p g short e

pub batch_runs : (ws : List ℕ) (at : ℕ) (q : Progress) (g : List ℕ) → foldl step start ws ≡ going at q g → Run fresh (commands_of ws) q
unfolding commands_of
batch_runs ws at q g e = walk_runs 0 fresh [] ws at q g (inl refl) e

-- A batch that keeps the rules, the buffers apart, has gone through its words, and END has come.
pub gone_through : (ws : List ℕ) (p : Progress) → verdict_of ws ≡ Ok p
    → (at : ℕ) × (g : List ℕ) × (foldl step start ws ≡ going at p g) × (p.stage.ended ≡ true)
unfolding verdict_of
gone_through ws p e = by (foldl step start ws) refl e
  where
    ended : (at : ℕ) (q : Progress) (g : List ℕ) (t : Bool) → q.stage.ended ≡ t → foldl step start ws ≡ going at q g
        → cond t (Ok q) (Err (fault_at 1 (at + length g))) ≡ Ok p
        → (at : ℕ) × (g : List ℕ) × (foldl step start ws ≡ going at p g) × (p.stage.ended ≡ true)
    ended at q g true t s e = let i : q ≡ p = cc in (at, g, s ∙ ap (λ (x : Progress). going at x g) i, ap (λ (x : Progress). x.stage.ended) (sym i) ∙ t)
    ended at q g false t s e = let z : ◌≡◌ {A = ℕ} 0 1 = cc in absurd (omega arith)

    by : (s : Walk) → foldl step start ws ≡ s → ending s ≡ Ok p
        → (at : ℕ) × (g : List ℕ) × (foldl step start ws ≡ going at p g) × (p.stage.ended ≡ true)
    by (stopped n place) s e = let z : ◌≡◌ {A = ℕ} 0 1 = cc in absurd (omega arith)
    by (going at q g) s e = ended at q g q.stage.ended refl s e
