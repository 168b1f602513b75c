-- What a run of commands leaves as touched is exactly what its macroblocks touch, by the list of commands.
use mathlib.Core.Bool.{Bool, true, false, cond}
use mathlib.Core.List.{List, [], ◌∷◌, foldl}
use mathlib.Core.Logic.{◌⊎◌, inl, inr}
use mathlib.Core.Path.{◌≡◌, refl, sym, ap, ap₂, subst, ◌∙◌}
use Prim.Native.Nat.{ℕ, zero, suc, ◌+◌, ◌<◌}
use native.Mathlib.Nat.{add-zero, zero-add}
use native.Mathlib.Omega.{arith}
use lib.ListN.{length, get_or}
use Rattle.fields.specs.Word.{flag}
use Rattle.prediction.specs.Extents.{Exact}
use Rattle.prediction.specs.declared.Position.{Position}
use Rattle.prediction.specs.declared.Surface.{Surface}
use Rattle.prediction.proofs.ExtentLaws.{empty_exact, exact_same}
use Rattle.headers.specs.Headers.{begins}
use Rattle.headers.specs.declared.Opcode.TheVariants.{Macroblock}
use Rattle.macroblock.specs.Macroblocks.{macroblock_of}
use Rattle.progress.specs.Buffers.{Buffer, source, reconstructed, forward, backward, extent_of}
use Rattle.progress.specs.Progress.{fresh}
use Rattle.progress.specs.declared.Progress.{Progress}
use Rattle.std.specs.Prelude.{Ok}
use Rattle.placement.specs.Progressing.{macroblock_next}
use Rattle.placement.specs.Touching.{references_in, TouchedBy}
use Rattle.placement.proofs.PositionLaws.{in_group, position_of}
use Rattle.placement.proofs.TouchLaws.{next_exact}
use Rattle.sequence.specs.Judging.{judge}
use Rattle.sequence.proofs.JudgingLaws.{goes_on}
use Rattle.sequence.proofs.SequenceLaws.{macroblock_rules_lem, macroblock_next_lem, others_touch_nothing, fresh_sound}
use Rattle.commands.specs.Commands.{Command, commands_of, macroblocks_in, batch_frame, batch_picture}
use Rattle.batch.specs.Touched.{position_in, Touched}
use Rattle.batch.specs.Walk.{going, step, start}
use Rattle.batch.proofs.CommandList.{frame_kept, picture_kept, next_sound, listed}
use Rattle.batch.proofs.Runs.{batch_runs}
use Rattle.batch.specs.Listed.{Run}
use Rattle.sequence.specs.Sound.{Sound, have_come}

abbrev position : ℕ → ℕ → Position
position x y = record { column = x; row = y }

module _ (b : Buffer) where
  -- One macroblock at a position, and the macroblocks of a list of which the first is the j-th.
  abbrev By : Surface → Position → List ℕ → ℕ → Type 0
  By s at m byte = TouchedBy s at (references_in b (macroblock_of m).case) byte

  abbrev From : Surface → ℕ → ℕ → List (List ℕ) → ℕ → Type 0
  From s w j [] byte = ⊥
  From s w j (m ∷ ms) byte = By s (position_in w j) m byte ⊎ From s w (j + 1) ms byte

  -- a MACROBLOCK command of a run
  macroblock_exact : (p : Progress) (c : Command) (t : Progress) → judge c.header p c.words ≡ Ok t → Sound p → begins Macroblock c.header ≡ true
      → {Before : ℕ → Type 0} → Exact Before (extent_of b p.extents)
      → (p.stage.pictured ≡ true) × Exact (λ (byte : ℕ). Before byte ⊎ By p.frame.surface (position_in p.picture.grid.columns (have_come p)) c.words byte) (extent_of b t.extents)
  macroblock_exact p c t j s e {Before} before =
      let n = goes_on c.header p c.words t j in
      let a = macroblock_rules_lem c.header p c.words e n.0 in
      let pictured = s.group_pictured (in_group p c.words a) in
      let at = position_of p.picture.grid.columns p.position (s.in_row pictured) in
      let here : p.position ≡ position_in p.picture.grid.columns (have_come p) = sym (ap₂ position at.0 at.1) in
      let same : macroblock_next p c.words ≡ t = sym (n.1 ∙ macroblock_next_lem c.header p c.words e) in
      let one = next_exact p c.words a (s.wide pictured) (s.in_row pictured) b before in
      let moved : Exact (λ (byte : ℕ). Before byte ⊎ By p.frame.surface (position_in p.picture.grid.columns (have_come p)) c.words byte) (extent_of b (macroblock_next p c.words).extents) =
      subst (λ (x : Position). Exact (λ (byte : ℕ). Before byte ⊎ By p.frame.surface x c.words byte) (extent_of b (macroblock_next p c.words).extents)) here one in (
        pictured,
        subst (λ (x : Progress). Exact (λ (byte : ℕ). Before byte ⊎ By p.frame.surface (position_in p.picture.grid.columns (have_come p)) c.words byte) (extent_of b x.extents)) same moved,
      )

  run_exact : (p : Progress) (cs : List Command) (q : Progress) → Run p cs q → Sound p → {Before : ℕ → Type 0} → Exact Before (extent_of b p.extents)
      → Exact (λ (byte : ℕ). Before byte ⊎ From q.frame.surface q.picture.grid.columns (have_come p) (macroblocks_in cs) byte) (extent_of b q.extents)
  unfolding macroblocks_in
  run_exact p [] q r s {Before} before =
      rw (sym r) (exact_same {Q = λ (byte : ℕ). Before byte ⊎ ⊥} (λ byte h. inl h) only before)
    where
      only : (byte : ℕ) → Before byte ⊎ ⊥ → Before byte
      only byte (inl h) = h
      only byte (inr h) = absurd h
  run_exact p (c ∷ cs) q r s {Before} before =
      let n = next_sound p c r.0 r.1 s in
      by (begins Macroblock c.header) refl n.1 (λ B. run_exact r.0 cs q r.2 n.0 {Before = B})
    where
      S : Surface
      S = q.frame.surface

      w : ℕ
      w = q.picture.grid.columns

      by : (t : Bool) → begins Macroblock c.header ≡ t → have_come r.0 ≡ have_come p + flag t
          → ((B : ℕ → Type 0) → Exact B (extent_of b r.0.extents) → Exact (λ (byte : ℕ). B byte ⊎ From S w (have_come r.0) (macroblocks_in cs) byte) (extent_of b q.extents))
          → Exact (λ (byte : ℕ). Before byte ⊎ From S w (have_come p) (cond t (c.words ∷ macroblocks_in cs) (macroblocks_in cs)) byte) (extent_of b q.extents)
      by true e k rest =
          let m = macroblock_exact p c r.0 r.1 s e before in
          let frame = frame_kept p (c ∷ cs) q r (s.pictured_surfaced m.0) in
          let picture = picture_kept p (c ∷ cs) q r m.0 in
          let one : Exact (λ (byte : ℕ). Before byte ⊎ By S (position_in w (have_come p)) c.words byte) (extent_of b r.0.extents) = rw (frame, picture) m.1 in
          exact_same first back (rw k at (rest _ one))
        where
          first : (byte : ℕ) → (Before byte ⊎ By S (position_in w (have_come p)) c.words byte) ⊎ From S w (have_come p + 1) (macroblocks_in cs) byte
              → Before byte ⊎ (By S (position_in w (have_come p)) c.words byte ⊎ From S w (have_come p + 1) (macroblocks_in cs) byte)
          first byte (inl (inl h)) = inl h
          first byte (inl (inr h)) = inr (inl h)
          first byte (inr h) = inr (inr h)

          back : (byte : ℕ) → Before byte ⊎ (By S (position_in w (have_come p)) c.words byte ⊎ From S w (have_come p + 1) (macroblocks_in cs) byte)
              → (Before byte ⊎ By S (position_in w (have_come p)) c.words byte) ⊎ From S w (have_come p + 1) (macroblocks_in cs) byte
          back byte (inl h) = inl (inl h)
          back byte (inr (inl h)) = inl (inr h)
          back byte (inr (inr h)) = inr h
      by false e k rest =
          let n = goes_on c.header p c.words r.0 r.1 in
          let same = ap (λ (x : Progress). extent_of b x.extents) n.1 ∙ ap (extent_of b) (others_touch_nothing c.header p c.words e) in
          rw (k ∙ add-zero (have_come p)) at (rest Before (rw same before))

  -- the k-th of the list
  to_k : (s : Surface) (w j : ℕ) (ms : List (List ℕ)) (byte : ℕ) → From s w j ms byte → (k : ℕ) × (k < length ms) × By s (position_in w (j + k)) (get_or ms k []) byte
  to_k s w j [] byte h = absurd h
  to_k s w j (m ∷ ms) byte (inl h) = (0, omega arith, rw (add-zero j) h)
  to_k s w j (m ∷ ms) byte (inr h) =
      let r = to_k s w (j + 1) ms byte h in
      let e : j + suc r.0 ≡ j + 1 + r.0 = omega arith in
      (suc r.0, omega (arith, r.1), rw e r.2)

  from_k : (s : Surface) (w j : ℕ) (ms : List (List ℕ)) (byte k : ℕ) → k < length ms → By s (position_in w (j + k)) (get_or ms k []) byte → From s w j ms byte
  from_k s w j [] byte k l h = absurd (omega arith)
  from_k s w j (m ∷ ms) byte zero l h = inl (rw (add-zero j) at h)
  from_k s w j (m ∷ ms) byte (suc k) l h =
      let e : j + suc k ≡ j + 1 + k = omega arith in
      inr (from_k s w (j + 1) ms byte k (omega arith) (rw e at h))

  none_yet : Exact (λ (byte : ℕ). ⊥) (extent_of b fresh.extents)
  unfolding fresh
  none_yet = by b
    where
      by : (x : Buffer) → Exact (λ (byte : ℕ). ⊥) (extent_of x fresh.extents)
      by source = empty_exact
      by reconstructed = empty_exact
      by forward = empty_exact
      by backward = empty_exact

  start_count : have_come fresh ≡ 0
  unfolding fresh
  start_count = refl

  -- What a walk that was not refused has touched of a buffer is what the batch's macroblocks touch of it.
  pub touched_exact : (ws : List ℕ) (at : ℕ) (p : Progress) (g : List ℕ) → foldl step start ws ≡ going at p g → Exact (Touched ws b) (extent_of b p.extents)
  touched_exact ws at p g e =
      let r = batch_runs ws at p g e in
      let l = listed ws at p g e in
      let all : Exact (λ (byte : ℕ). ⊥ ⊎ From (batch_frame ws).surface (batch_picture ws).grid.columns 0 (macroblocks_in (commands_of ws)) byte) (extent_of b p.extents) =
      rw (start_count, l.frame, l.picture) at (run_exact fresh (commands_of ws) p r fresh_sound none_yet) in
      exact_same to back all
    where
      ms : List (List ℕ)
      ms = macroblocks_in (commands_of ws)

      to : (byte : ℕ) → ⊥ ⊎ From (batch_frame ws).surface (batch_picture ws).grid.columns 0 ms byte → Touched ws b byte
      to byte (inl h) = absurd h
      to byte (inr h) =
          let k = to_k (batch_frame ws).surface (batch_picture ws).grid.columns 0 ms byte h in
          record { k = k.0; comes = k.1; touches = rw (zero-add k.0) at k.2 }

      back : (byte : ℕ) → Touched ws b byte → ⊥ ⊎ From (batch_frame ws).surface (batch_picture ws).grid.columns 0 ms byte
      back byte t = inr (from_k (batch_frame ws).surface (batch_picture ws).grid.columns 0 ms byte t.k t.comes (rw (zero-add t.k) t.touches))
