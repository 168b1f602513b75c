-- What the list of commands says of a walk that was not refused: its count, positions, surface and picture.
use mathlib.Core.Bool.{Bool, true, false, cond}
use mathlib.Core.List.{List, [], ◌∷◌, foldl}
use mathlib.Core.Path.{◌≡◌, refl, sym, ap, ◌∙◌}
use Prim.Native.Nat.{ℕ, ◌+◌, ◌*◌, ◌/◌, ◌%◌, ◌≤◌}
use native.Mathlib.Nat.{add-zero, zero-add}
use native.Mathlib.Omega.{arith}
use lib.ListN.{length}
use Rattle.lists.proofs.Booleans.{no}
use Rattle.fields.specs.Word.{flag}
use Rattle.answers.specs.Answers.{judged, Accepted}
use Rattle.std.specs.Prelude.{Ok}
use Rattle.headers.specs.Headers.{begins}
use Rattle.headers.specs.declared.Header.{Header}
use Rattle.headers.specs.declared.Opcode.{Opcode}
use Rattle.headers.specs.declared.Opcode.TheVariants.{Surface, Picture, Macroblock}
use Rattle.picture.specs.Pictures.{picture_of}
use Rattle.picture.specs.Surfaces.{surface_of}
use Rattle.progress.specs.Progress.{fresh}
use Rattle.progress.specs.declared.Progress.{Progress}
use Rattle.placement.proofs.PositionLaws.{own_position, in_group, position_of}
use Rattle.sequence.specs.Judging.{rules_of, next_of, judge}
use Rattle.sequence.proofs.JudgingLaws.{goes_on}
use Rattle.sequence.proofs.SequenceLaws.{macroblock_rules_lem, all_come, said_next, surface_once, picture_once, fresh_sound, sound_next}
use Rattle.commands.specs.Commands.{Command, commands_of, macroblocks_in, last_said, batch_picture, InOrder, how_many}
use Rattle.commands.proofs.ListLaws.{in_order_at}
use Rattle.batch.specs.Walk.{going, step, start}
use Rattle.batch.proofs.Runs.{batch_runs}
use Rattle.batch.specs.Listed.{Run, Listed}
use Rattle.sequence.specs.Sound.{Sound, have_come}

-- A command that comes once and says something, as SURFACE and PICTURE do: how to read it off a progress, and what one command
-- changes of it.
pub record Once {A : Type 0} (o : Opcode) (says : List ℕ → A) (said : Progress → A) (come : Progress → Bool) : Type 0 where
  pub said_after : (h : Header) (p : Progress) (ws : List ℕ) → said (next_of h p ws) ≡ cond (begins o h) (says ws) (said p)
  pub come_after : (h : Header) (p : Progress) (ws : List ℕ) → come (next_of h p ws) ≡ cond (begins o h) true (come p)
  pub not_again : (h : Header) (p : Progress) (ws : List ℕ) → judged (rules_of h p ws) ≡ Accepted → come p ≡ true → begins o h ≡ false

pub surfaces_once : Once Surface surface_of (λ p. p.frame) (λ p. p.stage.surfaced)
surfaces_once =
    record {
      said_after = λ h p ws. (said_next h p ws).frame_said;
      come_after = λ h p ws. (said_next h p ws).surface_come;
      not_again = surface_once;
    }

pub pictures_once : Once Picture picture_of (λ p. p.picture) (λ p. p.stage.pictured)
pictures_once =
    record {
      said_after = λ h p ws. (said_next h p ws).picture_said;
      come_after = λ h p ws. (said_next h p ws).picture_come;
      not_again = picture_once;
    }

at_most : (b : Bool) → flag b + 0 ≤ 1
at_most true = omega arith
at_most false = omega arith

counted_once : (before now b : Bool) (n : ℕ) → (before ≡ true → b ≡ false) → now ≡ cond b true before → flag now + n ≤ 1 → flag before + (flag b + n) ≤ 1
counted_once true now true n h e l = absurd (no (sym (h refl)))
counted_once true now false n h e l = let k : 1 + n ≤ 1 = rw e at l in omega arith
counted_once false now true n h e l = let k : 1 + n ≤ 1 = rw e at l in omega arith
counted_once false now false n h e l = let k : 0 + n ≤ 1 = rw e at l in omega arith

module _ {A : Type 0} (o : Opcode) (says : List ℕ → A) (said : Progress → A) (come : Progress → Bool) (once : Once o says said come) where
  -- what is said is what the list's command says
  pub run_said : (p : Progress) (cs : List Command) (q : Progress) → Run p cs q → said q ≡ last_said o says (said p) cs
  unfolding last_said
  run_said p [] q r = ap said (sym r)
  run_said p (c ∷ cs) q r =
      let n = goes_on c.header p c.words r.0 r.1 in
      run_said r.0 cs q r.2
      ∙ ap (λ (x : A). last_said o says x cs) (ap said n.1 ∙ once.said_after c.header p c.words)

  -- the list has at most one
  pub run_once : (p : Progress) (cs : List Command) (q : Progress) → Run p cs q → flag (come p) + how_many o cs ≤ 1
  run_once p [] q r = at_most (come p)
  run_once p (c ∷ cs) q r =
      let n = goes_on c.header p c.words r.0 r.1 in
      counted_once (come p) (come r.0) (begins o c.header) (how_many o cs)
      (once.not_again c.header p c.words n.0)
      (ap come n.1 ∙ once.come_after c.header p c.words)
      (run_once r.0 cs q r.2)

  -- once it has come, what is said stays
  pub said_kept : (p : Progress) (cs : List Command) (q : Progress) → Run p cs q → come p ≡ true → said q ≡ said p
  said_kept p [] q r s = ap said (sym r)
  said_kept p (c ∷ cs) q r s =
      let n = goes_on c.header p c.words r.0 r.1 in
      let b = once.not_again c.header p c.words n.0 s in
      said_kept r.0 cs q r.2 (ap come n.1 ∙ once.come_after c.header p c.words ∙ simp (b, s))
      ∙ ap said n.1 ∙ once.said_after c.header p c.words ∙ simp b

pub frame_kept : (p : Progress) (cs : List Command) (q : Progress) → Run p cs q → p.stage.surfaced ≡ true → q.frame ≡ p.frame
frame_kept = said_kept Surface surface_of (λ p. p.frame) (λ p. p.stage.surfaced) surfaces_once

pub picture_kept : (p : Progress) (cs : List Command) (q : Progress) → Run p cs q → p.stage.pictured ≡ true → q.picture ≡ p.picture
picture_kept = said_kept Picture picture_of (λ p. p.picture) (λ p. p.stage.pictured) pictures_once

-- Every progress on the way is sound, and the count is that of the list's MACROBLOCK commands.
pub next_sound : (p : Progress) (c : Command) (t : Progress) → judge c.header p c.words ≡ Ok t → Sound p
    → Sound t × (have_come t ≡ have_come p + flag (begins Macroblock c.header))
next_sound p c t j s =
    let n = goes_on c.header p c.words t j in
    rw n.1 (sound_next c.header p c.words n.0 s)

pub run_sound : (p : Progress) (cs : List Command) (q : Progress) → Run p cs q → Sound p → Sound q
run_sound p [] q r s = rw (sym r) s
run_sound p (c ∷ cs) q r s = run_sound r.0 cs q r.2 (next_sound p c r.0 r.1 s).0

pub run_count : (p : Progress) (cs : List Command) (q : Progress) → Run p cs q → Sound p → have_come q ≡ have_come p + length (macroblocks_in cs)
unfolding macroblocks_in
run_count p [] q r s = ap have_come (sym r) ∙ sym (add-zero (have_come p))
run_count p (c ∷ cs) q r s =
    let n = next_sound p c r.0 r.1 s in
    run_count r.0 cs q r.2 n.0 ∙ ap (λ (k : ℕ). k + length (macroblocks_in cs)) n.1
    ∙ by (begins Macroblock c.header)
  where
    by : (b : Bool) → have_come p + flag b + length (macroblocks_in cs) ≡ have_come p + length (cond b (c.words ∷ macroblocks_in cs) (macroblocks_in cs))
    by true = omega arith
    by false = omega arith

-- The k-th MACROBLOCK of the list stands at column k mod W, row k div W, with the W of the list's PICTURE.
pub run_order : (p : Progress) (cs : List Command) (q : Progress) → Run p cs q → Sound p → InOrder q.picture.grid.columns (have_come p) (macroblocks_in cs)
unfolding macroblocks_in
run_order p [] q r s = tt
run_order p (c ∷ cs) q r s =
    let t = next_sound p c r.0 r.1 s in
    by (run_order r.0 cs q r.2 t.0) (begins Macroblock c.header) refl t.1
  where
    n : (judged (rules_of c.header p c.words) ≡ Accepted) × (r.0 ≡ next_of c.header p c.words)
    n = goes_on c.header p c.words r.0 r.1

    by : InOrder q.picture.grid.columns (have_come r.0) (macroblocks_in cs) → (b : Bool) → begins Macroblock c.header ≡ b → have_come r.0 ≡ have_come p + flag b
        → InOrder q.picture.grid.columns (have_come p) (cond b (c.words ∷ macroblocks_in cs) (macroblocks_in cs))
    by rest true e k =
        let a = macroblock_rules_lem c.header p c.words e n.0 in
        let pictured = s.group_pictured (in_group p c.words a) in
        let same = picture_kept p (c ∷ cs) q r pictured in
        let at = position_of p.picture.grid.columns p.position (s.in_row pictured) in
        let own = own_position p c.words a in (
          own.0 ∙ sym at.0 ∙ ap (λ x. have_come p % x.grid.columns) (sym same),
          own.1 ∙ sym at.1 ∙ ap (λ x. have_come p / x.grid.columns) (sym same),
          rw k at rest,
        )
    by rest false e k = rw (k ∙ add-zero (have_come p)) at rest

nothing_yet : have_come fresh ≡ 0
unfolding fresh
nothing_yet = refl

pub listed : (ws : List ℕ) (at : ℕ) (p : Progress) (g : List ℕ) → foldl step start ws ≡ going at p g → Listed ws p
listed ws at p g e =
    let r = batch_runs ws at p g e in
    let cs = commands_of ws in
    let none = nothing_yet in
    let count : have_come p ≡ length (macroblocks_in cs) = run_count fresh cs p r fresh_sound ∙ ap (λ (n : ℕ). n + length (macroblocks_in cs)) none ∙ zero-add (length (macroblocks_in cs)) in
    let picture = run_said Picture picture_of (λ p. p.picture) (λ p. p.stage.pictured) pictures_once fresh cs p r in
    let order = rw (none, picture) at (run_order fresh cs p r fresh_sound) in
    record {
      count = count;
      order = λ k l. rw (zero-add k) at (in_order_at (batch_picture ws).grid.columns 0 (macroblocks_in cs) k order l);
      frame = run_said Surface surface_of (λ p. p.frame) (λ p. p.stage.surfaced) surfaces_once fresh cs p r;
      picture = picture;
      surfaces = let h = run_once Surface surface_of (λ p. p.frame) (λ p. p.stage.surfaced) surfaces_once fresh cs p r in within-one (flag fresh.stage.surfaced) (how_many Surface cs) h;
      pictures = let h = run_once Picture picture_of (λ p. p.picture) (λ p. p.stage.pictured) pictures_once fresh cs p r in within-one (flag fresh.stage.pictured) (how_many Picture cs) h;
      full = λ t. sym count ∙ all_come p (run_sound fresh cs p r fresh_sound) t ∙ ap (λ x. x.grid.rows * x.grid.columns) picture;
    }
  where
    within-one : (m n : ℕ) → m + n ≤ 1 → n ≤ 1
    within-one m n l = omega arith
