-- What each command that is not refused leaves as it was, and what holds of every progress that commands lead to.
use mathlib.Core.Bool.{true, false, cond, not, ◌&&◌}
use mathlib.Core.List.{List, [], ◌∷◌}
use mathlib.Core.Logic.{inl, ⊎_elim}
use mathlib.Core.Path.{◌≡◌, refl, sym, ap, ◌∙◌}
use Prim.Native.Nat.{ℕ, ◌+◌, ◌*◌, ◌<◌}
use native.Mathlib.Nat.{add-zero, zero-mul}
use native.Mathlib.Omega.{arith}
use borrow.Author.Tests.{not-true, leb-true}
use lib.Dec.{leb, ltb}
use Rattle.lists.proofs.Booleans.{no, and_left, and_right}
use Rattle.fields.specs.Word.{flag}
use Rattle.answers.specs.Answers.{rule, judged, Accepted}
use Rattle.std.specs.Prelude.{Ok}
use Rattle.answers.proofs.Judging.{both_accept, rule_kept}
use Rattle.headers.specs.Headers.{begins}
use Rattle.headers.specs.declared.Header.{Header}
use Rattle.headers.specs.declared.Header.TheVariants.{Known, Carried, Unknown}
use Rattle.headers.specs.declared.Opcode.TheVariants.{Noop, End, Surface, Picture, SliceGroup, Macroblock}
use Rattle.picture.specs.Pictures.{picture_of, picture_rules}
use Rattle.picture.specs.Surfaces.{surface_of}
use Rattle.picture.proofs.PictureLaws.{some_columns, some_rows, wide}
use Rattle.progress.specs.Progress.{fresh}
use Rattle.progress.specs.declared.Progress.{Progress}
use Rattle.placement.specs.Placing.{macroblock_rules}
use Rattle.placement.specs.Progressing.{macroblock_next}
use Rattle.placement.proofs.MacroblockLaws.{row_left}
use Rattle.placement.proofs.PositionLaws.{next_reached, Advances, advances, in_group, next_position}
use Rattle.sequence.specs.Sequence.{picture_permitted, surface_next, picture_next, group_next, end_next}
use Rattle.sequence.specs.Judging.{rules_of, next_of, judge}
use Rattle.sequence.specs.Sound.{Sound, have_come}

-- What a command says of the surface and the picture: SURFACE and PICTURE their own, the others what was said before.
pub record Said (h : Header) (p q : Progress) (ws : List ℕ) : Type 0 where
  pub frame_said : q.frame ≡ cond (begins Surface h) (surface_of ws) p.frame
  pub picture_said : q.picture ≡ cond (begins Picture h) (picture_of ws) p.picture
  pub surface_come : q.stage.surfaced ≡ cond (begins Surface h) true p.stage.surfaced
  pub picture_come : q.stage.pictured ≡ cond (begins Picture h) true p.stage.pictured

pub said_next : (h : Header) (p : Progress) (ws : List ℕ) → Said h p (next_of h p ws) ws
unfolding next_of surface_next picture_next group_next end_next
said_next (Known Noop n) p ws = record { frame_said = refl; picture_said = refl; surface_come = refl; picture_come = refl }
said_next (Known End n) p ws = record { frame_said = refl; picture_said = refl; surface_come = refl; picture_come = refl }
said_next (Known Surface n) p ws = record { frame_said = refl; picture_said = refl; surface_come = refl; picture_come = refl }
said_next (Known Picture n) p ws = record { frame_said = refl; picture_said = refl; surface_come = refl; picture_come = refl }
said_next (Known SliceGroup n) p ws = record { frame_said = refl; picture_said = refl; surface_come = refl; picture_come = refl }
said_next (Known Macroblock n) p ws =
    let a = advances p ws in
    record { frame_said = a.frame_stays; picture_said = a.picture_stays; surface_come = a.surfaced_stays; picture_come = a.pictured_stays }
said_next (Carried n) p ws = record { frame_said = refl; picture_said = refl; surface_come = refl; picture_come = refl }
said_next Unknown p ws = record { frame_said = refl; picture_said = refl; surface_come = refl; picture_come = refl }

-- Once SURFACE has come, no other is accepted, and likewise PICTURE.
pub surface_once : (h : Header) (p : Progress) (ws : List ℕ) → judged (rules_of h p ws) ≡ Accepted → p.stage.surfaced ≡ true → begins Surface h ≡ false
unfolding rules_of
surface_once (Known Noop n) p ws a s = refl
surface_once (Known End n) p ws a s = refl
surface_once (Known Surface n) p ws a s = absurd (no (sym (ap not s) ∙ rule_kept 3 0 (rules_of (Known Surface n) p ws) a))
surface_once (Known Picture n) p ws a s = refl
surface_once (Known SliceGroup n) p ws a s = refl
surface_once (Known Macroblock n) p ws a s = refl
surface_once (Carried n) p ws a s = refl
surface_once Unknown p ws a s = refl

pub picture_once : (h : Header) (p : Progress) (ws : List ℕ) → judged (rules_of h p ws) ≡ Accepted → p.stage.pictured ≡ true → begins Picture h ≡ false
unfolding rules_of
picture_once (Known Noop n) p ws a s = refl
picture_once (Known End n) p ws a s = refl
picture_once (Known Surface n) p ws a s = refl
picture_once (Known Picture n) p ws a s =
    absurd (no (sym (ap not s) ∙ and_right p.stage.surfaced (not p.stage.pictured) (rule_kept 3 0 (rules_of (Known Picture n) p ws) a)))
picture_once (Known SliceGroup n) p ws a s = refl
picture_once (Known Macroblock n) p ws a s = refl
picture_once (Carried n) p ws a s = refl
picture_once Unknown p ws a s = refl

pub fresh_sound : Sound fresh
unfolding fresh
fresh_sound = record { group_pictured = λ e. e; pictured_surfaced = λ e. e; none_yet = λ e. (refl, refl); wide = λ e. absurd (no e); in_row = λ e. absurd (no e); reached = λ e. absurd (no e); ended_full = λ e. absurd (no e) }

macroblock_sound : (p q : Progress) → Sound p → Advances p q → p.stage.in_group ≡ true → p.position.row < p.picture.grid.rows
    → Sound q × (have_come q ≡ have_come p + 1)
macroblock_sound p q s a g left =
    let pictured = s.group_pictured g in
    let surfaced = s.pictured_surfaced pictured in
    let n = next_position p.picture.grid p.position left (s.in_row pictured) in (
      record {
        group_pictured = λ e. a.pictured_stays ∙ pictured;
        pictured_surfaced = λ e. a.surfaced_stays ∙ surfaced;
        none_yet = λ e. absurd (no (sym e ∙ a.pictured_stays ∙ pictured));
        wide = λ e. simp a.frame_stays (s.wide pictured);
        in_row = λ e. simp (a.moved, a.picture_stays) n.0;
        reached = λ e. simp (a.moved, a.picture_stays) (next_reached p.picture.grid p.position left);
        ended_full = λ e. let f = (s.ended_full (sym a.ended_stays ∙ e)).1 in absurd (omega arith);
      },
      simp (a.moved, a.picture_stays) n.1,
    )

-- Each command that is accepted keeps that, and only a macroblock counts.
pub sound_next : (h : Header) (p : Progress) (ws : List ℕ) → judged (rules_of h p ws) ≡ Accepted → Sound p
    → Sound (next_of h p ws) × (have_come (next_of h p ws) ≡ have_come p + flag (begins Macroblock h))
unfolding rules_of next_of surface_next picture_next group_next end_next
sound_next (Known Noop n) p ws a s = (s, sym (add-zero (have_come p)))
sound_next (Known End n) p ws a s =
    let g = p.picture.grid in
    let open_none = p.stage.pictured && not p.stage.in_group in
    let h = rule_kept 3 0 (rules_of (Known End n) p ws) a in
    let pictured = and_left p.stage.pictured (not p.stage.in_group) (and_left open_none (leb g.rows p.position.row) h) in
    let full = leb-true g.rows p.position.row (and_right open_none (leb g.rows p.position.row) h) in (
      record {
        group_pictured = s.group_pictured;
        pictured_surfaced = s.pictured_surfaced;
        none_yet = s.none_yet;
        wide = s.wide;
        in_row = s.in_row;
        reached = s.reached;
        ended_full = λ e. (pictured, full);
      },
      sym (add-zero (have_come p)),
    )
sound_next (Known Surface n) p ws a s =
    let not_yet = not-true p.stage.surfaced (rule_kept 3 0 (rules_of (Known Surface n) p ws) a) in (
      record {
        group_pictured = s.group_pictured;
        pictured_surfaced = λ e. refl;
        none_yet = s.none_yet;
        wide = λ e. absurd (no (sym not_yet ∙ s.pictured_surfaced e));
        in_row = s.in_row;
        reached = s.reached;
        ended_full = s.ended_full;
      },
      sym (add-zero (have_come p)),
    )
sound_next (Known Picture n) p ws a s =
    let h = rule_kept 3 0 (rules_of (Known Picture n) p ws) a in
    let surfaced = and_left p.stage.surfaced (not p.stage.pictured) h in
    let z = s.none_yet (not-true p.stage.pictured (and_right p.stage.surfaced (not p.stage.pictured) h)) in (
      record {
        group_pictured = λ e. refl;
        pictured_surfaced = λ e. surfaced;
        none_yet = λ e. z;
        wide = λ e. wide p.frame ws (both_accept (rule 3 0 (picture_permitted p.stage) ∷ []) (picture_rules p.frame ws) a).1;
        in_row = λ e. rw z.0 (some_columns ws);
        reached = λ e. inl (rw z.1 (some_rows ws));
        ended_full = λ e. absurd (no (sym (not-true p.stage.pictured (and_right p.stage.surfaced (not p.stage.pictured) h)) ∙ (s.ended_full e).0));
      },
      simp (z.0, z.1, zero-mul),
    )
sound_next (Known SliceGroup n) p ws a s =
    let g = p.picture.grid in
    let h = rule_kept 3 0 (rules_of (Known SliceGroup n) p ws) a in
    let pictured = and_left p.stage.pictured (not p.stage.in_group) (and_left (p.stage.pictured && not p.stage.in_group) (ltb p.position.row g.rows) h) in (
      record {
        group_pictured = λ e. pictured;
        pictured_surfaced = s.pictured_surfaced;
        none_yet = s.none_yet;
        wide = s.wide;
        in_row = s.in_row;
        reached = s.reached;
        ended_full = s.ended_full;
      },
      sym (add-zero (have_come p)),
    )
sound_next (Known Macroblock n) p ws a s = macroblock_sound p (macroblock_next p ws) s (advances p ws) (in_group p ws a) (row_left p ws a)
sound_next (Carried n) p ws a s = (s, sym (add-zero (have_come p)))
sound_next Unknown p ws a s = (s, sym (add-zero (have_come p)))

-- A NOOP changes nothing.
pub noop_passes : (n : ℕ) (p : Progress) (ws : List ℕ) → judge (Known Noop n) p ws ≡ Ok p
unfolding judge rules_of next_of
noop_passes n p ws = refl

-- After END exactly W·H macroblocks have come.
pub all_come : (p : Progress) → Sound p → p.stage.ended ≡ true → have_come p ≡ p.picture.grid.rows * p.picture.grid.columns
all_come p s e =
    let f = s.ended_full e in
    ⊎_elim (λ l. absurd (omega (arith, l, f.1))) (λ r. simp (r.0, r.1, add-zero)) (s.reached f.0)

-- A header that begins MACROBLOCK has its rules.
pub macroblock_rules_lem : (h : Header) (p : Progress) (ws : List ℕ) → begins Macroblock h ≡ true → judged (rules_of h p ws) ≡ Accepted → judged (macroblock_rules p ws) ≡ Accepted
unfolding rules_of
macroblock_rules_lem (Known Noop n) p ws b a = absurd (no b)
macroblock_rules_lem (Known End n) p ws b a = absurd (no b)
macroblock_rules_lem (Known Surface n) p ws b a = absurd (no b)
macroblock_rules_lem (Known Picture n) p ws b a = absurd (no b)
macroblock_rules_lem (Known SliceGroup n) p ws b a = absurd (no b)
macroblock_rules_lem (Known Macroblock n) p ws b a = a
macroblock_rules_lem (Carried n) p ws b a = absurd (no b)
macroblock_rules_lem Unknown p ws b a = absurd (no b)

-- A command that begins MACROBLOCK changes the progress as a macroblock does, and no other touches a byte.
pub macroblock_next_lem : (h : Header) (p : Progress) (ws : List ℕ) → begins Macroblock h ≡ true → next_of h p ws ≡ macroblock_next p ws
unfolding next_of
macroblock_next_lem (Known Noop n) p ws b = absurd (no b)
macroblock_next_lem (Known End n) p ws b = absurd (no b)
macroblock_next_lem (Known Surface n) p ws b = absurd (no b)
macroblock_next_lem (Known Picture n) p ws b = absurd (no b)
macroblock_next_lem (Known SliceGroup n) p ws b = absurd (no b)
macroblock_next_lem (Known Macroblock n) p ws b = refl
macroblock_next_lem (Carried n) p ws b = absurd (no b)
macroblock_next_lem Unknown p ws b = absurd (no b)

pub others_touch_nothing : (h : Header) (p : Progress) (ws : List ℕ) → begins Macroblock h ≡ false → (next_of h p ws).extents ≡ p.extents
unfolding next_of surface_next picture_next group_next end_next
others_touch_nothing (Known Noop n) p ws b = refl
others_touch_nothing (Known End n) p ws b = refl
others_touch_nothing (Known Surface n) p ws b = refl
others_touch_nothing (Known Picture n) p ws b = refl
others_touch_nothing (Known SliceGroup n) p ws b = refl
others_touch_nothing (Known Macroblock n) p ws b = absurd (no (sym b))
others_touch_nothing (Carried n) p ws b = refl
others_touch_nothing Unknown p ws b = refl
