-- One command of a row: it keeps its rules, and the progress after it.
use mathlib.Core.Bool.{Bool, true, false, cond, not, ◌&&◌, ◌||◌}
use mathlib.Core.List.{List, [], ◌∷◌}
use mathlib.Core.Logic.{◌⊎◌, inl, inr}
use mathlib.Core.Path.{◌≡◌, refl, sym, ap, ap₂, subst, subst₂, ◌∙◌}
use Prim.Native.Nat.{ℕ, ◌+◌, ◌<◌, max}
use native.Mathlib.Omega.{arith}
use lib.Dec.{T, eqb, ltb}
use borrow.Author.Tests.{eq-eqb, eqb-true}
use Rattle.lists.proofs.Booleans.{no, both_true, and_right}
use Rattle.prediction.specs.Blocks.{block_at}
use Rattle.prediction.specs.Extents.{empty_extent, joined}
use Rattle.prediction.specs.Lines.{vector_in_lines}
use Rattle.prediction.specs.Ranges.{vector_in_range}
use Rattle.prediction.specs.Vectors.{vector_of, still}
use Rattle.std.specs.Prelude.{Some}
use Rattle.prediction.specs.declared.Extent.{Extent}
use Rattle.prediction.specs.declared.Line.{Line}
use Rattle.prediction.specs.declared.Position.{Position}
use Rattle.prediction.proofs.LineLaws.{in_lines, field_lines, still_reach}
use Rattle.prediction.proofs.ExtentLaws.{join_end, join_empty}
use Rattle.prediction.specs.declared.Structure.{Structure}
use Rattle.prediction.specs.declared.Structure.TheVariants as structure
use Rattle.fields.specs.Word.{bits, is_set, with_bits}
use Rattle.headers.specs.Words.{word_at}
use Rattle.macroblock.specs.Cases.{motion_of, case_of, vector_words}
use Rattle.macroblock.specs.Rules.{field_in, fixed4}
use Rattle.macroblock.specs.declared.Allowed.{Allowed}
use Rattle.macroblock.specs.Macroblocks.{flags_in, macroblock_of}
use Rattle.picture.specs.declared.Codes.{Codes}
use Rattle.picture.specs.declared.Frame.{Frame}
use Rattle.picture.specs.declared.Picture.{Picture}
use Rattle.progress.specs.declared.Extents.{Extents}
use Rattle.progress.specs.declared.Previous.{Previous}
use Rattle.progress.specs.declared.Progress.{Progress}
use Rattle.progress.specs.declared.Stage.{Stage}
use Rattle.placement.specs.Blocks.{field_of, forward_of, backward_of, bottom_of, is_inside, extent_in, predicted, blocks_of}
use Rattle.placement.specs.Placing.{allowed_in, coding_permits}
use Rattle.placement.specs.Progressing.{position_after, previous_of, extents_after, progress_after, macroblock_next}
use Rattle.rows.specs.Rows.{after_row}
use Rattle.rows.specs.Steps.{lines_of, is_predicted, type_in, place_in, reach_as, reach_in, top_in, bottom_in, FieldFits, BackwardFits, IntraFound, FieldFound, FrameFound, Flagged, Coded, Found, AtWord}
use Rattle.rows.specs.Touching.{uses_fields, points_in, reached, AllFit, across_of, down_of, frames_only, forward_points, backward_points}
use Rattle.rows.specs.Words.{type_bits, without_choices, FlagsKept, IntraKept, SkipKept, InterKept, FieldKept}
use Rattle.rows.proofs.Keeping.{AtPlace, at_place, Typed, typed_intra, typed_frame, typed_field, bit_2, and_false, fixed_any, fixed_choices, choices_kept, motion_as, keeps_intra, OfKind, InterRest, keeps_inter}
use Rattle.rows.specs.Keeping.{Joins, Stands, Comes}

abbrev extents : Extent → Extent → Extent → Extent → Extents
extents x y z w = record { source = x; reconstructed = y; forward = z; backward = w }

same_extents : {x y z w x' y' z' w' : Extent} → x ≡ x' → y ≡ y' → z ≡ z' → w ≡ w' → extents x y z w ≡ extents x' y' z' w'
same_extents a b c d = cc

abbrev progress : Stage → Frame → Picture → Position → Previous → Extents → Progress
progress s f p at v e = record { stage = s; frame = f; picture = p; position = at; previous = v; extents = e }

same_progress : {s s' : Stage} {f f' : Frame} {p p' : Picture} {at at' : Position} {v v' : Previous} {e e' : Extents} → s ≡ s' → f ≡ f' → p ≡ p' → at ≡ at'
    → v ≡ v' → e ≡ e' → progress s f p at v e ≡ progress s' f' p' at' v' e'
same_progress a b c d g h = cc

-- copies of one vector
words : (f : ℕ) {x y z : ℕ} → f ≡ x → f ≡ y → f ≡ z → ◌≡◌ {A = List ℕ} (f ∷ f ∷ f ∷ f ∷ []) (f ∷ x ∷ y ∷ z ∷ [])
words f ex ey ez = cc

sixes : {f x y z : ℕ} → f ≡ x → f ≡ y → x ≡ z → ◌≡◌ {A = List ℕ} (x ∷ x ∷ x ∷ x ∷ []) (f ∷ x ∷ y ∷ z ∷ [])
sixes ex ey ez = cc

-- field prediction is allowed in P alone
field_coding : (x : Picture) → (allowed_in x).field ≡ true → x.coding ≡ 2
unfolding allowed_in
field_coding x e = eqb-true x.coding 2 (and_right (not x.frame_pred_frame_dct) (eqb x.coding 2) e)

-- A vector that keeps its lines: its block in range and inside, and what it touches.
pub record Fits (k : Structure) (q : Progress) (codes : Codes) (w : ℕ) (e : Extent) : Type 0 where
  pub range : vector_in_range k (vector_of w) codes.x codes.y ≡ true
  pub block : block_at k q.frame.surface q.picture.grid q.position (vector_of w) ≡ Some e

fits : (k : Structure) (p q : Progress) (column w : ℕ) (codes : Codes) → column < p.picture.grid.columns → p.position.row < p.picture.grid.rows
    → q.frame ≡ p.frame → q.picture ≡ p.picture → q.position ≡ place_in p column
    → vector_in_lines k (across_of p.picture.grid codes) (down_of p.picture.grid codes k) column p.position.row w ≡ true
    → Fits k q codes w (reach_as k p column w)
fits k p q column w codes hc hr ef ep at e =
    let two = in_lines k p.frame.surface p.picture.grid (place_in p column) codes.x codes.y w (omega arith) (omega arith) e in
    record {
      range = two.0;
      block =
          ap (λ (x : Frame). block_at k x.surface q.picture.grid q.position (vector_of w)) ef
          ∙ ap (λ (x : Picture). block_at k p.frame.surface x.grid q.position (vector_of w)) ep
          ∙ ap (λ (x : Position). block_at k p.frame.surface p.picture.grid x (vector_of w)) at
          ∙ two.1;
    }

module _ (q : Progress) (ws : List ℕ) (placed : AtPlace q ws) where
  joins_intra : type_bits (allowed_in q.picture).dct_type (word_at ws 1) ≡ 0x3a00 → IntraKept q.picture.coding ws → Joins q ws q.extents.forward q.extents.backward
  unfolding macroblock_of case_of motion_of blocks_of forward_of backward_of bottom_of predicted
  joins_intra low kept =
      let k = (typed_intra (allowed_in q.picture) (word_at ws 1) low).kind in
      record {
        keeps = keeps_intra q ws placed low kept;
        kind_is = ap (λ (x : ℕ). (motion_of (case_of (motion_as x ws))).kind) k ∙ sym k;
        forward_next =
            ap (λ (x : ℕ). joined (joined q.extents.forward (blocks_of q (case_of (motion_as x ws))).forward.extent) (blocks_of q (case_of (motion_as x ws))).bottom.extent) k
            ∙ join_empty (joined q.extents.forward empty_extent)
            ∙ join_empty q.extents.forward;
        backward_next =
            ap (λ (x : ℕ). joined q.extents.backward (blocks_of q (case_of (motion_as x ws))).backward.extent) k
            ∙ join_empty q.extents.backward;
      }

  -- an inter macroblock of kind k, by what its kind touches
  module _ (before : List ℕ) (rest : InterRest q before ws) where
    joins-inter : (k : ℕ) (f b s : Extent) → Typed (allowed_in q.picture) (word_at ws 1) k → OfKind q k ws
        → (blocks_of q (case_of (motion_as k ws))).forward.extent ≡ f
        → (blocks_of q (case_of (motion_as k ws))).backward.extent ≡ b
        → (blocks_of q (case_of (motion_as k ws))).bottom.extent ≡ s
        → Joins q ws (joined (joined q.extents.forward f) s) (joined q.extents.backward b)
    unfolding macroblock_of
    joins-inter k f b s t of ef eb es =
        record {
          keeps = keeps_inter q ws before k placed t rest of;
          kind_is = ap (λ (x : ℕ). (motion_of (case_of (motion_as x ws))).kind) t.kind ∙ of.back ∙ sym t.kind;
          forward_next =
              ap (λ (x : ℕ). joined (joined q.extents.forward (blocks_of q (case_of (motion_as x ws))).forward.extent) (blocks_of q (case_of (motion_as x ws))).bottom.extent) t.kind
              ∙ ap₂ (λ (x y : Extent). joined (joined q.extents.forward x) y) ef es;
          backward_next =
              ap (λ (x : ℕ). joined q.extents.backward (blocks_of q (case_of (motion_as x ws))).backward.extent) t.kind
              ∙ ap (joined q.extents.backward) eb;
        }

    -- one that is not predicted from fields
    joins-frame : (k : ℕ) (f b : Extent) → Typed (allowed_in q.picture) (word_at ws 1) k → OfKind q k ws
        → (blocks_of q (case_of (motion_as k ws))).forward.extent ≡ f
        → (blocks_of q (case_of (motion_as k ws))).backward.extent ≡ b
        → (blocks_of q (case_of (motion_as k ws))).bottom.extent ≡ empty_extent
        → Joins q ws (joined q.extents.forward f) (joined q.extents.backward b)
    joins-frame k f b t of ef eb es =
        subst (λ (x : Extent). Joins q ws x (joined q.extents.backward b)) (join_empty (joined q.extents.forward f)) (joins-inter k f b empty_extent t of ef eb es)

    skips : (bits (word_at ws 1) 2 2 ≡ 0) ⊎ (bits (word_at ws 1) 15 15 ≡ 0)
    skips = by rest.skips
      where
        by : (bits (word_at ws 1) 2 2 ≡ 0) ⊎ SkipKept q.picture.coding before ws → (bits (word_at ws 1) 2 2 ≡ 0) ⊎ (bits (word_at ws 1) 15 15 ≡ 0)
        by (inl e) = inl e
        by (inr s) = inr s.frame_dct

    abbrev OfType : ℕ → Type 0
    OfType w = with_bits (type_bits (allowed_in q.picture).dct_type (word_at ws 1)) 2 2 0 ≡ w

    joins-forward : (e : Extent) → OfType 0x100 → is_predicted q.picture.coding ≡ true → word_at ws 5 ≡ word_at ws 6 → word_at ws 5 ≡ word_at ws 7 → word_at ws 6 ≡ word_at ws 8
        → Fits structure.Frame q q.picture.forward (word_at ws 5) e → Joins q ws (joined q.extents.forward e) (joined q.extents.backward empty_extent)
    unfolding case_of motion_of blocks_of forward_of backward_of bottom_of predicted vector_words
    joins-forward e type coding same seven eight fit =
        joins-frame 1 e empty_extent (typed_frame (allowed_in q.picture) (word_at ws 1) 0x100 type refl skips 1 refl refl refl refl refl)
        (record {
          some = omega arith;
          inter = refl;
          unskipped = inl refl;
          back = refl;
          permitted = by (eqb q.picture.coding 2) (eqb q.picture.coding 3) coding;
          forward_range = fit.range;
          forward_inside = ap is_inside fit.block;
          backward_range = refl;
          backward_inside = refl;
          bottom_range = refl;
          bottom_inside = refl;
          copies = words (word_at ws 5) same seven (same ∙ eight);
        })
        (ap extent_in fit.block)
        refl
        refl
      where
        by : (a b : Bool) → (a || b) ≡ true → ((a && true) || b) ≡ true
        by true b e = refl
        by false b e = e

    joins-backward : (e : Extent) → OfType 0x200 → q.picture.coding ≡ 3 → word_at ws 5 ≡ word_at ws 6 → word_at ws 5 ≡ word_at ws 7 → word_at ws 6 ≡ word_at ws 8
        → Fits structure.Frame q q.picture.backward (word_at ws 6) e → Joins q ws (joined q.extents.forward empty_extent) (joined q.extents.backward e)
    unfolding case_of motion_of blocks_of forward_of backward_of bottom_of predicted vector_words
    joins-backward e type coding same seven eight fit =
        joins-frame 2 empty_extent e (typed_frame (allowed_in q.picture) (word_at ws 1) 0x200 type refl skips 2 refl refl refl refl refl)
        (record {
          some = omega arith;
          inter = refl;
          unskipped = inl refl;
          back = refl;
          permitted = ap (λ (x : ℕ). coding_permits x 2) coding;
          forward_range = refl;
          forward_inside = refl;
          backward_range = fit.range;
          backward_inside = ap is_inside fit.block;
          bottom_range = refl;
          bottom_inside = refl;
          copies = sixes same seven eight;
        })
        refl
        (ap extent_in fit.block)
        refl

    joins-both : (e h : Extent) → OfType 0x300 → q.picture.coding ≡ 3 → word_at ws 5 ≡ word_at ws 7 → word_at ws 6 ≡ word_at ws 8 → Fits structure.Frame q q.picture.forward (word_at ws 5) e
        → Fits structure.Frame q q.picture.backward (word_at ws 6) h → Joins q ws (joined q.extents.forward e) (joined q.extents.backward h)
    unfolding case_of motion_of blocks_of forward_of backward_of bottom_of predicted vector_words
    joins-both e h type coding seven eight fit fit' =
        joins-frame 3 e h (typed_frame (allowed_in q.picture) (word_at ws 1) 0x300 type refl skips 3 refl refl refl refl refl)
        (record {
          some = omega arith;
          inter = refl;
          unskipped = inl refl;
          back = refl;
          permitted = ap (λ (x : ℕ). coding_permits x 3) coding;
          forward_range = fit.range;
          forward_inside = ap is_inside fit.block;
          backward_range = fit'.range;
          backward_inside = ap is_inside fit'.block;
          bottom_range = refl;
          bottom_inside = refl;
          copies = ap₂ (λ (x y : ℕ). word_at ws 5 ∷ word_at ws 6 ∷ x ∷ y ∷ []) seven eight;
        })
        (ap extent_in fit.block)
        (ap extent_in fit'.block)
        refl

    -- field prediction
    joins-field : (e h : Extent) → type_bits (allowed_in q.picture).dct_type (word_at ws 1) ≡ 0x4401 → (allowed_in q.picture).field ≡ true → q.picture.coding ≡ 2 → FieldKept ws
        → Fits (top_in ws) q q.picture.forward (word_at ws 5) e → Fits (bottom_in ws) q q.picture.forward (word_at ws 7) h
        → Joins q ws (joined (joined q.extents.forward e) h) (joined q.extents.backward empty_extent)
    unfolding case_of motion_of blocks_of forward_of backward_of bottom_of predicted vector_words
    joins-field e h type permitted coding kept fit fit' =
        joins-inter 4 e empty_extent h (typed_field (allowed_in q.picture) (word_at ws 1) permitted type)
        (record {
          some = omega arith;
          inter = refl;
          unskipped = inr (bit_2 (allowed_in q.picture) (word_at ws 1) 0x4401 type refl);
          back = refl;
          permitted = ap (λ (x : ℕ). coding_permits x 4) coding;
          forward_range = fit.range;
          forward_inside = ap is_inside fit.block;
          backward_range = refl;
          backward_inside = refl;
          bottom_range = fit'.range;
          bottom_inside = ap is_inside fit'.block;
          copies = ap₂ (λ (x y : ℕ). word_at ws 5 ∷ x ∷ word_at ws 7 ∷ y ∷ []) kept.six kept.eight;
        })
        (ap extent_in fit.block)
        refl
        (ap extent_in fit'.block)

-- What the tests find of a command is true of it where the batch stands. `f` and `b` are what is touched of the references before it.
module _ (p q : Progress) (column due : ℕ) (f b : Extent) (before ws : List ℕ) (s : Stands p column due f b before q) where
  picture_is : (P : Picture → Type 0) → P p.picture → P q.picture
  picture_is P h = subst P (sym s.same_picture) h

  -- by its word 4, with its choices or without
  place_by : (four : ℕ) → ((h l : ℕ) → T (ltb h 18 || ltb 18 l) → T (ltb h 16 || ltb 16 l) → bits four h l ≡ bits (word_at ws 4) h l)
      → (fixed4 false four ≡ true → fixed4 (field_in (allowed_in q.picture) (word_at ws 1)) (word_at ws 4) ≡ true)
      → AtWord (word_at ws 2) column p.position.row → FlagsKept four due (eqb (column + 1) p.picture.grid.columns) → AtPlace q ws
  place_by four same free position flags =
      at_place q ws four same free column p.position.row due s.open_group s.here
      (picture_is (λ (x : Picture). p.position.row < x.grid.rows) s.in_rows)
      position s.due_is
      (picture_is (λ (x : Picture). FlagsKept four due (eqb (column + 1) x.grid.columns)) flags)

  fits_forward : (k : Structure) (w : ℕ) → vector_in_lines k (across_of p.picture.grid p.picture.forward) (down_of p.picture.grid p.picture.forward k) column p.position.row w ≡ true
      → Fits k q q.picture.forward w (reach_as k p column w)
  fits_forward k w e =
      picture_is (λ (x : Picture). Fits k q x.forward w (reach_as k p column w))
      (fits k p q column w p.picture.forward s.in_columns s.in_rows s.same_frame s.same_picture s.here e)

  fits_backward : (w : ℕ) → BackwardFits p column w → Fits structure.Frame q q.picture.backward w (reach_in p column w)
  unfolding lines_of
  fits_backward w e =
      picture_is (λ (x : Picture). Fits structure.Frame q x.backward w (reach_in p column w))
      (fits structure.Frame p q column w p.picture.backward s.in_columns s.in_rows s.same_frame s.same_picture s.here e)

  -- the rows' line of either field
  field_line : (i : Bool) (w : ℕ) → FieldFits (field_of i) p column w
      → vector_in_lines (field_of i) (across_of p.picture.grid p.picture.forward) (down_of p.picture.grid p.picture.forward (field_of i)) column p.position.row w ≡ true
  unfolding lines_of
  field_line true w e =
      subst (λ (l : Line). vector_in_lines structure.BottomField (across_of p.picture.grid p.picture.forward) l column p.position.row w ≡ true)
      (field_lines p.picture.grid.rows p.picture.forward.y) e
  field_line false w e = e

  -- the vectors of a command by its type: in the frame of a reference, in fields, none
  module _ (alone word : ℕ) (a : Allowed) where
    points-frame : (type : ℕ) → with_bits (type_bits a.dct_type (word_at ws 1)) 2 2 0 ≡ type → (eqb type alone || eqb type 0x300) ≡ true
        → points_in alone word a ws ≡ (structure.Frame, word_at ws word) ∷ []
    points-frame type e u =
        ap
        (λ (t : Bool). cond t ((structure.Frame, word_at ws word) ∷ []) (cond (uses_fields a (word_at ws 1)) ((top_in ws, word_at ws 5) ∷ (bottom_in ws, word_at ws 7) ∷ []) []))
        (ap (λ (x : ℕ). eqb x alone || eqb x 0x300) e ∙ u)

    points-other : (type : ℕ) → with_bits (type_bits a.dct_type (word_at ws 1)) 2 2 0 ≡ type → (eqb type alone || eqb type 0x300) ≡ false → (t : Bool) → uses_fields a (word_at ws 1) ≡ t
        → points_in alone word a ws ≡ cond t ((top_in ws, word_at ws 5) ∷ (bottom_in ws, word_at ws 7) ∷ []) []
    points-other type e u t f =
        ap₂ (λ (x y : Bool). cond x ((structure.Frame, word_at ws word) ∷ []) (cond y ((top_in ws, word_at ws 5) ∷ (bottom_in ws, word_at ws 7) ∷ []) []))
        (ap (λ (x : ℕ). eqb x alone || eqb x 0x300) e ∙ u)
        f

    -- a type that is not that of field prediction
    no_fields : (type : ℕ) → with_bits (type_bits a.dct_type (word_at ws 1)) 2 2 0 ≡ type → eqb (with_bits 0x4401 2 2 0) type ≡ false → uses_fields a (word_at ws 1) ≡ false
    no_fields type e z = by (eqb (type_bits a.dct_type (word_at ws 1)) 0x4401) refl
      where
        by : (t : Bool) → eqb (type_bits a.dct_type (word_at ws 1)) 0x4401 ≡ t → uses_fields a (word_at ws 1) ≡ false
        by true y =
            let is = eqb-true (type_bits a.dct_type (word_at ws 1)) 0x4401 y in
            let same : with_bits 0x4401 2 2 0 ≡ type = sym (ap (λ (x : ℕ). with_bits x 2 2 0) is) ∙ e in
            absurd (no (sym z ∙ eq-eqb (with_bits 0x4401 2 2 0) type same))
        by false y = ap (λ (x : Bool). a.field && x) y ∙ and_false a.field

  abbrev Forward : List (Structure × ℕ) → Type 0
  Forward vs = AllFit (across_of p.picture.grid p.picture.forward) (down_of p.picture.grid p.picture.forward) (place_in p column) vs

  abbrev Backward : List (Structure × ℕ) → Type 0
  Backward vs = AllFit (across_of p.picture.grid p.picture.backward) (down_of p.picture.grid p.picture.backward) (place_in p column) vs

  -- from the vectors of each kind
  comes : {f' b' : ℕ} (vs us : List (Structure × ℕ)) → forward_points p ws ≡ vs → backward_points p ws ≡ us
      → Joins q ws (reached p.frame.surface (place_in p column) vs q.extents.forward) (reached p.frame.surface (place_in p column) us q.extents.backward)
      → f' ≡ (reached p.frame.surface (place_in p column) vs f).end → b' ≡ (reached p.frame.surface (place_in p column) us b).end
      → Forward vs → Backward us → Comes p q column f b ws f' b'
  comes vs us ev eu j ef eb fv fu =
      let surface = p.frame.surface in
      let at = place_in p column in
      record {
        joins =
            subst₂ (Joins q ws)
            (ap₂ (reached surface at) (sym ev) s.forward_is)
            (ap₂ (reached surface at) (sym eu) s.backward_is)
            j;
        forward_end = ef ∙ ap (λ (x : List (Structure × ℕ)). (reached surface at x f).end) (sym ev);
        backward_end = eb ∙ ap (λ (x : List (Structure × ℕ)). (reached surface at x b).end) (sym eu);
        forward_fits = subst Forward (sym ev) fv;
        backward_fits = subst Backward (sym eu) fu;
      }

  pub found_comes : (f' b' : ℕ) → Found p column f.end b.end ws due before f' b' → Comes p q column f b ws f' b'
  unfolding lines_of
  found_comes f' b' h = by h.coded
    where
      a : Allowed
      a = allowed_in p.picture

      not-intra : is_predicted q.picture.coding ≡ true → q.picture.coding ≡ 1 → ⊥
      not-intra e z = no (sym (ap is_predicted z) ∙ e)

      three : p.picture.coding ≡ 3 → q.picture.coding ≡ 3
      three e = picture_is (λ (x : Picture). x.coding ≡ 3) e

      not-one : (n : ℕ) → 1 < n → q.picture.coding ≡ n → q.picture.coding ≡ 1 → ⊥
      not-one n l e z = omega arith

      type-is : {w : ℕ} → type_in p ws ≡ w → with_bits (type_bits (allowed_in q.picture).dct_type (word_at ws 1)) 2 2 0 ≡ w
      type-is {w} e = picture_is (λ (x : Picture). with_bits (type_bits (allowed_in x).dct_type (word_at ws 1)) 2 2 0 ≡ w) e

      rest : InterKept p.picture.coding before ws → (q.picture.coding ≡ 1 → ⊥) → InterRest q before ws
      rest k coded =
          let kept = picture_is (λ (x : Picture). InterKept x.coding before ws) k in
          record { fixed_high = kept.fixed_high; fixed_low = kept.fixed_low; skips = kept.skips; coded = coded; previous = s.previous_is }

      -- what no vector touches
      nothing : (alone word type : ℕ) (c : Allowed) → c.dct_type ≡ a.dct_type → type_in p ws ≡ type → (eqb type alone || eqb type 0x300) ≡ false → eqb (with_bits 0x4401 2 2 0) type ≡ false → points_in alone word c ws ≡ []
      nothing alone word type c d e u z =
          let same : with_bits (type_bits c.dct_type (word_at ws 1)) 2 2 0 ≡ type = ap (λ (x : Bool). with_bits (type_bits x (word_at ws 1)) 2 2 0) d ∙ e in
          points-other alone word c type same u false (no_fields alone word c type same z)

      framed : Flagged p column f.end b.end ws due → AtPlace q ws
      framed flags = place_by (word_at ws 4) (λ h l s t. refl) (fixed_any (field_in (allowed_in q.picture) (word_at ws 1)) (word_at ws 4)) h.position flags

      placed-field : FieldFound p column f.end b.end ws due f' b' → (allowed_in q.picture).field ≡ true
          → type_bits (allowed_in q.picture).dct_type (word_at ws 1) ≡ 0x4401 → AtPlace q ws
      placed-field x permitted low =
          let t = typed_field (allowed_in q.picture) (word_at ws 1) permitted low in
          let fields : field_in (allowed_in q.picture) (word_at ws 1) ≡ true = both_true permitted (eq-eqb _ 4 t.kind) in
          place_by (without_choices (word_at ws 4)) (choices_kept (word_at ws 4))
          (λ e. ap (λ (y : Bool). fixed4 y (word_at ws 4)) fields ∙ fixed_choices (word_at ws 4) e) h.position x.flags

      by-frame : Flagged p column f.end b.end ws due → InterKept p.picture.coding before ws → FrameFound p column f.end b.end ws f' b' → Comes p q column f b ws f' b'
      by-frame flags k (inl x) =
          let predicted : is_predicted q.picture.coding ≡ true = picture_is (λ (y : Picture). is_predicted y.coding ≡ true) x.coding in
          let fit = fits_forward structure.Frame (word_at ws 5) x.fits in
          comes ((structure.Frame, word_at ws 5) ∷ []) [] (points-frame 0x100 5 a 0x100 x.type refl) (nothing 0x200 6 0x100 (frames_only a) refl x.type refl refl)
          (subst (Joins q ws (joined q.extents.forward (reach_in p column (word_at ws 5)))) (join_empty q.extents.backward)
          (joins-forward q ws (framed flags) before (rest k (not-intra predicted)) (reach_in p column (word_at ws 5)) (type-is x.type) predicted x.same k.seven k.eight fit))
          (x.forward_is ∙ sym (join_end f (reach_in p column (word_at ws 5)))) x.backward_is (x.fits, tt) tt
      by-frame flags k (inr (inl x)) =
          let six = reach_in p column (word_at ws 6) in
          comes [] ((structure.Frame, word_at ws 6) ∷ []) (nothing 0x100 5 0x200 a refl x.type refl refl) (points-frame 0x200 6 (frames_only a) 0x200 x.type refl)
          (subst (λ (y : Extent). Joins q ws y (joined q.extents.backward six)) (join_empty q.extents.forward)
          (joins-backward q ws (framed flags) before (rest k (not-one 3 (omega arith) (three x.coding))) six (type-is x.type) (three x.coding) x.same k.seven k.eight (fits_backward (word_at ws 6) x.fits)))
          x.forward_is (x.backward_is ∙ sym (join_end b six)) tt (x.fits, tt)
      by-frame flags k (inr (inr x)) =
          let five = reach_in p column (word_at ws 5) in
          let six = reach_in p column (word_at ws 6) in
          comes ((structure.Frame, word_at ws 5) ∷ []) ((structure.Frame, word_at ws 6) ∷ []) (points-frame 0x100 5 a 0x300 x.type refl) (points-frame 0x200 6 (frames_only a) 0x300 x.type refl)
          (joins-both q ws (framed flags) before (rest k (not-one 3 (omega arith) (three x.coding))) five six (type-is x.type) (three x.coding) k.seven k.eight (fits_forward structure.Frame (word_at ws 5) x.forward_fits)
          (fits_backward (word_at ws 6) x.backward_fits))
          (x.forward_is ∙ sym (join_end f five)) (x.backward_is ∙ sym (join_end b six)) (x.forward_fits, tt) (x.backward_fits, tt)

      by-intra : Flagged p column f.end b.end ws due → IntraFound p column f.end b.end ws f' b' → Comes p q column f b ws f' b'
      by-intra flags x =
          let type : type_in p ws ≡ 0x3a00 = ap (λ (l : ℕ). with_bits l 2 2 0) x.type in
          let low = picture_is (λ (y : Picture). type_bits (allowed_in y).dct_type (word_at ws 1) ≡ 0x3a00) x.type in
          comes [] [] (nothing 0x100 5 0x3a00 a refl type refl refl) (nothing 0x200 6 0x3a00 (frames_only a) refl type refl refl)
          (joins_intra q ws (framed flags) low (picture_is (λ (y : Picture). IntraKept y.coding ws) x.kept))
          x.forward_is x.backward_is tt tt

      by_field : FieldFound p column f.end b.end ws due f' b' → Comes p q column f b ws f' b'
      by_field x =
          let top = reach_as (top_in ws) p column (word_at ws 5) in
          let bottom = reach_as (bottom_in ws) p column (word_at ws 7) in
          let type : type_in p ws ≡ 0x4401 = ap (λ (l : ℕ). with_bits l 2 2 0) x.type in
          let low = picture_is (λ (y : Picture). type_bits (allowed_in y).dct_type (word_at ws 1) ≡ 0x4401) x.type in
          let permitted = picture_is (λ (y : Picture). (allowed_in y).field ≡ true) x.permitted in
          let coding = field_coding q.picture permitted in
          let top-fits = field_line (is_set (bits (word_at ws 4) 16 16)) (word_at ws 5) x.blocks.first.fits in
          let bottom-fits = field_line (is_set (bits (word_at ws 4) 18 18)) (word_at ws 7) x.blocks.second.fits in
          let fields : uses_fields a (word_at ws 1) ≡ true = both_true x.permitted (eq-eqb _ 0x4401 x.type) in
          let one_bit = bit_2 (allowed_in q.picture) (word_at ws 1) 0x4401 low refl in
          comes ((top_in ws, word_at ws 5) ∷ (bottom_in ws, word_at ws 7) ∷ []) [] (points-other 0x100 5 a 0x4401 type refl true fields)
          (points-other 0x200 6 (frames_only a) 0x4401 type refl false refl)
          (subst (Joins q ws (joined (joined q.extents.forward top) bottom)) (join_empty q.extents.backward)
          (joins-field q ws (placed-field x permitted low) before
          (record { fixed_high = x.kept.fixed_high; fixed_low = x.kept.fixed_low; skips = inl one_bit; coded = not-one 2 (omega arith) coding; previous = s.previous_is })
          top bottom low permitted coding x.kept (fits_forward (top_in ws) (word_at ws 5) top-fits) (fits_forward (bottom_in ws) (word_at ws 7) bottom-fits)))
          (x.blocks.second.end_is ∙ ap (λ (n : ℕ). max n bottom.end) (x.blocks.first.end_is ∙ sym (join_end f top)) ∙ sym (join_end (joined f top) bottom)) x.backward_is (top-fits, (bottom-fits, tt)) tt

      by : Coded p column f.end b.end ws due before f' b' → Comes p q column f b ws f' b'
      by (inl x) = by_field x
      by (inr (flags, inl x)) = by-intra flags x
      by (inr (flags, inr (k, x))) = by-frame flags k x

  own_is : extent_in (block_at structure.Frame q.frame.surface q.picture.grid q.position still) ≡ reach_in p column 0
  own_is =
      ap (λ (x : Frame). extent_in (block_at structure.Frame x.surface q.picture.grid q.position still)) s.same_frame
      ∙ ap (λ (x : Picture). extent_in (block_at structure.Frame p.frame.surface x.grid q.position still)) s.same_picture
      ∙ ap (λ (x : Position). extent_in (block_at structure.Frame p.frame.surface p.picture.grid x still)) s.here
      ∙ ap extent_in (still_reach p.frame.surface p.picture.grid (place_in p column) s.in_columns s.in_rows)

  -- The progress after it.
  pub next_is : (f' b' : Extent) → Joins q ws f' b' → macroblock_next q ws ≡ after_row p column f' b' ws
  unfolding macroblock_next progress_after after_row macroblock_of extents_after blocks_of
  next_is f' b' j =
      same_progress (s.stage_next (flags_in (word_at ws 4))) s.same_frame s.same_picture
      (ap₂ (λ (x : Picture) (y : Position). position_after x.grid y) s.same_picture s.here)
      (ap (λ (k : ℕ). previous_of k ws) j.kind_is)
      (same_extents
      (ap (joined q.extents.source) own_is ∙ s.source_next)
      (ap (joined q.extents.reconstructed) own_is ∙ s.reconstructed_next)
      j.forward_next
      j.backward_next)
