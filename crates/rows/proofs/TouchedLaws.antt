-- The first byte that commands of a row touch of one reference: by a minimum over them, and where it cannot fall.
use mathlib.Core.Bool.{Bool, true, false, cond, ◌&&◌}
use mathlib.Core.List.{List, [], ◌∷◌}
use mathlib.Core.Logic.{◌⊎◌, inl, inr}
use mathlib.Core.Path.{◌≡◌, refl, sym, ap, ap₂, subst, ◌∙◌}
use Prim.Native.Nat.{ℕ, zero, suc, ◌+◌, ◌-◌, ◌≤◌, ◌<◌, ◌^◌, min}
use native.Mathlib.Nat.{le_trans, eq-zero-or-pos, eq-or-lt_of_le}
use native.Mathlib.Omega.{arith}
use borrow.Author.Tests.{eq-eqb, ne_eqb}
use lib.Dec.{eqb}
use Rattle.prediction.specs.Extents.{joined}
use Rattle.prediction.specs.Lines.{reach_of, floor_of}
use Rattle.prediction.specs.declared.Extent.{Extent}
use Rattle.prediction.specs.declared.Line.{Line}
use Rattle.prediction.specs.declared.Position.{Position}
use Rattle.prediction.specs.declared.Surface.{Surface}
use Rattle.prediction.proofs.ExtentLaws.{between, join_left, join_both, join_end, join_nothing, join_first}
use Rattle.prediction.proofs.LineLaws.{above_floor, field_lines, field_floor, first_fits}
use Rattle.prediction.specs.declared.Structure.{Structure}
use Rattle.prediction.specs.declared.Structure.TheVariants.{Frame, TopField, BottomField}
use Rattle.prediction.specs.declared.Grid.{Grid}
use Rattle.fields.specs.Word.{bits, is_set}
use Rattle.headers.specs.Words.{word_at}
use Rattle.macroblock.specs.declared.Allowed.{Allowed}
use Rattle.picture.specs.declared.Codes.{Codes}
use Rattle.placement.specs.Blocks.{field_of}
use Rattle.rows.specs.Steps.{top_in, bottom_in}
use Rattle.rows.specs.Words.{type_bits}
use Rattle.rows.specs.Touching.{command_at, uses_vector, points_in, down_of, reached, lowered, AllFit, AllTouch, AllLow, place_along, touched_after, VectorsFit, lowest_of}

module _ (e r : Extent) where
  -- the minimum of a join
  pub lowest_join : 0 < r.end → r.first < 2 ^ 64 → min (lowest_of e) r.first ≡ lowest_of (joined e r)
  lowest_join h l = by (eq-zero-or-pos e.end)
    where
      by : (e.end ≡ 0) ⊎ (0 < e.end) → min (lowest_of e) r.first ≡ lowest_of (joined e r)
      by (inl z) =
          let left : lowest_of e ≡ 18446744073709551615 = ap (λ (t : Bool). cond t 18446744073709551615 e.first) (eq-eqb e.end 0 z) in
          let right : lowest_of r ≡ r.first = ap (λ (t : Bool). cond t 18446744073709551615 r.first) (ne_eqb r.end 0 (λ y. omega arith)) in
          omega (arith, left, right, ap lowest_of (join_left e r h z))
      by (inr k) =
          let left : lowest_of e ≡ e.first = ap (λ (t : Bool). cond t 18446744073709551615 e.first) (ne_eqb e.end 0 (λ y. omega arith)) in
          let some : lowest_of (joined e r) ≡ (joined e r).first =
          ap (λ (t : Bool). cond t 18446744073709551615 (joined e r).first) (ne_eqb (joined e r).end 0 (λ y. omega (arith, join_end e r))) in
          omega (arith, left, some, ap (λ (x : Extent). x.first) (join_both e r k h))

-- a minimum that is lower than the highest number is a first byte
pub lowest_touches : (e : Extent) → lowest_of e < 18446744073709551615 → 0 < e.end
lowest_touches e h = by (eq-zero-or-pos e.end)
  where
    by : (e.end ≡ 0) ⊎ (0 < e.end) → 0 < e.end
    by (inl z) =
        let none : lowest_of e ≡ 18446744073709551615 = ap (λ (t : Bool). cond t 18446744073709551615 e.first) (eq-eqb e.end 0 z) in
        absurd (omega (arith, none))
    by (inr k) = k

pub lowest_first : (e : Extent) → 0 < e.end → lowest_of e ≡ e.first
lowest_first e h = ap (λ (t : Bool). cond t 18446744073709551615 e.first) (ne_eqb e.end 0 (λ y. omega arith))

-- ---- the vectors of one command
module _ (s : Surface) (at : Position) where
  -- Nothing is taken away.
  reached_end : (vs : List (Structure × ℕ)) (e : Extent) → e.end ≤ (reached s at vs e).end
  reached_end [] e = omega arith
  reached_end (v ∷ vs) e =
      let r = reach_of v.0 s at v.1 in
      omega (arith, join_end e r, reached_end vs (joined e r))

  reached_nothing : (vs : List (Structure × ℕ)) (e : Extent) → (reached s at vs e).end ≡ 0 → reached s at vs e ≡ e
  reached_nothing [] e z = refl
  reached_nothing (v ∷ vs) e z =
      let r = reach_of v.0 s at v.1 in
      let rest = reached_nothing vs (joined e r) z in
      rest ∙ join_nothing e r (sym (ap (λ (x : Extent). x.end) rest) ∙ z)

  -- the minimum goes on with each
  lowered_is : (vs : List (Structure × ℕ)) → s.pitch < 2 ^ 32 → at.column < 2 ^ 16 → at.row < 2 ^ 16 → AllTouch s at vs → (e : Extent) → lowered s at vs (lowest_of e) ≡ lowest_of (reached s at vs e)
  lowered_is [] hp hc hr touch e = refl
  lowered_is (v ∷ vs) hp hc hr touch e =
      let r = reach_of v.0 s at v.1 in
      ap (lowered s at vs) (lowest_join e r touch.0 (first_fits v.0 s at v.1 hp hc hr)) ∙ lowered_is vs hp hc hr touch.1 (joined e r)

  fit_touch : (x : Line) (y : Structure → Line) (vs : List (Structure × ℕ)) → AllFit x y at vs → AllTouch s at vs
  fit_touch x y [] fit = tt
  fit_touch x y (v ∷ vs) fit = ((above_floor v.0 s at at.column x (y v.0) v.1 (omega arith) fit.0).1, fit_touch x y vs fit.1)

  -- a first byte that is no higher than the floors of their structures stays
  reached_first : (column : ℕ) (x : Line) (y : Structure → Line) → column ≤ at.column → (first : ℕ)
      → (vs : List (Structure × ℕ)) → AllLow s column x y at vs first → AllFit x y at vs → (e : Extent) → 0 < e.end → e.first ≡ first → (reached s at vs e).first ≡ first
  reached_first column x y right first [] low fit e some is = is
  reached_first column x y right first (v ∷ vs) low fit e some is =
      let r = reach_of v.0 s at v.1 in
      let above = above_floor v.0 s at column x (y v.0) v.1 right fit.0 in
      reached_first column x y right first vs low.1 fit.1 (joined e r) (omega (arith, join_end e r)) (join_first e r some (omega (arith, above.0, is, low.0)) ∙ is)

-- ---- the commands of a row
module _ (points : List ℕ → List (Structure × ℕ)) (s : Surface) (at : Position) (ws : List ℕ) where
  abbrev After : ℕ → Extent → Extent
  After = touched_after points s at ws

  abbrev Points : ℕ → List (Structure × ℕ)
  Points k = points (command_at ws k)

  -- One command more.
  pub after_next : (k : ℕ) (e : Extent) → After (k + 1) e ≡ reached s (place_along points s at ws k) (points (command_at ws k)) (After k e)
  after_next k e = let one : k + 1 ≡ suc k = omega arith in ap (λ (n : ℕ). After n e) one

  pub fit_more : (x : Line) (y : Structure → Line) (k : ℕ) → VectorsFit points s at ws x y k → AllFit x y (place_along points s at ws k) (points (command_at ws k)) → VectorsFit points s at ws x y (k + 1)
  fit_more x y k fit here i h = by (eq-or-lt_of_le {n = i} {m = k} (omega arith))
    where
      by : (i ≡ k) ⊎ (i < k) → AllFit x y (place_along points s at ws i) (points (command_at ws i))
      by (inl same) = subst (λ (n : ℕ). AllFit x y (place_along points s at ws n) (points (command_at ws n))) (sym same) here
      by (inr l) = fit i l

  -- Where nothing is touched in the end, nothing has changed.
  nothing_changed : (k : ℕ) (e : Extent) → (After k e).end ≡ 0 → After k e ≡ e
  nothing_changed zero e z = refl
  nothing_changed (suc k) e z =
      let same = reached_nothing s (place_along points s at ws k) (Points k) (After k e) z in
      same ∙ nothing_changed k e (sym (ap (λ (x : Extent). x.end) same) ∙ z)

  pub after_nothing : (k : ℕ) (e : Extent) (end : ℕ) → end ≡ (After k e).end → end ≡ 0 → between e.first end ≡ After k e
  after_nothing k e end here none = ap₂ between (ap (λ (x : Extent). x.first) (sym (nothing_changed k e (sym here ∙ none)))) here

  -- The minimum goes on with one command more.
  pub look_on : (x : Line) (y : Structure → Line) (n : ℕ) → VectorsFit points s at ws x y n → (e : Extent) (k : ℕ) → k < n → s.pitch < 2 ^ 32 → at.column + k < 2 ^ 16 → at.row < 2 ^ 16
      → (column first : ℕ) (vs : List (Structure × ℕ)) → column ≡ at.column + k → first ≡ lowest_of (After k e) → vs ≡ points (command_at ws k)
      → lowered s (record { column = column; row = at.row }) vs first ≡ lowest_of (After (k + 1) e)
  look_on x y n fit e k h hp hc hr column first vs ec ef ev =
      ap₂ (λ (c : ℕ) (us : List (Structure × ℕ)). lowered s (record { column = c; row = at.row }) us first) ec ev
      ∙ ap (lowered s (place_along points s at ws k) (Points k)) ef
      ∙ lowered_is s (place_along points s at ws k) (Points k) hp hc hr (fit_touch s (place_along points s at ws k) x y (Points k) (fit k h)) (After k e)
      ∙ ap lowest_of (sym (after_next k e))

  -- A first byte that is no higher than the floors of the row from the k-th command on stays.
  module _ (x : Line) (y : Structure → Line) (n : ℕ) (e : Extent) (fit : VectorsFit points s at ws x y n) (k : ℕ)
      (some : 0 < (touched_after points s at ws k e).end)
      (low : (j : ℕ) → AllLow s (at.column + k) x y (place_along points s at ws j) (points (command_at ws j)) (touched_after points s at ws k e).first) where
    abbrev Stays : ℕ → Type 0
    Stays j = (0 < (After j e).end) × ((After j e).first ≡ (After k e).first)

    stays-next : (j : ℕ) → k ≤ j → j < n → Stays j → Stays (j + 1)
    stays-next j later h before =
        let place = place_along points s at ws j in
        let is = after_next j e in (
          omega (arith, ap (λ (z : Extent). z.end) is, reached_end s place (Points j) (After j e), before.0),
          ap (λ (z : Extent). z.first) is ∙ reached_first s place (at.column + k) x y (omega arith) (After k e).first (Points j) (low j) (fit j h) (After j e) before.0 before.1,
        )

    stays_on : (d : ℕ) → k + d ≤ n → Stays (k + d)
    stays_on zero h = let none : k ≡ k + 0 = omega arith in subst Stays none (some, refl)
    stays_on (suc d) h =
        let one : k + d + 1 ≡ k + suc d = omega arith in
        subst Stays one (stays-next (k + d) (omega arith) (omega arith) (stays_on d (omega arith)))

    pub after_above : k ≤ n → lowest_of (touched_after points s at ws n e) ≡ lowest_of (touched_after points s at ws k e)
    after_above h =
        let all : k + (n - k) ≡ n = omega arith in
        let stays = subst Stays all (stays_on (n - k) (omega arith)) in
        lowest_first (After n e) stays.0 ∙ stays.1 ∙ sym (lowest_first (After k e) some)

  -- What is touched in the end, from its end and its first byte.
  pub after_is : (k : ℕ) (e : Extent) (first end : ℕ) → end ≡ (After k e).end → 0 < end → first ≡ lowest_of (After k e) → between first end ≡ After k e
  after_is k e first end here some is = ap₂ between (is ∙ lowest_first (After k e) (omega arith)) here

-- A byte that is no higher than the frame's floor and, where fields are allowed, the top field's, is no higher than those of a command's vectors.
pub all_low : (alone word : ℕ) (a : Allowed) (s : Surface) (column : ℕ) (x : Line) (g : Grid) (codes : Codes) (at : Position) (c : List ℕ) (first : ℕ)
    → first ≤ floor_of Frame s column x.low at.row (down_of g codes Frame).low
    → (a.field ≡ true → first ≤ floor_of TopField s column x.low at.row (down_of g codes TopField).low)
    → AllLow s column x (down_of g codes) at (points_in alone word a c) first
all_low alone word a s column x g codes at c first frame fields = by (uses_vector a.dct_type alone (word_at c 1)) a.field (eqb (type_bits a.dct_type (word_at c 1)) 0x4401) fields
  where
    low : ℕ
    low = (down_of g codes TopField).low

    chosen : (i : Bool) → first ≤ floor_of TopField s column x.low at.row low → first ≤ floor_of (field_of i) s column x.low at.row (down_of g codes (field_of i)).low
    chosen true h =
        subst (λ (l : Line). first ≤ floor_of BottomField s column x.low at.row l.low) (field_lines g.rows codes.y) (le_trans h (field_floor s column x.low at.row low))
    chosen false h = h

    by : (u f t : Bool) → (f ≡ true → first ≤ floor_of TopField s column x.low at.row low)
        → AllLow s column x (down_of g codes) at (cond u ((Frame, word_at c word) ∷ []) (cond (f && t) ((top_in c, word_at c 5) ∷ (bottom_in c, word_at c 7) ∷ []) [])) first
    by true f t h = (frame, tt)
    by false true true h = (chosen (is_set (bits (word_at c 4) 16 16)) (h refl), (chosen (is_set (bits (word_at c 4) 18 18)) (h refl), tt))
    by false true false h = tt
    by false false t h = tt
