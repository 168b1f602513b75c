-- The rules of a MACROBLOCK command follow from what the tests of its words find.
use mathlib.Core.Bool.{Bool, true, false, cond, not, ◌&&◌, ◌||◌}
use mathlib.Core.List.{List, [], ◌∷◌}
use mathlib.Core.Logic.{◌⊎◌, inl, inr}
use mathlib.Core.Path.{◌≡◌, refl, sym, ap, ap₂, ◌∙◌}
use Prim.Native.Nat.{ℕ, ◌+◌, ◌≤◌, ◌<◌}
use native.Mathlib.Omega.{arith}
use borrow.Author.Tests.{eq-eqb, ne_eqb, leb-true, le-leb, lt-ltb}
use lib.Dec.{T, eqb, leb, ltb, ltb→lt, lt→ltb}
use lib.ListN.{length}
use Rattle.lists.proofs.Booleans.{both_true, and_left, and_right, not_and}
use Rattle.fields.specs.Word.{bits, with_bits, is_set, flag, has_bits, zero_bits}
use Rattle.fields.proofs.Fields.{field_kept}
use Rattle.headers.specs.Words.{word_at}
use Rattle.answers.specs.Answers.{judged, Accepted}
use Rattle.answers.proofs.Judging.{none_broken}
use Rattle.macroblock.specs.Cases.{motion, motion_of, case_of, is_field, vector_words}
use Rattle.macroblock.specs.Macroblocks.{is_intra, kind_in, flags_in, macroblock_of, intra_type}
use Rattle.macroblock.specs.Rules.{kept_by, type_permitted, field_in, fixed1, fixed3, fixed4, field_rules, vector_rules, copied, command_rules}
use Rattle.macroblock.specs.declared.Allowed.{Allowed}
use Rattle.macroblock.specs.declared.Motion.{Motion}
use Rattle.macroblock.proofs.CommandLaws.{bits_lt}
use Rattle.placement.specs.Blocks.{forward_of, backward_of, bottom_of, predicted, blocks_of}
use Rattle.placement.specs.Progressing.{previous_of}
use Rattle.placement.specs.Placing.{exactly, allowed_in, in_sequence, coding_permits, zero_vectors, repeats, skip_permitted, at_position, flags_agree, placed_rules, macroblock_rules}
use Rattle.prediction.specs.declared.Position.{Position}
use Rattle.progress.specs.declared.Previous.{Previous}
use Rattle.progress.specs.declared.Progress.{Progress}
use Rattle.placement.proofs.MacroblockLaws.{zero_words}
use Rattle.rows.specs.Steps.{AtWord}
use Rattle.rows.specs.Words.{low_half, type_bits, without_choices, bound_bits, due_bits, FlagsKept, IntraKept, Repeated, SkipKept}
use Rattle.rows.specs.Keeping.{Keeps}

or_true : (a b : Bool) → b ≡ true → (a || b) ≡ true
or_true true b e = refl
or_true false b e = e

pub and_false : (a : Bool) → (a && false) ≡ false
and_false true = refl
and_false false = refl

-- ---- word 1
-- the bits below those that are taken away
below : (free : Bool) (h l : ℕ) → T (ltb h 15) → T (ltb h (cond free 15 16) || ltb 31 l)
below free h l s = left (ltb h (cond free 15 16)) (ltb 31 l) (by free)
  where
    left : (p q : Bool) → T p → T (p || q)
    left true q s = tt
    left false q s = elim s [ ]

    by : (f : Bool) → T (ltb h (cond f 15 16))
    by true = s
    by false = let small = ltb→lt h 15 s in lt→ltb h 16 (omega arith)

pub type_part : (free : Bool) (one w h l : ℕ) → type_bits free one ≡ w → T (ltb h 15) → bits one h l ≡ bits w h l
type_part free one w h l e s = sym (field_kept one 31 (cond free 15 16) 0 h l (below free h l s)) ∙ ap (λ (x : ℕ). bits x h l) e

-- the bits of word 1 that have one value, but for bit 15
abbrev pub others : Bool → ℕ → Bool
others f w = has_bits w 14 14 (flag f) && (zero_bits w 7 3 && has_bits w 1 0 (flag f))

-- fields that agree with those of another word say the same type
module _ (a : Allowed) (one w : ℕ) (part : (h l : ℕ) → T (ltb h 15) → T (ltb h 2 || ltb 2 l) → bits one h l ≡ bits w h l) where
  same_kind : kind_in one ≡ kind_in w
  same_kind = ap₂ (λ (i t : ℕ). cond (is_set i) 0 t) (part 13 13 tt tt) (part 12 8 tt tt)

  same_field : field_in a one ≡ field_in a w
  same_field = ap (λ (k : ℕ). a.field && eqb k 4) same_kind

  same_others : others (field_in a one) one ≡ others (field_in a w) w
  same_others =
      ap₂ ◌&&◌ (ap₂ (λ (x : ℕ) (f : Bool). eqb x (flag f)) (part 14 14 tt tt) same_field)
      (ap₂ ◌&&◌ (ap (λ (x : ℕ). eqb x 0) (part 7 3 tt tt)) (ap₂ (λ (x : ℕ) (f : Bool). eqb x (flag f)) (part 1 0 tt tt) same_field))

  same_typed : type_permitted a one ≡ type_permitted a w
  same_typed =
      ap₂ (λ (i t : ℕ). cond (is_set i) (eqb t intra_type) (leb 1 t && leb t (cond a.field 4 3))) (part 13 13 tt tt) (part 12 8 tt tt)

pub record Typed (a : Allowed) (one k : ℕ) : Type 0 where
  pub kind : kind_in one ≡ k
  pub fixed : fixed1 a one ≡ true
  pub permitted : type_permitted a one ≡ true

-- a macroblock, skipped or not, whose type is that of w
module _ (a : Allowed) (one w : ℕ) (e : with_bits (type_bits a.dct_type one) 2 2 0 ≡ w) (z : bits w 15 15 ≡ 0) (skips : (bits one 2 2 ≡ 0) ⊎ (bits one 15 15 ≡ 0)) where
  part : (h l : ℕ) → T (ltb h 15) → T (ltb h 2 || ltb 2 l) → bits one h l ≡ bits w h l
  part h l s t =
      type_part a.dct_type one (type_bits a.dct_type one) h l refl s
      ∙ sym (field_kept (type_bits a.dct_type one) 2 2 0 h l t)
      ∙ ap (λ (x : ℕ). bits x h l) e

  dct_bit : (d : Bool) → a.dct_type ≡ d → (bits one 2 2 ≡ 0) ⊎ (bits one 15 15 ≡ 0) → (zero_bits one 15 15 || (a.dct_type && not (is_set (bits one 2 2)))) ≡ true
  dct_bit true f (inl s) = or_true (zero_bits one 15 15) _ (both_true f (ap (λ (x : ℕ). not (is_set x)) s))
  dct_bit true f (inr y) = ap (λ (x : ℕ). eqb x 0 || (a.dct_type && not (is_set (bits one 2 2)))) y
  dct_bit false f s =
      let same : bits one 15 15 ≡ 0 =
      sym (field_kept one 31 16 0 15 15 tt)
      ∙ sym (field_kept (with_bits one 31 16 0) 2 2 0 15 15 tt)
      ∙ ap (λ (x : ℕ). bits x 15 15) (ap (λ (x : Bool). with_bits (type_bits x one) 2 2 0) (sym f) ∙ e)
      ∙ z in
      ap (λ (x : ℕ). eqb x 0 || (a.dct_type && not (is_set (bits one 2 2)))) same

  typed_as : (k : ℕ) → kind_in w ≡ k → others (field_in a w) w ≡ true → type_permitted a w ≡ true → Typed a one k
  typed_as k ek eo et =
      record {
        kind = same_kind a one w part ∙ ek;
        fixed = both_true (dct_bit a.dct_type refl skips) (same_others a one w part ∙ eo);
        permitted = same_typed a one w part ∙ et;
      }

  -- of a type other than 04h
  pub typed_frame : (k : ℕ) → kind_in w ≡ k → eqb k 4 ≡ false → others false w ≡ true → is_set (bits w 13 13) ≡ false → (leb 1 (bits w 12 8) && leb (bits w 12 8) 3) ≡ true → Typed a one k
  typed_frame k ek four eo ei et =
      typed_as k ek (ap (λ (f : Bool). others f w) (ap (λ (x : ℕ). a.field && eqb x 4) ek ∙ ap (λ (x : Bool). a.field && x) four ∙ and_false a.field) ∙ eo)
      (ap (λ (i : Bool). cond i (eqb (bits w 12 8) intra_type) (leb 1 (bits w 12 8) && leb (bits w 12 8) (cond a.field 4 3))) ei ∙ by a.field)
    where
      by : (f : Bool) → (leb 1 (bits w 12 8) && leb (bits w 12 8) (cond f 4 3)) ≡ true
      by true =
          let small = leb-true (bits w 12 8) 3 (and_right (leb 1 (bits w 12 8)) (leb (bits w 12 8) 3) et) in
          both_true (and_left (leb 1 (bits w 12 8)) (leb (bits w 12 8) 3) et) (le-leb (bits w 12 8) 4 (omega arith))
      by false = et

-- an intra macroblock and a field prediction, which are not skipped
module _ (a : Allowed) (one : ℕ) where
  pub bit_2 : (w : ℕ) → type_bits a.dct_type one ≡ w → bits w 2 2 ≡ 0 → bits one 2 2 ≡ 0
  bit_2 w e z = type_part a.dct_type one w 2 2 e tt ∙ z

  pub typed_intra : type_bits a.dct_type one ≡ 0x3a00 → Typed a one 0
  typed_intra e =
      typed_as a one 0x3a00 (ap (λ (x : ℕ). with_bits x 2 2 0) e) refl (inl (bit_2 0x3a00 e refl)) 0 refl
      (ap (λ (f : Bool). others f 0x3a00) (and_false a.field)) refl

  pub typed_field : a.field ≡ true → type_bits a.dct_type one ≡ 0x4401 → Typed a one 4
  typed_field f e =
      typed_as a one 0x4401 (ap (λ (x : ℕ). with_bits x 2 2 0) e) refl (inl (bit_2 0x4401 e refl)) 4 refl
      (ap (λ (x : Bool). others (x && true) 0x4401) f) (ap (λ (x : Bool). leb 4 (cond x 4 3)) f)

-- ---- word 3
pub low_fixed : (three w : ℕ) → low_half three ≡ w → fixed3 w ≡ true → fixed3 three ≡ true
low_fixed three w e f =
    ap₂ ◌&&◌ (ap (λ (x : ℕ). eqb x 0) (part 15 12 tt)) (ap (λ (x : ℕ). eqb x 0) (part 5 0 tt)) ∙ f
  where
    part : (h l : ℕ) → T (ltb h 16 || ltb 31 l) → bits three h l ≡ bits w h l
    part h l t = sym (field_kept three 31 16 0 h l t) ∙ ap (λ (x : ℕ). bits x h l) e

pub low_pattern : (three w : ℕ) → low_half three ≡ w → bits three 11 6 ≡ bits w 11 6
low_pattern three w e = sym (field_kept three 31 16 0 11 6 tt) ∙ ap (λ (x : ℕ). bits x 11 6) e

-- ---- word 4
module _ (four due : ℕ) (slice group : Bool) (e : bound_bits four ≡ due) (d : due ≡ due_bits slice group) where
  bound_part : (h l : ℕ) → T (ltb h 31 || ltb 31 l) → T (ltb h 25 || ltb 27 l) → T (ltb h 0 || ltb 4 l)
      → bits four h l ≡ bits (due_bits slice group) h l
  unfolding bound_bits
  bound_part h l s t u =
      sym (field_kept four 31 31 0 h l s)
      ∙ sym (field_kept (with_bits four 31 31 0) 27 25 0 h l t)
      ∙ sym (field_kept (with_bits (with_bits four 31 31 0) 27 25 0) 4 0 0 h l u)
      ∙ ap (λ (x : ℕ). bits x h l) (e ∙ d)

  -- a fact of all four of their values
  each : (P : ℕ → Type 0) → P 0x41000000 → P 0x40000000 → P 0x01000000 → P 0 → P (due_bits slice group)
  unfolding due_bits
  each P a b c z = by slice group
    where
      by : (s g : Bool) → P (due_bits s g)
      by true true = a
      by true false = b
      by false true = c
      by false false = z

  pub first_in_slice : is_set (bits four 30 30) ≡ slice
  unfolding due_bits
  first_in_slice = ap is_set (bound_part 30 30 tt tt tt) ∙ by slice group
    where
      by : (s g : Bool) → is_set (bits (due_bits s g) 30 30) ≡ s
      by true true = refl
      by true false = refl
      by false true = refl
      by false false = refl

  pub first_in_group : is_set (bits four 24 24) ≡ group
  unfolding due_bits
  first_in_group = ap is_set (bound_part 24 24 tt tt tt) ∙ by slice group
    where
      by : (s g : Bool) → is_set (bits (due_bits s g) 24 24) ≡ g
      by true true = refl
      by true false = refl
      by false true = refl
      by false false = refl

  -- the bits that have one value
  zero_part : (h l : ℕ) → T (ltb h 31 || ltb 31 l) → T (ltb h 25 || ltb 27 l) → T (ltb h 0 || ltb 4 l)
      → bits 0x41000000 h l ≡ 0 → bits 0x40000000 h l ≡ 0 → bits 0x01000000 h l ≡ 0 → bits 0 h l ≡ 0 → zero_bits four h l ≡ true
  zero_part h l s t u w x y z = eq-eqb (bits four h l) 0 (bound_part h l s t u ∙ each (λ (n : ℕ). bits n h l ≡ 0) w x y z)

  pub flags_fixed : fixed4 false four ≡ true
  flags_fixed =
      both_true (zero_part 29 28 tt tt tt refl refl refl refl)
      (both_true (zero_part 23 19 tt tt tt refl refl refl refl)
      (both_true (zero_part 17 17 tt tt tt refl refl refl refl)
      (both_true (zero_part 15 5 tt tt tt refl refl refl refl)
      (both_true (zero_part 18 18 tt tt tt refl refl refl refl) (zero_part 16 16 tt tt tt refl refl refl refl)))))

-- bits other than the choices
pub choices_kept : (four h l : ℕ) → T (ltb h 18 || ltb 18 l) → T (ltb h 16 || ltb 16 l) → bits (without_choices four) h l ≡ bits four h l
choices_kept four h l s t = field_kept (with_bits four 18 18 0) 16 16 0 h l t ∙ field_kept four 18 18 0 h l s

pub fixed_any : (f : Bool) (four : ℕ) → fixed4 false four ≡ true → fixed4 f four ≡ true
fixed_any true four e =
    let rest : Bool → Bool = λ x. zero_bits four 23 19 && (zero_bits four 17 17 && (zero_bits four 15 5 && x)) in
    both_true (and_left (zero_bits four 29 28) _ e) (by (zero_bits four 23 19) (zero_bits four 17 17) (zero_bits four 15 5) _ (and_right (zero_bits four 29 28) _ e))
  where
    by : (x y z w : Bool) → (x && (y && (z && w))) ≡ true → (x && (y && (z && true))) ≡ true
    by true true true w e = refl
    by true true false w e = e
    by true false z w e = e
    by false y z w e = e
fixed_any false four e = e

pub fixed_choices : (four : ℕ) → fixed4 false (without_choices four) ≡ true → fixed4 true four ≡ true
fixed_choices four e =
    ap₂ ◌&&◌ (zero 29 28 tt tt) (ap₂ ◌&&◌ (zero 23 19 tt tt) (ap₂ ◌&&◌ (zero 17 17 tt tt) (ap (λ (x : Bool). x && true) (zero 15 5 tt tt)))) ∙ fixed_any true (without_choices four) e
  where
    zero : (h l : ℕ) → T (ltb h 18 || ltb 18 l) → T (ltb h 16 || ltb 16 l) → zero_bits four h l ≡ zero_bits (without_choices four) h l
    zero h l s t = ap (λ (x : ℕ). eqb x 0) (sym (choices_kept four h l s t))

pub exact_flag : (a b : Bool) → a ≡ b → exactly a b ≡ true
exact_flag true b e = rw (sym e)
exact_flag false b e = rw (sym e)

pub quantiser_kept : (four : ℕ) → 1 ≤ bits four 4 0 → (leb 1 (bits four 4 0) && leb (bits four 4 0) 31) ≡ true
quantiser_kept four h = both_true (le-leb 1 (bits four 4 0) h) (le-leb (bits four 4 0) 31 (omega (arith, bits_lt four 4 0)))

-- the last flags: in the last column and at a group's end the slice ends
pub ends_kept : (four due : ℕ) (last : Bool) → FlagsKept four due last
    → ((not last || is_set (bits four 31 31)) ≡ true) × ((not (is_set (bits four 26 26)) || is_set (bits four 31 31)) ≡ true)
ends_kept four due last k = by last k.ends
  where
    by : (last : Bool) → (bits four 31 31 ≡ 1) ⊎ ((last ≡ false) × (bits four 26 26 ≡ 0))
        → ((not last || is_set (bits four 31 31)) ≡ true) × ((not (is_set (bits four 26 26)) || is_set (bits four 31 31)) ≡ true)
    by last (inl e) = (
      ap (λ (x : ℕ). not last || is_set x) e ∙ or_true (not last) true refl,
      ap (λ (x : ℕ). not (is_set (bits four 26 26)) || is_set x) e ∙ or_true (not (is_set (bits four 26 26))) true refl,
    )
    by last (inr e) =
        (ap (λ (x : Bool). not x || is_set (bits four 31 31)) e.0, ap (λ (x : ℕ). not (is_set x) || is_set (bits four 31 31)) e.1)

pub accepted : (q : Progress) (c : List ℕ) → Keeps q c → judged (macroblock_rules q c) ≡ Accepted
unfolding macroblock_rules placed_rules command_rules field_rules vector_rules
accepted q c k =
    none_broken (macroblock_rules q c)
    (k.sequence, (k.coding, (k.skip, (k.position, (k.conversion, (k.flags, (k.forward_range, (k.forward_inside, (k.backward_range, (k.backward_inside, (k.bottom_range, (k.bottom_inside, (k.fixed_1, (k.typed, (k.skipped, (k.fixed_3, (k.intra_pattern, (k.fixed_4, (k.quantiser, (k.five, (k.six, (k.seven, (k.eight, tt)))))))))))))))))))))))

-- The skip rules of a macroblock of kind k that comes in a P or B picture.
module _ (q : Progress) (c before : List ℕ) (k : ℕ) (some : 1 ≤ k) (kind : kind_in (word_at c 1) ≡ k)
    (previous : (length before ≡ 0 → ⊥) → q.previous ≡ previous_of (kind_in (word_at before 1)) before) where
  same_type : bits (word_at before 1) 13 8 ≡ bits (word_at c 1) 13 8 → kind_in (word_at before 1) ≡ kind_in (word_at c 1)
  same_type e =
      let intra : bits (word_at before 1) 13 13 ≡ bits (word_at c 1) 13 13 = omega arith in
      let type : bits (word_at before 1) 12 8 ≡ bits (word_at c 1) 12 8 = omega arith in
      ap₂ (λ (i t : ℕ). cond (is_set i) 0 t) intra type

  repeating : Repeated before c → repeats q.previous k c ≡ true
  repeating r =
      let p = previous r.comes in
      let same : kind_in (word_at before 1) ≡ k = same_type r.kind ∙ kind in
      ap (λ (b : Previous). repeats b k c) p
      ∙ both_true
      (both_true (le-leb 1 (kind_in (word_at before 1)) (omega arith)) (eq-eqb _ k same))
      (both_true (both_true (eq-eqb _ _ r.five) (eq-eqb _ _ r.six)) (both_true (eq-eqb _ _ r.seven) (eq-eqb _ _ r.eight)))

  skip_permitted_lem : SkipKept q.picture.coding before c → skip_permitted q.picture.coding q.previous k c ≡ true
  skip_permitted_lem s = by s.allowed
    where
      by : ((q.picture.coding ≡ 2) × (zero_vectors c ≡ true)) ⊎ ((q.picture.coding ≡ 2 → ⊥) × Repeated before c) → skip_permitted q.picture.coding q.previous k c ≡ true
      by (inl (e, z)) =
          both_true (or_true (not (eqb q.picture.coding 2)) (zero_vectors c) z)
          (ap (λ (x : ℕ). not (eqb x 3) || repeats q.previous k c) e)
      by (inr (n, r)) =
          both_true (ap (λ (x : Bool). not x || zero_vectors c) (ne_eqb q.picture.coding 2 n))
          (or_true (not (eqb q.picture.coding 3)) (repeats q.previous k c) (repeating r))

-- What a command keeps at its place, however it is coded.
pub record AtPlace (q : Progress) (c : List ℕ) : Type 0 where
  pub sequence : in_sequence q.stage q.picture.grid q.position ≡ true
  pub position : at_position q.position (macroblock_of c) ≡ true
  pub flags : flags_agree q.stage q.picture.grid q.position (macroblock_of c).flags ≡ true
  pub fixed : fixed4 (field_in (allowed_in q.picture) (word_at c 1)) (word_at c 4) ≡ true
  pub quantised : (leb 1 (bits (word_at c 4) 4 0) && leb (bits (word_at c 4) 4 0) 31) ≡ true

-- From a word 4 that was tested, and agrees with the command's own in all bits but the choices.
module _ (q : Progress) (c : List ℕ) (four : ℕ) (same : (h l : ℕ) → T (ltb h 18 || ltb 18 l) → T (ltb h 16 || ltb 16 l) → bits four h l ≡ bits (word_at c 4) h l)
    (free : fixed4 false four ≡ true → fixed4 (field_in (allowed_in q.picture) (word_at c 1)) (word_at c 4) ≡ true) where
  pub at_place : (column row due : ℕ) → q.stage.in_group ≡ true → q.position ≡ record { column = column; row = row }
      → row < q.picture.grid.rows → AtWord (word_at c 2) column row
      → due ≡ due_bits (not q.stage.in_slice) q.stage.group_start → FlagsKept four due (eqb (column + 1) q.picture.grid.columns)
      → AtPlace q c
  unfolding macroblock_of
  at_place column row due group at left here is kept =
      let slice = not q.stage.in_slice in
      let start = q.stage.group_start in
      let last = eqb (column + 1) q.picture.grid.columns in
      let ends = ends_kept four due last kept in
      record {
        sequence = both_true group (ap (λ (x : Position). ltb x.row q.picture.grid.rows) at ∙ lt-ltb row q.picture.grid.rows left);
        position =
            ap (λ (x : Position). eqb (bits (word_at c 2) 15 0) x.column && eqb (bits (word_at c 2) 31 16) x.row) at
            ∙ both_true (eq-eqb _ column here.0) (eq-eqb _ row here.1);
        flags =
            ap (λ (x : Position). flags_agree q.stage q.picture.grid x (flags_in (word_at c 4))) at
            ∙ both_true
            (both_true (exact_flag _ slice (set 30 tt tt ∙ first_in_slice four due slice start kept.bound is)) (ap (λ (x : Bool). not last || x) (set 31 tt tt) ∙ ends.0))
            (both_true (exact_flag _ start (set 24 tt tt ∙ first_in_group four due slice start kept.bound is)) (ap₂ (λ (x y : Bool). not x || y) (set 26 tt tt) (set 31 tt tt) ∙ ends.1));
        fixed = free (flags_fixed four due slice start kept.bound is);
        quantised = ap (λ (x : ℕ). leb 1 x && leb x 31) (sym (same 4 0 tt tt)) ∙ quantiser_kept four kept.quantised;
      }
    where
      set : (b : ℕ) → T (ltb b 18 || ltb 18 b) → T (ltb b 16 || ltb 16 b) → is_set (bits (word_at c 4) b b) ≡ is_set (bits four b b)
      set b s t = ap is_set (sym (same b b s t))

-- The kind, the vectors and the choices of a command if it is of this kind.
abbrev pub motion_as : ℕ → List ℕ → Motion
motion_as k c = motion k (word_at c 5) (word_at c 6) (word_at c 7) (is_set (bits (word_at c 4) 16 16)) (is_set (bits (word_at c 4) 18 18))

-- An intra macroblock.
pub keeps_intra : (q : Progress) (c : List ℕ) → AtPlace q c → type_bits (allowed_in q.picture).dct_type (word_at c 1) ≡ 0x3a00 → IntraKept q.picture.coding c → Keeps q c
unfolding macroblock_of case_of motion_of kept_by blocks_of forward_of backward_of bottom_of predicted vector_words
keeps_intra q c placed low kept =
    let t = typed_intra (allowed_in q.picture) (word_at c 1) low in
    let z = zero_words c kept.zeros in
    let skip = ap is_set (bit_2 (allowed_in q.picture) (word_at c 1) 0x3a00 low refl) in
    let pattern = low_pattern (word_at c 3) 0xfc0 kept.pattern in
    let case = case_of (motion_as (kind_in (word_at c 1)) c) in
    record {
      sequence = placed.sequence;
      coding = ap (λ (k : ℕ). coding_permits q.picture.coding (motion_of (case_of (motion_as k c))).kind) t.kind;
      skip = ap (λ (s : Bool). not s || skip_permitted q.picture.coding q.previous (motion_of case).kind c) skip;
      position = placed.position;
      conversion = conversion kept.conversion;
      flags = placed.flags;
      forward_range = ap (λ (k : ℕ). (blocks_of q (case_of (motion_as k c))).forward.in_range) t.kind;
      forward_inside = ap (λ (k : ℕ). (blocks_of q (case_of (motion_as k c))).forward.inside) t.kind;
      backward_range = ap (λ (k : ℕ). (blocks_of q (case_of (motion_as k c))).backward.in_range) t.kind;
      backward_inside = ap (λ (k : ℕ). (blocks_of q (case_of (motion_as k c))).backward.inside) t.kind;
      bottom_range = ap (λ (k : ℕ). (blocks_of q (case_of (motion_as k c))).bottom.in_range) t.kind;
      bottom_inside = ap (λ (k : ℕ). (blocks_of q (case_of (motion_as k c))).bottom.inside) t.kind;
      fixed_1 = t.fixed;
      typed = both_true t.permitted (ap (λ (s : Bool). not (s && is_intra case)) skip);
      skipped =
          ap
          (λ (s : Bool). not (s && (is_set (bits (word_at c 4) 30 30) || is_set (bits (word_at c 4) 31 31))) && ((not s || eqb (bits (word_at c 3) 11 6) 0) && not (s && is_field case)))
          skip;
      fixed_3 = low_fixed (word_at c 3) 0xfc0 kept.pattern refl;
      intra_pattern = or_true (not (is_intra case)) _ (eq-eqb _ 63 pattern);
      fixed_4 = placed.fixed;
      quantiser = placed.quantised;
      five = zero-copy 5 0 z.0 refl;
      six = zero-copy 6 1 z.1 refl;
      seven = zero-copy 7 2 z.2 refl;
      eight = zero-copy 8 3 z.3 refl;
    }
  where
    conversion : (q.picture.coding ≡ 1 → ⊥) ⊎ (bits (word_at c 4) 25 25 ≡ 0) → (not (eqb q.picture.coding 1) || not (is_set (bits (word_at c 4) 25 25))) ≡ true
    conversion (inl n) = ap (λ (x : Bool). not x || not (is_set (bits (word_at c 4) 25 25))) (ne_eqb q.picture.coding 1 n)
    conversion (inr e) = or_true (not (eqb q.picture.coding 1)) _ (ap (λ (x : ℕ). not (is_set x)) e)

    zero-copy : (i j : ℕ) → word_at c i ≡ 0 → word_at (vector_words (motion_as 0 c)) j ≡ 0 → copied c i j ≡ true
    zero-copy i j e v =
        eq-eqb (word_at c i) _
        (e ∙ sym (ap (λ (k : ℕ). word_at (vector_words (motion_as k c)) j) (typed_intra (allowed_in q.picture) (word_at c 1) low).kind ∙ v))

-- An inter macroblock of kind k, with what its kind says of its blocks and copies.
pub record OfKind (q : Progress) (k : ℕ) (c : List ℕ) : Type 0 where
  pub some : 1 ≤ k
  pub inter : is_intra (case_of (motion_as k c)) ≡ false
  pub unskipped : (is_field (case_of (motion_as k c)) ≡ false) ⊎ (bits (word_at c 1) 2 2 ≡ 0)
  pub back : (motion_of (case_of (motion_as k c))).kind ≡ k
  pub permitted : coding_permits q.picture.coding k ≡ true
  pub forward_range : (blocks_of q (case_of (motion_as k c))).forward.in_range ≡ true
  pub forward_inside : (blocks_of q (case_of (motion_as k c))).forward.inside ≡ true
  pub backward_range : (blocks_of q (case_of (motion_as k c))).backward.in_range ≡ true
  pub backward_inside : (blocks_of q (case_of (motion_as k c))).backward.inside ≡ true
  pub bottom_range : (blocks_of q (case_of (motion_as k c))).bottom.in_range ≡ true
  pub bottom_inside : (blocks_of q (case_of (motion_as k c))).bottom.inside ≡ true
  pub copies : vector_words (motion_as k c) ≡ word_at c 5 ∷ word_at c 6 ∷ word_at c 7 ∷ word_at c 8 ∷ []

-- What it keeps beside its type, its place and its vectors.
pub record InterRest (q : Progress) (before c : List ℕ) : Type 0 where
  pub fixed_high : bits (word_at c 3) 15 12 ≡ 0
  pub fixed_low : bits (word_at c 3) 5 0 ≡ 0
  pub skips : (bits (word_at c 1) 2 2 ≡ 0) ⊎ SkipKept q.picture.coding before c
  pub coded : q.picture.coding ≡ 1 → ⊥
  pub previous : (length before ≡ 0 → ⊥) → q.previous ≡ previous_of (kind_in (word_at before 1)) before

pub keeps_inter : (q : Progress) (c before : List ℕ) (k : ℕ) → AtPlace q c → Typed (allowed_in q.picture) (word_at c 1) k → InterRest q before c → OfKind q k c → Keeps q c
unfolding macroblock_of kept_by
keeps_inter q c before k placed t kept of =
    let one = word_at c 1 in
    let kind = ap (λ (x : ℕ). (motion_of (case_of (motion_as x c))).kind) t.kind ∙ of.back in
    let inter = ap (λ (x : ℕ). is_intra (case_of (motion_as x c))) t.kind ∙ of.inter in
    record {
      sequence = placed.sequence;
      coding = ap (coding_permits q.picture.coding) kind ∙ of.permitted;
      skip = ap (λ (x : ℕ). not (is_set (bits one 2 2)) || skip_permitted q.picture.coding q.previous x c) kind ∙ skip kept.skips;
      position = placed.position;
      conversion = ap (λ (x : Bool). not x || not (is_set (bits (word_at c 4) 25 25))) (ne_eqb q.picture.coding 1 kept.coded);
      flags = placed.flags;
      forward_range = ap (λ (x : ℕ). (blocks_of q (case_of (motion_as x c))).forward.in_range) t.kind ∙ of.forward_range;
      forward_inside = ap (λ (x : ℕ). (blocks_of q (case_of (motion_as x c))).forward.inside) t.kind ∙ of.forward_inside;
      backward_range = ap (λ (x : ℕ). (blocks_of q (case_of (motion_as x c))).backward.in_range) t.kind ∙ of.backward_range;
      backward_inside = ap (λ (x : ℕ). (blocks_of q (case_of (motion_as x c))).backward.inside) t.kind ∙ of.backward_inside;
      bottom_range = ap (λ (x : ℕ). (blocks_of q (case_of (motion_as x c))).bottom.in_range) t.kind ∙ of.bottom_range;
      bottom_inside = ap (λ (x : ℕ). (blocks_of q (case_of (motion_as x c))).bottom.inside) t.kind ∙ of.bottom_inside;
      fixed_1 = t.fixed;
      typed = both_true t.permitted (ap (λ (i : Bool). not (is_set (bits one 2 2) && i)) inter ∙ not_and (is_set (bits one 2 2)));
      skipped = both_true (slice-end kept.skips) (both_true (pattern kept.skips) (ap (λ (x : ℕ). not (is_set (bits one 2 2) && is_field (case_of (motion_as x c)))) t.kind ∙ fields of.unskipped));
      fixed_3 = both_true (eq-eqb _ 0 kept.fixed_high) (eq-eqb _ 0 kept.fixed_low);
      intra_pattern = ap (λ (i : Bool). not i || eqb (bits (word_at c 3) 11 6) 63) inter;
      fixed_4 = placed.fixed;
      quantiser = placed.quantised;
      five = copy 5 0 refl;
      six = copy 6 1 refl;
      seven = copy 7 2 refl;
      eight = copy 8 3 refl;
    }
  where
    unskipped : bits (word_at c 1) 2 2 ≡ 0 → is_set (bits (word_at c 1) 2 2) ≡ false
    unskipped e = ap is_set e

    skip : (bits (word_at c 1) 2 2 ≡ 0) ⊎ SkipKept q.picture.coding before c
        → (not (is_set (bits (word_at c 1) 2 2)) || skip_permitted q.picture.coding q.previous k c) ≡ true
    skip (inl e) = ap (λ (s : Bool). not s || skip_permitted q.picture.coding q.previous k c) (unskipped e)
    skip (inr s) =
        or_true (not (is_set (bits (word_at c 1) 2 2))) _ (skip_permitted_lem q c before k of.some t.kind kept.previous s)

    slice-end : (bits (word_at c 1) 2 2 ≡ 0) ⊎ SkipKept q.picture.coding before c
        → not (is_set (bits (word_at c 1) 2 2) && (is_set (bits (word_at c 4) 30 30) || is_set (bits (word_at c 4) 31 31))) ≡ true
    slice-end (inl e) = ap (λ (s : Bool). not (s && (is_set (bits (word_at c 4) 30 30) || is_set (bits (word_at c 4) 31 31)))) (unskipped e)
    slice-end (inr s) =
        let first : bits (word_at c 4) 30 30 ≡ 0 = omega (arith, s.inside_slice) in
        let last : bits (word_at c 4) 31 31 ≡ 0 = omega (arith, s.inside_slice) in
        ap₂ (λ (x y : ℕ). not (is_set (bits (word_at c 1) 2 2) && (is_set x || is_set y))) first last ∙ not_and (is_set (bits (word_at c 1) 2 2))

    pattern : (bits (word_at c 1) 2 2 ≡ 0) ⊎ SkipKept q.picture.coding before c → (not (is_set (bits (word_at c 1) 2 2)) || eqb (bits (word_at c 3) 11 6) 0) ≡ true
    pattern (inl e) = ap (λ (s : Bool). not s || eqb (bits (word_at c 3) 11 6) 0) (unskipped e)
    pattern (inr s) = or_true (not (is_set (bits (word_at c 1) 2 2))) _ (eq-eqb _ 0 (low_pattern (word_at c 3) 0 s.pattern))

    fields : (is_field (case_of (motion_as k c)) ≡ false) ⊎ (bits (word_at c 1) 2 2 ≡ 0) → not (is_set (bits (word_at c 1) 2 2) && is_field (case_of (motion_as k c))) ≡ true
    fields (inl e) = ap (λ (f : Bool). not (is_set (bits (word_at c 1) 2 2) && f)) e ∙ not_and (is_set (bits (word_at c 1) 2 2))
    fields (inr e) = ap (λ (s : Bool). not (s && is_field (case_of (motion_as k c)))) (unskipped e)

    copy : (i j : ℕ) → word_at c i ≡ word_at (word_at c 5 ∷ word_at c 6 ∷ word_at c 7 ∷ word_at c 8 ∷ []) j → copied c i j ≡ true
    copy i j e =
        eq-eqb (word_at c i) _
        (e ∙ sym (ap (λ (x : ℕ). word_at (vector_words (motion_as x c)) j) t.kind ∙ ap (λ (v : List ℕ). word_at v j) of.copies))
