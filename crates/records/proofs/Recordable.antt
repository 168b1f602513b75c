-- What a record has room for: a macroblock that stays legal, and is itself where it uses neither the dct type nor field prediction.
use mathlib.Core.Path.{◌≡◌, refl, sym, ap, ◌∙◌}
use mathlib.Core.Bool.{Bool, true, false, cond, not, ◌&&◌, ◌||◌}
use mathlib.Core.List.{List}
use Prim.Native.Nat.{ℕ, ◌≤◌}
use native.Mathlib.Omega.{arith}
use borrow.Author.Tests.{ne_eqb, leb-true}
use lib.Dec.{eqb, leb}
use Rattle.lists.proofs.Booleans.{no, not_and}
use Rattle.fields.specs.Parts.{value_at}
use Rattle.macroblock.specs.Cases.{motion, motion_of, case_of, is_field}
use Rattle.macroblock.specs.Legal.{CaseFits, Legal}
use Rattle.macroblock.specs.Macroblocks.{is_intra}
use Rattle.macroblock.specs.Rules.{kept_by}
use Rattle.macroblock.specs.declared.Case.{Case}
use Rattle.macroblock.specs.declared.Case.TheVariants.{Intra, Inter}
use Rattle.macroblock.specs.declared.Prediction.TheVariants.{Forward, Backward, Both, Field}
use Rattle.macroblock.specs.declared.Macroblock.{Macroblock}
use Rattle.macroblock.proofs.CaseLaws.{kind_again, field_kind}
use Rattle.macroblock.proofs.Congruence.{same_macroblock}
use Rattle.records.specs.Layout.{kind_part}
use Rattle.records.specs.Records.{recordable_case, recordable, recorded_kind, recorded_motion, macroblock_in}

-- Its kind is one of a record's four; it is intra where the case is, and never field predicted.
pub recordable_most : (c : Case) → (motion_of (recordable_case c)).kind ≤ 3
unfolding motion_of
recordable_most Intra = omega arith
recordable_most (Inter (Forward f)) = omega arith
recordable_most (Inter (Backward b)) = omega arith
recordable_most (Inter (Both f b)) = omega arith
recordable_most (Inter (Field t b i j)) = omega arith

intra_kept : (c : Case) → is_intra (recordable_case c) ≡ is_intra c
intra_kept Intra = refl
intra_kept (Inter (Forward f)) = refl
intra_kept (Inter (Backward b)) = refl
intra_kept (Inter (Both f b)) = refl
intra_kept (Inter (Field t b i j)) = refl

pub never_field : (c : Case) → is_field (recordable_case c) ≡ false
never_field Intra = refl
never_field (Inter (Forward f)) = refl
never_field (Inter (Backward b)) = refl
never_field (Inter (Both f b)) = refl
never_field (Inter (Field t b i j)) = refl

fits_kept : (c : Case) → CaseFits c → CaseFits (recordable_case c)
fits_kept Intra h = h
fits_kept (Inter (Forward f)) h = h
fits_kept (Inter (Backward b)) h = h
fits_kept (Inter (Both f b)) h = h
fits_kept (Inter (Field t b i j)) h = h.0

-- Its numbers from those of the case: kind 1 for 4, and the same two vectors; the others are absent.
pub recordable_numbers : (c : Case)
    → ((motion_of (recordable_case c)).kind ≡ cond (eqb (motion_of c).kind 4) 1 (motion_of c).kind)
    × ((motion_of (recordable_case c)).forward ≡ (motion_of c).forward)
    × ((motion_of (recordable_case c)).backward ≡ (motion_of c).backward)
unfolding motion_of
recordable_numbers Intra = (refl, refl, refl)
recordable_numbers (Inter (Forward f)) = (refl, refl, refl)
recordable_numbers (Inter (Backward b)) = (refl, refl, refl)
recordable_numbers (Inter (Both f b)) = (refl, refl, refl)
recordable_numbers (Inter (Field t b i j)) = (refl, refl, refl)

pub no_fields : (c : Case) → motion_of (recordable_case c) ≡ motion (motion_of (recordable_case c)).kind (motion_of (recordable_case c)).forward (motion_of (recordable_case c)).backward 0 false false
unfolding motion_of
no_fields Intra = refl
no_fields (Inter (Forward f)) = refl
no_fields (Inter (Backward b)) = refl
no_fields (Inter (Both f b)) = refl
no_fields (Inter (Field t b i j)) = refl

-- A case without field prediction is kept.
pub case_kept : (c : Case) → is_field c ≡ false → recordable_case c ≡ c
case_kept Intra e = refl
case_kept (Inter (Forward f)) e = refl
case_kept (Inter (Backward b)) e = refl
case_kept (Inter (Both f b)) e = refl
case_kept (Inter (Field t b i j)) e = absurd (no (sym e))

-- A macroblock is kept exactly where it has neither.
pub kept_exactly : (m : Macroblock)
    → ((m.dct_type ≡ false) → (is_field m.case ≡ false) → recordable m ≡ m)
    × (recordable m ≡ m → (m.dct_type ≡ false) × (is_field m.case ≡ false))
kept_exactly m = (kept, neither)
  where
    kept : m.dct_type ≡ false → is_field m.case ≡ false → recordable m ≡ m
    kept d f = same_macroblock refl refl refl (case_kept m.case f) refl (sym d) refl refl refl refl refl

    neither : recordable m ≡ m → (m.dct_type ≡ false) × (is_field m.case ≡ false)
    neither e = (sym (ap (λ (n : Macroblock). n.dct_type) e), sym (ap (λ (n : Macroblock). is_field n.case) e) ∙ never_field m.case)

-- What is kept stays legal.
pub recordable_legal : (m : Macroblock) → Legal m → Legal (recordable m)
unfolding kept_by
recordable_legal m l =
    let intra = intra_kept m.case in
    record {
      column_fits = l.column_fits;
      row_fits = l.row_fits;
      upper_fits = l.upper_fits;
      case_fits = fits_kept m.case l.case_fits;
      pattern_fits = l.pattern_fits;
      max_fits = l.max_fits;
      target_fits = l.target_fits;
      intra_not_skipped = ap (λ (i : Bool). not (m.skip && i)) intra ∙ l.intra_not_skipped;
      intra_pattern = ap (λ (i : Bool). not i || eqb m.pattern 63) intra ∙ l.intra_pattern;
      quantiser_permitted = l.quantiser_permitted;
      skip_inside_slice = l.skip_inside_slice;
      skip_pattern = l.skip_pattern;
      field_not_skipped = ap (λ (f : Bool). not (m.skip && f)) (never_field m.case) ∙ not_and m.skip;
      dct_not_skipped = refl;
    }

-- The kind that is read from a record: one of the four, and the number that stands there where that is one of them.
pub recorded_most : (n : ℕ) → recorded_kind n ≤ 3
recorded_most n = by (leb n 3) refl
  where
    by : (x : Bool) → leb n 3 ≡ x → cond x n 0 ≤ 3
    by true e = leb-true n 3 e
    by false e = omega arith

-- The macroblock of any bytes has neither, and is kept.
pub read_never_field : (bs : List ℕ) → is_field (case_of (recorded_motion bs)) ≡ false
read_never_field bs =
    let mo = recorded_motion bs in
    let most = recorded_most (value_at kind_part bs) in
    sym (field_kind (case_of mo)) ∙ ap (λ (k : ℕ). eqb k 4) (kind_again mo (omega arith)) ∙ ne_eqb mo.kind 4 (λ e. omega (arith, e))

pub read_kept_case : (bs : List ℕ) → recordable_case (case_of (recorded_motion bs)) ≡ case_of (recorded_motion bs)
read_kept_case bs = case_kept (case_of (recorded_motion bs)) (read_never_field bs)

pub recorded_kept : (bs : List ℕ) → recordable (macroblock_in bs) ≡ macroblock_in bs
unfolding macroblock_in
recorded_kept bs = (kept_exactly (macroblock_in bs)).0 refl (read_never_field bs)
