-- A record and its macroblock: each gives the other back, and legal ones give legal ones.
use mathlib.Core.Path.{◌≡◌, refl, sym, ap, ap₂, subst, ◌∙◌}
use mathlib.Core.Bool.{Bool, true, false, cond, not, ◌&&◌}
use mathlib.Core.List.{List, [], ◌∷◌, ◌++◌}
use Prim.Native.Nat.{ℕ, zero, suc, ◌^◌, ◌<◌, ◌≤◌}
use native.Mathlib.Omega.{arith}
use borrow.Author.Tests.{eqb-true, eqb-false, eq-eqb, leb-true, le-leb}
use lib.Dec.{T, eqb, leb}
use lib.ListN.{length, get_or}
use Rattle.fields.proofs.Fields.{flag_back}
use Rattle.lists.proofs.Booleans.{and_left, and_right, both_true, not_and}
use Rattle.fields.specs.Word.{is_set, flag, packed}
use Rattle.fields.specs.Bytes.{bytes_of, number_in, elements, Bytes}
use Rattle.fields.specs.Parts.{Part, value_at}
use Rattle.fields.proofs.Elements.{elements_all}
use Rattle.fields.proofs.PartLaws.{part_bytes, number_lt}
use Rattle.fields.proofs.LittleEndian.{bytes_back, number_back}
use Rattle.fields.proofs.Packing.{packed_field, packed_is}
use Rattle.prediction.specs.Vectors.{vector_of}
use Rattle.prediction.proofs.TwosComplement.{vector_word_back}
use Rattle.answers.specs.Answers.{judged, holds_at, Accepted}
use Rattle.answers.proofs.Judging.{all_hold, none_broken, hold_both, hold_each, both_accept, rule_kept}
use Rattle.macroblock.specs.Cases.{motion, motion_of, case_of}
use Rattle.macroblock.specs.Legal.{CaseFits, Legal}
use Rattle.macroblock.specs.Rules.{kept_by}
use Rattle.macroblock.specs.declared.Case.{Case}
use Rattle.macroblock.specs.declared.Case.TheVariants.{Intra, Inter}
use Rattle.macroblock.specs.declared.Prediction.TheVariants.{Forward, Backward, Both, Field}
use Rattle.macroblock.specs.declared.Flags.{Flags}
use Rattle.macroblock.specs.declared.Kept.{Kept}
use Rattle.macroblock.specs.declared.Macroblock.{Macroblock}
use Rattle.macroblock.specs.declared.Motion.{Motion}
use Rattle.macroblock.proofs.CaseLaws.{case_fits, case_back, motion_lt}
use Rattle.macroblock.proofs.CommandLaws.{flag_again, bit_again, quantiser_lt}
use Rattle.macroblock.proofs.Congruence.{same_flags, same_macroblock}
use Rattle.records.specs.Layout.{column_part, row_part, upper_part, kind_part, skip_part, pattern_part, max_size_part, target_size_part, quantiser_part, flags_part, filler_part, forward_part, backward_part}
use Rattle.records.specs.Records.{flag_fields, flags_of, recordable_case, recordable, recorded_kind, recorded_motion, record_of, macroblock_in}
use Rattle.records.specs.RecordRules.{has_forward, has_backward, zero_bytes, unused_part, byte_rules, zero_rules, record_rules}
use Rattle.records.proofs.FlagsByte.{flags_lt, flags_fit}
use Rattle.records.proofs.Recordable.{recordable_most, recordable_legal, no_fields, read_never_field, read_kept_case}
use Rattle.records.proofs.Spelling.{bytes_by, flag_most, flag_fits, spelled}
use Rattle.answers.specs.Tables.{Hold}
use Rattle.fields.specs.Pieces.{piece}

flags_back : (f : Flags) → flags_of (packed (flag_fields f)) ≡ f
flags_back f =
    same_flags
    (ap is_set (packed_field (flag_fields f) 0 0 tt) ∙ flag_back f.first_in_slice)
    (ap is_set (packed_field (flag_fields f) 1 1 tt) ∙ flag_back f.last_in_slice)
    (ap is_set (packed_field (flag_fields f) 2 2 tt) ∙ flag_back f.first_in_group)
    (ap is_set (packed_field (flag_fields f) 3 3 tt) ∙ flag_back f.last_in_group)
    (ap is_set (packed_field (flag_fields f) 4 4 tt) ∙ flag_back f.clamp)
    (ap is_set (packed_field (flag_fields f) 5 5 tt) ∙ flag_back f.no_skip_conversion)

flag_bit : (b : Bool) → is_set (flag b) ≡ b
flag_bit true = refl
flag_bit false = refl

same_motion : {k f b k' f' b' : ℕ} → k ≡ k' → f ≡ f' → b ≡ b' → motion k f b 0 false false ≡ motion k' f' b' 0 false false
same_motion ek ef eb = cc

kind_recorded : (n : ℕ) → n ≤ 3 → recorded_kind n ≡ n
kind_recorded n h = ap (λ (x : Bool). cond x n 0) (le-leb n 3 h)

-- From a macroblock to its record and back.
module _ (m : Macroblock) (l : Legal m) where
  abbrev case : Case
  case = recordable_case m.case

  abbrev numbers : Motion
  numbers = motion_of case

  fits : CaseFits case
  fits = (recordable_legal m l).case_fits

  kind_at : value_at kind_part (record_of m) ≡ numbers.kind
  unfolding record_of
  kind_at = let k = recordable_most m.case in number_back 1 numbers.kind (omega arith)

  motion_at : recorded_motion (record_of m) ≡ numbers
  unfolding record_of
  motion_at =
      let k = ap recorded_kind kind_at ∙ kind_recorded numbers.kind (recordable_most m.case) in
      let f = number_back 4 numbers.forward (motion_lt case fits).0 in
      let b = number_back 4 numbers.backward (motion_lt case fits).1 in
      same_motion k f b ∙ sym (no_fields m.case)

  -- What a record has room for of a legal macroblock comes back from it.
  pub record_back : macroblock_in (record_of m) ≡ recordable m
  unfolding record_of macroblock_in
  record_back =
      let p = l.pattern_fits in
      let q = quantiser_lt m l in
      same_macroblock
      (number_back 2 m.column l.column_fits)
      (number_back 2 m.row l.row_fits)
      (number_back 2 m.upper l.upper_fits)
      (ap case_of motion_at ∙ case_back case fits)
      (ap is_set (number_back 1 (flag m.skip) (flag_fits m.skip)) ∙ flag_bit m.skip)
      refl
      (number_back 1 m.pattern (omega arith))
      (number_back 1 m.max_size l.max_fits)
      (number_back 1 m.target_size l.target_fits)
      (number_back 1 m.quantiser (omega arith))
      (ap flags_of (number_back 1 (packed (flag_fields m.flags)) (flags_fit m.flags)) ∙ flags_back m.flags)

abbrev head : List ℕ → ℕ
head [] = 0
head (x ∷ xs) = x

abbrev tail : List ℕ → List ℕ
tail [] = []
tail (x ∷ xs) = xs

-- bytes that are those of 0 are zero, each by itself
zeros_hold : (bs : List ℕ) (i k : ℕ) → elements bs i k ≡ bytes_of k 0 → Hold (zero_bytes bs i k)
zeros_hold bs i zero e = tt
zeros_hold bs i (suc k) e = (eq-eqb (get_or bs i 0) 0 (ap head e), zeros_hold bs (suc i) k (ap tail e))

hold_zeros : (bs : List ℕ) (i k : ℕ) → Hold (zero_bytes bs i k) → elements bs i k ≡ bytes_of k 0
hold_zeros bs i zero h = refl
hold_zeros bs i (suc k) h = ap₂ (λ (x : ℕ) (xs : List ℕ). x ∷ xs) (eqb-true (get_or bs i 0) 0 h.0) (hold_zeros bs (suc i) k h.1)

unused_hold : (used : Bool) (p : Part) (bs : List ℕ) → (used ≡ false → elements bs p.first p.count ≡ bytes_of p.count 0) → Hold (unused_part used p bs)
unused_hold true p bs h = tt
unused_hold false p bs h = zeros_hold bs p.first p.count (h refl)

hold_unused : (used : Bool) (p : Part) (bs : List ℕ) → Hold (unused_part used p bs) → used ≡ false → elements bs p.first p.count ≡ bytes_of p.count 0
hold_unused true p bs h e = absurd (subst T e tt)
hold_unused false p bs h e = hold_zeros bs p.first p.count h

-- a vector that a case has not is 0
absent_zero : (c : Case)
    → (has_forward (motion_of (recordable_case c)).kind ≡ false → (motion_of (recordable_case c)).forward ≡ 0)
    × (has_backward (motion_of (recordable_case c)).kind ≡ false → (motion_of (recordable_case c)).backward ≡ 0)
unfolding motion_of
absent_zero Intra = (λ e. refl, λ e. refl)
absent_zero (Inter (Forward f)) = (λ e. absurd (subst T e tt), λ e. refl)
absent_zero (Inter (Backward b)) = (λ e. refl, λ e. absurd (subst T e tt))
absent_zero (Inter (Both f b)) = (λ e. absurd (subst T e tt), λ e. absurd (subst T e tt))
absent_zero (Inter (Field t b i j)) = (λ e. absurd (subst T e tt), λ e. refl)

at_most : {v n k : ℕ} → v ≡ n → n ≤ k → leb v k ≡ true
at_most {v} {n} {k} e h = le-leb v k (subst (λ (x : ℕ). x ≤ k) (sym e) h)

lt_most : {n : ℕ} → n < 64 → n ≤ 63
lt_most h = omega arith

module _ (m : Macroblock) (l : Legal m) where
  zeros_kept : Hold (zero_rules (record_of m) (value_at kind_part (record_of m)))
  unfolding zero_rules record_of
  zeros_kept =
      let bs = record_of m in
      let k = value_at kind_part bs in
      let absent : (b : ℕ → Bool) → b k ≡ false → b (motion_of (recordable_case m.case)).kind ≡ false = λ b e. ap b (sym (kind_at m l)) ∙ e in
      hold_both (unused_part false filler_part bs) (unused_part (has_forward k) forward_part bs ++ unused_part (has_backward k) backward_part bs)
      (unused_hold false filler_part bs (λ e. refl))
      (hold_both (unused_part (has_forward k) forward_part bs) (unused_part (has_backward k) backward_part bs)
      (unused_hold (has_forward k) forward_part bs (λ e. ap (bytes_of 4) ((absent_zero m.case).0 (absent has_forward e))))
      (unused_hold (has_backward k) backward_part bs (λ e. ap (bytes_of 4) ((absent_zero m.case).1 (absent has_backward e)))))

  fields_kept : Hold (byte_rules (record_of m) (kept_by (recordable m)))
  unfolding byte_rules record_of
  fields_kept =
      let r = recordable_legal m l in
      let k = recordable_most m.case in
      let p = l.pattern_fits in
      let f = flags_lt m.flags in
      let s = flag_most m.skip in
      let kind = at_most (number_back 1 (motion_of (recordable_case m.case)).kind (omega arith)) k in
      let skip = at_most (number_back 1 (flag m.skip) (flag_fits m.skip)) s in
      let pattern = at_most (number_back 1 m.pattern (omega arith)) (lt_most p) in
      let flags = at_most (number_back 1 (packed (flag_fields m.flags)) (flags_fit m.flags)) (lt_most f) in (
        kind,
        (
          both_true skip r.intra_not_skipped,
          (both_true pattern (both_true r.intra_pattern r.skip_pattern), (r.quantiser_permitted, (both_true flags r.skip_inside_slice, tt))),
        ),
      )

  -- A legal macroblock's record keeps the rules of records.
  pub record_kept : judged (record_rules (record_of m)) ≡ Accepted
  unfolding record_rules byte_rules
  record_kept =
      let bs = record_of m in
      none_broken (record_rules bs)
      (hold_both (byte_rules bs (kept_by (macroblock_in bs))) (zero_rules bs (value_at kind_part bs))
      (subst (λ (n : Macroblock). Hold (byte_rules bs (kept_by n))) (sym (record_back m l)) fields_kept)
      zeros_kept)

-- From a record to its macroblock and back.
one : (b : ℕ) → number_in (b ∷ []) ≡ b
one b = omega arith

-- numbers that a record may hold are those of a case
motion_again : (k f b : ℕ)
    → k ≤ 3
    → f < 2 ^ 32
    → b < 2 ^ 32
    → (has_forward k ≡ false → f ≡ 0)
    → (has_backward k ≡ false → b ≡ 0)
    → motion_of (case_of (motion k f b 0 false false)) ≡ motion k f b 0 false false
unfolding case_of motion_of
motion_again k f b hk hf hb nf nb = by (eqb k 1) (eqb k 2) (eqb k 3) (eqb k 4) refl refl refl refl
  where
    by : (x y z u : Bool)
        → eqb k 1 ≡ x
        → eqb k 2 ≡ y
        → eqb k 3 ≡ z
        → eqb k 4 ≡ u
        → motion_of (cond x (Inter (Forward (vector_of f))) (cond y (Inter (Backward (vector_of b))) (cond z (Inter (Both (vector_of f) (vector_of b))) (cond u (Inter (Field (vector_of f) (vector_of 0) false false)) Intra))))
        ≡ motion k f b 0 false false
    by true y z u ex ey ez eu = let e = eqb-true k 1 ex in same_motion (sym e) (vector_word_back f hf) (sym (nb (subst (λ (n : ℕ). has_backward n ≡ false) (sym e) refl)))
    by false true z u ex ey ez eu = let e = eqb-true k 2 ey in same_motion (sym e) (sym (nf (subst (λ (n : ℕ). has_forward n ≡ false) (sym e) refl))) (vector_word_back b hb)
    by false false true u ex ey ez eu = let e = eqb-true k 3 ez in same_motion (sym e) (vector_word_back f hf) (vector_word_back b hb)
    by false false false true ex ey ez eu = absurd (omega (arith, eqb-true k 4 eu))
    by false false false false ex ey ez eu =
        let e : k ≡ 0 = omega (arith, eqb-false k 1 ex, eqb-false k 2 ey, eqb-false k 3 ez) in
        same_motion (sym e) (sym (nf (subst (λ (n : ℕ). has_forward n ≡ false) (sym e) refl))) (sym (nb (subst (λ (n : ℕ). has_backward n ≡ false) (sym e) refl)))

-- a byte of six flags, and back
flags_again : (b : ℕ) → b < 64 → packed (flag_fields (flags_of b)) ≡ b
flags_again b h =
    packed_is (flag_fields (flags_of b)) b (piece 0 0 ∷ piece 1 1 ∷ piece 2 2 ∷ piece 3 3 ∷ piece 4 4 ∷ piece 5 5 ∷ piece 31 6 ∷ []) (omega arith) tt
    (bit_again b 0 tt, (bit_again b 1 tt, (bit_again b 2 tt, (bit_again b 3 tt, (bit_again b 4 tt, (bit_again b 5 tt, (omega arith, tt)))))))

-- ten single bytes of a record, the others as they are
same_bytes : {b0 b1 b2 b3 b4 b5 b16 b17 b18 b19 b20 b21 b22 b23 k s p x t q f z y w k' s' p' x' t' q' f' z' y' w' : ℕ}
    → k ≡ k'
    → s ≡ s'
    → p ≡ p'
    → x ≡ x'
    → t ≡ t'
    → q ≡ q'
    → f ≡ f'
    → z ≡ z'
    → y ≡ y'
    → w ≡ w'
    → ◌≡◌ {A = List ℕ}
    (b0 ∷ b1 ∷ b2 ∷ b3 ∷ b4 ∷ b5 ∷ k ∷ s ∷ p ∷ x ∷ t ∷ q ∷ f ∷ z ∷ y ∷ w ∷ b16 ∷ b17 ∷ b18 ∷ b19 ∷ b20 ∷ b21 ∷ b22 ∷ b23 ∷ [])
    (b0 ∷ b1 ∷ b2 ∷ b3 ∷ b4 ∷ b5 ∷ k' ∷ s' ∷ p' ∷ x' ∷ t' ∷ q' ∷ f' ∷ z' ∷ y' ∷ w' ∷ b16 ∷ b17 ∷ b18 ∷ b19 ∷ b20 ∷ b21 ∷ b22 ∷ b23 ∷ [])
same_bytes ek es ep ex et eq ef ez ey ew = cc

module _ (bs : List ℕ) (n : length bs ≡ 24) (h : Bytes bs) (k : judged (record_rules bs) ≡ Accepted) where
  abbrev kept : Kept
  kept = kept_by (macroblock_in bs)

  rules : (judged (byte_rules bs kept) ≡ Accepted) × (judged (zero_rules bs (value_at kind_part bs)) ≡ Accepted)
  unfolding record_rules
  rules = both_accept (byte_rules bs kept) (zero_rules bs (value_at kind_part bs)) k

  -- the rule of a part
  right : (p : Part) → holds_at 15 p.first (byte_rules bs kept) ≡ true
  right p = rule_kept 15 p.first (byte_rules bs kept) rules.0

  kind_right : value_at kind_part bs ≤ 3
  unfolding byte_rules
  kind_right = leb-true (value_at kind_part bs) 3 (right kind_part)

  skip_right : (leb (value_at skip_part bs) 1 ≡ true) × (kept.intra_not_skipped ≡ true)
  unfolding byte_rules
  skip_right = let r = right skip_part in (and_left (leb (value_at skip_part bs) 1) kept.intra_not_skipped r, and_right (leb (value_at skip_part bs) 1) kept.intra_not_skipped r)

  pattern_right : (leb (value_at pattern_part bs) 63 ≡ true) × (kept.intra_pattern ≡ true) × (kept.skip_pattern ≡ true)
  unfolding byte_rules
  pattern_right =
      let r = right pattern_part in
      let s = and_right (leb (value_at pattern_part bs) 63) (kept.intra_pattern && kept.skip_pattern) r in (
        and_left (leb (value_at pattern_part bs) 63) (kept.intra_pattern && kept.skip_pattern) r,
        and_left kept.intra_pattern kept.skip_pattern s,
        and_right kept.intra_pattern kept.skip_pattern s,
      )

  quantiser_right : kept.quantiser ≡ true
  unfolding byte_rules
  quantiser_right = right quantiser_part

  flags_right : (leb (value_at flags_part bs) 63 ≡ true) × (kept.skip_inside_slice ≡ true)
  unfolding byte_rules
  flags_right = let r = right flags_part in (and_left (leb (value_at flags_part bs) 63) kept.skip_inside_slice r, and_right (leb (value_at flags_part bs) 63) kept.skip_inside_slice r)

  part_lt : (p : Part) → value_at p bs < 256 ^ length (elements bs p.first p.count)
  part_lt p = number_lt (elements bs p.first p.count) (part_bytes bs h p.first p.count)

  not_field : (kept_by (macroblock_in bs)).field_not_skipped ≡ true
  unfolding macroblock_in kept_by
  not_field = let skip = is_set (value_at skip_part bs) in ap (λ (f : Bool). not (skip && f)) (read_never_field bs) ∙ not_and skip

  -- A legal record's macroblock is legal.
  pub record_legal : Legal (macroblock_in bs)
  unfolding macroblock_in
  record_legal =
      let p = leb-true (value_at pattern_part bs) 63 pattern_right.0 in
      record {
        column_fits = part_lt column_part;
        row_fits = part_lt row_part;
        upper_fits = part_lt upper_part;
        case_fits = case_fits (recorded_motion bs);
        pattern_fits = omega arith;
        max_fits = part_lt max_size_part;
        target_fits = part_lt target_size_part;
        intra_not_skipped = skip_right.1;
        intra_pattern = pattern_right.1;
        quantiser_permitted = quantiser_right;
        skip_inside_slice = flags_right.1;
        skip_pattern = pattern_right.2;
        field_not_skipped = not_field;
        dct_not_skipped = refl;
      }

  zeros : (elements bs 13 3 ≡ 0 ∷ 0 ∷ 0 ∷ []) × (has_forward (value_at kind_part bs) ≡ false → elements bs 16 4 ≡ bytes_of 4 0) × (has_backward (value_at kind_part bs) ≡ false → elements bs 20 4 ≡ bytes_of 4 0)
  unfolding zero_rules
  zeros =
      let kind = value_at kind_part bs in
      let a = hold_each (unused_part false filler_part bs) (unused_part (has_forward kind) forward_part bs ++ unused_part (has_backward kind) backward_part bs) (all_hold (zero_rules bs kind) rules.1) in
      let b = hold_each (unused_part (has_forward kind) forward_part bs) (unused_part (has_backward kind) backward_part bs) a.1 in
      (hold_unused false filler_part bs a.0 refl, hold_unused (has_forward kind) forward_part bs b.0, hold_unused (has_backward kind) backward_part bs b.1)

  motion_right : motion_of (recordable_case (case_of (recorded_motion bs))) ≡ motion (value_at kind_part bs) (value_at forward_part bs) (value_at backward_part bs) 0 false false
  motion_right =
      ap motion_of (read_kept_case bs)
      ∙ ap (λ (k : ℕ). motion_of (case_of (motion k (value_at forward_part bs) (value_at backward_part bs) 0 false false))) (kind_recorded (value_at kind_part bs) kind_right)
      ∙ motion_again (value_at kind_part bs) (value_at forward_part bs) (value_at backward_part bs) kind_right (part_lt forward_part) (part_lt backward_part)
      (λ e. ap number_in (zeros.1 e))
      (λ e. ap number_in (zeros.2 e))

  spelling : bytes_by (elements bs 0 2) (elements bs 2 2) (elements bs 4 2) (value_at kind_part bs) (value_at skip_part bs) (value_at pattern_part bs) (value_at max_size_part bs) (value_at target_size_part bs) (value_at quantiser_part bs) (value_at flags_part bs) (elements bs 16 4) (elements bs 20 4) ≡ record_of (macroblock_in bs)
  unfolding macroblock_in
  spelling =
      let back : (p : Part) → elements bs p.first p.count ≡ bytes_of (length (elements bs p.first p.count)) (value_at p bs) =
      λ p. sym (bytes_back (elements bs p.first p.count) (part_bytes bs h p.first p.count)) in
      spelled (macroblock_in bs) (part_lt pattern_part) (part_lt max_size_part) (part_lt target_size_part) (part_lt quantiser_part)
      (back column_part)
      (back row_part)
      (back upper_part)
      (sym (ap (λ (x : Motion). x.kind) motion_right))
      (sym (flag_again (value_at skip_part bs) (leb-true (value_at skip_part bs) 1 skip_right.0)))
      (let f = leb-true (value_at flags_part bs) 63 flags_right.0 in sym (flags_again (value_at flags_part bs) (omega arith)))
      (back forward_part ∙ ap (bytes_of 4) (sym (ap (λ (x : Motion). x.forward) motion_right)))
      (back backward_part ∙ ap (bytes_of 4) (sym (ap (λ (x : Motion). x.backward) motion_right)))

  -- A legal record comes back from its macroblock, all its bytes.
  pub bytes_again : record_of (macroblock_in bs) ≡ bs
  bytes_again =
      let z = zeros.0 in
      sym spelling
      ∙ same_bytes (one (get_or bs 6 0)) (one (get_or bs 7 0)) (one (get_or bs 8 0)) (one (get_or bs 9 0)) (one (get_or bs 10 0)) (one (get_or bs 11 0)) (one (get_or bs 12 0)) (sym (ap head z)) (sym (ap (λ (xs : List ℕ). head (tail xs)) z)) (sym (ap (λ (xs : List ℕ). head (tail (tail xs))) z))
      ∙ elements_all bs 24 n
