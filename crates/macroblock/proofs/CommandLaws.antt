-- A command and its macroblock: each gives the other back, and legal ones give legal ones.
use mathlib.Core.Path.{◌≡◌, refl, sym, ap, ap₂, subst, ◌∙◌}
use mathlib.Core.Bool.{Bool, true, false, cond, not, ◌&&◌, ◌||◌}
use mathlib.Core.List.{List, [], ◌∷◌}
use Prim.Native.Nat.{ℕ, zero, suc, ◌/◌, ◌%◌, ◌^◌, ◌<◌, ◌≤◌}
use native.Mathlib.Nat.{mod-lt, mod-eq_of_lt}
use native.Mathlib.Omega.{arith}
use borrow.Author.Tests.{eqb-true, eqb-false, leb-true, eq-eqb}
use lib.Dec.{T, eqb, leb, eqb→eq}
use lib.Pow.{pow_pos}
use Rattle.fields.proofs.Fields.{flag_back}
use Rattle.lists.proofs.Booleans.{no, and_left, and_right, both_true}
use Rattle.fields.specs.Word.{Field, width, bits, packed, is_set, flag, has_bits, zero_bits}
use Rattle.fields.specs.Bytes.{elements}
use Rattle.fields.proofs.Elements.{elements_all}
use Rattle.fields.proofs.Packing.{packed_field, packed_lt, packed_is, bits_cut}
use Rattle.answers.specs.Answers.{holds_at}
use Rattle.macroblock.specs.Cases.{motion, motion_of, case_of, vector_words}
use Rattle.macroblock.specs.Legal.{Words, LegalCommand, Legal}
use Rattle.headers.specs.Words.{word_at}
use Rattle.macroblock.specs.Macroblocks.{intra_type, kind_in, type_of, motion_in, flags_in, macroblock_of, fields1, fields2, fields3, fields4, words_of}
use Rattle.macroblock.specs.Rules.{kept_by, alone, type_permitted, field_in, fixed1, fixed4, field_rules, vector_rules, command_rules}
use Rattle.macroblock.specs.declared.Allowed.{Allowed}
use Rattle.macroblock.specs.declared.Motion.{Motion}
use Rattle.macroblock.specs.declared.Case.{Case}
use Rattle.macroblock.specs.declared.Case.TheVariants.{Intra, Inter}
use Rattle.macroblock.specs.declared.Prediction.TheVariants.{Forward, Backward, Both}
use Rattle.macroblock.specs.declared.Prediction.TheVariants as by
use Rattle.macroblock.specs.declared.Macroblock.{Macroblock}
use Rattle.macroblock.proofs.CaseLaws.{vectors_four, vectors_listed, vectors_words, case_fits, placed, MotionFits, vectors_again, kind_again, top_again, bottom_again, case_again, copies_again, type_back}
use Rattle.macroblock.proofs.Congruence.{same_flags, same_macroblock}
use Rattle.answers.proofs.Judging.{none_broken, hold_both, rule_kept}
use Rattle.answers.specs.Tables.{Hold, within}
use Rattle.fields.specs.Pieces.{value_in, clear, piece}

same_four : {a b c d a' b' c' d' : ℕ} → a ≡ a' → b ≡ b' → c ≡ c' → d ≡ d' → a ∷ b ∷ c ∷ d ∷ [] ≡ a' ∷ b' ∷ c' ∷ d' ∷ []
same_four ea eb ec ed = cc

-- the rule of word 1's type, over the intra bit and the type
abbrev permitted : ℕ → ℕ → Bool
permitted i t = cond (is_set i) (eqb t intra_type) (leb 1 t && leb t 4)

-- a run of bits that no field covers is zero
clear_zero : (fs : List Field) (h l : ℕ) → T (clear fs h l) → value_in fs h l ≡ 0 → zero_bits (packed fs) h l ≡ true
clear_zero fs h l t e = eq-eqb _ 0 (packed_field fs h l t ∙ e)

-- a field of one or two bits that holds a flag
flag_cut : (b : Bool) → (flag b % 2 ≡ flag b) × (flag b % 4 ≡ flag b)
flag_cut true = (refl, refl)
flag_cut false = (refl, refl)

abbrev first : Macroblock → List Field
first m = fields1 m.upper (motion_of m.case).kind m.skip m.dct_type

abbrev fourth : Macroblock → List Field
fourth m = fields4 (motion_of m.case) m

-- From a macroblock to its words and back.
module _ (m : Macroblock) where
  abbrev numbers : Motion
  numbers = motion_of m.case

  kind_back : kind_in (packed (first m)) ≡ numbers.kind
  unfolding motion_of
  kind_back = ap₂ (λ (i t : ℕ). cond (is_set i) 0 t) (packed_field (first m) 13 13 tt) (packed_field (first m) 12 8 tt) ∙ by-case m.case
    where
      by-case : (c : Case) → cond (is_set (flag (eqb (motion_of c).kind 0) % 2)) 0 (type_of (motion_of c).kind % 32) ≡ (motion_of c).kind
      by-case Intra = refl
      by-case (Inter (Forward f)) = refl
      by-case (Inter (Backward b)) = refl
      by-case (Inter (Both f b)) = refl
      by-case (Inter (by.Field t b i j)) = refl

  -- a flag of word 1 or 4 in its own bit
  flag1_back : (i : ℕ) (b : Bool) → T (clear (first m) i i) → value_in (first m) i i ≡ flag b % 2 → is_set (bits (packed (first m)) i i) ≡ b
  flag1_back i b t e = ap is_set (packed_field (first m) i i t ∙ e) ∙ flag_back b

  flag4_back : (i : ℕ) (b : Bool) → T (clear (fourth m) i i) → value_in (fourth m) i i ≡ flag b % 2 → is_set (bits (packed (fourth m)) i i) ≡ b
  flag4_back i b t e = ap is_set (packed_field (fourth m) i i t ∙ e) ∙ flag_back b

  flags_back : flags_in (packed (fourth m)) ≡ m.flags
  flags_back =
      let f = m.flags in
      same_flags
      (flag4_back 30 f.first_in_slice tt refl)
      (flag4_back 31 f.last_in_slice tt refl)
      (flag4_back 24 f.first_in_group tt refl)
      (flag4_back 26 f.last_in_group tt refl)
      (flag4_back 27 f.clamp tt refl)
      (flag4_back 25 f.no_skip_conversion tt refl)

  motion_back : motion_in (words_of m) ≡ placed m.case
  unfolding words_of
  motion_back =
      let e = kind_back in
      let i = flag4_back 16 numbers.top_from_bottom tt refl in
      let j = flag4_back 18 numbers.bottom_from_bottom tt refl in
      let v : ℕ → ℕ = λ k. word_at (vector_words numbers) k in
      ap (λ (k : ℕ). motion k (v 0) (v 1) (v 2) (is_set (bits (packed (fourth m)) 16 16)) (is_set (bits (packed (fourth m)) 18 18))) e
      ∙ ap₂ (λ (x y : Bool). motion numbers.kind (v 0) (v 1) (v 2) x y) i j

  pub quantiser_lt : Legal m → m.quantiser < 32
  unfolding kept_by
  quantiser_lt l = let most = leb-true m.quantiser 31 (and_right (leb 1 m.quantiser) (leb m.quantiser 31) l.quantiser_permitted) in omega arith

  -- A legal macroblock comes back from its words.
  pub macroblock_back : Legal m → macroblock_of (words_of m) ≡ m
  unfolding macroblock_of words_of
  macroblock_back l =
      same_macroblock
      (packed_field (fields2 m.column m.row) 15 0 tt ∙ mod-eq_of_lt l.column_fits)
      (packed_field (fields2 m.column m.row) 31 16 tt ∙ mod-eq_of_lt l.row_fits)
      (packed_field (first m) 31 16 tt ∙ mod-eq_of_lt l.upper_fits)
      (ap case_of motion_back ∙ case_again m.case l.case_fits)
      (flag1_back 2 m.skip tt refl)
      (flag1_back 15 m.dct_type tt refl)
      (packed_field (fields3 m) 11 6 tt ∙ mod-eq_of_lt l.pattern_fits)
      (packed_field (fields3 m) 31 24 tt ∙ mod-eq_of_lt l.max_fits)
      (packed_field (fields3 m) 23 16 tt ∙ mod-eq_of_lt l.target_fits)
      (packed_field (fourth m) 4 0 tt ∙ mod-eq_of_lt (quantiser_lt l))
      flags_back

  type_permitted_lem : type_permitted alone (packed (first m)) ≡ true
  unfolding motion_of
  type_permitted_lem =
      ap₂ permitted (packed_field (first m) 13 13 tt) (packed_field (first m) 12 8 tt) ∙ by-case m.case
    where
      by-case : (c : Case) → permitted (flag (eqb (motion_of c).kind 0) % 2) (type_of (motion_of c).kind % 32) ≡ true
      by-case Intra = refl
      by-case (Inter (Forward f)) = refl
      by-case (Inter (Backward b)) = refl
      by-case (Inter (Both f b)) = refl
      by-case (Inter (by.Field t b i j)) = refl

  copies_back : vector_words (motion_in (words_of m)) ≡ vector_words numbers
  copies_back = ap vector_words motion_back ∙ copies_again m.case

  -- the dct type, and the bits of field prediction
  dct_kept : Legal m → (zero_bits (packed (first m)) 15 15 || not (is_set (bits (packed (first m)) 2 2))) ≡ true
  dct_kept l =
      ap₂ (λ (d s : ℕ). eqb d 0 || not (is_set s)) (packed_field (first m) 15 15 tt) (packed_field (first m) 2 2 tt) ∙ free m.dct_type m.skip l.dct_not_skipped
    where
      free : (d s : Bool) → not (d && s) ≡ true → (eqb (flag d % 2) 0 || not (is_set (flag s % 2))) ≡ true
      free true true e = e
      free true false e = refl
      free false s e = refl

  field_bits : (h l : ℕ) → bits (packed (first m)) h l ≡ flag (eqb numbers.kind 4) → has_bits (packed (first m)) h l (flag (field_in alone (packed (first m)))) ≡ true
  field_bits h l e = eq-eqb _ _ (e ∙ ap (λ (k : ℕ). flag (eqb k 4)) (sym kind_back))

  fixed1_kept : Legal m → fixed1 alone (packed (first m)) ≡ true
  fixed1_kept l =
      let four = flag_cut (eqb numbers.kind 4) in
      let high = field_bits 14 14 (packed_field (first m) 14 14 tt ∙ four.0) in
      let low = field_bits 1 0 (packed_field (first m) 1 0 tt ∙ four.1) in
      both_true (dct_kept l) (both_true high (both_true (clear_zero (first m) 7 3 tt refl) low))

  fixed4_kept : fixed4 (field_in alone (packed (first m))) (packed (fourth m)) ≡ true
  unfolding motion_of
  fixed4_kept =
      let none = clear_zero (fourth m) in
      let top = packed_field (fourth m) 16 16 tt in
      let bottom = packed_field (fourth m) 18 18 tt in
      let chosen = ap₂ (λ (x y : Bool). x || y) (ap (λ (k : ℕ). eqb k 4) kind_back) (ap₂ (λ (b t : ℕ). eqb b 0 && eqb t 0) bottom top) ∙ by-case m.case in
      both_true (none 29 28 tt refl) (both_true (none 23 19 tt refl) (both_true (none 17 17 tt refl) (both_true (none 15 5 tt refl) chosen)))
    where
      by-case : (c : Case) → (eqb (motion_of c).kind 4 || (eqb (flag (motion_of c).bottom_from_bottom % 2) 0 && eqb (flag (motion_of c).top_from_bottom % 2) 0)) ≡ true
      by-case Intra = refl
      by-case (Inter (Forward f)) = refl
      by-case (Inter (Backward b)) = refl
      by-case (Inter (Both f b)) = refl
      by-case (Inter (by.Field t b i j)) = refl

  hold_fields : Legal m → Hold (field_rules alone (kept_by m) (words_of m))
  unfolding words_of field_rules
  hold_fields l =
      let fixed3 = both_true (clear_zero (fields3 m) 15 12 tt refl) (clear_zero (fields3 m) 5 0 tt refl) in
      let permitted = both_true type_permitted_lem l.intra_not_skipped in
      let skip = both_true l.skip_inside_slice (both_true l.skip_pattern l.field_not_skipped) in
      (fixed1_kept l, (permitted, (skip, (fixed3, (l.intra_pattern, (fixed4_kept, (l.quantiser_permitted, tt)))))))

  hold_vectors : Hold (vector_rules (words_of m))
  unfolding words_of vector_rules
  hold_vectors =
      let same : (i : ℕ) → eqb (word_at (vector_words (motion_of m.case)) i) (word_at (vector_words (motion_in (words_of m))) i) ≡ true =
      λ i. eq-eqb _ _ (sym (ap (λ (ws : List ℕ). word_at ws i) copies_back)) in
      (same 0, (same 1, (same 2, (same 3, tt))))

  -- A legal macroblock's words are a command.
  pub words_kept : Legal m → LegalCommand (words_of m)
  unfolding words_of command_rules
  words_kept l =
      let fields = subst (λ (n : Macroblock). Hold (field_rules alone (kept_by n) (words_of m))) (sym (macroblock_back l)) (hold_fields l) in
      let vectors = vectors_words m.case l.case_fits in
      record {
        nine = ap (λ (n : ℕ). suc (suc (suc (suc (suc n))))) (vectors_four (motion_of m.case));
        words = (omega arith, (packed_lt (first m), (packed_lt (fields2 m.column m.row), (packed_lt (fields3 m), (packed_lt (fourth m), vectors)))));
        header = refl;
        kept =
            none_broken (command_rules alone (words_of m))
            (hold_both (field_rules alone (kept_by (macroblock_of (words_of m))) (words_of m)) (vector_rules (words_of m)) fields hold_vectors);
      }

-- From a command's words to its macroblock and back.
pub word_below : (ws : List ℕ) → Words ws → (i : ℕ) → word_at ws i < 2 ^ 32
word_below [] h i = omega arith
word_below (w ∷ ws) h zero = h.0
word_below (w ∷ ws) h (suc i) = word_below ws h.1 i

pub bits_lt : (w hi lo : ℕ) → bits w hi lo < 2 ^ width hi lo
bits_lt w hi lo = mod-lt (w / 2 ^ lo) (pow_pos (width hi lo))

-- one bit, as a flag and back, and in its field
pub flag_again : (b : ℕ) → b ≤ 1 → flag (is_set b) ≡ b
flag_again b h = by (eqb b 1) refl
  where
    by : (x : Bool) → eqb b 1 ≡ x → flag x ≡ b
    by true e = sym (eqb-true b 1 e)
    by false e = omega (arith, eqb-false b 1 e)

pub bit_again : (w i : ℕ) → T (eqb (width i i) 1) → flag (is_set (bits w i i)) % 2 ≡ bits w i i
bit_again w i t =
    let one = subst (λ (n : ℕ). bits w i i < 2 ^ n) (eqb→eq (width i i) 1 t) (bits_lt w i i) in
    ap (λ (x : ℕ). x % 2) (flag_again (bits w i i) (omega arith)) ∙ mod-eq_of_lt one

-- four tests that hold together, and one that must hold where another does not
four_true : (a b c d : Bool) → (a && (b && (c && d))) ≡ true → (a ≡ true) × (b ≡ true) × (c ≡ true) × (d ≡ true)
four_true a b c d e =
    let f = and_right a (b && (c && d)) e in
    let g = and_right b (c && d) f in
    (and_left a (b && (c && d)) e, and_left b (c && d) f, and_left c d g, and_right c d g)

or_else : (a b : Bool) → (a || b) ≡ true → a ≡ false → b ≡ true
or_else true b e f = absurd (no (sym f))
or_else false b e f = e

module _ (ws : List ℕ) (c : LegalCommand ws) where
  abbrev m : Macroblock
  m = macroblock_of ws

  abbrev w : ℕ → ℕ
  w i = word_at ws i

  -- a rule of the command, by its number and word
  held : (n i : ℕ) → holds_at n i (command_rules alone ws) ≡ true
  held n i = rule_kept n i (command_rules alone ws) c.kept

  -- word 1's fixed bits: 15; 14; 7:3; 1:0
  abbrev is_four : Bool
  is_four = eqb (kind_in (w 1)) 4

  fixed_bits : ((zero_bits (w 1) 15 15 || not (is_set (bits (w 1) 2 2))) ≡ true) × (has_bits (w 1) 14 14 (flag is_four) ≡ true) × (zero_bits (w 1) 7 3 ≡ true) × (has_bits (w 1) 1 0 (flag is_four) ≡ true)
  unfolding command_rules field_rules
  fixed_bits =
      four_true (zero_bits (w 1) 15 15 || not (is_set (bits (w 1) 2 2))) (has_bits (w 1) 14 14 (flag is_four)) (zero_bits (w 1) 7 3) (has_bits (w 1) 1 0 (flag is_four)) (held 4 1)

  -- A command's macroblock is legal.
  pub macroblock_legal : Legal (macroblock_of ws)
  unfolding macroblock_of command_rules field_rules
  macroblock_legal =
      let k = kept_by m in
      let skip = and_right k.skip_inside_slice (k.skip_pattern && k.field_not_skipped) (held 11 1) in
      record {
        column_fits = bits_lt (w 2) 15 0;
        row_fits = bits_lt (w 2) 31 16;
        upper_fits = bits_lt (w 1) 31 16;
        case_fits = case_fits (motion_in ws);
        pattern_fits = bits_lt (w 3) 11 6;
        max_fits = bits_lt (w 3) 31 24;
        target_fits = bits_lt (w 3) 23 16;
        intra_not_skipped = and_right (type_permitted alone (w 1)) k.intra_not_skipped (held 5 1);
        intra_pattern = held 5 3;
        quantiser_permitted = held 5 4;
        skip_inside_slice = and_left k.skip_inside_slice (k.skip_pattern && k.field_not_skipped) (held 11 1);
        skip_pattern = and_left k.skip_pattern k.field_not_skipped skip;
        field_not_skipped = and_right k.skip_pattern k.field_not_skipped skip;
        dct_not_skipped = not-both (bits (w 1) 15 15) (bits (w 1) 2 2) fixed_bits.0;
      }
    where
      not-both : (d s : ℕ) → (eqb d 0 || not (is_set s)) ≡ true → not (is_set d && is_set s) ≡ true
      not-both d s e = by_bits (is_set d) (is_set s) refl e
        where
          by_bits : (x y : Bool) → is_set d ≡ x → (eqb d 0 || not y) ≡ true → not (x && y) ≡ true
          by_bits true true ex f = sym (ap (λ (k : ℕ). eqb k 0 || false) (eqb-true d 1 ex)) ∙ f
          by_bits true false ex f = refl
          by_bits false y ex f = refl

  none : (i hi lo : ℕ) → zero_bits (w i) hi lo ≡ true → 0 ≡ bits (w i) hi lo
  none i hi lo e = sym (eqb-true (bits (w i) hi lo) 0 e)

  motion_fits : MotionFits (motion_in ws)
  motion_fits = (word_below ws c.words 5, word_below ws c.words 6, word_below ws c.words 7)

  -- the intra bit and the type, and the kind that they give
  typed : (type_of (kind_in (w 1)) % 32 ≡ bits (w 1) 12 8) × (flag (eqb (kind_in (w 1)) 0) % 2 ≡ bits (w 1) 13 13) × (kind_in (w 1) ≤ 4)
  unfolding command_rules field_rules
  typed = type_back (bits (w 1) 13 13) (bits (w 1) 12 8) (bits_lt (w 1) 13 13) (and_left (type_permitted alone (w 1)) (kept_by m).intra_not_skipped (held 5 1))

  word1_back : packed (first m) ≡ w 1
  unfolding macroblock_of
  word1_back =
      let e = kind_again (motion_in ws) typed.2 in
      let four = flag_cut is_four in
      packed_is (first m) (w 1) (piece 1 0 ∷ piece 2 2 ∷ piece 7 3 ∷ piece 12 8 ∷ piece 13 13 ∷ piece 14 14 ∷ piece 15 15 ∷ piece 31 16 ∷ []) (word_below ws c.words 1) tt (
        ap (λ (k : ℕ). flag (eqb k 4) % 4) e ∙ four.1 ∙ sym (eqb-true _ _ fixed_bits.3),
        (
          bit_again (w 1) 2 tt,
          (
            none 1 7 3 fixed_bits.2,
            (
              ap (λ (k : ℕ). type_of k % 32) e ∙ typed.0,
              (
                ap (λ (k : ℕ). flag (eqb k 0) % 2) e ∙ typed.1,
                (
                  ap (λ (k : ℕ). flag (eqb k 4) % 2) e ∙ four.0 ∙ sym (eqb-true _ _ fixed_bits.1),
                  (
                    bit_again (w 1) 15 tt,
                    (bits_cut (w 1) 31 16, tt),
                  ),
                ),
              ),
            ),
          ),
        ),
      )

  word2_back : packed (fields2 m.column m.row) ≡ w 2
  unfolding macroblock_of
  word2_back = packed_is (fields2 m.column m.row) (w 2) (piece 15 0 ∷ piece 31 16 ∷ []) (word_below ws c.words 2) tt (bits_cut (w 2) 15 0, (bits_cut (w 2) 31 16, tt))

  word3_back : packed (fields3 m) ≡ w 3
  unfolding macroblock_of command_rules field_rules
  word3_back =
      let high = none 3 15 12 (and_left (zero_bits (w 3) 15 12) (zero_bits (w 3) 5 0) (held 4 3)) in
      let low = none 3 5 0 (and_right (zero_bits (w 3) 15 12) (zero_bits (w 3) 5 0) (held 4 3)) in
      packed_is (fields3 m) (w 3) (piece 5 0 ∷ piece 11 6 ∷ piece 15 12 ∷ piece 23 16 ∷ piece 31 24 ∷ []) (word_below ws c.words 3) tt (
        low,
        (
          bits_cut (w 3) 11 6,
          (
            high,
            (
              bits_cut (w 3) 23 16,
              (bits_cut (w 3) 31 24, tt),
            ),
          ),
        ),
      )

  -- a choice of word 4: its bit where the kind is 4, else a zero
  choice_back : (x : Bool) (i : ℕ) → T (eqb (width i i) 1) → (x ≡ false → zero_bits (w 4) i i ≡ true) → flag (x && is_set (bits (w 4) i i)) % 2 ≡ bits (w 4) i i
  choice_back true i t z = bit_again (w 4) i t
  choice_back false i t z = none 4 i i (z refl)

  word4_back : packed (fourth m) ≡ w 4
  unfolding macroblock_of command_rules field_rules
  word4_back =
      let z : ℕ → ℕ → Bool = λ hi lo. zero_bits (w 4) hi lo in
      let tests = four_true (z 29 28) (z 23 19) (z 17 17) (z 15 5 && (is_four || (z 18 18 && z 16 16))) (held 4 4) in
      let others = or_else is_four (z 18 18 && z 16 16) (and_right (z 15 5) (is_four || (z 18 18 && z 16 16)) tests.3) in
      let top = ap (λ (x : Bool). flag x % 2) (top_again (motion_in ws)) ∙ choice_back is_four 16 tt (λ f. and_right (z 18 18) (z 16 16) (others f)) in
      let bottom = ap (λ (x : Bool). flag x % 2) (bottom_again (motion_in ws)) ∙ choice_back is_four 18 tt (λ f. and_left (z 18 18) (z 16 16) (others f)) in
      let low = and_left (z 15 5) (is_four || (z 18 18 && z 16 16)) tests.3 in
      packed_is (fourth m) (w 4) (piece 4 0 ∷ piece 15 5 ∷ piece 16 16 ∷ piece 17 17 ∷ piece 18 18 ∷ piece 23 19 ∷ piece 24 24 ∷ piece 25 25 ∷ piece 26 26 ∷ piece 27 27 ∷ piece 29 28 ∷ piece 30 30 ∷ piece 31 31 ∷ []) (word_below ws c.words 4) tt (
        bits_cut (w 4) 4 0,
        (
          none 4 15 5 low,
          (
            top,
            (
              none 4 17 17 tests.2,
              (
                bottom,
                (
                  none 4 23 19 tests.1,
                  (
                    bit_again (w 4) 24 tt,
                    (
                      bit_again (w 4) 25 tt,
                      (
                        bit_again (w 4) 26 tt,
                        (
                          bit_again (w 4) 27 tt,
                          (
                            none 4 29 28 tests.0,
                            (
                              bit_again (w 4) 30 tt,
                              (bit_again (w 4) 31 tt, tt),
                            ),
                          ),
                        ),
                      ),
                    ),
                  ),
                ),
              ),
            ),
          ),
        ),
      )

  vectors_back : vector_words (motion_of m.case) ≡ w 5 ∷ w 6 ∷ w 7 ∷ w 8 ∷ []
  unfolding macroblock_of command_rules field_rules vector_rules
  vectors_back =
      let v = vector_words (motion_in ws) in
      let listed = same_four (eqb-true (w 5) (word_at v 0) (held 8 5)) (eqb-true (w 6) (word_at v 1) (held 8 6)) (eqb-true (w 7) (word_at v 2) (held 8 7)) (eqb-true (w 8) (word_at v 3) (held 8 8)) in
      vectors_again (motion_in ws) motion_fits ∙ sym (listed ∙ vectors_listed (motion_in ws))

  -- A command comes back from its macroblock, all nine words.
  pub words_back : words_of (macroblock_of ws) ≡ ws
  unfolding words_of
  words_back =
      let e0 = c.header in
      let e1 = word1_back in
      let e2 = word2_back in
      let e3 = word3_back in
      let e4 = word4_back in
      let ev = vectors_back in
      let listed : words_of (macroblock_of ws) ≡ elements ws 0 9 = cc in
      listed ∙ elements_all ws 9 c.nine

-- The rules of a command alone refuse with numbers 1 to 12, at its words 1 to 8.
pub command_within : (a : Allowed) (ws : List ℕ) → T (within 12 8 (command_rules a ws))
unfolding command_rules field_rules vector_rules
command_within a ws = tt
