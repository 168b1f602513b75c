-- Where neither a field dct type nor field prediction is allowed, a command is answered as before document 02's R-6.
use mathlib.Core.Path.{◌≡◌, refl, sym, ap, ap₂, ◌∙◌}
use mathlib.Core.Bool.{Bool, true, false, cond, not, ◌&&◌, ◌||◌}
use mathlib.Core.List.{List, [], ◌∷◌, ◌++◌}
use Prim.Native.Nat.{ℕ, ◌+◌, ◌*◌, ◌/◌, ◌%◌, ◌^◌, ◌≤◌, ◌<◌}
use native.Mathlib.Nat.{zero-add, zero-mul, mul-pos}
use native.Mathlib.Omega.{arith}
use borrow.Author.Tests.{eqb-true, eqb-false, ne_eqb}
use lib.Dec.{T, eqb, leb, ltb, leb→le, ltb→lt}
use lib.Pow.{pow_pos, shr-shr, mod-pow-add}
use Rattle.lists.proofs.Booleans.{no, both, not_and}
use Rattle.fields.specs.Word.{width, bits, is_set, zero_bits}
use Rattle.headers.specs.Words.{word_at}
use Rattle.answers.specs.Answers.{Rule, rule, judged, earlier, Accepted, refused, Answer}
use Rattle.answers.specs.Tables.{Each}
use Rattle.answers.proofs.Judging.{in_order, judged_append, judged_by}
use Rattle.macroblock.specs.Before.{by_kind_before, without_dct, macroblock_before, vector_words_before, type_permitted_before, fixed1_before, fixed4_before, field_rules_before, vector_rules_before, command_rules_before}
use Rattle.macroblock.specs.Cases.{by_kind, case_of, is_field, vector_words}
use Rattle.macroblock.specs.Macroblocks.{is_intra, intra_type, kind_in, motion_in, assembled, macroblock_of}
use Rattle.macroblock.specs.Rules.{kept_by, neither, type_permitted, fixed1, fixed4, field_rules, vector_rules, command_rules}
use Rattle.macroblock.specs.declared.Case.{Case}
use Rattle.macroblock.specs.declared.Macroblock.{Macroblock}
use Rattle.macroblock.proofs.AllowedLaws.{field_allowed, dct_allowed}
use Rattle.macroblock.proofs.CaseLaws.{field_case}
use Rattle.macroblock.proofs.Congruence.{made}

-- A run of bits is its two parts, and is zero where both are.
bits_parts : (w hi mid lo : ℕ) → lo ≤ mid → mid < hi → hi < 32 → bits w hi lo ≡ bits w hi (mid + 1) * 2 ^ width mid lo + bits w mid lo
bits_parts w hi mid lo a b c =
    let k = width mid lo in
    let n = width hi (mid + 1) in
    let both : width hi lo ≡ n + k = omega arith in
    let at : lo + k ≡ mid + 1 = omega arith in
    ap (λ (z : ℕ). w / 2 ^ lo % 2 ^ z) both
    ∙ mod-pow-add (w / 2 ^ lo) n k
    ∙ ap (λ (z : ℕ). z % 2 ^ n * 2 ^ k + bits w mid lo) (shr-shr w lo k ∙ ap (λ (z : ℕ). w / 2 ^ z) at)

zero_parts : (w hi mid lo : ℕ) → T (leb lo mid && (ltb mid hi && ltb hi 32)) → zero_bits w hi lo ≡ (zero_bits w hi (mid + 1) && zero_bits w mid lo)
zero_parts w hi mid lo t =
    let t1 = both (leb lo mid) (ltb mid hi && ltb hi 32) t in
    let t2 = both (ltb mid hi) (ltb hi 32) t1.1 in
    let e = bits_parts w hi mid lo (leb→le lo mid t1.0) (ltb→lt mid hi t2.0) (ltb→lt hi 32 t2.1) in
    ap (λ (x : ℕ). eqb x 0) e ∙ sum-zero (bits w hi (mid + 1)) (2 ^ width mid lo) (bits w mid lo) (pow_pos (width mid lo))
  where
    sum-zero : (a k b : ℕ) → 0 < k → eqb (a * k + b) 0 ≡ (eqb a 0 && eqb b 0)
    sum-zero a k b h = by (eqb a 0) refl
      where
        by : (x : Bool) → eqb a 0 ≡ x → eqb (a * k + b) 0 ≡ (x && eqb b 0)
        by true e = ap (λ (z : ℕ). eqb z 0) (ap (λ (y : ℕ). y * k + b) (eqb-true a 0 e) ∙ ap (λ (y : ℕ). y + b) (zero-mul k) ∙ zero-add b)
        by false e = let p = mul-pos {m = a} {n = k} (omega (arith, eqb-false a 0 e)) h in ne_eqb (a * k + b) 0 (omega arith)

-- The fixed bits of words 1 and 4 are those of before.
pub same_fixed1 : (w : ℕ) → fixed1 neither w ≡ fixed1_before w
same_fixed1 w =
    let rest = zero_bits w 7 3 && zero_bits w 1 0 in
    alike (zero_bits w 15 15) (zero_bits w 14 14) rest ∙ ap (λ (x : Bool). x && rest) (sym (zero_parts w 15 14 14 tt))
  where
    alike : (a b c : Bool) → ((a || false) && (b && c)) ≡ ((a && b) && c)
    alike true b c = refl
    alike false b c = refl

pub same_fixed4 : (w : ℕ) → fixed4 false w ≡ fixed4_before w
same_fixed4 w =
    let z : ℕ → ℕ → Bool = λ hi lo. zero_bits w hi lo in
    let from17 = zero_parts w 17 16 5 tt ∙ ap (λ (x : Bool). z 17 17 && x) (zero_parts w 16 15 5 tt) in
    let from18 = zero_parts w 18 17 5 tt ∙ ap (λ (x : Bool). z 18 18 && x) from17 in
    let from23 = zero_parts w 23 18 5 tt ∙ ap (λ (x : Bool). z 23 19 && x) (from18 ∙ alike (z 18 18) (z 17 17) (z 16 16) (z 15 5)) in
    ap (λ (x : Bool). z 29 28 && x) (sym from23)
  where
    alike : (a b c d : Bool) → (a && (b && (c && d))) ≡ (b && (d && (a && c)))
    alike true true true true = refl
    alike true true true false = refl
    alike true true false true = refl
    alike true true false false = refl
    alike true false c d = refl
    alike false true c true = refl
    alike false true c false = refl
    alike false false c d = refl

-- Type 04h apart, a kind chooses as before.
kind_before : {A : Type 0} (k : ℕ) (i f b t s : A) → eqb k 4 ≡ false → by_kind k i f b t s ≡ by_kind_before k i f b t
kind_before k i f b t s h = ap (λ (x : Bool). cond (eqb k 1) f (cond (eqb k 2) b (cond (eqb k 3) t (cond x s i)))) h

-- the rules of words 1, 3 and 4
abbrev field_table : Bool → Bool → Bool → Bool → Bool → Bool → Bool → List Rule
field_table a b c d e f g = rule 4 1 a ∷ rule 5 1 b ∷ rule 11 1 c ∷ rule 4 3 d ∷ rule 5 3 e ∷ rule 4 4 f ∷ rule 5 4 g ∷ []

same_table : {a b c d e f g a' b' c' d' e' f' g' : Bool} → a ≡ a' → b ≡ b' → c ≡ c' → d ≡ d' → e ≡ e' → f ≡ f' → g ≡ g' → field_table a b c d e f g ≡ field_table a' b' c' d' e' f' g'
same_table ea eb ec ed ee ef eg = cc

-- The refusal of a type that is not permitted, 4 where a fixed bit of word 1 is wrong too.
abbrev pub four_refused : ℕ → Answer
four_refused w = cond (fixed1_before w) (refused 5 1) (refused 4 1)

type_broken : (a b c : Bool) (r : Answer) → b ≡ false → cond a (cond (b && c) r (refused 5 1)) (refused 4 1) ≡ cond a (refused 5 1) (refused 4 1)
type_broken a b c r e = ap (λ (x : Bool). cond a (cond (x && c) r (refused 5 1)) (refused 4 1)) e

-- An answer that comes before neither of these two: each of them is given in its place.
abbrev pub Later : Answer → Type 0
Later a = (earlier a (refused 4 1) ≡ refused 4 1) × (earlier a (refused 5 1) ≡ refused 5 1)

overruled : (x : Bool) (rs : List Rule) → Each Later rs → earlier (judged rs) (cond x (refused 5 1) (refused 4 1)) ≡ cond x (refused 5 1) (refused 4 1)
overruled true rs l = (judged_by Later (refl, refl) rs l).1
overruled false rs l = (judged_by Later (refl, refl) rs l).0

-- a macroblock with another dct type
abbrev with_dct : Macroblock → Bool → Macroblock
with_dct m x =
    made m.column m.row m.upper m.case m.skip x m.pattern m.max_size m.target_size m.quantiser m.flags

module _ (ws : List ℕ) where
  abbrev w : ℕ → ℕ
  w i = word_at ws i

  -- Of any other type the command says the same case and keeps the same rules.
  module _ (h : eqb (kind_in (word_at ws 1)) 4 ≡ false) where
    pub same_case : (macroblock_of ws).case ≡ (macroblock_before ws).case
    unfolding macroblock_of macroblock_before case_of
    same_case = kind_before (kind_in (w 1)) _ _ _ _ _ h

    pub same_said : without_dct (macroblock_of ws) ≡ macroblock_before ws
    unfolding macroblock_of macroblock_before
    same_said = ap (λ (c : Case). without_dct (assembled (w 1) (w 2) (w 3) (w 4) c)) same_case

    same-vectors : vector_words (motion_in ws) ≡ vector_words_before ws
    unfolding vector_words vector_words_before
    same-vectors = kind_before (kind_in (w 1)) _ _ _ _ _ h

    no_field : is_field (macroblock_of ws).case ≡ false
    unfolding macroblock_of
    no_field = field_case (motion_in ws) ∙ h

    same-fields : field_rules neither (kept_by (macroblock_of ws)) ws ≡ field_rules_before (kept_by (macroblock_before ws)) ws
    unfolding field_rules field_rules_before kept_by macroblock_of macroblock_before
    same-fields =
        let intra = ap is_intra same_case in
        let skip = (macroblock_of ws).skip in
        let inside = not (skip && (is_set (bits (w 4) 30 30) || is_set (bits (w 4) 31 31))) in
        let pattern = not skip || eqb (bits (w 3) 11 6) 0 in
        let unskipped = ap (λ (x : Bool). not (skip && x)) no_field ∙ not_and skip in
        same_table
        (same_fixed1 (w 1))
        (ap (λ (x : Bool). type_permitted_before (w 1) && not (skip && x)) intra)
        (ap (λ (x : Bool). inside && x) (and-true pattern (not (skip && is_field (case_of (motion_in ws)))) unskipped))
        refl
        (ap (λ (x : Bool). not x || eqb (macroblock_of ws).pattern 63) intra)
        (same_fixed4 (w 4))
        refl
      where
        and-true : (a b : Bool) → b ≡ true → (a && b) ≡ a
        and-true true b e = e
        and-true false b e = refl

    same-copies : vector_rules ws ≡ vector_rules_before ws
    unfolding vector_rules vector_rules_before
    same-copies =
        let c : ℕ → ℕ → List ℕ → Bool = λ i j vs. eqb (w i) (word_at vs j) in
        ap (λ (vs : List ℕ). rule 8 5 (c 5 0 vs) ∷ rule 8 6 (c 6 1 vs) ∷ rule 8 7 (c 7 2 vs) ∷ rule 8 8 (c 8 3 vs) ∷ []) same-vectors

    pub same_rules : command_rules neither ws ≡ command_rules_before ws
    unfolding command_rules command_rules_before
    same_rules = ap₂ (λ (rs ss : List Rule). rs ++ ss) same-fields same-copies

  -- Type 04h gives 4 or 5 at word 1, as it did, whatever rules of a picture are judged beside those of the command.
  module _ (h : kind_in (word_at ws 1) ≡ 4) where
    no-type : type_permitted_before (w 1) ≡ false
    no-type = by (is_set (bits (w 1) 13 13)) h
      where
        by : (x : Bool) → cond x 0 (bits (w 1) 12 8) ≡ 4 → cond x (eqb (bits (w 1) 12 8) intra_type) (leb 1 (bits (w 1) 12 8) && leb (bits (w 1) 12 8) 3) ≡ false
        by true e = absurd (omega arith)
        by false e = ap (λ (t : ℕ). leb 1 t && leb t 3) e

    pub four_now : judged (command_rules neither ws) ≡ four_refused (w 1)
    unfolding command_rules field_rules vector_rules
    four_now =
        in_order (command_rules neither ws) tt
        ∙ type_broken (fixed1 neither (w 1)) (type_permitted neither (w 1)) _ _ no-type
        ∙ ap (λ (x : Bool). cond x (refused 5 1) (refused 4 1)) (same_fixed1 (w 1))

    pub four_before : judged (command_rules_before ws) ≡ four_refused (w 1)
    unfolding command_rules_before field_rules_before vector_rules_before
    four_before = in_order (command_rules_before ws) tt ∙ type_broken (fixed1_before (w 1)) (type_permitted_before (w 1)) _ _ no-type

    pub four_placed : (ps qs : List Rule) → Each Later ps → Each Later qs → judged (ps ++ command_rules neither ws) ≡ judged (qs ++ command_rules_before ws)
    four_placed ps qs lp lq =
        judged_append ps (command_rules neither ws)
        ∙ ap (earlier (judged ps)) four_now
        ∙ overruled (fixed1_before (w 1)) ps lp
        ∙ sym (judged_append qs (command_rules_before ws) ∙ ap (earlier (judged qs)) four_before ∙ overruled (fixed1_before (w 1)) qs lq)

  -- Every command is answered as it was.
  pub as_before : judged (command_rules neither ws) ≡ judged (command_rules_before ws)
  as_before = by (eqb (kind_in (w 1)) 4) refl
    where
      by : (x : Bool) → eqb (kind_in (w 1)) 4 ≡ x → judged (command_rules neither ws) ≡ judged (command_rules_before ws)
      by true e = let four = eqb-true (kind_in (w 1)) 4 e in four_now four ∙ sym (four_before four)
      by false e = ap judged (same_rules e)

  -- One that is kept says what it said.
  pub said_before : judged (command_rules neither ws) ≡ Accepted → macroblock_of ws ≡ macroblock_before ws
  unfolding macroblock_of
  said_before k = by-kind (eqb (kind_in (w 1)) 4) refl
    where
      by-dct : (x : Bool) → is_set (bits (w 1) 15 15) ≡ x → macroblock_of ws ≡ without_dct (macroblock_of ws)
      by-dct true e = absurd (no (dct_allowed neither ws k e))
      by-dct false e = ap (with_dct (macroblock_of ws)) e

      by-kind : (x : Bool) → eqb (kind_in (w 1)) 4 ≡ x → macroblock_of ws ≡ macroblock_before ws
      by-kind true e = absurd (no (field_allowed neither ws k (field_case (motion_in ws) ∙ e)))
      by-kind false e = by-dct (is_set (bits (w 1) 15 15)) refl ∙ same_said e
