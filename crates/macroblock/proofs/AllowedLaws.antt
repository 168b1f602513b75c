-- What is allowed: a command that keeps its rules in a picture keeps them alone, and uses no more than the picture allows.
use mathlib.Core.Path.{◌≡◌, refl, sym, ap, subst, ◌∙◌}
use mathlib.Core.Bool.{Bool, true, false, cond, not, ◌&&◌, ◌||◌}
use mathlib.Core.List.{List}
use Prim.Native.Nat.{ℕ}
use native.Mathlib.Omega.{arith}
use borrow.Author.Tests.{eqb-true, ne_eqb, leb-true, le-leb}
use lib.Dec.{eqb, leb}
use Rattle.lists.proofs.Booleans.{and_left, and_right, both_true}
use Rattle.fields.specs.Word.{bits, is_set, flag, has_bits, zero_bits}
use Rattle.headers.specs.Words.{word_at}
use Rattle.answers.specs.Answers.{judged, holds_at, Accepted}
use Rattle.answers.proofs.Judging.{all_hold, none_broken, hold_both, hold_each, rule_kept}
use Rattle.macroblock.specs.Cases.{is_field}
use Rattle.macroblock.specs.Macroblocks.{intra_type, kind_in, motion_in, macroblock_of}
use Rattle.macroblock.specs.Rules.{kept_by, alone, type_permitted, field_in, fixed4, field_rules, vector_rules, command_rules}
use Rattle.macroblock.specs.declared.Allowed.{Allowed}
use Rattle.macroblock.specs.declared.Kept.{Kept}
use Rattle.macroblock.proofs.CaseLaws.{field_case}

-- A type up to 3, or up to 4 where that is allowed.
module _ (a : Allowed) (w : ℕ) (h : type_permitted a w ≡ true) where
  abbrev t : ℕ
  t = bits w 12 8

  type_alone : type_permitted alone w ≡ true
  type_alone = by (is_set (bits w 13 13)) a.field h
    where
      by : (x f : Bool) → cond x (eqb t intra_type) (leb 1 t && leb t (cond f 4 3)) ≡ true → cond x (eqb t intra_type) (leb 1 t && leb t 4) ≡ true
      by true f e = e
      by false true e = e
      by false false e =
          let most = leb-true t 3 (and_right (leb 1 t) (leb t 3) e) in
          both_true (and_left (leb 1 t) (leb t 3) e) (le-leb t 4 (omega arith))

  -- where it is permitted at all, type 04h is allowed
  field_known : field_in a w ≡ eqb (kind_in w) 4
  field_known = by (is_set (bits w 13 13)) a.field h
    where
      by : (x f : Bool) → cond x (eqb t intra_type) (leb 1 t && leb t (cond f 4 3)) ≡ true → (f && eqb (cond x 0 t) 4) ≡ eqb (cond x 0 t) 4
      by x true e = refl
      by true false e = refl
      by false false e =
          let most = leb-true t 3 (and_right (leb 1 t) (leb t 3) e) in
          sym (ne_eqb t 4 (omega arith))

-- What a picture allows, a command read alone may use.
free_alone : (z d s : Bool) → (z || (d && s)) ≡ true → (z || s) ≡ true
free_alone true d s e = refl
free_alone false d s e = and_right d s e

module _ (a : Allowed) (ws : List ℕ) (k : judged (command_rules a ws) ≡ Accepted) where
  abbrev w : ℕ → ℕ
  w i = word_at ws i

  -- a rule of the command, by its number and word
  held : (n i : ℕ) → holds_at n i (command_rules a ws) ≡ true
  held n i = rule_kept n i (command_rules a ws) k

  abbrev kept : Kept
  kept = kept_by (macroblock_of ws)

  permitted : type_permitted a (w 1) ≡ true
  unfolding command_rules field_rules
  permitted = and_left (type_permitted a (w 1)) kept.intra_not_skipped (held 5 1)

  abbrev others : Bool → Bool
  others f = has_bits (w 1) 14 14 (flag f) && (zero_bits (w 1) 7 3 && has_bits (w 1) 1 0 (flag f))

  fixed : ((zero_bits (w 1) 15 15 || (a.dct_type && not (is_set (bits (w 1) 2 2)))) ≡ true) × (others (field_in a (w 1)) ≡ true)
  unfolding command_rules field_rules
  fixed =
      let dct = zero_bits (w 1) 15 15 || (a.dct_type && not (is_set (bits (w 1) 2 2))) in
      (and_left dct (others (field_in a (w 1))) (held 4 1), and_right dct (others (field_in a (w 1))) (held 4 1))

  -- A command that is kept where this is allowed is kept alone.
  pub kept_alone : judged (command_rules alone ws) ≡ Accepted
  unfolding command_rules field_rules
  kept_alone =
      let known = field_known a (w 1) permitted in
      let dct = free_alone (zero_bits (w 1) 15 15) a.dct_type (not (is_set (bits (w 1) 2 2))) fixed.0 in
      let first = both_true dct (subst (λ (f : Bool). others f ≡ true) known fixed.1) in
      let typed = both_true (type_alone a (w 1) permitted) (and_right (type_permitted a (w 1)) kept.intra_not_skipped (held 5 1)) in
      let fourth = subst (λ (f : Bool). fixed4 f (w 4) ≡ true) known (held 4 4) in
      let vectors = (hold_each (field_rules a kept ws) (vector_rules ws) (all_hold (command_rules a ws) k)).1 in
      none_broken (command_rules alone ws)
      (hold_both (field_rules alone kept ws) (vector_rules ws) (first, (typed, (held 11 1, (held 4 3, (held 5 3, (fourth, (held 5 4, tt))))))) vectors)

  -- It is field predicted, or has a field dct type, only where that is allowed; and the dct type is not skipped.
  pub field_allowed : is_field (macroblock_of ws).case ≡ true → a.field ≡ true
  unfolding macroblock_of
  field_allowed e = and_left a.field (eqb (kind_in (w 1)) 4) (field_known a (w 1) permitted ∙ sym (field_case (motion_in ws)) ∙ e)

  pub dct_allowed : (macroblock_of ws).dct_type ≡ true → (a.dct_type && not (macroblock_of ws).skip) ≡ true
  unfolding macroblock_of
  dct_allowed e =
      let one = ap (λ (x : ℕ). eqb x 0) (eqb-true (bits (w 1) 15 15) 1 e) in
      subst (λ (x : Bool). (x || (a.dct_type && not (is_set (bits (w 1) 2 2)))) ≡ true) one fixed.0
