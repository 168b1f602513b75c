-- Packed words: what each field reads, and when a word is the packed one.
use mathlib.Core.Path.{◌≡◌, refl, sym, ap, ap₂, subst, subst₂, ◌∙◌}
use mathlib.Core.Bool.{Bool, true, false, cond, ◌&&◌, ◌||◌}
use mathlib.Core.List.{List, [], ◌∷◌}
use Prim.Native.Nat.{ℕ, ◌+◌, ◌/◌, ◌%◌, ◌^◌, ◌<◌}
use native.Mathlib.Nat.{div-eq_of_lt, mod-eq_of_lt, mod-lt, mod-one}
use native.Mathlib.Omega.{arith}
use lib.Dec.{T, eqb, leb, ltb, eqb→eq, leb→le, ltb→lt}
use lib.Pow.{pow_pos}
use Rattle.lists.proofs.Booleans.{both}
use Rattle.fields.specs.Word.{Field, width, bits, with_bits, packed}
use Rattle.fields.proofs.Fields.{packed_back, field_kept, with_bits_lt, agree_up, same_below_32}
use Rattle.fields.specs.Pieces.{value_in, clear, Piece, tiles, Agree}

is_true : (a : Bool) → a ≡ true → T a
is_true a e = subst T (sym e) tt

pub packed_field : (fs : List Field) (h l : ℕ) → T (clear fs h l) → bits (packed fs) h l ≡ value_in fs h l
packed_field [] h l t = ap (λ (x : ℕ). x % 2 ^ width h l) (div-eq_of_lt (pow_pos l)) ∙ mod-eq_of_lt (pow_pos (width h l))
packed_field (f ∷ fs) h l t = by (packed_field fs h l) (eqb h f.hi && eqb l f.lo) refl t
  where
    by : (T (clear fs h l) → bits (packed fs) h l ≡ value_in fs h l)
        → (b : Bool)
        → (eqb h f.hi && eqb l f.lo) ≡ b
        → T (cond b true ((ltb h f.lo || ltb f.hi l) && clear fs h l))
        → bits (with_bits (packed fs) f.hi f.lo f.value) h l ≡ cond b (f.value % 2 ^ width h l) (value_in fs h l)
    by rest true e u =
        let same = both (eqb h f.hi) (eqb l f.lo) (is_true _ e) in
        subst₂ (λ (x y : ℕ). bits (with_bits (packed fs) f.hi f.lo f.value) x y ≡ f.value % 2 ^ width x y)
        (sym (eqb→eq _ _ same.0))
        (sym (eqb→eq _ _ same.1))
        (packed_back (packed fs) f.hi f.lo f.value).0
    by rest false e u =
        let apart = both (ltb h f.lo || ltb f.hi l) (clear fs h l) u in
        field_kept (packed fs) f.hi f.lo f.value h l apart.0 ∙ rest apart.1

-- A packed word is a word.
pub packed_lt : (fs : List Field) → packed fs < 2 ^ 32
packed_lt [] = omega arith
packed_lt (f ∷ fs) = with_bits_lt (packed fs) f.hi f.lo f.value (packed_lt fs)

module _ (fs : List Field) (w : ℕ) where
  from : (ps : List Piece) (k : ℕ) → T (tiles fs k ps) → Agree fs w ps → packed fs % 2 ^ k ≡ w % 2 ^ k → packed fs % 2 ^ 32 ≡ w % 2 ^ 32
  from [] k t a e = subst (λ (x : ℕ). packed fs % 2 ^ x ≡ w % 2 ^ x) (eqb→eq _ _ t) e
  from (p ∷ ps) k t a e =
      let t1 = both (eqb k p.lo) _ t in
      let t2 = both (leb p.lo p.hi) _ t1.1 in
      let t3 = both (ltb p.hi 32) _ t2.1 in
      let t4 = both (clear fs p.hi p.lo) _ t3.1 in
      let below = subst (λ (x : ℕ). packed fs % 2 ^ x ≡ w % 2 ^ x) (eqb→eq _ _ t1.0) e in
      from ps (p.hi + 1) t4.1 a.1
      (agree_up (packed fs) w p.hi p.lo (leb→le _ _ t2.0) (ltb→lt _ _ t3.0) below (packed_field fs p.hi p.lo t4.0 ∙ a.0))

  -- A word is the packed one where it has, in each of the pieces that make it up, what the fields put there.
  pub packed_is : (ps : List Piece) → w < 2 ^ 32 → T (tiles fs 0 ps) → Agree fs w ps → packed fs ≡ w
  packed_is ps h t a = same_below_32 (packed fs) w (packed_lt fs) h (from ps 0 t a (mod-one (packed fs) ∙ sym (mod-one w)))

-- A field holds no more than its bits.
pub bits_cut : (w hi lo : ℕ) → bits w hi lo % 2 ^ width hi lo ≡ bits w hi lo
bits_cut w hi lo = mod-eq_of_lt (mod-lt (w / 2 ^ lo) (pow_pos (width hi lo)))

-- Equal words and values pack alike.
pub same_put : {w w' v v' : ℕ} (hi lo : ℕ) → w ≡ w' → v ≡ v' → with_bits w hi lo v ≡ with_bits w' hi lo v'
same_put hi lo ew ev = ap₂ (λ (x y : ℕ). with_bits x hi lo y) ew ev
