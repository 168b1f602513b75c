-- Kinds and cases: four words for every case, and a case as numbers and back.
use mathlib.Core.Path.{◌≡◌, refl, sym, ap, ap₂, ◌∙◌}
use mathlib.Core.Bool.{Bool, true, false, cond, ◌&&◌}
use mathlib.Core.List.{List}
use Prim.Native.Nat.{ℕ, ◌%◌, ◌^◌, ◌<◌, ◌≤◌}
use native.Mathlib.Nat.{mod-eq_of_lt}
use native.Mathlib.Omega.{arith}
use borrow.Author.Tests.{eqb-true, eqb-false, leb-true, ne_eqb}
use lib.Dec.{eqb, leb}
use lib.ListN.{length}
use Rattle.lists.proofs.Booleans.{either, and_left, and_right}
use Rattle.fields.specs.Bytes.{elements}
use Rattle.fields.proofs.Elements.{elements_all}
use Rattle.prediction.specs.Vectors.{vector_of, word_of}
use Rattle.prediction.specs.declared.Vector.{Vector}
use Rattle.prediction.proofs.TwosComplement.{vector_back, vector_word_back, vector_fits, word_lt}
use Rattle.macroblock.specs.Cases.{by_kind, motion, motion_of, case_of, is_field, vector_words}
use Rattle.macroblock.specs.Legal.{CaseFits, Words}
use Rattle.fields.specs.Word.{is_set, flag}
use Rattle.headers.specs.Words.{word_at}
use Rattle.macroblock.specs.Macroblocks.{intra_type, type_of}
use Rattle.macroblock.specs.declared.Prediction.TheVariants.{Forward, Backward, Both, Field}
use Rattle.macroblock.specs.declared.Case.{Case}
use Rattle.macroblock.specs.declared.Case.TheVariants.{Intra, Inter}
use Rattle.macroblock.specs.declared.Motion.{Motion}

-- What holds of each of the five holds of any number; and what is made of the one that is chosen is chosen alike.
pub every_kind : {A : Type 0} (P : A → Type 0) (k : ℕ) (i f b t s : A) → P i → P f → P b → P t → P s → P (by_kind k i f b t s)
every_kind P k i f b t s pi pf pb pt ps =
    either P (eqb k 1) f _ pf (either P (eqb k 2) b _ pb (either P (eqb k 3) t _ pt (either P (eqb k 4) s i ps pi)))

pub each_kind : {A B : Type 0} (g : A → B) (k : ℕ) (i f b t s : A) → g (by_kind k i f b t s) ≡ by_kind k (g i) (g f) (g b) (g t) (g s)
each_kind g k i f b t s = by (eqb k 1) (eqb k 2) (eqb k 3) (eqb k 4)
  where
    by : (x y z u : Bool) → g (cond x f (cond y b (cond z t (cond u s i)))) ≡ cond x (g f) (cond y (g b) (cond z (g t) (cond u (g s) (g i))))
    by true y z u = refl
    by false true z u = refl
    by false false true u = refl
    by false false false true = refl
    by false false false false = refl

pub vectors_four : (m : Motion) → length (vector_words m) ≡ 4
unfolding vector_words
vectors_four m = every_kind (λ (ws : List ℕ). length ws ≡ 4) m.kind _ _ _ _ _ refl refl refl refl refl

pub vectors_listed : (m : Motion) → elements (vector_words m) 0 4 ≡ vector_words m
vectors_listed m = elements_all (vector_words m) 4 (vectors_four m)

-- The case of any numbers has vectors of sixteen bits.
pub case_fits : (m : Motion) → CaseFits (case_of m)
unfolding case_of
case_fits m =
    every_kind CaseFits m.kind _ _ _ _ _
    tt
    (vector_fits m.forward)
    (vector_fits m.backward)
    (vector_fits m.forward, vector_fits m.backward)
    (vector_fits m.forward, vector_fits m.bottom)

-- What numbers say, by their kind: 0 and false for those that it has not.
abbrev said_by : ℕ → ℕ → ℕ → ℕ → Bool → Bool → Motion
said_by k f b s i j =
    by_kind k
    (motion 0 0 0 0 false false)
    (motion 1 f 0 0 false false)
    (motion 2 0 b 0 false false)
    (motion 3 f b 0 false false)
    (motion 4 f 0 s i j)

abbrev pub said : Motion → Motion
said m = said_by m.kind m.forward m.backward m.bottom m.top_from_bottom m.bottom_from_bottom

-- The vectors of a motion are words.
abbrev pub MotionFits : Motion → Type 0
MotionFits m = (m.forward < 2 ^ 32) × (m.backward < 2 ^ 32) × (m.bottom < 2 ^ 32)

-- Numbers, from the case that they say; so the same words 5 to 8, the same kind, and the choices of a field prediction.
pub motion_again : (m : Motion) → MotionFits m → motion_of (case_of m) ≡ said m
unfolding case_of motion_of
motion_again m h =
    let i = m.top_from_bottom in
    let j = m.bottom_from_bottom in
    each_kind motion_of m.kind _ _ _ _ _
    ∙ ap₂ (λ (f b : ℕ). said_by m.kind f b (word_of (vector_of m.bottom)) i j) (vector_word_back m.forward h.0) (vector_word_back m.backward h.1)
    ∙ ap (λ (s : ℕ). said_by m.kind m.forward m.backward s i j) (vector_word_back m.bottom h.2)

pub vectors_again : (m : Motion) → MotionFits m → vector_words (motion_of (case_of m)) ≡ vector_words m
unfolding vector_words
vectors_again m h = ap vector_words (motion_again m h) ∙ each_kind vector_words m.kind _ _ _ _ _

pub kind_again : (m : Motion) → m.kind ≤ 4 → (motion_of (case_of m)).kind ≡ m.kind
unfolding case_of motion_of
kind_again m h =
    each_kind (λ (c : Case). (motion_of c).kind) m.kind _ _ _ _ _
    ∙ by (eqb m.kind 1) (eqb m.kind 2) (eqb m.kind 3) (eqb m.kind 4) refl refl refl refl
  where
    by : (x y z u : Bool) → eqb m.kind 1 ≡ x → eqb m.kind 2 ≡ y → eqb m.kind 3 ≡ z → eqb m.kind 4 ≡ u
        → cond x 1 (cond y 2 (cond z 3 (cond u 4 0))) ≡ m.kind
    by true y z u ex ey ez eu = sym (eqb-true m.kind 1 ex)
    by false true z u ex ey ez eu = sym (eqb-true m.kind 2 ey)
    by false false true u ex ey ez eu = sym (eqb-true m.kind 3 ez)
    by false false false true ex ey ez eu = sym (eqb-true m.kind 4 eu)
    by false false false false ex ey ez eu =
        omega (arith, eqb-false m.kind 1 ex, eqb-false m.kind 2 ey, eqb-false m.kind 3 ez, eqb-false m.kind 4 eu)

abbrev field_alone : ℕ → Bool → Bool
field_alone k i = by_kind k false false false false i

-- a choice that is there for field prediction alone
field_choice : (k : ℕ) (i : Bool) → field_alone k i ≡ (eqb k 4 && i)
field_choice k i = by (eqb k 1) (eqb k 2) (eqb k 3) (eqb k 4) refl refl refl refl
  where
    other : (n : ℕ) → eqb k n ≡ true → eqb n 4 ≡ false → (eqb k 4 && i) ≡ false
    other n e f = ap (λ (x : Bool). x && i) (ap (λ (x : ℕ). eqb x 4) (eqb-true k n e) ∙ f)

    by : (x y z u : Bool) → eqb k 1 ≡ x → eqb k 2 ≡ y → eqb k 3 ≡ z → eqb k 4 ≡ u
        → cond x false (cond y false (cond z false (cond u i false))) ≡ (eqb k 4 && i)
    by true y z u ex ey ez eu = sym (other 1 ex refl)
    by false true z u ex ey ez eu = sym (other 2 ey refl)
    by false false true u ex ey ez eu = sym (other 3 ez refl)
    by false false false true ex ey ez eu = sym (ap (λ (x : Bool). x && i) eu)
    by false false false false ex ey ez eu = sym (ap (λ (x : Bool). x && i) eu)

pub top_again : (m : Motion) → (motion_of (case_of m)).top_from_bottom ≡ (eqb m.kind 4 && m.top_from_bottom)
unfolding case_of motion_of
top_again m = each_kind (λ (c : Case). (motion_of c).top_from_bottom) m.kind _ _ _ _ _ ∙ field_choice m.kind m.top_from_bottom

pub bottom_again : (m : Motion) → (motion_of (case_of m)).bottom_from_bottom ≡ (eqb m.kind 4 && m.bottom_from_bottom)
unfolding case_of motion_of
bottom_again m = each_kind (λ (c : Case). (motion_of c).bottom_from_bottom) m.kind _ _ _ _ _ ∙ field_choice m.kind m.bottom_from_bottom

pub field_case : (m : Motion) → is_field (case_of m) ≡ eqb m.kind 4
unfolding case_of
field_case m = each_kind is_field m.kind _ _ _ _ _ ∙ field_choice m.kind true ∙ and-true (eqb m.kind 4)
  where
    and-true : (x : Bool) → (x && true) ≡ x
    and-true true = refl
    and-true false = refl

-- The kind of a case is one of the five, and 4 exactly where it is field predicted.
pub kind_most : (c : Case) → (motion_of c).kind ≤ 4
unfolding motion_of
kind_most Intra = omega arith
kind_most (Inter (Forward f)) = omega arith
kind_most (Inter (Backward b)) = omega arith
kind_most (Inter (Both f b)) = omega arith
kind_most (Inter (Field t b i j)) = omega arith

pub field_kind : (c : Case) → eqb (motion_of c).kind 4 ≡ is_field c
unfolding motion_of
field_kind Intra = refl
field_kind (Inter (Forward f)) = refl
field_kind (Inter (Backward b)) = refl
field_kind (Inter (Both f b)) = refl
field_kind (Inter (Field t b i j)) = refl

-- A case, from its kind and its own words, 0 for one that it has not.
pub case_back : (c : Case) → CaseFits c → case_of (motion_of c) ≡ c
unfolding case_of motion_of
case_back Intra h = refl
case_back (Inter (Forward f)) h = ap (λ (v : Vector). Inter (Forward v)) (vector_back f h.0 h.1)
case_back (Inter (Backward b)) h = ap (λ (v : Vector). Inter (Backward v)) (vector_back b h.0 h.1)
case_back (Inter (Both f b)) h = ap₂ (λ (v w : Vector). Inter (Both v w)) (vector_back f h.0.0 h.0.1) (vector_back b h.1.0 h.1.1)
case_back (Inter (Field t b i j)) h = ap₂ (λ (v w : Vector). Inter (Field v w i j)) (vector_back t h.0.0 h.0.1) (vector_back b h.1.0 h.1.1)

-- A case's kind and choices, with its words 5 to 7 as they stand in the command: they say the same case and the same words 5 to 8.
abbrev pub placed : Case → Motion
placed c =
    motion (motion_of c).kind
    (word_at (vector_words (motion_of c)) 0)
    (word_at (vector_words (motion_of c)) 1)
    (word_at (vector_words (motion_of c)) 2)
    (motion_of c).top_from_bottom
    (motion_of c).bottom_from_bottom

pub case_again : (c : Case) → CaseFits c → case_of (placed c) ≡ c
unfolding case_of motion_of vector_words
case_again c h = same c ∙ case_back c h
  where
    same : (d : Case) → case_of (placed d) ≡ case_of (motion_of d)
    same Intra = refl
    same (Inter (Forward f)) = refl
    same (Inter (Backward b)) = refl
    same (Inter (Both f b)) = refl
    same (Inter (Field t b i j)) = refl

pub copies_again : (c : Case) → vector_words (placed c) ≡ vector_words (motion_of c)
unfolding motion_of vector_words
copies_again Intra = refl
copies_again (Inter (Forward f)) = refl
copies_again (Inter (Backward b)) = refl
copies_again (Inter (Both f b)) = refl
copies_again (Inter (Field t b i j)) = refl

-- The numbers of a case are words, and so are its words 5 to 8.
pub motion_lt : (c : Case) → CaseFits c → MotionFits (motion_of c)
unfolding motion_of
motion_lt Intra h = (omega arith, omega arith, omega arith)
motion_lt (Inter (Forward f)) h = (word_lt f h.0, omega arith, omega arith)
motion_lt (Inter (Backward b)) h = (omega arith, word_lt b h.0, omega arith)
motion_lt (Inter (Both f b)) h = (word_lt f h.0.0, word_lt b h.1.0, omega arith)
motion_lt (Inter (Field t b i j)) h = (word_lt t h.0.0, omega arith, word_lt b h.1.0)

pub vectors_words : (c : Case) → CaseFits c → Words (vector_words (motion_of c))
unfolding vector_words
vectors_words c h =
    let m = motion_of c in
    let l = motion_lt c h in
    let zero : 0 < 2 ^ 32 = omega arith in
    every_kind Words m.kind _ _ _ _ _
    (zero, (zero, (zero, (zero, tt))))
    (l.0, (l.0, (l.0, (l.0, tt))))
    (l.1, (l.1, (l.1, (l.1, tt))))
    (l.0, (l.1, (l.0, (l.1, tt))))
    (l.0, (l.0, (l.2, (l.0, tt))))

-- The intra bit and the type of word 1, where they are permitted, are those of its kind, which is then one of the five.
pub type_back : (i t : ℕ)
    → i < 2
    → cond (is_set i) (eqb t intra_type) (leb 1 t && leb t 4) ≡ true
    → (type_of (cond (is_set i) 0 t) % 32 ≡ t) × (flag (eqb (cond (is_set i) 0 t) 0) % 2 ≡ i) × (cond (is_set i) 0 t ≤ 4)
type_back i t h p = by (is_set i) refl p
  where
    of : ℕ → Type 0
    of k = (type_of k % 32 ≡ t) × (flag (eqb k 0) % 2 ≡ i) × (k ≤ 4)

    by : (x : Bool) → is_set i ≡ x → cond x (eqb t intra_type) (leb 1 t && leb t 4) ≡ true → of (cond x 0 t)
    by true e q = (sym (eqb-true t intra_type q), sym (eqb-true i 1 e), omega arith)
    by false e q =
        let least = leb-true 1 t (and_left (leb 1 t) (leb t 4) q) in
        let most = leb-true t 4 (and_right (leb 1 t) (leb t 4) q) in
        let inter = ne_eqb t 0 (omega arith) in
        let low : 0 ≡ i = omega (arith, eqb-false i 1 e) in
        (ap (λ (x : Bool). cond x intra_type t % 32) inter ∙ mod-eq_of_lt (omega arith), ap (λ (x : Bool). flag x % 2) inter ∙ low, most)
