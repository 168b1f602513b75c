-- A macroblock's case, its kind and its vector words.
-- To be believed: kinds, vectors and copies. A case and its numbers undo each other, by `case_back` (proofs/CaseLaws.antt).
use Rattle.std.specs.Prelude.{ℕ, Bool, true, false, cond, List, [], ◌∷◌, eqb}
use Rattle.prediction.specs.Vectors.{vector_of, word_of}
use Rattle.macroblock.specs.declared.Prediction.TheVariants.{Forward, Backward, Both, Field}
use Rattle.macroblock.specs.declared.Case.{Case}
use Rattle.macroblock.specs.declared.Case.TheVariants.{Intra, Inter}
use Rattle.macroblock.specs.declared.Motion.{Motion}

-- Document 01: "kind (0 intra, 1 forward, 2 backward, 3 both)"; document 02: "kind 4 (field forward)". A number that is no kind is
-- taken as intra here; rules refuse it.
abbrev pub by_kind : {A : Type 0} → ℕ → A → A → A → A → A → A
by_kind kind intra forward backward both fields =
    cond (eqb kind 1) forward (cond (eqb kind 2) backward (cond (eqb kind 3) both (cond (eqb kind 4) fields intra)))

-- Kind, the words of the forward, the backward and the bottom field's vector, and the choices of the top and the bottom field.
abbrev pub motion : ℕ → ℕ → ℕ → ℕ → Bool → Bool → Motion
motion k f b s i j =
    record { kind = k; forward = f; backward = b; bottom = s; top_from_bottom = i; bottom_from_bottom = j }

-- "that is forward, backward or both, with the vectors it has and no others"; document 02: field prediction has "the top field's vector"
-- and "the bottom's", and chooses "the reference field for the two"
unfoldable pub motion_of : Case → Motion
motion_of Intra = motion 0 0 0 0 false false
motion_of (Inter (Forward f)) = motion 1 (word_of f) 0 0 false false
motion_of (Inter (Backward b)) = motion 2 0 (word_of b) 0 false false
motion_of (Inter (Both f b)) = motion 3 (word_of f) (word_of b) 0 false false
motion_of (Inter (Field t b i j)) = motion 4 (word_of t) 0 (word_of b) i j

unfoldable pub case_of : Motion → Case
case_of m =
    by_kind m.kind
    Intra
    (Inter (Forward (vector_of m.forward)))
    (Inter (Backward (vector_of m.backward)))
    (Inter (Both (vector_of m.forward) (vector_of m.backward)))
    (Inter (Field (vector_of m.forward) (vector_of m.bottom) m.top_from_bottom m.bottom_from_bottom))

abbrev pub is_field : Case → Bool
is_field Intra = false
is_field (Inter (Forward f)) = false
is_field (Inter (Backward b)) = false
is_field (Inter (Both f b)) = false
is_field (Inter (Field t b i j)) = true

-- Words 5 to 8. Document 01: "A missing vector is a copy: intra, all zero; forward only or backward only, all four equal;
-- both, 7 = 5 and 8 = 6." Document 02, of type 04h: "Word 5 is the top field's vector, word 7 the bottom's, 6 and 8 copy 5".
unfoldable pub vector_words : Motion → List ℕ
vector_words m =
    by_kind m.kind
    (0 ∷ 0 ∷ 0 ∷ 0 ∷ [])
    (m.forward ∷ m.forward ∷ m.forward ∷ m.forward ∷ [])
    (m.backward ∷ m.backward ∷ m.backward ∷ m.backward ∷ [])
    (m.forward ∷ m.backward ∷ m.forward ∷ m.backward ∷ [])
    (m.forward ∷ m.forward ∷ m.bottom ∷ m.forward ∷ [])
