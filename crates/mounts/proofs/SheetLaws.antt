-- Records of sheets: a sheet and its record give each other back, and a record among others.
use mathlib.Core.Path.{◌≡◌, refl, sym, ap, ◌∙◌}
use mathlib.Core.Bool.{true, ◌&&◌}
use mathlib.Core.List.{List, [], ◌∷◌}
use Prim.Native.Nat.{ℕ, suc, ◌+◌, ◌*◌, ◌%◌, ◌^◌, ◌<◌}
use native.Mathlib.Omega.{arith}
use borrow.Author.Tests.{eqb-true, eq-eqb}
use lib.Dec.{eqb}
use lib.ListN.{length, get_or}
use Rattle.lists.proofs.Booleans.{and_left, and_right, both_true, same}
use Rattle.fields.specs.Bytes.{bytes_of, number_in, elements, Bytes}
use Rattle.fields.specs.Parts.{value_at}
use Rattle.fields.proofs.Elements.{elements_all}
use Rattle.fields.proofs.LittleEndian.{bytes_back, number_back}
use Rattle.fields.proofs.PartLaws.{value_there, part_bytes, number_lt}
use Rattle.mounts.specs.Layout.{boat_part, edition_part, side_part, sheet_filler_part}
use Rattle.mounts.specs.Sheets.{sheet, sheet_record, sheet_in, stored, sheet_at}
use Rattle.mounts.specs.declared.Sheet.{Sheet}

pub same_sheet : {b e s b' e' s' : ℕ} → b ≡ b' → e ≡ e' → s ≡ s' → sheet b e s ≡ sheet b' e' s'
same_sheet eb ee es = cc

pub record_length_lem : (s : Sheet) → length (sheet_record s) ≡ 16
unfolding sheet_record
record_length_lem s = refl

-- A sheet of 32-bit numbers and a byte comes back from its record.
pub sheet_back : (s : Sheet) → s.boat < 2 ^ 32 → s.edition < 2 ^ 32 → s.side < 256 → sheet_in (sheet_record s) ≡ s
unfolding sheet_record
sheet_back s hb he hs = same_sheet (number_back 4 s.boat hb) (number_back 4 s.edition he) (number_back 1 s.side hs)

pub filler_zero : (s : Sheet) → value_at sheet_filler_part (sheet_record s) ≡ 0
unfolding sheet_record
filler_zero s = refl

-- The bytes of a record, one by one.
pub record_listed : (s : Sheet) (bs es : List ℕ) → bs ≡ bytes_of 4 s.boat → es ≡ bytes_of 4 s.edition → s.side < 256
    → ◌≡◌ {A = List ℕ}
    (get_or bs 0 0 ∷ get_or bs 1 0 ∷ get_or bs 2 0 ∷ get_or bs 3 0 ∷ get_or es 0 0 ∷ get_or es 1 0 ∷ get_or es 2 0 ∷ get_or es 3 0 ∷ s.side ∷ 0 ∷ 0 ∷ 0 ∷ 0 ∷ 0 ∷ 0 ∷ 0 ∷ [])
    (sheet_record s)
unfolding sheet_record
record_listed s bs es eb ee h = let side : s.side % 256 ≡ s.side = omega arith in rw (eb, ee, side) (refl)

-- Where the parts of record k stand in all of the bytes.
pub sheet_there : (bytes : List ℕ) (k : ℕ)
    → sheet_at bytes k
    ≡ sheet (number_in (elements bytes (16 * k + 0) 4)) (number_in (elements bytes (16 * k + 4) 4)) (number_in (elements bytes (16 * k + 8) 1))
sheet_there bytes k = same_sheet (value_there 16 bytes k boat_part (omega arith)) (value_there 16 bytes k edition_part (omega arith)) (value_there 16 bytes k side_part (omega arith))

pub filler_there : (bytes : List ℕ) (k : ℕ) → value_at sheet_filler_part (stored bytes k) ≡ number_in (elements bytes (16 * k + 9) 7)
filler_there bytes k = value_there 16 bytes k sheet_filler_part (omega arith)

-- The filler is zero if its first three bytes are, and the number in its last four.
zero_each : (b0 b1 b2 n : ℕ) → (eqb b0 0 && eqb b1 0 && eqb b2 0 && eqb n 0) ≡ eqb (b0 + 256 * (b1 + 256 * (b2 + 256 * n))) 0
zero_each b0 b1 b2 n = same (eqb b0 0 && eqb b1 0 && eqb b2 0 && eqb n 0) (eqb (b0 + 256 * (b1 + 256 * (b2 + 256 * n))) 0) there back
  where
    there : (eqb b0 0 && eqb b1 0 && eqb b2 0 && eqb n 0) ≡ true → eqb (b0 + 256 * (b1 + 256 * (b2 + 256 * n))) 0 ≡ true
    there e =
        let three = and_left (eqb b0 0 && eqb b1 0 && eqb b2 0) (eqb n 0) e in
        let two = and_left (eqb b0 0 && eqb b1 0) (eqb b2 0) three in
        let e0 = eqb-true b0 0 (and_left (eqb b0 0) (eqb b1 0) two) in
        let e1 = eqb-true b1 0 (and_right (eqb b0 0) (eqb b1 0) two) in
        let e2 = eqb-true b2 0 (and_right (eqb b0 0 && eqb b1 0) (eqb b2 0) three) in
        let e3 = eqb-true n 0 (and_right (eqb b0 0 && eqb b1 0 && eqb b2 0) (eqb n 0) e) in
        eq-eqb (b0 + 256 * (b1 + 256 * (b2 + 256 * n))) 0 (omega arith)

    back : eqb (b0 + 256 * (b1 + 256 * (b2 + 256 * n))) 0 ≡ true → (eqb b0 0 && eqb b1 0 && eqb b2 0 && eqb n 0) ≡ true
    back e =
        let z = eqb-true (b0 + 256 * (b1 + 256 * (b2 + 256 * n))) 0 e in
        both_true (both_true (both_true (eq-eqb b0 0 (omega arith)) (eq-eqb b1 0 (omega arith))) (eq-eqb b2 0 (omega arith))) (eq-eqb n 0 (omega arith))

pub zero_filler_lem : (bytes : List ℕ) (k n : ℕ) → n ≡ number_in (elements bytes (16 * k + 12) 4)
    → (eqb (get_or bytes (16 * k + 9) 0) 0 && eqb (get_or bytes (16 * k + 10) 0) 0 && eqb (get_or bytes (16 * k + 11) 0) 0 && eqb n 0)
    ≡ eqb (value_at sheet_filler_part (stored bytes k)) 0
zero_filler_lem bytes k n e =
    let at = 16 * k in
    let e1 : at + 10 ≡ suc (at + 9) = omega arith in
    let e2 : at + 11 ≡ suc (suc (at + 9)) = omega arith in
    let e3 : at + 12 ≡ suc (suc (suc (at + 9))) = omega arith in
    let sum = get_or bytes (at + 9) 0 + 256 * (get_or bytes (at + 10) 0 + 256 * (get_or bytes (at + 11) 0 + 256 * n)) in
    let all : sum ≡ number_in (elements bytes (at + 9) 7) = rw (e, e1, e2, e3) (refl) in
    zero_each (get_or bytes (at + 9) 0) (get_or bytes (at + 10) 0) (get_or bytes (at + 11) 0) n ∙ ap (λ (x : ℕ). eqb x 0) (all ∙ sym (filler_there bytes k))

same_bytes : {b0 b1 b2 b3 b4 b5 b6 b7 b8 s z9 z10 z11 z12 z13 z14 z15 : ℕ} → s ≡ b8 → z9 ≡ 0 → z10 ≡ 0 → z11 ≡ 0 → z12 ≡ 0 → z13 ≡ 0 → z14 ≡ 0 → z15 ≡ 0
    → ◌≡◌ {A = List ℕ}
    (b0 ∷ b1 ∷ b2 ∷ b3 ∷ b4 ∷ b5 ∷ b6 ∷ b7 ∷ s ∷ 0 ∷ 0 ∷ 0 ∷ 0 ∷ 0 ∷ 0 ∷ 0 ∷ [])
    (b0 ∷ b1 ∷ b2 ∷ b3 ∷ b4 ∷ b5 ∷ b6 ∷ b7 ∷ b8 ∷ z9 ∷ z10 ∷ z11 ∷ z12 ∷ z13 ∷ z14 ∷ z15 ∷ [])
same_bytes es e9 e10 e11 e12 e13 e14 e15 = cc

-- A record with zero filler comes back from its sheet, all its bytes.
pub record_again : (r : List ℕ) → Bytes r → length r ≡ 16 → value_at sheet_filler_part r ≡ 0 → sheet_record (sheet_in r) ≡ r
record_again r h n z =
    let four : (i : ℕ) → elements r i 4 ≡ bytes_of 4 (number_in (elements r i 4)) = λ i. sym (bytes_back (elements r i 4) (part_bytes r h i 4)) in
    let one : number_in (elements r 8 1) ≡ get_or r 8 0 = omega arith in
    let side = number_lt (elements r 8 1) (part_bytes r h 8 1) in
    let e9 : get_or r 9 0 ≡ 0 = omega (arith, z) in
    let e10 : get_or r 10 0 ≡ 0 = omega (arith, z) in
    let e11 : get_or r 11 0 ≡ 0 = omega (arith, z) in
    let e12 : get_or r 12 0 ≡ 0 = omega (arith, z) in
    let e13 : get_or r 13 0 ≡ 0 = omega (arith, z) in
    let e14 : get_or r 14 0 ≡ 0 = omega (arith, z) in
    let e15 : get_or r 15 0 ≡ 0 = omega (arith, z) in
    sym (record_listed (sheet_in r) (elements r 0 4) (elements r 4 4) (four 0) (four 4) side)
    ∙ same_bytes one e9 e10 e11 e12 e13 e14 e15
    ∙ elements_all r 16 n
