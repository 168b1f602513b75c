-- Parts of records: a record among others, and how large the number of a part can be.
use mathlib.Core.Path.{◌≡◌, refl, sym, ap, ap₂, subst, ◌∙◌}
use mathlib.Core.List.{List, [], ◌∷◌}
use Prim.Native.Nat.{ℕ, zero, suc, ◌+◌, ◌*◌, ◌^◌, ◌<◌, ◌≤◌}
use native.Mathlib.Nat.{pow-suc}
use native.Mathlib.Omega.{arith}
use lib.ListN.{length, get_or, take, drop}
use lib.Seq.{get_or-take, get_or-drop}
use Rattle.fields.specs.Bytes.{number_in, elements, Bytes}
use Rattle.fields.specs.Parts.{Part, part, value_at, record_at}

-- elements of a part of a list
elements_there : (n m : ℕ) (xs : List ℕ) (i k : ℕ) → i + k ≤ n → elements (take n (drop m xs)) i k ≡ elements xs (m + i) k
elements_there n m xs i zero h = refl
elements_there n m xs i (suc k) h =
    let next : m + suc i ≡ suc (m + i) = omega arith in
    ap₂ (λ (y : ℕ) (ys : List ℕ). y ∷ ys)
    (get_or-take n (drop m xs) i 0 (omega arith) ∙ get_or-drop m xs i 0)
    (elements_there n m xs (suc i) k (omega arith) ∙ ap (λ (j : ℕ). elements xs j k) next)

-- A part of the k-th record, in all of the bytes.
pub value_there : (n : ℕ) (bytes : List ℕ) (k : ℕ) (p : Part) → p.first + p.count ≤ n
    → value_at p (record_at n bytes k) ≡ value_at (part (n * k + p.first) p.count) bytes
value_there n bytes k p h = ap number_in (elements_there n (n * k) bytes p.first p.count h)

-- every element of some bytes is a byte
byte_lt : (bs : List ℕ) → Bytes bs → (i : ℕ) → get_or bs i 0 < 256
byte_lt [] h i = omega arith
byte_lt (b ∷ bs) h zero = h.0
byte_lt (b ∷ bs) h (suc i) = byte_lt bs h.1 i

pub part_bytes : (bs : List ℕ) → Bytes bs → (i k : ℕ) → Bytes (elements bs i k)
part_bytes bs h i zero = tt
part_bytes bs h i (suc k) = (byte_lt bs h i, part_bytes bs h (suc i) k)

-- The number of bytes is below what they can hold.
pub number_lt : (bs : List ℕ) → Bytes bs → number_in bs < 256 ^ length bs
number_lt [] h = omega arith
number_lt (b ∷ bs) h =
    let up = number_lt bs h.1 in
    let low = h.0 in
    subst (λ (x : ℕ). b + 256 * number_in bs < x) (sym (pow-suc 256 (length bs))) (joined b (number_in bs) (256 ^ length bs) low up)
  where
    joined : (b n p : ℕ) → b < 256 → n < p → b + 256 * n < p * 256
    joined b n p hb hn = omega arith
