-- Parts of a list, as slices are lent and filled; lists of one length, one behind the other.
use mathlib.Core.List.{List, [], ◌∷◌, ◌++◌, append-nil, append_assoc, flatten, foldl, foldl-append, map}
use mathlib.Core.Path.{◌≡◌, refl, sym, ap, ap₂, ◌∙◌}
use Prim.Native.Nat.{ℕ, zero, suc, ◌+◌, ◌*◌, ◌-◌, ◌≤◌, ◌<◌}
use native.Mathlib.Nat.{mul-zero, mul-suc}
use native.Mathlib.Omega.{arith}
use borrow.Rule.Slice.PartMut.{put_mid, Post-is}
use lib.ListN.{length, get_or, take, drop, length-append, length-drop, take-append-drop}
use lib.Seq.{length-take-le, take_all, take_at, drop_at, drop-drop, drop-length}

-- a list of no elements
pub no_length : {A : Type 0} (xs : List A) → length xs ≡ 0 → xs ≡ []
no_length [] e = refl
no_length (x ∷ xs) e = absurd (let h : suc (length xs) ≡ 0 = e in omega arith)

-- the part from the beginning, and the part to the end
pub part_zero : (m : ℕ) (xs : List ℕ) → take (m - 0) (drop 0 xs) ≡ take m xs
part_zero m xs = let e : m - 0 ≡ m = omega arith in ap (λ (k : ℕ). take k xs) e

pub part_rest : (at : ℕ) (xs : List ℕ) → take (length xs - at) (drop at xs) ≡ drop at xs
part_rest at xs = let left = length-drop at xs in take_all (length xs - at) (drop at xs) (omega arith)

-- The part to the end was lent, and is put back: what stands before it stays.
pub part_back : (at : ℕ) (xs part : List ℕ) → at ≤ length xs → put_mid at (length xs - at) xs part ≡ take at xs ++ part
part_back at xs part l =
    ap (λ (z : List ℕ). take at xs ++ (part ++ z)) (Post-is at (length xs) xs l ∙ drop-length xs)
    ∙ ap (λ (z : List ℕ). take at xs ++ z) (append-nil part)

-- the same part by equal numbers
pub same_part : (xs : List ℕ) {n m i j : ℕ} → n ≡ m → i ≡ j → take n (drop i xs) ≡ take m (drop j xs)
same_part xs e f = ap₂ (λ (x y : ℕ). take x (drop y xs)) e f

-- a fold over the first elements, then over the others
pub split : {A B : Type 0} (f : B → A → B) (b : B) (m : ℕ) (xs : List A) → foldl f b xs ≡ foldl f (foldl f b (take m xs)) (drop m xs)
split f b m xs = ap (foldl f b) (sym (take-append-drop m xs)) ∙ foldl-append f b (take m xs) (drop m xs)

-- where the first `need` elements of a part were stored behind the first `held` of a list, which makes n
pub filled : (held need n : ℕ) (old part r : List ℕ) → need ≤ length part → held + need ≡ n
    → take (held + length (take need part)) r ≡ take held old ++ take need part → take n r ≡ take held old ++ take need part
filled held need n old part r enough size stored =
    let some = length-take-le need part enough in
    let e : n ≡ held + length (take need part) = omega arith in
    ap (λ (k : ℕ). take k r) e ∙ stored

-- A new front, in place of as many elements: the length stays, and so does what is beyond.
pub front_length : (new before : List ℕ) → length new ≤ length before → length (new ++ drop (length new) before) ≡ length before
front_length new before l =
    let all = length-append new (drop (length new) before) in
    let rest = length-drop (length new) before in
    omega arith

pub front_beyond : (new before : List ℕ) (n : ℕ) → length new ≡ n → drop n (new ++ drop (length new) before) ≡ drop n before
front_beyond new before n e = drop_at new (drop (length new) before) n e ∙ ap (λ (i : ℕ). drop i before) e

-- Lists of n elements, one behind the other: how long they are together, and the k-th of them.
module _ {A : Type 0} (piece : A → List ℕ) (n : ℕ) (size : (a : A) → length (piece a) ≡ n) where
  pub pieces_length : (xs : List A) → length (flatten (map piece xs)) ≡ n * length xs
  unfolding flatten
  pieces_length [] = sym (mul-zero n)
  pieces_length (x ∷ xs) =
      let one = size x in
      let more = pieces_length xs in
      let all = length-append (piece x) (flatten (map piece xs)) in
      let next = mul-suc n (length xs) in
      omega arith

  pub piece_at : (xs : List A) (rest : List ℕ) (d : A) (k : ℕ) → k < length xs → take n (drop (n * k) (flatten (map piece xs) ++ rest)) ≡ piece (get_or xs k d)
  unfolding flatten
  piece_at [] rest d k l = absurd (omega arith)
  piece_at (x ∷ xs) rest d zero l =
      rw (mul-zero n, append_assoc (piece x) (flatten (map piece xs)) rest)
      (take_at (piece x) (flatten (map piece xs) ++ rest) n (size x))
  piece_at (x ∷ xs) rest d (suc k) l =
      let others = flatten (map piece xs) ++ rest in
      let place : n * suc k ≡ n + n * k = omega (arith, mul-suc n k) in
      let behind : drop (n * suc k) ((piece x ++ flatten (map piece xs)) ++ rest) ≡ drop (n * k) others =
      ap₂ (λ (i : ℕ) (ys : List ℕ). drop i ys) place (append_assoc (piece x) (flatten (map piece xs)) rest)
      ∙ sym (drop-drop (n * k) n (piece x ++ others))
      ∙ ap (drop (n * k)) (drop_at (piece x) others n (size x)) in
      ap (take n) behind ∙ piece_at xs rest d k (omega arith)
