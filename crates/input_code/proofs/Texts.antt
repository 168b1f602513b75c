-- Numbers in decimal, and texts behind each other.
use mathlib.Core.Bool.{Bool, true, false, cond}
use mathlib.Core.List.{List, [], ◌∷◌, ◌++◌, foldl-append, append-nil, append_assoc}
use mathlib.Core.Path.{◌≡◌, refl, sym, ◌∙◌, ap, ap₂, subst}
use Prim.Native.Nat.{ℕ, zero, suc, ◌+◌, ◌*◌, ◌-◌, ◌/◌, ◌%◌, ◌^◌, ◌≤◌, ◌<◌}
use native.Mathlib.Nat.{le_of_lt, pow-zero, pow-suc}
use native.Mathlib.Numerals.{add-one}
use native.Mathlib.Omega.{arith}
use borrow.Author.Tests.{lt-ltb, le-ltb, ltb-false}
use lib.Dec.{ltb}
use lib.ListN.{length, get_or, take, length-append}
use lib.Seq.{length-take-le, take-suc}
use Rattle.io.specs.Digits as kit
use Rattle.input.specs.Text.{digit, digits, decimal, spaced, value_of}

pub spaced_append : (xs ys : List ℕ) → spaced (xs ++ ys) ≡ spaced xs ++ spaced ys
spaced_append [] ys = refl
spaced_append (x ∷ xs) ys =
    ap (λ (r : List ℕ). 32 ∷ (decimal x ++ r)) (spaced_append xs ys)
    ∙ ap (λ (r : List ℕ). 32 ∷ r) (sym (append_assoc (decimal x) (spaced xs) (spaced ys)))

-- numbers behind numbers
pub then_spaced : (base xs ys : List ℕ) → (base ++ spaced xs) ++ spaced ys ≡ base ++ spaced (xs ++ ys)
then_spaced base xs ys = append_assoc base (spaced xs) (spaced ys) ∙ ap (λ (x : List ℕ). base ++ x) (sym (spaced_append xs ys))

digits_value : (k n : ℕ) → n < 10 ^ k → value_of (digits k n) ≡ n
digits_value zero n h = omega (arith, pow-zero 10)
digits_value (suc k) n h = by (ltb n 10) (digits_value k (n / 10) (omega (arith, pow-suc 10 k)))
  where
    by : (t : Bool) → value_of (digits k (n / 10)) ≡ n / 10 → value_of (cond t (digit n ∷ []) (digits k (n / 10) ++ (digit (n % 10) ∷ []))) ≡ n
    by true rest = omega arith
    by false rest = foldl-append (λ (v b : ℕ). 10 * v + (b - 48)) 0 (digits k (n / 10)) (digit (n % 10) ∷ []) ∙ omega arith

-- The decimal digits of a number of 64 bits stand for it.
pub decimal_value : (n : ℕ) → n < 2 ^ 64 → value_of (decimal n) ≡ n
unfolding decimal
decimal_value n h = digits_value 20 n (omega arith)

-- its first digit is no zero
first_kept : (xs ys : List ℕ) → 48 < get_or xs 0 0 → 48 < get_or (xs ++ ys) 0 0
first_kept [] ys h = absurd (omega arith)
first_kept (x ∷ xs) ys h = h

first_digit : (k n : ℕ) → 1 ≤ n → n < 10 ^ k → 48 < get_or (digits k n) 0 0
first_digit zero n some h = absurd (omega (arith, pow-zero 10))
first_digit (suc k) n some h = by (ltb n 10) refl (λ more. first_digit k (n / 10) (omega arith) (omega (arith, pow-suc 10 k)))
  where
    by : (t : Bool) → ltb n 10 ≡ t → (10 ≤ n → 48 < get_or (digits k (n / 10)) 0 0)
        → 48 < get_or (cond t (digit n ∷ []) (digits k (n / 10) ++ (digit (n % 10) ∷ []))) 0 0
    by true e up = omega arith
    by false e up = first_kept (digits k (n / 10)) (digit (n % 10) ∷ []) (up (ltb-false n 10 e))

-- No number but 0 begins with the digit 0.
pub no_zero_first : (n : ℕ) → 1 ≤ n → n < 2 ^ 64 → 48 < get_or (decimal n) 0 0
unfolding decimal
no_zero_first n some h = first_digit 20 n some (omega arith)

-- there are at most twenty digits
digits_few : (k n : ℕ) → length (digits k n) ≤ k
digits_few zero n = omega arith
digits_few (suc k) n = by (ltb n 10) (digits_few k (n / 10))
  where
    by : (t : Bool) → length (digits k (n / 10)) ≤ k → length (cond t (digit n ∷ []) (digits k (n / 10) ++ (digit (n % 10) ∷ []))) ≤ suc k
    by true up = omega arith
    by false up = omega (arith, length-append (digits k (n / 10)) (digit (n % 10) ∷ []))

pub decimal_few : (n : ℕ) → length (decimal n) ≤ 20
unfolding decimal
decimal_few n = digits_few 20 n

-- and with its space each number is at most 21 bytes
pub spaced_few : (ns : List ℕ) → length (spaced ns) ≤ 21 * length ns
spaced_few [] = omega arith
spaced_few (n ∷ ns) = omega (arith, length-append (decimal n) (spaced ns), decimal_few n, spaced_few ns)

-- Numbers are put behind a text that has room for all.
module _ (text before : List ℕ) (ns : List ℕ) (i : ℕ) (is : text ≡ before ++ spaced (take i ns)) (more : i < length ns) where
  pub room_for_one : length before + 21 * length ns ≤ 256 → length text + 21 ≤ 256
  room_for_one fits =
      let long = ap length is ∙ length-append before (spaced (take i ns)) in
      let some = length-take-le i ns (le_of_lt more) in
      let few = spaced_few (take i ns) in
      omega arith

  pub one_spaced : (text ++ (32 ∷ [])) ++ decimal (get_or ns i 0) ≡ before ++ spaced (take (i + 1) ns)
  one_spaced =
      let n = get_or ns i 0 in
      append_assoc text (32 ∷ []) (decimal n)
      ∙ ap₂ (λ (x y : List ℕ). x ++ (32 ∷ y)) is (sym (append-nil (decimal n)))
      ∙ then_spaced before (take i ns) (n ∷ [])
      ∙ ap (λ (xs : List ℕ). before ++ spaced xs) (sym (take-suc ns i 0 more) ∙ ap (λ (k : ℕ). take k ns) (sym (add-one i)))

power_some : (i : ℕ) → 1 ≤ 10 ^ i
power_some zero = omega (arith, pow-zero 10)
power_some (suc i) = omega (arith, pow-suc 10 i, power_some i)

one_less : (j : ℕ) → suc j - 1 ≡ j
one_less j = omega arith

-- The kit's digits of a number, the fewest that hold it, are its decimal.
fewest_digits : (j k n : ℕ) → n < 10 ^ suc j → (1 < suc j → 10 ^ j ≤ n) → n < 10 ^ suc k → kit.last_digits 10 (suc j) n ≡ digits (suc k) n
fewest_digits zero k n fits few h =
    let same : n % 10 ≡ n = omega arith in
    simp (same, lt-ltb n 10 fits)
fewest_digits (suc i) zero n fits few h = absurd (omega (arith, few (omega arith), pow-suc 10 i, power_some i))
fewest_digits (suc i) (suc k) n fits few h =
    let many : 10 ^ suc i ≤ n = few (omega arith) in
    let ten : 10 ≤ n = omega (arith, pow-suc 10 i, power_some i) in
    let last : n % 10 < 10 = omega arith in
    simp (lt-ltb (n % 10) 10 last, le-ltb n 10 ten)
    (ap (λ (r : List ℕ). r ++ (digit (n % 10) ∷ []))
    (fewest_digits i k (n / 10) (omega (arith, pow-suc 10 (suc i))) (λ _. omega (arith, pow-suc 10 i)) (omega (arith, pow-suc 10 (suc k)))))

pub kit_decimal : (n r : ℕ) → n < 2 ^ 64 → kit.IsDigitCount 10 1 n r → kit.last_digits 10 r n ≡ decimal n
unfolding decimal
kit_decimal n zero h f = absurd (omega (arith, f.0))
kit_decimal n (suc j) h f = fewest_digits j 19 n f.1 (λ more. subst (λ (m : ℕ). 10 ^ m ≤ n) (one_less j) (f.2 more)) (omega arith)
