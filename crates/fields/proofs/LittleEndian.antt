-- Bytes and numbers undo each other, over the number of bytes.
use mathlib.Core.Path.{◌≡◌, refl, ap, ap₂, ◌∙◌}
use mathlib.Core.List.{List, [], ◌∷◌}
use Prim.Native.Nat.{ℕ, zero, suc, ◌+◌, ◌*◌, ◌/◌, ◌%◌, ◌^◌, ◌<◌}
use native.Mathlib.Nat.{pow-zero, pow-suc}
use native.Mathlib.Omega.{arith}
use lib.ListN.{length}
use Rattle.fields.specs.Word.{with_bits}
use Rattle.fields.specs.Bytes.{bytes_of, number_in, Bytes}
use Rattle.fields.proofs.Fields.{on_top}

-- The bytes of the number that k bytes stand for are those bytes.
pub bytes_back : (bs : List ℕ) → Bytes bs → bytes_of (length bs) (number_in bs) ≡ bs
bytes_back [] h = refl
bytes_back (b ∷ bs) h =
    let low : (b + 256 * number_in bs) % 256 ≡ b = omega arith in
    let up : (b + 256 * number_in bs) / 256 ≡ number_in bs = omega arith in
    ap₂ (λ (x : ℕ) (xs : List ℕ). x ∷ xs) low (ap (bytes_of (length bs)) up ∙ bytes_back bs h.1)

-- The number of the k lowest bytes of n is n, where n has no more.
pub number_back : (k n : ℕ) → n < 256 ^ k → number_in (bytes_of k n) ≡ n
number_back zero n h = omega (arith, pow-zero 256)
number_back (suc k) n h =
    let up : n / 256 < 256 ^ k = omega (arith, pow-suc 256 k) in
    ap (λ (x : ℕ). n % 256 + 256 * x) (number_back k (n / 256) up) ∙ omega arith

-- Four bytes, put into a word from the lowest up.
pub four_bytes : (a b c d : ℕ) → a < 256 → b < 256 → c < 256 → d < 256 → with_bits (with_bits (with_bits a 15 8 b) 23 16 c) 31 24 d ≡ number_in (a ∷ b ∷ c ∷ d ∷ [])
four_bytes a b c d ha hb hc hd =
    let two = on_top a 15 8 b ha hb in
    let three = on_top (b * 256 + a) 23 16 c (omega arith) hc in
    ap (λ (w : ℕ). with_bits (with_bits w 23 16 c) 31 24 d) two
    ∙ ap (λ (w : ℕ). with_bits w 31 24 d) three
    ∙ on_top (c * 65536 + (b * 256 + a)) 31 24 d (omega arith) hd
    ∙ omega arith
