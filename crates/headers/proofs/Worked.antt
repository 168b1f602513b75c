-- Document 01's own numbers, computed from the definitions.
use mathlib.Core.Path.{◌≡◌, refl}
use mathlib.Core.List.{List, [], ◌∷◌, ◌++◌, map}
use Prim.Native.Nat.{ℕ, ◌+◌}
use lib.ListN.{length, drop}
use Rattle.fields.specs.Word.{bits}
use Rattle.headers.specs.Examples.{twelve, one_bit_off, other_lengths, other_kinds}
use Rattle.headers.specs.Headers.{Row, table, look_up, header_of, words_in}
use Rattle.headers.specs.Words.{word_at}
use Rattle.headers.specs.declared.Header.TheVariants.{Unknown}

-- what each of the twelve headers begins; the table has no other
begun : (map (λ (r : Row). header_of r.header) twelve ≡ map (λ (r : Row). r.begins) twelve) × (length table ≡ length twelve)
unfolding twelve header_of look_up table
begun = (refl, refl)

-- "a word begins one of twelve commands or none"
none : map header_of (one_bit_off twelve ++ other_lengths ++ other_kinds) ≡ map (λ (w : ℕ). Unknown) (one_bit_off twelve ++ other_lengths ++ other_kinds)
unfolding twelve other_lengths other_kinds header_of look_up table
none = refl

abbrev two : ℕ → ℕ → List ℕ
two a b = a ∷ b ∷ []

-- "31:29 = 3, 28:27 = 2 .. the low bits hold total words less 2": of every header but NOOP and END, which are one word
lengths : map (λ (r : Row). two (bits r.header 31 27) (bits r.header 7 0 + 2)) (drop 2 table) ≡ map (λ (r : Row). two 14 (words_in r.begins)) (drop 2 table)
unfolding table
lengths = refl

-- words by their numbers, and one that is not there
missing : word_at (7 ∷ 8 ∷ []) 0 ∷ word_at (7 ∷ 8 ∷ []) 1 ∷ word_at (7 ∷ 8 ∷ []) 2 ∷ [] ≡ 7 ∷ 8 ∷ 0 ∷ []
missing = refl
