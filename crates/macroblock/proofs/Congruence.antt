-- Equal parts make equal wholes, for the proofs of the functions: over plain variables, so that each is checked once.
use mathlib.Core.Path.{◌≡◌}
use mathlib.Core.Bool.{Bool}
use Prim.Native.Nat.{ℕ}
use Rattle.macroblock.specs.declared.Case.{Case}
use Rattle.macroblock.specs.declared.Flags.{Flags}
use Rattle.macroblock.specs.declared.Macroblock.{Macroblock}

abbrev pub flags_made : Bool → Bool → Bool → Bool → Bool → Bool → Flags
flags_made a b c d e f = record { first_in_slice = a; last_in_slice = b; first_in_group = c; last_in_group = d; clamp = e; no_skip_conversion = f }

pub same_flags : {a b c d e f a' b' c' d' e' f' : Bool} → a ≡ a' → b ≡ b' → c ≡ c' → d ≡ d' → e ≡ e' → f ≡ f' → flags_made a b c d e f ≡ flags_made a' b' c' d' e' f'
same_flags ea eb ec ed ee ef = cc

abbrev pub made : ℕ → ℕ → ℕ → Case → Bool → Bool → ℕ → ℕ → ℕ → ℕ → Flags → Macroblock
made a b c d e k f g h i j =
    record { column = a; row = b; upper = c; case = d; skip = e; dct_type = k; pattern = f; max_size = g; target_size = h; quantiser = i; flags = j }

pub same_macroblock : {a b c a' b' c' : ℕ} {d d' : Case} {e k e' k' : Bool} {f g h i f' g' h' i' : ℕ} {j j' : Flags} → a ≡ a' → b ≡ b' → c ≡ c' → d ≡ d' → e ≡ e' → k ≡ k' → f ≡ f' → g ≡ g' → h ≡ h' → i ≡ i' → j ≡ j' → made a b c d e k f g h i j ≡ made a' b' c' d' e' k' f' g' h' i' j'
same_macroblock ea eb ec ed ee ek ef eg eh ei ej = cc
