-- The rules of a log record: which byte is bad, and the first of them.
-- Proved: no rule is broken exactly by a legal record, by `legal_exactly` (proofs/RoundTrips.antt). To be believed: which byte is the first bad
-- one.
use Rattle.std.specs.Prelude.{ℕ, zero, suc, Bool, false, cond, ◌&&◌, ◌||◌, List, [], ◌∷◌, ◌++◌, eqb, leb, get_or}
use Rattle.answers.specs.Answers.{Rule, rule}
use Rattle.fields.specs.Parts.{Part, value_at}
use Rattle.macroblock.specs.Rules.{kept_by}
use Rattle.macroblock.specs.declared.Kept.{Kept}
use Rattle.records.specs.Layout.{kind_part, skip_part, pattern_part, quantiser_part, flags_part, filler_part, forward_part, backward_part}
use Rattle.records.specs.Records.{macroblock_in}

-- Which kinds have a vector: "1 forward, 2 backward, 3 both".
abbrev pub has_forward : ℕ → Bool
has_forward kind = eqb kind 1 || eqb kind 3

abbrev pub has_backward : ℕ → Bool
has_backward kind = eqb kind 2 || eqb kind 3

-- A refusal of a record. Document 01: "15 record not legal: its first bad byte".
abbrev pub bad : Part → Bool → Rule
bad p holds = rule 15 p.first holds

-- The k bytes from byte i on are zero, each by itself.
abbrev pub zero_bytes : List ℕ → ℕ → ℕ → List Rule
zero_bytes bytes i zero = []
zero_bytes bytes i (suc k) = rule 15 i (eqb (get_or bytes i 0) 0) ∷ zero_bytes bytes (suc i) k

-- They are zero unless they are used.
abbrev pub unused_bytes : Bool → List ℕ → ℕ → ℕ → List Rule
unused_bytes used bytes i k = cond used [] (zero_bytes bytes i k)

abbrev pub unused_part : Bool → Part → List ℕ → List Rule
unused_part used p bytes = unused_bytes used bytes p.first p.count

-- Each number within its bits, and the rules of the macroblock itself: "Clashes are placed at byte 7 (skipped intra), 8
-- (pattern), 12 (skip with a slice end)."
unfoldable pub byte_rules : List ℕ → Kept → List Rule
byte_rules bytes kept =
    bad kind_part (leb (value_at kind_part bytes) 3)
    ∷ bad skip_part (leb (value_at skip_part bytes) 1 && kept.intra_not_skipped)
    ∷ bad pattern_part (leb (value_at pattern_part bytes) 63 && (kept.intra_pattern && kept.skip_pattern))
    ∷ bad quantiser_part kept.quantiser
    ∷ bad flags_part (leb (value_at flags_part bytes) 63 && kept.skip_inside_slice)
    ∷ []

-- "13 to 15 zero"; the vectors "zero when absent"
unfoldable pub zero_rules : List ℕ → ℕ → List Rule
zero_rules bytes kind = unused_part false filler_part bytes ++ (unused_part (has_forward kind) forward_part bytes ++ unused_part (has_backward kind) backward_part bytes)

unfoldable pub record_rules : List ℕ → List Rule
record_rules bytes = byte_rules bytes (kept_by (macroblock_in bytes)) ++ zero_rules bytes (value_at kind_part bytes)
