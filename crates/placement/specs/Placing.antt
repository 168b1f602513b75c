-- The rules of a MACROBLOCK command in its picture.
-- To be believed: the rules, their numbers and their words.
use Rattle.std.specs.Prelude.{ℕ, ◌+◌, Bool, not, ◌&&◌, ◌||◌, List, [], ◌∷◌, ◌++◌, eqb, leb, ltb}
use Rattle.prediction.specs.declared.Grid.{Grid}
use Rattle.prediction.specs.declared.Position.{Position}
use Rattle.answers.specs.Answers.{Rule, rule}
use Rattle.macroblock.specs.Cases.{motion_of}
use Rattle.headers.specs.Words.{word_at}
use Rattle.macroblock.specs.Macroblocks.{macroblock_of}
use Rattle.macroblock.specs.Rules.{command_rules}
use Rattle.macroblock.specs.declared.Allowed.{Allowed}
use Rattle.macroblock.specs.declared.Flags.{Flags}
use Rattle.macroblock.specs.declared.Macroblock.{Macroblock}
use Rattle.picture.specs.declared.Picture.{Picture}
use Rattle.progress.specs.declared.Previous.{Previous}
use Rattle.progress.specs.declared.Progress.{Progress}
use Rattle.progress.specs.declared.Stage.{Stage}
use Rattle.placement.specs.Blocks.{blocks_of}
use Rattle.placement.specs.declared.Blocks.{Blocks}

-- "exactly when": both or neither.
abbrev pub exactly : Bool → Bool → Bool
exactly a b = (a && b) || (not a && not b)

-- Document 01: "MACROBLOCK only in an open group and before W×H of them have come". The position's row is H when all have come.
abbrev pub in_sequence : Stage → Grid → Position → Bool
in_sequence s g at = s.in_group && ltb at.row g.rows

-- "I allows intra only, P intra and 1, B all." Kind 0 is intra; coding is 1 for I, 2 for P, 3 for B. Document 02, R-6: "type 04h is allowed in
-- P"; whether it is allowed at all is asked of the picture (`allowed_in`).
abbrev pub coding_permits : ℕ → ℕ → Bool
coding_permits coding kind = eqb kind 0 || ((eqb coding 2 && (eqb kind 1 || eqb kind 4)) || eqb coding 3)

-- "PICTURE bit 10 may now be 0; then word 1 bit 15 (dct type) is free on macroblocks that are not skipped, and type 04h is allowed in P".
unfoldable pub allowed_in : Picture → Allowed
allowed_in p = record { dct_type = not p.frame_pred_frame_dct; field = not p.frame_pred_frame_dct && eqb p.coding 2 }

-- "Skip: .. in P words 5 to 8 all zero"
abbrev pub zero_vectors : List ℕ → Bool
zero_vectors ws = (eqb (word_at ws 5) 0 && eqb (word_at ws 6) 0) && (eqb (word_at ws 7) 0 && eqb (word_at ws 8) 0)

-- "in B the macroblock before it is inter with the same type and the same words 5 to 8"
abbrev pub repeats : Previous → ℕ → List ℕ → Bool
repeats b kind ws =
    (leb 1 b.kind && eqb b.kind kind)
    && ((eqb b.five (word_at ws 5) && eqb b.six (word_at ws 6)) && (eqb b.seven (word_at ws 7) && eqb b.eight (word_at ws 8)))

abbrev pub skip_permitted : ℕ → Previous → ℕ → List ℕ → Bool
skip_permitted coding b kind ws = (not (eqb coding 2) || zero_vectors ws) && (not (eqb coding 3) || repeats b kind ws)

-- "The k-th macroblock, from 0, is at column k mod W, row k div W." The position counts them: proofs/PositionLaws.antt.
abbrev pub at_position : Position → Macroblock → Bool
at_position at m = eqb m.column at.column && eqb m.row at.row

-- "Flags: first-in-slice exactly when no slice is open; last-in-slice wherever the column is W−1; first-in-group exactly on the
-- first macroblock after SLICEGROUP; last-in-group only with last-in-slice."
abbrev pub flags_agree : Stage → Grid → Position → Flags → Bool
flags_agree s g at f =
    (exactly f.first_in_slice (not s.in_slice) && (not (eqb (at.column + 1) g.columns) || f.last_in_slice))
    && (exactly f.first_in_group s.group_start && (not f.last_in_group || f.last_in_slice))

-- "25 no skip conversion (zero in I)"
abbrev pub conversion_permitted : ℕ → Flags → Bool
conversion_permitted coding f = not (eqb coding 1) || not f.no_skip_conversion

-- The table, of a macroblock with these blocks: number, word, and whether the rule holds. "3 out of sequence: header"; "6 wrong
-- position: word 2"; "7 slice or group flag: word 4"; "9 vector beyond f code: word 5 or 6"; "10 luma block outside picture: word 5
-- or 6"; "11 skip rule: word 1". Document 02: "The range and inside tests report word 5 or 7."
unfoldable pub placed_rules : Progress → Blocks → Macroblock → List ℕ → List Rule
placed_rules p b m ws =
    rule 3 0 (in_sequence p.stage p.picture.grid p.position)
    ∷ rule 5 1 (coding_permits p.picture.coding (motion_of m.case).kind)
    ∷ rule 11 1 (not m.skip || skip_permitted p.picture.coding p.previous (motion_of m.case).kind ws)
    ∷ rule 6 2 (at_position p.position m)
    ∷ rule 5 4 (conversion_permitted p.picture.coding m.flags)
    ∷ rule 7 4 (flags_agree p.stage p.picture.grid p.position m.flags)
    ∷ rule 9 5 b.forward.in_range
    ∷ rule 10 5 b.forward.inside
    ∷ rule 9 6 b.backward.in_range
    ∷ rule 10 6 b.backward.inside
    ∷ rule 9 7 b.bottom.in_range
    ∷ rule 10 7 b.bottom.inside
    ∷ []

-- All rules of a MACROBLOCK command: those of its picture and those that it keeps by itself, in the order of words and numbers.
unfoldable pub macroblock_rules : Progress → List ℕ → List Rule
macroblock_rules p ws = placed_rules p (blocks_of p (macroblock_of ws).case) (macroblock_of ws) ws ++ command_rules (allowed_in p.picture) ws
