-- The words of a PICTURE command. What is quoted is document 01, and of bit 10 in word 1 document 02 (R-6).
-- To be believed: what PICTURE says, and its rules. Where bit 10 is 1 they answer as document 01's did, by `picture_before` (proofs/Before.antt).
use Rattle.std.specs.Prelude.{ℕ, ◌+◌, ◌*◌, ◌-◌, Bool, ◌&&◌, ◌||◌, List, [], ◌∷◌, eqb, leb, ltb}
use Rattle.fields.specs.Word.{bits, has_bits, zero_bits, is_set}
use Rattle.prediction.specs.declared.Grid.{Grid}
use Rattle.answers.specs.Answers.{Rule, rule}
use Rattle.headers.specs.Words.{word_at}
use Rattle.picture.specs.declared.Codes.{Codes}
use Rattle.picture.specs.declared.Frame.{Frame}
use Rattle.picture.specs.declared.Picture.{Picture}

abbrev pub codes : ℕ → ℕ → Codes
codes cx cy = record { x = cx; y = cy }

-- "3: W−1 in 7:0, H−1 in 23:16, others unread".
abbrev pub grid_in : ℕ → Grid
grid_in three = record { columns = bits three 7 0 + 1; rows = bits three 23 16 + 1 }

-- "1: f codes forward x 19:16, forward y 23:20, backward x 27:24, backward y 31:28"; "2: type in 10:9, 1 I, 2 P, 3 B". Bit 10 of
-- word 1 says which macroblocks the picture allows: "PICTURE bit 10 may now be 0; then word 1 bit 15 (dct type) is free .., and type
-- 04h is allowed in P".
abbrev pub picture_in : ℕ → ℕ → Grid → Picture
picture_in one two g =
    record {
      coding = bits two 10 9;
      forward = codes (bits one 19 16) (bits one 23 20);
      backward = codes (bits one 27 24) (bits one 31 28);
      grid = g;
      frame_pred_frame_dct = is_set (bits one 10 10);
    }

-- What a command's words say.
unfoldable pub picture_of : List ℕ → Picture
picture_of ws = picture_in (word_at ws 1) (word_at ws 2) (grid_in (word_at ws 3))

-- "1: .. 13:12 = 3, .. 9 = 0, 5:0 zero, others free", and so is bit 10: "PICTURE bit 10 may now be 0", with every type.
abbrev pub picture_bits1 : ℕ → Bool
picture_bits1 one = has_bits one 13 12 3 && (has_bits one 9 9 0 && zero_bits one 5 0)

-- The f codes of a reference that the type uses, "1 to 9", and of one that it does not, "15".
abbrev pub code_in_use : ℕ → Bool
code_in_use c = leb 1 c && leb c 9

abbrev pub in_use : Codes → Bool
in_use c = code_in_use c.x && code_in_use c.y

abbrev pub unused : Codes → Bool
unused c = eqb c.x 15 && eqb c.y 15

-- "With I all f codes are 15; with P forward 1 to 9, backward 15; with B all 1 to 9." No other type is permitted.
abbrev pub codes_permitted : ℕ → Codes → Codes → Bool
codes_permitted coding forward backward =
    (eqb coding 1 && (unused forward && unused backward))
    || ((eqb coding 2 && (in_use forward && unused backward)) || (eqb coding 3 && (in_use forward && in_use backward)))

-- "16(W−1) < width ≤ 16W, 16(H−1) < height ≤ 16H": a size in samples against one in macroblocks.
abbrev pub fits : ℕ → ℕ → Bool
fits samples n = ltb (16 * (n - 1)) samples && leb samples (16 * n)

-- "H at most 175, .. pitch ≥ 16W, C ≥ 16H".
abbrev pub size_permitted : Frame → Grid → Bool
size_permitted f g =
    leb g.rows 175
    && ((fits f.width g.columns && fits f.height g.rows)
    && (leb (16 * g.columns) f.surface.pitch && leb (16 * g.rows) f.surface.chroma_row))

-- The table, over the command's surface: number, word, and whether the rule holds. Type and f codes "are judged at word 2"; "4 to
-- 12: unread."
unfoldable pub picture_rules : Frame → List ℕ → List Rule
picture_rules f ws =
    rule 4 1 (picture_bits1 (word_at ws 1))
    ∷ rule 5 2 (codes_permitted (picture_of ws).coding (picture_of ws).forward (picture_of ws).backward)
    ∷ rule 5 3 (size_permitted f (picture_of ws).grid)
    ∷ []
