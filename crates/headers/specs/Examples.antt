-- Worked examples of words that begin a command, and of words that begin none. What is quoted is document 01.
-- To be believed: words, kinds and counts are document 01's own.
use Rattle.std.specs.Prelude.{ℕ, zero, suc, ◌+◌, ◌-◌, ◌/◌, ◌%◌, ◌^◌, cond, List, [], ◌∷◌, ◌++◌, map, eqb}
use Rattle.headers.specs.Headers.{Row, row}
use Rattle.headers.specs.declared.Header.TheVariants.{Known, Carried}
use Rattle.headers.specs.declared.Opcode.TheVariants.{Noop, End, Surface, Picture, SliceGroup, Macroblock}

-- Words, and what they say.
pub record WordReading (A : Type 0) : Type 0 where
  pub words : List ℕ
  pub says : A

abbrev pub reading : {A : Type 0} → List ℕ → A → WordReading A
reading ws a = record { words = ws; says = a }

-- What a reader finds in the words of readings, and what is due.
abbrev pub read_by : {A : Type 0} → (List ℕ → A) → List (WordReading A) → List A
read_by reader readings = map (λ x. reader x.words) readings

abbrev pub said : {A : Type 0} → List (WordReading A) → List A
said readings = map (λ x. x.says) readings

-- A word with one of its bits turned over.
abbrev pub turned : ℕ → ℕ → ℕ
turned w b = cond (eqb (w / 2 ^ b % 2) 0) (w + 2 ^ b) (w - 2 ^ b)

-- The numbers of bits hi:lo, and a word with each of them turned over, one at a time.
abbrev pub upwards : ℕ → ℕ → List ℕ
upwards lo zero = []
upwards lo (suc k) = lo ∷ upwards (suc lo) k

abbrev pub turned_in : ℕ → ℕ → ℕ → List ℕ
turned_in w hi lo = map (turned w) (upwards lo (hi + 1 - lo))

-- "a word begins one of twelve commands or none": those with rules of their own, then the carried ones
unfoldable pub twelve : List Row
twelve =
    row 0 (Known Noop 1)
    ∷ row 0x05000000 (Known End 1)
    ∷ row 0x70010004 (Known Surface 6)
    ∷ row 0x7300000B (Known Picture 13)
    ∷ row 0x73430006 (Known SliceGroup 8)
    ∷ row 0x73490007 (Known Macroblock 9)
    ∷ row 0x70000003 (Carried 5)
    ∷ row 0x7002003B (Carried 61)
    ∷ row 0x70030018 (Carried 26)
    ∷ row 0x70040008 (Carried 10)
    ∷ row 0x70070010 (Carried 18)
    ∷ row 0x70080020 (Carried 34)
    ∷ []

-- "The whole header must match": each of the twelve with any one bit turned over
abbrev pub one_bit_off : List Row → List ℕ
one_bit_off [] = []
one_bit_off (r ∷ rs) = turned_in r.header 31 0 ++ one_bit_off rs

-- "the low bits hold total words less 2": each length one word short and one word long
unfoldable pub other_lengths : List ℕ
other_lengths =
    0x70010003 ∷ 0x70010005 ∷ 0x7300000A ∷ 0x7300000C ∷ 0x73430005 ∷ 0x73430007 ∷ 0x73490006 ∷ 0x73490008
    ∷ 0x70000002 ∷ 0x70000004 ∷ 0x7002003A ∷ 0x7002003C ∷ 0x70030017 ∷ 0x70030019
    ∷ 0x70040007 ∷ 0x70040009 ∷ 0x7007000F ∷ 0x70070011 ∷ 0x7008001F ∷ 0x70080021 ∷ []

-- kinds that have no row, the length of another kind, halves exchanged, every bit set
unfoldable pub other_kinds : List ℕ
other_kinds =
    0x70050003 ∷ 0x70060003 ∷ 0x70090020 ∷ 0x73410006 ∷ 0x73480007
    ∷ 0x7001000B ∷ 0x73000004 ∷ 0x73430010 ∷ 0x73490020 ∷ 0x70030008 ∷ 0x00047001 ∷ 0x00000005 ∷ 0xFFFFFFFF ∷ []
