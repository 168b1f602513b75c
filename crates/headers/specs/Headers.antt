-- The words that begin a command.
-- To be believed: document 01's table of headers.
use Rattle.std.specs.Prelude.{ℕ, Bool, false, cond, List, [], ◌∷◌, eqb, ltb}
use Rattle.headers.specs.declared.Header.{Header}
use Rattle.headers.specs.declared.Header.TheVariants.{Known, Carried, Unknown}
use Rattle.headers.specs.declared.Opcode.{Opcode}
use Rattle.headers.specs.declared.Opcode.TheVariants.{Noop, End, Surface, Picture, SliceGroup, Macroblock}

pub record Row : Type 0 where
  pub header : ℕ
  pub begins : Header

abbrev pub row : ℕ → Header → Row
row w h = record { header = w; begins = h }

abbrev pub macroblock_header : ℕ
macroblock_header = 0x73490007

-- Document 01's table, under "The whole header must match."
unfoldable pub table : List Row
table =
    row 0x00000000 (Known Noop 1) ∷
    row 0x05000000 (Known End 1) ∷
    row 0x70010004 (Known Surface 6) ∷
    row 0x7300000B (Known Picture 13) ∷
    row 0x73430006 (Known SliceGroup 8) ∷
    row macroblock_header (Known Macroblock 9) ∷
    row 0x70000003 (Carried 5) ∷
    row 0x7002003B (Carried 61) ∷
    row 0x70030018 (Carried 26) ∷
    row 0x70040008 (Carried 10) ∷
    row 0x70070010 (Carried 18) ∷
    row 0x70080020 (Carried 34) ∷
    []

-- What a word begins by some rows: what the row with that header says, or no command.
unfoldable pub look_up : List Row → ℕ → Header
look_up [] w = Unknown
look_up (r ∷ rs) w = cond (eqb w r.header) r.begins (look_up rs w)

unfoldable pub header_of : ℕ → Header
header_of w = look_up table w

-- The count of words of the command that a header begins, 0 for none.
abbrev pub words_in : Header → ℕ
words_in (Known o n) = n
words_in (Carried n) = n
words_in Unknown = 0

-- By how many words a command has, of which so many have come: the header names none; more are to come; it is whole.
abbrev pub by_size : {A : Type 0} → Header → ℕ → A → A → A → A
by_size h come none more whole = cond (eqb (words_in h) 0) none (cond (ltb come (words_in h)) more whole)

-- Whether a header begins a known command of this kind.
abbrev pub order_of : Opcode → ℕ
order_of Noop = 0
order_of End = 1
order_of Surface = 2
order_of Picture = 3
order_of SliceGroup = 4
order_of Macroblock = 5

abbrev pub begins : Opcode → Header → Bool
begins o (Known x n) = eqb (order_of o) (order_of x)
begins o (Carried n) = false
begins o Unknown = false
