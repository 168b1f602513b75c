-- Worked examples of asking, adding and turning: bytes written out by hand from document 02 (R-9), and the answers that are due.
-- To be believed: these are the answers that document 02 gives.
use Rattle.std.specs.Prelude.{ℕ, ℤ, pos, negsuc, List, [], ◌∷◌, ◌++◌, map, set, take, replicate, Ok, Err}
use Rattle.answers.specs.Answers.{Accepted, refused, fault_at}
use Rattle.mounts.specs.Mounts.{asked, added, bytes_after, Asked}
use Rattle.mounts.specs.Sheets.{sheet, sheet_of}
use Rattle.mounts.specs.Signs.{shift, vector_on, Turned}
use Rattle.mounts.specs.declared.Added.{Added}
use Rattle.mounts.specs.declared.Sheet.{Sheet}

-- "boat (4), edition (4), side (1: 0 starboard, 1 port), seven zero bytes": a record whose numbers are each below 256.
abbrev pub line : ℕ → ℕ → ℕ → List ℕ
line boat edition side = boat ∷ 0 ∷ 0 ∷ 0 ∷ edition ∷ 0 ∷ 0 ∷ 0 ∷ side ∷ 0 ∷ 0 ∷ 0 ∷ 0 ∷ 0 ∷ 0 ∷ 0 ∷ []

-- Boat 0x11223344, edition 1, port.
abbrev pub wide : List ℕ
wide = 0x44 ∷ 0x33 ∷ 0x22 ∷ 0x11 ∷ 1 ∷ 0 ∷ 0 ∷ 0 ∷ 1 ∷ 0 ∷ 0 ∷ 0 ∷ 0 ∷ 0 ∷ 0 ∷ 0 ∷ []

-- Four sheets: boat 7 on port in its first edition and on starboard in its second, with other boats between.
abbrev pub four_sheets : List ℕ
four_sheets = line 7 1 1 ++ (line 9 1 0 ++ (line 7 2 0 ++ wide))

pub record AskExample : Type 0 where
  pub bytes : List ℕ
  pub count : ℕ
  pub boat : ℕ
  pub edition : ℕ
  pub due : Asked

abbrev pub ask : List ℕ → ℕ → ℕ → ℕ → Asked → AskExample
ask bytes count boat edition due = record { bytes = bytes; count = count; boat = boat; edition = edition; due = due }

unfoldable pub ask_examples : List AskExample
ask_examples =
    ask four_sheets 4 7 1 (Ok (sheet 7 1 1))
    ∷ ask four_sheets 4 7 2 (Ok (sheet 7 2 0))
    ∷ ask four_sheets 4 7 4294967295 (Ok (sheet 7 2 0))
    ∷ ask four_sheets 4 0x11223344 1 (Ok (sheet 0x11223344 1 1))
    ∷ ask four_sheets 4 7 0 (Err (fault_at 19 0))
    ∷ ask four_sheets 4 8 1 (Err (fault_at 19 0))
    ∷ ask [] 0 7 1 (Err (fault_at 19 0))
    ∷ ask four_sheets 5 7 1 (Err (fault_at 20 4))
    ∷ ask (take 63 four_sheets) 4 7 1 (Err (fault_at 20 3))
    ∷ ask (set (take 63 four_sheets) 8 2) 4 7 1 (Err (fault_at 20 3))
    ∷ ask (set four_sheets 40 2) 4 7 1 (Err (fault_at 20 2))
    ∷ ask (set four_sheets 9 1) 4 7 1 (Err (fault_at 20 0))
    ∷ ask (set four_sheets 63 128) 4 9 1 (Err (fault_at 20 3))
    ∷ ask (set four_sheets 36 3) 4 9 1 (Err (fault_at 20 2))
    ∷ ask (set four_sheets 36 1) 4 9 1 (Err (fault_at 20 2))
    ∷ ask (set four_sheets 20 0) 4 9 1 (Err (fault_at 20 1))
    ∷ ask (set (set four_sheets 40 2) 9 1) 4 9 1 (Err (fault_at 20 0))
    ∷ ask (set four_sheets 40 2) 2 7 1 (Ok (sheet 7 1 1))
    ∷ []

-- Adding: so many bytes of 0xAA are lent behind the four sheets; what is answered, how many sheets there are then, and the bytes.
pub record AddExample : Type 0 where
  pub bytes : List ℕ
  pub count : ℕ
  pub boat : ℕ
  pub edition : ℕ
  pub side : ℕ
  pub due : Added
  pub left : List ℕ

abbrev pub behind : ℕ → List ℕ
behind n = four_sheets ++ replicate n 0xAA

abbrev pub done : ℕ → ℕ → ℕ → ℕ → List ℕ → AddExample
done n boat edition side left =
    record { bytes = behind n; count = 4; boat = boat; edition = edition; side = side; due = record { answer = Accepted; count = 5 }; left = left }

abbrev pub not_added : List ℕ → ℕ → ℕ → ℕ → ℕ → ℕ → ℕ → AddExample
not_added bytes count boat edition side n p =
    record { bytes = bytes; count = count; boat = boat; edition = edition; side = side; due = record { answer = refused n p; count = count }; left = bytes }

-- "The checks come as 20, 19, 22, 21, 14."
unfoldable pub add_examples : List AddExample
add_examples =
    done 20 7 3 1 (four_sheets ++ (line 7 3 1 ++ replicate 4 0xAA))
    ∷ done 16 8 1 0 (four_sheets ++ line 8 1 0)
    ∷ done 33 0x11223344 2 0 (four_sheets ++ (set (set wide 4 2) 8 0 ++ replicate 17 0xAA))
    ∷ not_added (behind 16) 4 7 3 2 22 0
    ∷ not_added (behind 16) 4 7 3 256 22 0
    ∷ not_added (behind 16) 4 7 2 1 21 0
    ∷ not_added (behind 16) 4 7 4 1 21 0
    ∷ not_added (behind 16) 4 7 0 1 21 0
    ∷ not_added (behind 16) 4 8 2 0 21 0
    ∷ not_added (behind 15) 4 7 3 1 14 0
    ∷ not_added four_sheets 4 8 1 0 14 0
    ∷ not_added four_sheets 4 7 9 2 22 0
    ∷ not_added four_sheets 4 7 9 1 21 0
    ∷ not_added (set (behind 16) 40 2) 4 7 9 2 20 2
    ∷ not_added four_sheets 5 7 9 2 20 4
    ∷ not_added (behind 16) 5 7 3 1 20 4
    ∷ []

pub record TurnExample : Type 0 where
  pub side : ℕ
  pub x : ℤ
  pub y : ℤ
  pub due : Turned

abbrev pub turn : ℕ → ℤ → ℤ → Turned → TurnExample
turn side x y due = record { side = side; x = x; y = y; due = due }

-- The numbers -n, and -32768, for which sixteen bits have no other sign.
abbrev pub lowest : ℤ
lowest = negsuc 32767

unfoldable pub turn_examples : List TurnExample
turn_examples =
    turn 0 (pos 12) (negsuc 2) (Ok (shift (pos 12) (negsuc 2)))
    ∷ turn 1 (pos 12) (negsuc 2) (Ok (shift (negsuc 11) (negsuc 2)))
    ∷ turn 1 (negsuc 11) (pos 5) (Ok (shift (pos 12) (pos 5)))
    ∷ turn 1 (pos 0) (pos 7) (Ok (shift (pos 0) (pos 7)))
    ∷ turn 1 (pos 32767) lowest (Ok (shift (negsuc 32766) lowest))
    ∷ turn 1 (negsuc 32766) (pos 1) (Ok (shift (pos 32767) (pos 1)))
    ∷ turn 0 lowest (pos 4) (Ok (shift lowest (pos 4)))
    ∷ turn 1 lowest (pos 4) (Err (fault_at 23 0))
    ∷ turn 2 lowest (pos 4) (Err (fault_at 22 0))
    ∷ turn 4294967295 (pos 1) (pos 4) (Err (fault_at 22 0))
    ∷ []

-- A record, one of which a byte is missing, one with a byte more, and no byte; and their sheets.
unfoldable pub read_sheets : List Sheet
read_sheets = map sheet_of (wide ∷ take 15 wide ∷ (wide ++ 1 ∷ []) ∷ [] ∷ [])

unfoldable pub due_sheets : List Sheet
due_sheets = sheet 0x11223344 1 1 ∷ sheet 0 0 0 ∷ sheet 0x11223344 1 1 ∷ sheet 0 0 0 ∷ []

-- What is answered to them, and what is due.
pub record Answers : Type 0 where
  pub asking : List Asked
  pub adding : List Added
  pub leaving : List (List ℕ)
  pub turning : List Turned

unfoldable pub given_answers : Answers
given_answers =
    record {
      asking = map (λ x. asked x.bytes x.count x.boat x.edition) ask_examples;
      adding = map (λ x. added x.bytes x.count (sheet x.boat x.edition x.side)) add_examples;
      leaving = map (λ x. bytes_after x.bytes x.count (sheet x.boat x.edition x.side)) add_examples;
      turning = map (λ x. vector_on x.side (shift x.x x.y)) turn_examples;
    }

unfoldable pub due_answers : Answers
due_answers =
    record {
      asking = map (λ x. x.due) ask_examples;
      adding = map (λ x. x.due) add_examples;
      leaving = map (λ x. x.left) add_examples;
      turning = map (λ x. x.due) turn_examples;
    }
