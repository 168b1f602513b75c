-- Demand 3, of any operation that answers to a batch beside four lengths, and the first bytes beside its lengths (document 02, R-8). What is
-- quoted without a document is the demand.
-- To be believed: the demand's sentences and R-8's, one by one.
use Rattle.std.specs.Prelude.{ℕ, ◌+◌, ◌≤◌, ◌<◌, List, ◌⊎◌, ◌≡◌, length, get_or}
use Rattle.progress.specs.Buffers.{Buffer, buffer_number, buffers}
use Rattle.batch.specs.Reports.{report_number, report_place, reported_of, length_of, report, Report}
use Rattle.batch.specs.Touched.{Touched}
use Rattle.batch.specs.declared.Lengths.{Lengths}

-- How an answer is read, of whichever type it is. Document 01: "the answer is the number, the place and all that is reported with them".
pub record Reading : Type 0 where
  pub number : ℕ
  pub place : ℕ
  pub reported : List ℕ

abbrev pub reading_of : Report → Reading
reading_of r = record { number = report_number r; place = report_place r; reported = reported_of r }

-- "any batch that keeps every rule but the one on buffer length". Document 01: "when none of 1 to 12 and 27 falls on it".
pub record KeepsOthers (a : Reading) : Type 0 where
  pub none_to_12 : 1 ≤ a.number → a.number ≤ 12 → ⊥
  pub not_27 : a.number ≡ 27 → ⊥

-- "zero if the batch touches no byte of it, otherwise one more than the highest byte that any sample read or written by any
-- macroblock occupies"
abbrev pub IsLength : (ℕ → Type 0) → ℕ → Type 0
IsLength T n =
    (((byte : ℕ) → T byte → ⊥) × (n ≡ 0))
    ⊎ ((byte : ℕ) × T byte × ((other : ℕ) → T other → other ≤ byte) × (n ≡ byte + 1))

-- Document 02: "its first touched byte (0 if untouched)".
abbrev pub IsFirst : (ℕ → Type 0) → ℕ → Type 0
IsFirst T n = (((byte : ℕ) → T byte → ⊥) × (n ≡ 0)) ⊎ (T n × ((other : ℕ) → T other → n ≤ other))

-- The length that is reported for a buffer and, behind the four lengths, the first byte.
abbrev pub length_for : Buffer → Reading → ℕ
length_for b a = get_or a.reported (buffer_number b) 0

abbrev pub first_for : Buffer → Reading → ℕ
first_for b a = get_or a.reported (length buffers + buffer_number b) 0

-- Whether lengths are long enough, each or all.
abbrev pub Enough : Reading → Lengths → Buffer → Type 0
Enough a l b = length_for b a ≤ length_of b l

abbrev pub TooShort : Reading → Lengths → Buffer → Type 0
TooShort a l b = length_of b l < length_for b a

abbrev pub AllEnough : Reading → Lengths → Type 0
AllEnough a l = (b : Buffer) → Enough a l b

-- Two answers whose lengths are the same, whatever their first bytes; and two that say the same of their batches: the number and, where it
-- refuses, the place.
abbrev pub SameLengths : Reading → Reading → Type 0
SameLengths a c = (b : Buffer) → length_for b a ≡ length_for b c

abbrev pub SameVerdict : Reading → Reading → Type 0
SameVerdict a c = (a.number ≡ c.number) × ((a.number ≡ 0) ⊎ (a.place ≡ c.place))

-- A refusal by 13 that "names the lowest such buffer".
pub record NamesLowest (a : Reading) (l : Lengths) : Type 0 where
  pub is_13 : a.number ≡ 13
  pub named : Buffer
  pub at_place : a.place ≡ buffer_number named
  pub too_short : TooShort a l named
  pub lowest : (b : Buffer) → buffer_number b < buffer_number named → Enough a l b

-- `Answers l r`: the operation answers `r`, which `read` reads, to the batch `ws` beside lengths `l`. `Room`: what it lends is not too short.
pub record Demand3 {A : Type 0} (read : A → Reading) (ws : List ℕ) (Room : Type 0) (Answers : Lengths → A → Type 0) : Type 0 where
  -- "The checker reports one length for each of the four picture buffers: zero if .., otherwise one more than the highest byte .."
  pub exact : (l : Lengths) (r : A) → Answers l r → (b : Buffer) → IsLength (Touched ws b) (length_for b (read r))
  -- Document 02: "beside demand 3's length, still counted from byte 0, each buffer's report gives its first touched byte (0 if untouched)"
  pub first_exact : (l : Lengths) (r : A) → Answers l r → (b : Buffer) → IsFirst (Touched ws b) (first_for b (read r))
  -- "Short lent room apart, which is 14, the batch passes exactly when every buffer is at least as long as the length reported"
  pub passes : (l : Lengths) (r : A) → Answers l r → Room → AllEnough (read r) l → (read r).number ≡ 0
  pub only_then : (l : Lengths) (r : A) → Answers l r → (read r).number ≡ 0 → AllEnough (read r) l
  -- "With one byte less than that in any buffer that is touched it is refused"
  pub one_less : (l : Lengths) (r : A) → Answers l r → (b : Buffer) (byte : ℕ) → Touched ws b byte → length_of b l + 1 ≡ length_for b (read r) → (read r).number ≡ 0 → ⊥
  -- "whenever any buffer is too short the refusal is 13 and names the lowest such buffer"
  pub lowest_named : (l : Lengths) (r : A) → Answers l r → (b : Buffer) → TooShort (read r) l b → NamesLowest (read r) l
  -- "Whatever the lengths beside the batch, the reported ones are the same." Document 02: "The first bytes are reported whenever the
  -- lengths are", so these are the same too.
  pub same_reported : (l k : Lengths) (r q : A) → Answers l r → Answers k q → (read r).reported ≡ (read q).reported
  -- "Under any two sets of lengths that are all long enough, the answer and the records are the same." For the records see
  -- decoding.
  pub same_answer : (l k : Lengths) (r q : A) → Answers l r → Answers k q → AllEnough (read r) l → AllEnough (read q) k → r ≡ q

-- The check whole: by its contract it answers this.
abbrev pub Checked : List ℕ → Lengths → Report → Type 0
Checked ws l r = r ≡ report l ws
