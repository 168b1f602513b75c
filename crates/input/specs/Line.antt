-- The line of all bytes of an input: document 01, 'Program', and R-8 of document 02.
-- To be believed: the line that is printed.
use Rattle.std.specs.Prelude.{ℕ, ◌*◌, ◌%◌, cond, List, [], ◌∷◌, ◌++◌, eqb, ltb, length, take, drop, Ok, Err}
use Rattle.fields.specs.Bytes.{number_in, elements}
use Rattle.batch.specs.Reports.{values_of, report, Report}
use Rattle.batch.specs.declared.Lengths.{Lengths}
use Rattle.answers.specs.Answers.{fault_at}
use Rattle.batch.specs.declared.Refusal.TheVariants.{Short, Broken}
use Rattle.input.specs.Text.{ascii, spaced}

-- "four 8-byte lengths, little-endian", buffer 0 first.
abbrev pub length_at : ℕ → List ℕ → ℕ
length_at k bytes = number_in (elements bytes (8 * k) 8)

abbrev pub lengths_of : List ℕ → Lengths
lengths_of bytes = record {
  source = length_at 0 bytes;
  reconstructed = length_at 1 bytes;
  forward = length_at 2 bytes;
  backward = length_at 3 bytes;
}

-- "then the batch as little-endian words": the whole words of some bytes.
abbrev pub words_from : List ℕ → List ℕ
words_from [] = []
words_from (a ∷ []) = []
words_from (a ∷ b ∷ []) = []
words_from (a ∷ b ∷ c ∷ []) = []
words_from (a ∷ b ∷ c ∷ d ∷ bytes) = number_in (a ∷ b ∷ c ∷ d ∷ []) ∷ words_from bytes

-- "One to three leftover bytes get 1, placed at the whole words, if nothing else was refused."
abbrev pub left_over : ℕ → ℕ → Report → Report
left_over bytes words (Ok r) = cond (eqb bytes 0) (Ok r) (Err (Broken (fault_at 1 words)))
left_over bytes words (Err (Short f r)) = Err (Short f r)
left_over bytes words (Err (Broken f)) = Err (Broken f)

-- The answer to a batch of bytes.
unfoldable pub answer_to : Lengths → List ℕ → Report
answer_to l bytes = left_over (length bytes % 4) (length (words_from bytes)) (report l (words_from bytes))

-- "Standard input: four 8-byte lengths, little-endian, then the batch"; "16 fewer than 32 bytes before the batch: bytes read".
unfoldable pub input_report : List ℕ → Report
input_report bytes =
    cond (ltb (length bytes) 32) (Err (Broken (fault_at 16 (length bytes)))) (answer_to (lengths_of (take 32 bytes)) (drop 32 bytes))

-- "`accept` and the four lengths, or `refuse`, number and place, and for 13 the lengths too." Document 02 (R-8), of the first bytes:
-- "the program prints them after the four lengths, in the same line".
abbrev pub text_of : Report → List ℕ
text_of (Ok r) = ascii "accept" ++ spaced (values_of r)
text_of (Err (Short f r)) = ascii "refuse" ++ spaced (f.number ∷ f.place ∷ values_of r)
text_of (Err (Broken f)) = ascii "refuse" ++ spaced (f.number ∷ f.place ∷ [])

-- "It prints one line".
abbrev pub report_line : Report → List ℕ
report_line r = text_of r ++ ascii "\n"

unfoldable pub input_line : List ℕ → List ℕ
input_line bytes = report_line (input_report bytes)
