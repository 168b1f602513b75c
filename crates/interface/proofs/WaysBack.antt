-- The ways back of the exported functions: one command, one record, and a batch that was decoded.
use mathlib.Core.Bool.{true}
use mathlib.Core.List.{List}
use mathlib.Core.Path.{◌≡◌, sym, ap, ◌∙◌}
use Prim.Native.Nat.{ℕ, ◌≤◌}
use lib.ListN.{length, take}
use Rattle.answers.specs.Answers.{number_of}
use Rattle.fields.specs.Bytes.{Bytes}
use Rattle.macroblock.specs.Legal.{Words}
use Rattle.records.specs.Alone.{read_answer, read_room, write_answer, write_room}
use Rattle.records.specs.Layout.{record_length}
use Rattle.records.specs.Records.{recorded_command, uses_neither}
use Rattle.records.proofs.Numbers.{read_by_0, written_by_0}
use Rattle.records.proofs.RoundTrips.{recordable_again, command_again, record_again}
use Rattle.batch.specs.Reports.{report_number}
use Rattle.batch.specs.declared.Lengths.{Lengths}
use Rattle.decoding.specs.Logs.{decoded}
use Rattle.decoding.specs.WaysBack.{record_in}
use Rattle.decoding.proofs.WaysBack.{decoded_back}
use Rattle.interface.specs.Promises.{SummaryOfDecode, CommandRead, RecordWritten}
use Rattle.interface.specs.WaysBack.{LogWritesBack}
use Rattle.interface.specs.declared.Outcome.{Outcome}
use Rattle.interface.specs.declared.Summary.{Summary}

same_number : {o q : Outcome} → o ≡ q → o.number ≡ q.number
same_number e = ap (λ (x : Outcome). x.number) e

-- A command that was read with number 0 is written back from the record that stands in the lent bytes: number 0, and the words of what the
-- record has room for.
pub c_recordable_again : (ws lent : List ℕ) (o : Outcome) (bytes out : List ℕ) (q : Outcome) (words : List ℕ)
    → Words ws → CommandRead ws lent o bytes → o.number ≡ 0 → 9 ≤ length out → RecordWritten (take record_length bytes) out q words
    → (q.number ≡ 0) × (take 9 words ≡ recorded_command ws)
c_recordable_again ws lent o bytes out q words are read passed room written =
    let accepted = read_by_0 ws lent (sym (same_number read.0) ∙ passed) in
    let again = recordable_again ws lent out are accepted room in (
      same_number written.0 ∙ ap (λ (b : List ℕ). number_of (write_answer (take record_length b) out)) read.1 ∙ ap number_of again.0,
      ap (take 9) written.1 ∙ ap (λ (b : List ℕ). take 9 (write_room (take record_length b) out)) read.1 ∙ again.1,
    )

-- They are its own nine words where it uses neither bit 15 nor type 04h.
pub c_command_again : (ws lent : List ℕ) (o : Outcome) (bytes out : List ℕ) (q : Outcome) (words : List ℕ)
    → Words ws → uses_neither ws ≡ true → CommandRead ws lent o bytes → o.number ≡ 0 → 9 ≤ length out → RecordWritten (take record_length bytes) out q words
    → (q.number ≡ 0) × (take 9 words ≡ take 9 ws)
c_command_again ws lent o bytes out q words are neither read passed room written =
    let accepted = read_by_0 ws lent (sym (same_number read.0) ∙ passed) in
    let all = recordable_again ws lent out are accepted room in
    let own = command_again ws lent out are neither accepted room in
    let again = c_recordable_again ws lent o bytes out q words are read passed room written in
    (again.0, again.1 ∙ sym all.1 ∙ own.1)

-- A record that was written with number 0 is read back from the nine words that stand in the lent words: number 0, and its 24 bytes.
pub c_record_again : (bytes lent : List ℕ) (o : Outcome) (words out : List ℕ) (q : Outcome) (log : List ℕ)
    → Bytes bytes → RecordWritten bytes lent o words → o.number ≡ 0 → record_length ≤ length out → CommandRead (take 9 words) out q log
    → (q.number ≡ 0) × (take record_length log ≡ bytes)
c_record_again bytes lent o words out q log are written passed room read =
    let accepted = written_by_0 bytes lent (sym (same_number written.0) ∙ passed) in
    let again = record_again bytes lent out are accepted room in (
      same_number read.0 ∙ ap (λ (w : List ℕ). number_of (read_answer (take 9 w) out)) written.1 ∙ ap number_of again.0,
      ap (take record_length) read.1 ∙ ap (λ (w : List ℕ). take record_length (read_room (take 9 w) out)) written.1 ∙ again.1,
    )

-- A batch of 32-bit words that was decoded with number 0 is written back from the log afterwards, command by command, as far as the records
-- have room.
pub c_decoded_back : (l : Lengths) (ws before : List ℕ) (s : Summary) (after : List ℕ) → Words ws → SummaryOfDecode ws before l s after → s.number ≡ 0
    → LogWritesBack ws after
c_decoded_back l ws before s after are decoding passed k lent o words b room written =
    let number : report_number (decoded l ws before) ≡ 0 = sym (ap (λ (x : Summary). x.number) decoding.0) ∙ passed in
    let back = decoded_back l ws before are number in
    record {
      accepted = same_number written.0 ∙ ap (λ (g : List ℕ). number_of (write_answer (record_in g k) lent)) decoding.1 ∙ ap number_of (back.accepted k lent b room);
      recorded = ap (take 9) written.1 ∙ ap (λ (g : List ℕ). take 9 (write_room (record_in g k) lent)) decoding.1 ∙ back.recorded k lent b room;
      command = λ u. ap (take 9) written.1 ∙ ap (λ (g : List ℕ). take 9 (write_room (record_in g k) lent)) decoding.1 ∙ back.command k lent b room u;
    }
