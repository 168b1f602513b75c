-- A batch that was decoded is written back from its log, command by command, as far as the records have room.
use mathlib.Core.Bool.{true}
use mathlib.Core.List.{List, [], ◌∷◌}
use mathlib.Core.Path.{◌≡◌, refl, sym, ap, ap₂, ◌∙◌}
use Prim.Native.Nat.{ℕ, zero, suc, ◌*◌, ◌≤◌, ◌<◌}
use native.Mathlib.Omega.{arith}
use lib.ListN.{length, get_or, take, drop, replicate}
use lib.Seq.{take_all}
use Rattle.answers.specs.Answers.{Accepted}
use Rattle.macroblock.specs.Legal.{Words}
use Rattle.records.specs.Alone.{read_room, write_answer, write_room}
use Rattle.records.specs.Layout.{record_length}
use Rattle.records.specs.Records.{recorded_command, uses_neither}
use Rattle.records.proofs.RoundTrips.{recordable_again, command_again}
use Rattle.commands.specs.Commands.{commands_of, macroblocks_in}
use Rattle.commands.proofs.CommandWords.{macroblock_nine}
use Rattle.batch.specs.Reports.{report_number}
use Rattle.batch.specs.declared.Lengths.{Lengths}
use Rattle.decoding.specs.Logs.{decoded, decoded_log}
use Rattle.decoding.specs.WaysBack.{record_in, command_from, first_members, WritesBack}
use Rattle.decoding.proofs.DecodingLaws.{decodes}

take_twice : (n : ℕ) (xs : List ℕ) → take n (take n xs) ≡ take n xs
take_twice zero xs = refl
take_twice (suc n) [] = refl
take_twice (suc n) (x ∷ xs) = ap (λ ys. x ∷ ys) (take_twice n xs)

-- a sequence that agrees with a list at each of its places begins with it
begins_with : {A : Type 0} (member : ℕ → A) (xs : List A) (d : A) → ((k : ℕ) → k < length xs → member k ≡ get_or xs k d) → first_members member (length xs) ≡ xs
begins_with member [] d h = refl
begins_with member (x ∷ xs) d h = ap₂ (λ y ys. y ∷ ys) (h 0 (omega arith)) (begins_with (λ k. member (suc k)) xs d (λ k l. h (suc k) (omega arith)))

-- For every batch of 32-bit words, all lengths and every lent log with which decoding answers 0: "Each macroblock command becomes one
-- record", and writing each record gives what it has room for of the batch's own command, and the command word for word where that uses
-- neither bit 15 nor type 04h.
pub decoded_back : (l : Lengths) (ws log : List ℕ) → Words ws → report_number (decoded l ws log) ≡ 0 → WritesBack ws (decoded_log l ws log)
decoded_back l ws log are h =
    record { accepted = λ k lent b room. (one k lent b room).0; recorded = λ k lent b room. (one k lent b room).1; command = own; commands = all }
  where
    ms : List (List ℕ)
    ms = macroblocks_in (commands_of ws)

    after : List ℕ
    after = decoded_log l ws log

    zeros : List ℕ
    zeros = replicate record_length 0

    found : (k : ℕ) → k < length (macroblocks_in (commands_of ws)) → record_in after k ≡ take record_length (read_room (get_or ms k []) zeros)
    found k b = sym (take_twice record_length (drop (record_length * k) after)) ∙ ap (take record_length) ((decodes l ws log h).record_at k b).1

    one : (k : ℕ) (lent : List ℕ) → k < length (macroblocks_in (commands_of ws)) → 9 ≤ length lent
        → (write_answer (record_in after k) lent ≡ Accepted) × (command_from after lent k ≡ recorded_command (get_or (macroblocks_in (commands_of ws)) k []))
    one k lent b room =
        let again = recordable_again (get_or ms k []) zeros lent (macroblock_nine ws are k b).0 ((decodes l ws log h).record_at k b).0 room in (
          ap (λ (r : List ℕ). write_answer r lent) (found k b) ∙ again.0,
          ap (λ (r : List ℕ). take 9 (write_room r lent)) (found k b) ∙ again.1,
        )

    own : (k : ℕ) (lent : List ℕ) → k < length (macroblocks_in (commands_of ws)) → 9 ≤ length lent → uses_neither (get_or (macroblocks_in (commands_of ws)) k []) ≡ true
        → command_from after lent k ≡ get_or (macroblocks_in (commands_of ws)) k []
    own k lent b room u =
        let m = get_or ms k [] in
        let nine = macroblock_nine ws are k b in
        let again = command_again m zeros lent nine.0 u ((decodes l ws log h).record_at k b).0 room in
        ap (λ (r : List ℕ). take 9 (write_room r lent)) (found k b) ∙ again.1 ∙ take_all 9 m (let n = nine.1 in omega arith)

    all : (lent : List ℕ) → 9 ≤ length lent → ((k : ℕ) → k < length (macroblocks_in (commands_of ws)) → uses_neither (get_or (macroblocks_in (commands_of ws)) k []) ≡ true)
        → first_members (command_from after lent) (length (macroblocks_in (commands_of ws))) ≡ macroblocks_in (commands_of ws)
    all lent room none = begins_with (command_from after lent) ms [] (λ k b. own k lent b room (none k b))
