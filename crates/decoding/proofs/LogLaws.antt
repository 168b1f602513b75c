-- Records in their places of a log.
use mathlib.Core.Bool.{Bool, true, false, cond}
use mathlib.Core.List.{List, [], ◌∷◌, ◌++◌, append_assoc, map, flatten}
use mathlib.Core.Path.{◌≡◌, refl, sym, ◌∙◌, ap}
use Prim.Native.Nat.{ℕ, suc, ◌+◌, ◌*◌, ◌-◌, ◌≤◌}
use native.Mathlib.Nat.{add-zero}
use native.Mathlib.Omega.{arith}
use lib.ListN.{length, take, drop, length-append, length-drop, take-append-drop}
use lib.Seq.{length-take-le, take_at, drop_at, drop-drop}
use borrow.Author.Tests.{le-ltb}
use borrow.Rule.Slice.PartMut.{mid_of, put_mid}
use Rattle.answers.specs.Lending.{lent_after, room_for}
use Rattle.lists.proofs.Slices.{part_rest, part_back, pieces_length}
use Rattle.lists.proofs.Booleans.{no}
use Rattle.fields.specs.Word.{flag}
use Rattle.macroblock.specs.Macroblocks.{macroblock_of}
use Rattle.macroblock.specs.declared.Macroblock.{Macroblock}
use Rattle.headers.specs.Headers.{begins}
use Rattle.headers.specs.declared.Header.{Header}
use Rattle.headers.specs.declared.Opcode.TheVariants as opcodes
use Rattle.records.specs.Layout.{record_length}
use Rattle.records.specs.Records.{record_of}
use Rattle.records.proofs.RoundTrips.{record_length_lem}
use Rattle.commands.specs.Commands.{commands_of, macroblocks_in}
use Rattle.commands.specs.declared.NextCommand.TheVariants.{Whole}
use Rattle.commands.proofs.CutLaws.{left, left_by}
use Rattle.decoding.specs.Logs.{record_alone, log_of}

-- The records of macroblocks, one behind the other.
abbrev pub records_of : List (List ℕ) → List ℕ
records_of ms = flatten (map record_alone ms)

records_length : (ms : List (List ℕ)) → length (records_of ms) ≡ 24 * length ms
records_length ms = pieces_length record_alone record_length (λ m. record_length_lem (macroblock_of m)) ms

-- A log with the records of macroblocks in their places, the first of them the k-th; all else stays.
abbrev pub placed : ℕ → List (List ℕ) → List ℕ → List ℕ
placed k ms log = take (24 * k) log ++ (records_of ms ++ drop (24 * (k + length ms)) log)

-- with no record
pub placed_none : (k : ℕ) (ms : List (List ℕ)) (log : List ℕ) → ms ≡ [] → placed k ms log ≡ log
unfolding flatten
placed_none k ms log e = rw e (rw (add-zero k) (take-append-drop (24 * k) log))

-- with all of a batch
pub placed_all : (ws log : List ℕ) → log_of ws ++ drop (length (log_of ws)) log ≡ placed 0 (macroblocks_in (commands_of ws)) log
unfolding log_of
placed_all ws log =
    let ms = macroblocks_in (commands_of ws) in
    let e : length (records_of ms) ≡ 24 * (0 + length ms) = records_length ms ∙ omega arith in
    ap (λ (n : ℕ). records_of ms ++ drop n log) e

-- with one record first
placed_next : (k : ℕ) (m : List ℕ) (ms : List (List ℕ)) (log new : List ℕ) → 24 * (k + 1) ≤ length log
    → new ≡ take (24 * k) log ++ (record_alone m ++ drop (24 * (k + 1)) log) → placed k (m ∷ ms) log ≡ placed (k + 1) ms new
unfolding flatten
placed_next k m ms log new l e =
    let front = take (24 * k) log ++ record_alone m in
    let f : new ≡ front ++ drop (24 * (k + 1)) log = e ∙ sym (append_assoc (take (24 * k) log) (record_alone m) (drop (24 * (k + 1)) log)) in
    let t = length-take-le (24 * k) log (omega arith) in
    let r = record_length_lem (macroblock_of m) in
    let len : length front ≡ 24 * (k + 1) = length-append (take (24 * k) log) (record_alone m) ∙ omega arith in
    let sum : 24 * (k + 1 + length ms) ≡ 24 * (k + 1) + 24 * length ms = omega arith in
    let same : 24 * (k + suc (length ms)) ≡ 24 * (k + 1) + 24 * length ms = omega arith in
    let low : take (24 * (k + 1)) new ≡ front = ap (take (24 * (k + 1))) f ∙ take_at front (drop (24 * (k + 1)) log) (24 * (k + 1)) len in
    let high : drop (24 * (k + 1)) new ≡ drop (24 * (k + 1)) log = ap (drop (24 * (k + 1))) f ∙ drop_at front (drop (24 * (k + 1)) log) (24 * (k + 1)) len in
    let rest : drop (24 * (k + 1 + length ms)) new ≡ drop (24 * (k + suc (length ms))) log =
    ap (λ (n : ℕ). drop n new) sum ∙ sym (drop-drop (24 * length ms) (24 * (k + 1)) new) ∙ ap (drop (24 * length ms)) high
    ∙ drop-drop (24 * length ms) (24 * (k + 1)) log ∙ ap (λ (n : ℕ). drop n log) (sym same) in
    sym (rw (low, rest) (simp append_assoc))

-- with those of one command first, which is a macroblock or not
placed_turn : (b : Bool) (k : ℕ) (m : List ℕ) (ms : List (List ℕ)) (log new : List ℕ) (next : ℕ)
    → 24 * (k + length (cond b (m ∷ ms) ms)) ≤ length log → next ≡ k + flag b
    → new ≡ take (24 * k) log ++ (cond b (record_alone m) [] ++ drop (24 * next) log)
    → placed k (cond b (m ∷ ms) ms) log ≡ placed next ms new
placed_turn true k m ms log new next l n e =
    placed_next k m ms log new (omega arith) (e ∙ ap (λ (x : ℕ). take (24 * k) log ++ (record_alone m ++ drop (24 * x) log)) n)
    ∙ ap (λ (x : ℕ). placed x ms new) (sym n)
placed_turn false k m ms log new next l n e =
    let n' : next ≡ k = n ∙ add-zero k in
    let kept : new ≡ log = e ∙ ap (λ (x : ℕ). take (24 * k) log ++ drop (24 * x) log) n' ∙ take-append-drop (24 * k) log in
    ap (λ (x : ℕ). placed x ms log) (sym n') ∙ ap (placed next ms) (sym kept)

room_next : (b : Bool) (k : ℕ) (m : List ℕ) (ms : List (List ℕ)) → k + length (cond b (m ∷ ms) ms) ≡ k + flag b + length ms
room_next true k m ms = omega arith
room_next false k m ms = omega arith

-- A command that is no macroblock leaves the log as it is.
pub none_written : (b : Bool) (k : ℕ) (m log : List ℕ) → b ≡ false
    → (k ≡ k + flag b) × (log ≡ take (24 * k) log ++ (cond b (record_alone m) [] ++ drop (24 * k) log))
none_written true k m log e = absurd (no (sym e))
none_written false k m log e = (sym (add-zero k), sym (take-append-drop (24 * k) log))

-- A record written into the part of the log from the k-th place on.
module _ (k : ℕ) (m : List ℕ) (x : Macroblock) (log part : List ℕ) (is : x ≡ macroblock_of m) (l : 24 * (k + 1) ≤ length log) where
  in_part : part ≡ lent_after (room_for record_length (drop (24 * k) log)) (record_of x) (drop (24 * k) log)
      → part ≡ record_alone m ++ drop (24 * (k + 1)) log
  in_part e =
      let len = length-drop (24 * k) log in
      let fits : 24 ≤ length (drop (24 * k) log) = omega arith in
      let sum : 24 * k + 24 ≡ 24 * (k + 1) = omega arith in
      e ∙ (simp (le-ltb (length (drop (24 * k) log)) 24 fits))
      ∙ ap (λ (n : ℕ). record_of x ++ drop n (drop (24 * k) log)) (record_length_lem x)
      ∙ ap (λ (z : List ℕ). record_of x ++ z) (drop-drop 24 (24 * k) log)
      ∙ ap (λ (n : ℕ). record_of x ++ drop n log) sum
      ∙ ap (λ (z : Macroblock). record_of z ++ drop (24 * (k + 1)) log) is

pub one_written : (b : Bool) (k : ℕ) (m : List ℕ) (x : Macroblock) (log part : List ℕ) → b ≡ true → 24 * (k + flag b) ≤ length log → x ≡ macroblock_of m
    → part ≡ lent_after (room_for record_length (mid_of (24 * k) (length log - 24 * k) log)) (record_of x) (mid_of (24 * k) (length log - 24 * k) log)
    → (k + 1 ≡ k + flag b)
    × (put_mid (24 * k) (length log - 24 * k) log part ≡ take (24 * k) log ++ (cond b (record_alone m) [] ++ drop (24 * (k + 1)) log))
one_written true k m x log part t l is e =
    let stands = in_part k m x log part is l (rw (part_rest (24 * k) log) at e) in
    (refl, part_back (24 * k) log part (omega arith) ∙ ap (λ (z : List ℕ). take (24 * k) log ++ z) stands)
one_written false k m x log part t l is e = absurd (no t)

-- The log while it is written: the command at word `at` comes next, and the next record is the k-th.
pub record Writing (ws before : List ℕ) (at k : ℕ) (log : List ℕ) : Type 0 where
  pub within : at ≤ length ws
  pub room : 24 * (k + length (left at ws)) ≤ length log
  pub same : length log ≡ length before
  pub final : log_of ws ++ drop (length (log_of ws)) before ≡ placed k (left at ws) log

pub writing_begins : (ws log : List ℕ) → 24 * length (macroblocks_in (commands_of ws)) ≤ length log → Writing ws log 0 0 log
unfolding commands_of
writing_begins ws log l = record { within = omega arith; room = omega arith; same = refl; final = placed_all ws log }

pub writing_ends : {ws before : List ℕ} {at k : ℕ} {log : List ℕ} → Writing ws before at k log → left at ws ≡ [] → log ≡ log_of ws ++ drop (length (log_of ws)) before
writing_ends {ws} {at = at} {k = k} {log = log} w e = sym (w.final ∙ placed_none k (left at ws) log e)

-- A command of n words with the header h stands at word `at`: there is room for its record, and with that the log goes on.
module _ {ws before : List ℕ} {at k : ℕ} {log : List ℕ} (h : Header) (n : ℕ) (w : Writing ws before at k log) (s : left at ws ≡ left_by at ws (Whole h n)) where
  rest : 24 * (k + flag (begins opcodes.Macroblock h) + length (left (at + n) ws)) ≤ length log
  rest =
      let r = w.room in
      let c = ap (λ (x : List (List ℕ)). length x) s in
      let e = room_next (begins opcodes.Macroblock h) k (take (at + n - at) (drop at ws)) (left (at + n) ws) in
      omega arith

  pub next_fits : 24 * (k + flag (begins opcodes.Macroblock h)) ≤ length log
  next_fits = let r = rest in omega arith

  pub writing_on : (next : ℕ) (new : List ℕ) → at + n ≤ length ws → next ≡ k + flag (begins opcodes.Macroblock h)
      → new ≡ take (24 * k) log ++ (cond (begins opcodes.Macroblock h) (record_alone (take (at + n - at) (drop at ws))) [] ++ drop (24 * next) log)
      → length new ≡ length log → Writing ws before (at + n) next new
  writing_on next new i e f l =
      let r = rest in
      let c = room_next (begins opcodes.Macroblock h) k (take (at + n - at) (drop at ws)) (left (at + n) ws) in
      record {
        within = i;
        room = omega arith;
        same = l ∙ w.same;
        final =
            w.final ∙ ap (λ (x : List (List ℕ)). placed k x log) s
            ∙ placed_turn (begins opcodes.Macroblock h) k (take (at + n - at) (drop at ws)) (left (at + n) ws) log new next (omega arith) e f;
      }
