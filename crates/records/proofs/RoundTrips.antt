-- The ways back: a command read and written again, as far as a record has room, and a record written and read again.
use mathlib.Core.Path.{◌≡◌, refl, sym, ap, ap₂, ◌∙◌}
use mathlib.Core.Bool.{Bool, true, false, cond, not, ◌&&◌}
use mathlib.Core.List.{List, [], ◌++◌, append-nil}
use Prim.Native.Nat.{ℕ, suc, ◌<◌, ◌≤◌}
use native.Mathlib.Omega.{arith}
use borrow.Author.Tests.{eqb-true, eqb-false, ltb-false}
use lib.Dec.{eqb, ltb}
use lib.ListN.{length, take, drop, replicate}
use lib.Seq.{take_at}
use Rattle.lists.proofs.Booleans.{no, and_left}
use Rattle.answers.proofs.LendingLaws.{writes}
use Rattle.answers.specs.Lending.{lent_after, room_for}
use Rattle.fields.specs.Bytes.{elements, Bytes}
use Rattle.fields.specs.Word.{bits, is_set}
use Rattle.fields.proofs.Elements.{elements_take}
use Rattle.answers.specs.Answers.{judged, next, Accepted, refused, Answer}
use Rattle.std.specs.Prelude.{Err}
use Rattle.answers.proofs.Judging.{no_accepted, rule_kept}
use Rattle.macroblock.specs.Cases.{motion_of, case_of, is_field}
use Rattle.headers.specs.Headers.{macroblock_header}
use Rattle.macroblock.specs.Legal.{Words, LegalCommand, Legal}
use Rattle.headers.specs.Words.{word_at}
use Rattle.macroblock.specs.Macroblocks.{intra_type, motion_in, macroblock_of, words_of}
use Rattle.macroblock.specs.Rules.{kept_by, type_permitted, field_rules, vector_rules, command_rules, alone}
use Rattle.macroblock.specs.declared.Macroblock.{Macroblock}
use Rattle.macroblock.proofs.CaseLaws.{vectors_four, field_kind, kind_again, type_back}
use Rattle.macroblock.proofs.CommandLaws.{macroblock_back, words_kept, word_below, bits_lt, macroblock_legal, words_back}
use Rattle.records.specs.Alone.{read_fault, read_answer, read_room, record_fault, write_answer, write_room, LegalRecord}
use Rattle.records.specs.Records.{recordable, recorded_command, uses_neither, record_of, macroblock_in}
use Rattle.records.specs.RecordRules.{record_rules}
use Rattle.records.proofs.AloneTests.{whole, right_length}
use Rattle.records.proofs.Recordable.{kept_exactly, recordable_legal, recorded_kept}
use Rattle.records.proofs.RecordLaws.{record_back, record_kept, record_legal, bytes_again}

-- what an accepted command keeps
pub read_kept : (ws : List ℕ) → read_fault ws ≡ Accepted → (word_at ws 0 ≡ macroblock_header) × (9 ≤ length ws) × (judged (command_rules alone ws) ≡ Accepted)
unfolding read_fault
read_kept ws e = by (eqb (length ws) 0) (eqb (word_at ws 0) macroblock_header) (ltb (length ws) 9) refl refl refl e
  where
    by : (x y z : Bool)
        → eqb (length ws) 0 ≡ x
        → eqb (word_at ws 0) macroblock_header ≡ y
        → ltb (length ws) 9 ≡ z
        → cond x (refused 1 0) (cond (not y) (refused 2 0) (cond z (refused 1 (length ws)) (judged (command_rules alone ws)))) ≡ Accepted
        → (word_at ws 0 ≡ macroblock_header) × (9 ≤ length ws) × (judged (command_rules alone ws) ≡ Accepted)
    by true y z ex ey ez e = absurd (no_accepted e)
    by false false z ex ey ez e = absurd (no_accepted e)
    by false true true ex ey ez e = absurd (no_accepted e)
    by false true false ex ey ez e = (eqb-true (word_at ws 0) macroblock_header ey, ltb-false (length ws) 9 ez, e)

-- Its first nine words are a command, and no other word is looked at.
first_nine : (ws : List ℕ) → Words ws → read_fault ws ≡ Accepted → LegalCommand (elements ws 0 9)
unfolding command_rules field_rules vector_rules macroblock_of
first_nine ws h e =
    let k = read_kept ws e in
    let b = word_below ws h in
    record {
      nine = refl;
      words = (b 0, (b 1, (b 2, (b 3, (b 4, (b 5, (b 6, (b 7, (b 8, tt)))))))));
      header = k.0;
      kept = k.2;
    }

legal_read : (ws : List ℕ) → Words ws → read_fault ws ≡ Accepted → Legal (macroblock_of ws)
unfolding macroblock_of
legal_read ws h e = macroblock_legal (elements ws 0 9) (first_nine ws h e)

nine_again : (ws : List ℕ) → Words ws → read_fault ws ≡ Accepted → words_of (macroblock_of ws) ≡ take 9 ws
unfolding macroblock_of
nine_again ws h e = words_back (elements ws 0 9) (first_nine ws h e) ∙ elements_take ws 9 (read_kept ws e).1

pub record_length_lem : (m : Macroblock) → length (record_of m) ≡ 24
unfolding record_of
record_length_lem m = refl

words_length : (m : Macroblock) → length (words_of m) ≡ 9
unfolding words_of
words_length m = ap (λ (n : ℕ). suc (suc (suc (suc (suc n))))) (vectors_four (motion_of m.case))

-- 24 bytes are filled by a record
nothing_beyond : (m : Macroblock) → record_of m ++ drop (length (record_of m)) (replicate 24 0) ≡ record_of m
nothing_beyond m = ap (λ (n : ℕ). record_of m ++ drop n (replicate 24 0)) (record_length_lem m) ∙ append-nil (record_of m)

-- A command with its header and nine words that keeps the rules is accepted, and its record stands in front of the lent bytes.
pub read_alone : (ws room : List ℕ) → word_at ws 0 ≡ macroblock_header → 9 ≤ length ws → judged (command_rules alone ws) ≡ Accepted → 24 ≤ length room
    → (read_answer ws room ≡ Accepted) × (read_room ws room ≡ record_of (macroblock_of ws) ++ drop 24 room)
unfolding read_answer read_room
read_alone ws room h n k r =
    let new = record_of (macroblock_of ws) in
    let fault : read_fault ws ≡ Accepted = whole ws (λ z. absurd (omega arith)) h n ∙ k in
    let w = writes (read_fault ws) 24 new room (new ++ drop (length new) room) fault r refl in
    (sym w.0, sym w.1 ∙ ap (λ (i : ℕ). new ++ drop i room) (record_length_lem (macroblock_of ws)))

-- The record of an accepted command is legal, and its words are those of what it has room for.
record_of_read : (ws : List ℕ) → Words ws → read_fault ws ≡ Accepted → record_fault (record_of (macroblock_of ws)) ≡ Accepted
record_of_read ws h e =
    let l = legal_read ws h e in
    right_length (record_of (macroblock_of ws)) (record_length_lem (macroblock_of ws)) ∙ record_kept (macroblock_of ws) l

words_of_record : (ws : List ℕ) → Words ws → read_fault ws ≡ Accepted → words_of (macroblock_in (record_of (macroblock_of ws))) ≡ recorded_command ws
words_of_record ws h e = ap words_of (record_back (macroblock_of ws) (legal_read ws h e))

-- The dct type and the type of an accepted command, read from its word 1.
module _ (ws : List ℕ) (h : Words ws) (e : read_fault ws ≡ Accepted) where
  abbrev one : ℕ
  one = word_at ws 1

  abbrev m : Macroblock
  m = macroblock_of ws

  type_right : type_permitted alone one ≡ true
  unfolding command_rules field_rules
  type_right = and_left (type_permitted alone one) (kept_by m).intra_not_skipped (rule_kept 5 1 (command_rules alone ws) (read_kept ws e).2)

  field_said : is_field m.case ≡ eqb (bits one 12 8) 4
  unfolding macroblock_of
  field_said =
      let most = (type_back (bits one 13 13) (bits one 12 8) (bits_lt one 13 13) type_right).2 in
      sym (field_kind (case_of (motion_in ws))) ∙ ap (λ (k : ℕ). eqb k 4) (kind_again (motion_in ws) most) ∙ by (is_set (bits one 13 13)) _ type_right
    where
      by : (x inter : Bool) → cond x (eqb (bits one 12 8) intra_type) inter ≡ true → eqb (cond x 0 (bits one 12 8)) 4 ≡ eqb (bits one 12 8) 4
      by true inter t = sym (ap (λ (k : ℕ). eqb k 4) (eqb-true (bits one 12 8) intra_type t))
      by false inter t = refl

  dct_said : eqb (bits one 15 15) 0 ≡ not m.dct_type
  unfolding macroblock_of
  dct_said = bit (bits one 15 15) (bits_lt one 15 15)
    where
      bit : (b : ℕ) → b < 2 → eqb b 0 ≡ not (is_set b)
      bit b l = by (eqb b 0) (is_set b) refl refl
        where
          by : (x y : Bool) → eqb b 0 ≡ x → is_set b ≡ y → x ≡ not y
          by true true ex ey = absurd (omega (arith, eqb-true b 0 ex, eqb-true b 1 ey))
          by true false ex ey = refl
          by false true ex ey = refl
          by false false ex ey = absurd (omega (arith, eqb-false b 0 ex, eqb-false b 1 ey))

  neither_said : uses_neither ws ≡ (not m.dct_type && not (is_field m.case))
  neither_said = ap₂ (λ (d f : Bool). d && not f) dct_said (sym field_said)

  -- The record of a command holds all of its macroblock exactly where bit 15 of word 1 is zero and the type is not 04h.
  pub recordable_exactly : (uses_neither ws ≡ true → recordable (macroblock_of ws) ≡ macroblock_of ws) × (recordable (macroblock_of ws) ≡ macroblock_of ws → uses_neither ws ≡ true)
  recordable_exactly = (
    λ u. let n = false-both m.dct_type (is_field m.case) (sym neither_said ∙ u) in (kept_exactly m).0 n.0 n.1,
    λ r. let n = (kept_exactly m).1 r in neither_said ∙ ap₂ (λ (d f : Bool). not d && not f) n.0 n.1,
  )
    where
      false-both : (a b : Bool) → (not a && not b) ≡ true → (a ≡ false) × (b ≡ false)
      false-both true b q = absurd (no q)
      false-both false true q = absurd (no q)
      false-both false false q = (refl, refl)

  -- So its nine words are those of what is recorded exactly there.
  pub words_exactly : (uses_neither ws ≡ true → recorded_command ws ≡ take 9 ws) × (recorded_command ws ≡ take 9 ws → uses_neither ws ≡ true)
  words_exactly =
      let l = legal_read ws h e in
      let nine = nine_again ws h e in (
        λ u. ap words_of (recordable_exactly.0 u) ∙ nine,
        λ q. recordable_exactly.1 (sym (macroblock_back (recordable m) (recordable_legal m l)) ∙ ap macroblock_of (q ∙ sym nine) ∙ macroblock_back m l),
      )

-- The command of a legal record is accepted, and its record is that one.
module _ (bs : List ℕ) (h : Bytes bs) (e : record_fault bs ≡ Accepted) where
  kept_length : (length bs ≡ 24) × (judged (record_rules bs) ≡ Accepted)
  unfolding record_fault
  kept_length = by (eqb (length bs) 24) refl e
    where
      by : (x : Bool) → eqb (length bs) 24 ≡ x → cond x (judged (record_rules bs)) (refused 15 0) ≡ Accepted → (length bs ≡ 24) × (judged (record_rules bs) ≡ Accepted)
      by true ex e = (eqb-true (length bs) 24 ex, e)
      by false ex e = absurd (no_accepted e)

  legal_written : Legal (macroblock_in bs)
  legal_written = record_legal bs kept_length.0 h kept_length.1

  written : LegalCommand (words_of (macroblock_in bs))
  written = words_kept (macroblock_in bs) legal_written

  read_of_record : read_fault (words_of (macroblock_in bs)) ≡ Accepted
  read_of_record =
      let n = written.nine in
      whole (words_of (macroblock_in bs)) (λ z. absurd (omega arith)) written.header (omega arith) ∙ written.kept

  -- It uses neither bit 15 nor type 04h: the legal records are those of the commands that do not.
  pub legal_uses_neither : uses_neither (words_of (macroblock_in bs)) ≡ true
  legal_uses_neither =
      let back = macroblock_back (macroblock_in bs) legal_written in
      (recordable_exactly (words_of (macroblock_in bs)) written.words read_of_record).1 (ap recordable back ∙ recorded_kept bs ∙ sym back)

  bytes_of_words : record_of (macroblock_of (words_of (macroblock_in bs))) ≡ bs
  bytes_of_words = ap record_of (macroblock_back (macroblock_in bs) legal_written) ∙ bytes_again bs kept_length.0 h kept_length.1

-- What an accepted operation leaves.
module _ (fault : Answer) (needed : ℕ) (new room : List ℕ) where
  fits : next fault (room_for needed room) ≡ Accepted → (fault ≡ Accepted) × (needed ≤ length room)
  fits e = by fault refl e
    where
      room_for_lem : (x : Bool) → ltb (length room) needed ≡ x → cond x (refused 14 needed) Accepted ≡ Accepted → needed ≤ length room
      room_for_lem true ex e = absurd (no_accepted e)
      room_for_lem false ex e = ltb-false (length room) needed ex

      by : (f : Answer) → fault ≡ f → next f (room_for needed room) ≡ Accepted → (fault ≡ Accepted) × (needed ≤ length room)
      by Accepted ef e = (ef, room_for_lem (ltb (length room) needed) refl e)
      by (Err f) ef e = absurd (no_accepted e)

  front : next fault (room_for needed room) ≡ Accepted → length new ≡ needed → take needed (lent_after (next fault (room_for needed room)) new room) ≡ new
  front e n = ap (λ (a : Answer). take needed (lent_after a new room)) e ∙ take_at new (drop (length new) room) needed n

  roomy : fault ≡ Accepted → needed ≤ length room → next fault (room_for needed room) ≡ Accepted
  roomy e h = sym (writes fault needed new room (new ++ drop (length new) room) e h refl).0

-- A command that is read into lent bytes, and written again from the record found there, is accepted and has the words of what the record
-- has room for.
pub recordable_again : (ws lent out : List ℕ)
    → Words ws
    → read_answer ws lent ≡ Accepted
    → 9 ≤ length out
    → (write_answer (take 24 (read_room ws lent)) out ≡ Accepted) × (take 9 (write_room (take 24 (read_room ws lent)) out) ≡ recorded_command ws)
unfolding read_answer read_room write_answer write_room
recordable_again ws lent out h e room =
    let fault = (fits (read_fault ws) 24 [] lent e).0 in
    let r = record_of (macroblock_of ws) in
    let found : take 24 (read_room ws lent) ≡ r = front (read_fault ws) 24 r lent e (record_length_lem (macroblock_of ws)) in
    let ok : write_answer r out ≡ Accepted = roomy (record_fault r) 9 [] out (record_of_read ws h fault) room in
    let nine : take 9 (write_room r out) ≡ recorded_command ws =
    front (record_fault r) 9 (words_of (macroblock_in r)) out ok (words_length (macroblock_in r)) ∙ words_of_record ws h fault in
    (ap (λ (b : List ℕ). write_answer b out) found ∙ ok, ap (λ (b : List ℕ). take 9 (write_room b out)) found ∙ nine)

-- Demand 2: "Each macroblock command becomes one record and each legal record one command, and either way back gives the same
-- bits." One that uses neither bit 15 nor type 04h has its nine words again; of the others document 02 says that "demand 2's ways back for
-- these, are owed with R-7".
pub command_again : (ws lent out : List ℕ)
    → Words ws
    → uses_neither ws ≡ true
    → read_answer ws lent ≡ Accepted
    → 9 ≤ length out
    → (write_answer (take 24 (read_room ws lent)) out ≡ Accepted) × (take 9 (write_room (take 24 (read_room ws lent)) out) ≡ take 9 ws)
unfolding read_answer
command_again ws lent out h u e room =
    let again = recordable_again ws lent out h e room in
    (again.0, again.1 ∙ (words_exactly ws h (fits (read_fault ws) 24 [] lent e).0).0 u)

-- A record that is written as a command, and read again from the words found there, has its 24 bytes again.
pub record_again : (bs lent out : List ℕ)
    → Bytes bs
    → write_answer bs lent ≡ Accepted
    → 24 ≤ length out
    → (read_answer (take 9 (write_room bs lent)) out ≡ Accepted) × (take 24 (read_room (take 9 (write_room bs lent)) out) ≡ bs)
unfolding read_answer read_room write_answer write_room
record_again bs lent out h e room =
    let fault = (fits (record_fault bs) 9 [] lent e).0 in
    let ws = words_of (macroblock_in bs) in
    let found : take 9 (write_room bs lent) ≡ ws = front (record_fault bs) 9 ws lent e (words_length (macroblock_in bs)) in
    let ok : read_answer ws out ≡ Accepted = roomy (read_fault ws) 24 [] out (read_of_record bs h fault) room in
    let all : take 24 (read_room ws out) ≡ bs = front (read_fault ws) 24 (record_of (macroblock_of ws)) out ok (record_length_lem (macroblock_of ws)) ∙ bytes_of_words bs h fault in
    (ap (λ (w : List ℕ). read_answer w out) found ∙ ok, ap (λ (w : List ℕ). take 24 (read_room w out)) found ∙ all)

-- "A record is legal if such a command gives it": the test that the writer makes, and that some command gives the record, are
-- the same.
pub legal_exactly : (bs : List ℕ) → Bytes bs → (record_fault bs ≡ Accepted → LegalRecord bs) × (LegalRecord bs → record_fault bs ≡ Accepted)
unfolding read_answer read_room
legal_exactly bs h = (given, tested)
  where
    given : record_fault bs ≡ Accepted → LegalRecord bs
    given e =
        let ws = words_of (macroblock_in bs) in
        let ok : read_answer ws (replicate 24 0) ≡ Accepted = roomy (read_fault ws) 24 [] (replicate 24 0) (read_of_record bs h e) (omega arith) in
        record {
          command = ws;
          are_words = (written bs h e).words;
          accepted = ok;
          gives = ap (λ (a : Answer). lent_after a (record_of (macroblock_of ws)) (replicate 24 0)) ok ∙ nothing_beyond (macroblock_of ws) ∙ bytes_of_words bs h e;
        }

    tested : LegalRecord bs → record_fault bs ≡ Accepted
    tested g =
        let ws = g.command in
        let fault = (fits (read_fault ws) 24 [] (replicate 24 0) g.accepted).0 in
        let r = record_of (macroblock_of ws) in
        let is : bs ≡ r = sym g.gives ∙ ap (λ (a : Answer). lent_after a r (replicate 24 0)) g.accepted ∙ nothing_beyond (macroblock_of ws) in
        ap record_fault is ∙ record_of_read ws g.are_words fault
