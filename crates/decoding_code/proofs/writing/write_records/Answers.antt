-- The records of the commands before word `at` are in their places.
use mathlib.Core.List.{List, []}
use mathlib.Core.Path.{◌≡◌, refl, ◌∙◌}
use Prim.Native.Nat.{ℕ}
use native.Mathlib.Omega.{arith}
use borrow.Author.Rules.{rules}
use Rattle.headers.specs.declared.Header.{Header}
use Rattle.commands.specs.declared.NextCommand.{NextCommand}
use Rattle.commands.specs.declared.NextCommand.TheVariants.{Unknown, Incomplete, Whole}
use Rattle.commands.proofs.CutLaws.{left_by, left_next}
use Rattle.commands.proofs.Gathering.{next_there, whole_there}
use Rattle.decoding.proofs.LogLaws.{writing_begins, writing_on, writing_ends, next_fits}
use Rattle.decoding_code.proofs.writing.write_records.Goals as goal

-- no whole command is next
none_left : (at : ℕ) (ws : List ℕ) (x : NextCommand) → ((h : Header) (n : ℕ) → x ≡ Whole h n → ⊥) → left_by at ws x ≡ []
none_left at ws Unknown k = refl
none_left at ws Incomplete k = refl
none_left at ws (Whole h n) k = absurd (k h n refl)

pub loop-header-init : goal.loop-header-init
loop-header-init c = writing_begins _ _ c.requires

pub returns : goal.returns
returns c =
    let l = c.loop-header in
    let ws = c.args.words.now in
    let next = c.next_command.result in
    writing_ends l.invariant (left_next _ _ _ (next_there l.at ws next next c.next_command.ensures refl) ∙ none_left l.at ws next c.in_default.not-Whole)

pub overflow_add-end : goal.overflow_add-end
overflow_add-end c = omega (arith, whole_there _ _ _ _ _ c.loop-header.invariant.within c.next_command.ensures c.in-Whole.is)

pub slice_bounds-write_next-end : goal.slice_bounds-write_next-end
slice_bounds-write_next-end c = omega (arith, whole_there _ _ _ _ _ c.loop-header.invariant.within c.next_command.ensures c.in-Whole.is)

pub write_next-k-requires : goal.write_next-k-requires
write_next-k-requires c =
    let l = c.loop-header in
    let stands = left_next _ _ _ (next_there l.at c.args.words.now _ _ c.next_command.ensures c.in-Whole.is) in
    next_fits c.in-Whole.header c.in-Whole.n l.invariant stands

pub loop-header-smaller : goal.loop-header-smaller
loop-header-smaller c = omega (arith, whole_there _ _ _ _ _ c.loop-header.invariant.within c.next_command.ensures c.in-Whole.is)

pub loop-header-preserved : goal.loop-header-preserved
loop-header-preserved c =
    let l = c.loop-header in
    let stands = left_next _ _ _ (next_there l.at c.args.words.now _ _ c.next_command.ensures c.in-Whole.is) in
    let f = whole_there _ _ _ _ _ l.invariant.within c.next_command.ensures c.in-Whole.is in
    let w = c.write_next-k in
    writing_on c.in-Whole.header c.in-Whole.n l.invariant stands _ _ f.1 w.ensures.0 w.ensures.1 (search rules)
