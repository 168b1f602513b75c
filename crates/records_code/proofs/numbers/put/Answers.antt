-- `put`: the bytes of a part stand from byte i on.
use Rattle.std.proofs.Common.{◌≡◌, ℕ, ◌+◌, ◌-◌, List, ◌++◌, length, take, drop, append_assoc, sym, ap, ap₂, ◌∙◌, arith, rules}
use Rattle.std.proofs.lemmas.List.Edits.{sets-eq}
use borrow.Rule.Slice.PartMut.{put_mid}
use lib.Seq.{drop-drop}
use Rattle.records_code.proofs.numbers.put.Goals as goal

pub returns : goal.returns
returns c =
    let i = c.args.i in
    let bytes = c.args.bytes.now in
    let part = c.args.part.now in
    let long : length bytes ≡ 24 = search rules in
    let k : i + length part - i ≡ length part = omega arith in
    ap₂ (λ (n : ℕ) (xs : List ℕ). put_mid i n bytes xs) k c.copy_from_slice.ensures.after
    ∙ ap (λ (xs : List ℕ). take i bytes ++ (part ++ xs)) (drop-drop (length part) i bytes)
    ∙ sym (append_assoc (take i bytes) part (drop (i + length part) bytes))
    ∙ sym (sets-eq part bytes i (omega (arith, c.requires, long)))
