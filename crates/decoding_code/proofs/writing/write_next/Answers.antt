-- `write_next`: writes the record of a command, the k-th MACROBLOCK if it is one, to the k-th place of the log.
use mathlib.Core.Bool.{true}
use mathlib.Core.Path.{◌≡◌, ap, ◌∙◌}
use Prim.Native.Nat.{ℕ}
use Rattle.headers.specs.Headers.{begins}
use Rattle.headers.specs.declared.Header.{Header}
use Rattle.headers.specs.declared.Header.TheVariants.{Known}
use Rattle.headers.specs.declared.Opcode.{Opcode}
use Rattle.headers.specs.declared.Opcode.TheVariants.{Macroblock}
use Rattle.decoding.proofs.LogLaws.{one_written}
use Rattle.decoding_code.proofs.writing.write_next.Goals as goal

macroblock : (h : Header) (o : Opcode) (n : ℕ) → h ≡ Known o n → o ≡ Macroblock → begins Macroblock h ≡ true
macroblock h o n e f = ap (begins Macroblock) e ∙ ap (λ (x : Opcode). begins Macroblock (Known x n)) f

pub returns : goal.returns
returns c =
    let a = c.args in
    let m = c.in-Known-Macroblock-default in
    let is = macroblock a.header _ _ m.is (rw m.is at m.field-0-is) in
    one_written (begins Macroblock a.header) a.k a.words.now _ a.log.now _ is c.requires c.macroblock_of-macroblock.ensures
    c.write_record.ensures.1
