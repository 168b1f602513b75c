-- The bytes that are put into a record are those of its parts.
use mathlib.Core.Path.{◌≡◌, refl, sym, ap, ap₂, ◌∙◌}
use mathlib.Core.Bool.{cond}
use mathlib.Core.List.{List}
use Prim.Native.Nat.{ℕ}
use native.Mathlib.Omega.{arith}
use lib.Dec.{eqb}
use lib.Seq.{sets}
use Rattle.macroblock.specs.declared.Motion.{Motion}
use Rattle.fields.specs.Bytes.{bytes_of}
use Rattle.records.proofs.Recordable.{recordable_numbers}
use Rattle.records.proofs.Spelling.{spelled}
use Rattle.records_code.proofs.layout.record_of.Goals as goal

-- one part more
put : {to from base part : List ℕ} (i : ℕ) (bytes : List ℕ) → to ≡ sets from i part → part ≡ bytes → from ≡ base → to ≡ sets base i bytes
put i bytes e p f = e ∙ ap₂ (λ (l part : List ℕ). sets l i part) f p

pub returns : goal.returns
returns c = let m = c.args.macroblock in
    let motion = c.motion_of-motion.ensures in
    let forward = c.motion_of-motion.result.forward in
    let recorded = recordable_numbers m.case in
    let second : c.put_halves-2.new.bytes ≡ sets c.put_halves.new.bytes 16 (bytes_of 4 forward) = c.put_halves-2.ensures in
    put 0 (bytes_of 2 m.column) c.put-3.ensures c.bytes16-3.ensures
    (put 2 (bytes_of 2 m.row) c.put-2.ensures c.bytes16-2.ensures
    (put 4 (bytes_of 2 m.upper) c.put.ensures c.bytes16.ensures
    (put 16 (bytes_of 4 forward) second refl
    c.put_halves.ensures)))
    ∙ spelled m
    (omega arith)
    (omega arith)
    (omega arith)
    (omega arith)
    refl
    refl
    refl
    (c.recordable_kind-kind.ensures ∙ ap (λ (x : Motion). cond (eqb x.kind 4) 1 x.kind) motion ∙ sym recorded.0)
    c.flag_of.ensures
    c.flags_byte-flags.ensures
    (ap (λ (x : Motion). bytes_of 4 x.forward) motion ∙ ap (bytes_of 4) (sym recorded.1))
    (ap (λ (x : Motion). bytes_of 4 x.backward) motion ∙ ap (bytes_of 4) (sym recorded.2))
