-- The flags fill six bits of their byte.
use mathlib.Core.Path.{◌≡◌}
use Prim.Native.Nat.{ℕ, ◌/◌, ◌%◌, ◌<◌}
use native.Mathlib.Omega.{arith}
use Rattle.fields.specs.Word.{packed}
use Rattle.fields.proofs.Packing.{packed_field, packed_lt}
use Rattle.macroblock.specs.declared.Flags.{Flags}
use Rattle.records.specs.Records.{flag_fields}

pub flags_lt : (f : Flags) → packed (flag_fields f) < 64
flags_lt f = below (packed (flag_fields f)) (packed_lt (flag_fields f)) (packed_field (flag_fields f) 31 6 tt)
  where
    below : (n : ℕ) → n < 4294967296 → n / 64 % 67108864 ≡ 0 → n < 64
    below n h e = omega arith

pub flags_fit : (f : Flags) → packed (flag_fields f) < 256
flags_fit f = byte (packed (flag_fields f)) (flags_lt f)
  where
    byte : (n : ℕ) → n < 64 → n < 256
    byte n h = omega arith
