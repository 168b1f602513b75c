-- A record byte by byte.
use mathlib.Core.Path.{◌≡◌, refl, sym, ◌∙◌}
use mathlib.Core.Bool.{Bool, true, false}
use mathlib.Core.List.{List, [], ◌∷◌}
use Prim.Native.Nat.{ℕ, ◌%◌, ◌<◌, ◌≤◌}
use native.Mathlib.Nat.{mod-eq_of_lt}
use native.Mathlib.Omega.{arith}
use lib.ListN.{get_or}
use Rattle.fields.specs.Word.{flag, packed}
use Rattle.fields.specs.Bytes.{bytes_of}
use Rattle.macroblock.specs.Cases.{motion_of}
use Rattle.macroblock.specs.declared.Macroblock.{Macroblock}
use Rattle.records.specs.Records.{flag_fields, recordable_case, record_of}
use Rattle.records.proofs.FlagsByte.{flags_fit}
use Rattle.records.proofs.Recordable.{recordable_most}

-- the bytes, from those of the longer parts and the single ones
abbrev pub bytes_by : List ℕ → List ℕ → List ℕ → ℕ → ℕ → ℕ → ℕ → ℕ → ℕ → ℕ → List ℕ → List ℕ → List ℕ
bytes_by col row up kind skip pattern max target quantiser flags fw bw =
    get_or col 0 0 ∷ get_or col 1 0 ∷ get_or row 0 0 ∷ get_or row 1 0 ∷ get_or up 0 0 ∷ get_or up 1 0
    ∷ kind ∷ skip ∷ pattern ∷ max ∷ target ∷ quantiser ∷ flags ∷ 0 ∷ 0 ∷ 0
    ∷ get_or fw 0 0 ∷ get_or fw 1 0 ∷ get_or fw 2 0 ∷ get_or fw 3 0 ∷ get_or bw 0 0 ∷ get_or bw 1 0 ∷ get_or bw 2 0 ∷ get_or bw 3 0 ∷ []

same : {a b c a' b' c' : List ℕ} {d e f g h i j d' e' f' g' h' i' j' : ℕ} {k l k' l' : List ℕ}
    → a ≡ a' → b ≡ b' → c ≡ c' → d ≡ d' → e ≡ e' → f ≡ f' → g ≡ g' → h ≡ h' → i ≡ i' → j ≡ j' → k ≡ k' → l ≡ l'
    → bytes_by a b c d e f g h i j k l ≡ bytes_by a' b' c' d' e' f' g' h' i' j' k' l'
same ea eb ec ed ee ef eg eh ei ej ek el = cc

flag_byte : (b : Bool) → flag b ≡ flag b % 256
flag_byte true = refl
flag_byte false = refl

pub flag_most : (b : Bool) → flag b ≤ 1
flag_most true = omega arith
flag_most false = omega arith

pub flag_fits : (b : Bool) → flag b < 256
flag_fits b = let most = flag_most b in omega arith

byte : {n : ℕ} → n < 256 → n ≡ n % 256
byte h = sym (mod-eq_of_lt h)

pub spelled : (m : Macroblock) {col row up fw bw : List ℕ} {kind skip flags : ℕ}
    → m.pattern < 256
    → m.max_size < 256
    → m.target_size < 256
    → m.quantiser < 256
    → col ≡ bytes_of 2 m.column
    → row ≡ bytes_of 2 m.row
    → up ≡ bytes_of 2 m.upper
    → kind ≡ (motion_of (recordable_case m.case)).kind
    → skip ≡ flag m.skip
    → flags ≡ packed (flag_fields m.flags)
    → fw ≡ bytes_of 4 (motion_of (recordable_case m.case)).forward
    → bw ≡ bytes_of 4 (motion_of (recordable_case m.case)).backward
    → bytes_by col row up kind skip m.pattern m.max_size m.target_size m.quantiser flags fw bw ≡ record_of m
unfolding record_of
spelled m hp hx ht hq ec er eu ek es eg ef eb =
    let k = recordable_most m.case in
    same ec er eu (ek ∙ byte (omega arith)) (es ∙ flag_byte m.skip) (byte hp) (byte hx) (byte ht) (byte hq) (eg ∙ byte (flags_fit m.flags)) ef eb
