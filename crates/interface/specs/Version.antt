-- The version of the library.
-- To be believed: the version. That its number stands for it is `version_back` (proofs/VersionLaws.antt).
use Rattle.std.specs.Prelude.{ℕ, ◌+◌, ◌*◌, ◌/◌, ◌%◌, ◌^◌, ◌<◌, Bool, cond, ◌≡◌, eqb, ltb}

-- A major step: an older_than caller has to be changed or compiled again. A minor step: functions were added, and an older_than caller works
-- as it is. A patch step: neither, but answers may be others.
pub record Version : Type 0 where
  pub major : ℕ
  pub minor : ℕ
  pub patch : ℕ

-- The version of this library, 3.1.1.
abbrev pub library_version : Version
library_version = record { major = 3; minor = 1; patch = 1 }

-- A version as one number: major in bits 31:16, minor in 15:8, patch in 7:0.
abbrev pub version_number : Version → ℕ
version_number v = v.major * 65536 + v.minor * 256 + v.patch

-- The three numbers have 16, 8 and 8 bits.
pub record Fits (v : Version) : Type 0 where
  pub major : v.major < 65536
  pub minor : v.minor < 256
  pub patch : v.patch < 256

-- A number of 32 bits from which the three numbers are read back.
pub record ReadBack (v : Version) (n : ℕ) : Type 0 where
  pub word : n < 2 ^ 32
  pub major : n / 65536 ≡ v.major
  pub minor : n / 256 % 256 ≡ v.minor
  pub patch : n % 256 ≡ v.patch

-- An older_than version: the first number that differs is less.
abbrev pub older_than : Version → Version → Bool
older_than v w =
    cond (eqb v.major w.major)
    (cond (eqb v.minor w.minor) (ltb v.patch w.patch) (ltb v.minor w.minor))
    (ltb v.major w.major)
