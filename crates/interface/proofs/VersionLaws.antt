-- A version's number stands for the three numbers of the version, and is ordered as they are.
use mathlib.Core.Bool.{Bool, true, false, cond}
use mathlib.Core.Path.{◌≡◌, refl}
use Prim.Native.Nat.{ℕ, ◌≤◌, ◌<◌}
use native.Mathlib.Omega.{arith}
use lib.Dec.{eqb, ltb}
use borrow.Author.Tests.{ltb-true, ltb-false, lt-ltb, le-ltb, eqb-true, eqb-false}
use Rattle.interface.specs.Version.{Version, library_version, version_number, Fits, ReadBack, older_than}

-- The number stands for the version.
pub version_back : (v : Version) → Fits v → ReadBack v (version_number v)
version_back v f = record { word = omega arith; major = omega arith; minor = omega arith; patch = omega arith }

-- What the library answers is such a number.
pub library_version_back : ReadBack library_version (version_number library_version)
library_version_back = version_back library_version (record { major = omega arith; minor = omega arith; patch = omega arith })

-- two tests that agree
alike : (m n a b : ℕ) → (a < b → m < n) → (b ≤ a → n ≤ m) → ltb m n ≡ ltb a b
alike m n a b less more = by (ltb a b) refl
  where
    by : (t : Bool) → ltb a b ≡ t → ltb m n ≡ t
    by true e = lt-ltb m n (less (ltb-true a b e))
    by false e = le-ltb m n (more (ltb-false a b e))

-- The less number is the older_than version's.
pub version_order : (v w : Version) → Fits v → Fits w → ltb (version_number v) (version_number w) ≡ older_than v w
version_order v w f g = by-major (eqb v.major w.major) refl
  where
    by-minor : v.major ≡ w.major
        → (t : Bool)
        → eqb v.minor w.minor ≡ t
        → ltb (version_number v) (version_number w) ≡ cond t (ltb v.patch w.patch) (ltb v.minor w.minor)
    by-minor i true e =
        let j = eqb-true v.minor w.minor e in
        alike (version_number v) (version_number w) v.patch w.patch (λ l. omega arith) (λ l. omega arith)
    by-minor i false e =
        let j = eqb-false v.minor w.minor e in
        alike (version_number v) (version_number w) v.minor w.minor (λ l. omega arith) (λ l. omega arith)

    by-major : (t : Bool)
        → eqb v.major w.major ≡ t
        → ltb (version_number v) (version_number w)
        ≡ cond t (cond (eqb v.minor w.minor) (ltb v.patch w.patch) (ltb v.minor w.minor)) (ltb v.major w.major)
    by-major true e = by-minor (eqb-true v.major w.major e) (eqb v.minor w.minor) refl
    by-major false e =
        let j = eqb-false v.major w.major e in
        alike (version_number v) (version_number w) v.major w.major (λ l. omega arith) (λ l. omega arith)
