-- The four picture buffers.
-- To be believed: the buffers' numbers.
use Rattle.std.specs.Prelude.{ℕ, List, [], ◌∷◌}
use Rattle.prediction.specs.declared.Extent.{Extent}
use Rattle.progress.specs.declared.Extents.{Extents}

pub data Buffer : Type 0 where
  source : Buffer
  reconstructed : Buffer
  forward : Buffer
  backward : Buffer

-- Document 01: "0 source, 1 reconstructed, 2 forward reference, 3 backward reference".
abbrev pub buffer_number : Buffer → ℕ
buffer_number source = 0
buffer_number reconstructed = 1
buffer_number forward = 2
buffer_number backward = 3

abbrev pub buffers : List Buffer
buffers = source ∷ reconstructed ∷ forward ∷ backward ∷ []

-- What is touched of a buffer.
abbrev pub extent_of : Buffer → Extents → Extent
extent_of source e = e.source
extent_of reconstructed e = e.reconstructed
extent_of forward e = e.forward
extent_of backward e = e.backward
