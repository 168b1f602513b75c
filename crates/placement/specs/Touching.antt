-- Which bytes a macroblock touches, by its samples.
-- To be believed: which samples a macroblock touches.
use Rattle.std.specs.Prelude.{ℕ, List, [], ◌∷◌, ◌⊎◌, Some, None}
use Rattle.prediction.specs.Vectors.{still}
use Rattle.prediction.specs.Blocks.{Occupies}
use Rattle.prediction.specs.declared.Position.{Position}
use Rattle.prediction.specs.declared.Surface.{Surface}
use Rattle.prediction.specs.declared.Structure.TheVariants.{Frame}
use Rattle.macroblock.specs.declared.Case.{Case}
use Rattle.progress.specs.Buffers.{Buffer, source, reconstructed, forward, backward}
use Rattle.placement.specs.Blocks.{forward_of, backward_of, bottom_of, Reference}

-- The blocks through which a macroblock touches a buffer. Document 01: "Every macroblock, skipped ones too, touches
-- its 16×16 luma and 8×8 chroma samples in buffers 0 and 1, and its predicted blocks in 2 (forward) and 3 (backward)." Document 02, R-6: a
-- field prediction has two blocks, of "the top field's vector" and "the bottom's".
abbrev pub references_in : Buffer → Case → List Reference
references_in source case = Some (Frame, still) ∷ []
references_in reconstructed case = Some (Frame, still) ∷ []
references_in forward case = forward_of case ∷ bottom_of case ∷ []
references_in backward case = backward_of case ∷ []

-- Some sample of a block, of a macroblock at this position, stands at the byte.
abbrev pub TouchedThrough : Surface → Position → Reference → ℕ → Type 0
TouchedThrough s at None byte = ⊥
TouchedThrough s at (Some (k, v)) byte = Occupies k s at v byte

-- Some sample of one of the blocks does.
abbrev pub TouchedBy : Surface → Position → List Reference → ℕ → Type 0
TouchedBy s at [] byte = ⊥
TouchedBy s at (r ∷ rs) byte = TouchedThrough s at r byte ⊎ TouchedBy s at rs byte
