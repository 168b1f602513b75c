-- What a whole command comes to: a table of rules by its header, and the progress after it.
-- To be believed: which rules a command has, and what it changes.
use Rattle.std.specs.Prelude.{ℕ, false, List, [], ◌∷◌, ◌++◌}
use Rattle.answers.specs.Answers.{Rule, rule, judged}
use Rattle.headers.specs.declared.Header.{Header}
use Rattle.headers.specs.declared.Header.TheVariants.{Known, Carried, Unknown}
use Rattle.headers.specs.declared.Opcode.TheVariants.{Noop, End, Surface, Picture, SliceGroup, Macroblock}
use Rattle.picture.specs.Surfaces.{surface_of, surface_rules}
use Rattle.picture.specs.Pictures.{picture_of, picture_rules}
use Rattle.progress.specs.Progress.{concluded, Verdict}
use Rattle.progress.specs.declared.Progress.{Progress}
use Rattle.placement.specs.Placing.{macroblock_rules}
use Rattle.placement.specs.Progressing.{macroblock_next}
use Rattle.sequence.specs.Sequence.{surface_permitted, picture_permitted, group_permitted, carried_permitted, end_permitted, surface_next, picture_next, group_next, end_next}

-- The rules of each command. "3 out of sequence: header". "NOOP may stand anywhere." "Carried commands and SLICEGROUP have no
-- rule past their headers." "2 unknown header".
unfoldable pub rules_of : Header → Progress → List ℕ → List Rule
rules_of (Known Noop n) p ws = []
rules_of (Known End n) p ws = rule 3 0 (end_permitted p.stage p.picture.grid p.position) ∷ []
rules_of (Known Surface n) p ws = (rule 3 0 (surface_permitted p.stage) ∷ []) ++ surface_rules ws
rules_of (Known Picture n) p ws = (rule 3 0 (picture_permitted p.stage) ∷ []) ++ picture_rules p.frame ws
rules_of (Known SliceGroup n) p ws = rule 3 0 (group_permitted p.stage p.picture.grid p.position) ∷ []
rules_of (Known Macroblock n) p ws = macroblock_rules p ws
rules_of (Carried n) p ws = rule 3 0 (carried_permitted p.stage) ∷ []
rules_of Unknown p ws = rule 2 0 false ∷ []

-- How far the batch has come after a command that keeps its rules.
unfoldable pub next_of : Header → Progress → List ℕ → Progress
next_of (Known Noop n) p ws = p
next_of (Known End n) p ws = end_next p
next_of (Known Surface n) p ws = surface_next p (surface_of ws)
next_of (Known Picture n) p ws = picture_next p (picture_of ws)
next_of (Known SliceGroup n) p ws = group_next p
next_of (Known Macroblock n) p ws = macroblock_next p ws
next_of (Carried n) p ws = p
next_of Unknown p ws = p

unfoldable pub judge : Header → Progress → List ℕ → Verdict
judge h p ws = concluded (judged (rules_of h p ws)) (next_of h p ws)
