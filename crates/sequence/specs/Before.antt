-- What a whole command came to before document 02's R-6: PICTURE and MACROBLOCK had document 01's rules, the other commands have theirs still.
-- Proved: where PICTURE's bit 10 is 1, against `judge`, by `judge_before_lem` (proofs/Before.antt).
use Rattle.std.specs.Prelude.{ℕ, List, [], ◌∷◌, ◌++◌}
use Rattle.answers.specs.Answers.{Rule, rule, judged}
use Rattle.headers.specs.declared.Header.{Header}
use Rattle.headers.specs.declared.Header.TheVariants.{Known, Carried, Unknown}
use Rattle.headers.specs.declared.Opcode.TheVariants.{Noop, End, Surface, Picture, SliceGroup, Macroblock}
use Rattle.picture.specs.Before.{picture_rules_before}
use Rattle.progress.specs.Progress.{concluded, Verdict}
use Rattle.progress.specs.declared.Progress.{Progress}
use Rattle.placement.specs.Before.{macroblock_rules_before, macroblock_next_before}
use Rattle.sequence.specs.Judging.{rules_of, next_of}
use Rattle.sequence.specs.Sequence.{picture_permitted}

unfoldable pub rules_before : Header → Progress → List ℕ → List Rule
rules_before (Known Noop n) p ws = rules_of (Known Noop n) p ws
rules_before (Known End n) p ws = rules_of (Known End n) p ws
rules_before (Known Surface n) p ws = rules_of (Known Surface n) p ws
rules_before (Known Picture n) p ws = (rule 3 0 (picture_permitted p.stage) ∷ []) ++ picture_rules_before p.frame ws
rules_before (Known SliceGroup n) p ws = rules_of (Known SliceGroup n) p ws
rules_before (Known Macroblock n) p ws = macroblock_rules_before p ws
rules_before (Carried n) p ws = rules_of (Carried n) p ws
rules_before Unknown p ws = rules_of Unknown p ws

unfoldable pub next_before : Header → Progress → List ℕ → Progress
next_before (Known Noop n) p ws = next_of (Known Noop n) p ws
next_before (Known End n) p ws = next_of (Known End n) p ws
next_before (Known Surface n) p ws = next_of (Known Surface n) p ws
next_before (Known Picture n) p ws = next_of (Known Picture n) p ws
next_before (Known SliceGroup n) p ws = next_of (Known SliceGroup n) p ws
next_before (Known Macroblock n) p ws = macroblock_next_before p ws
next_before (Carried n) p ws = next_of (Carried n) p ws
next_before Unknown p ws = next_of Unknown p ws

unfoldable pub judge_before : Header → Progress → List ℕ → Verdict
judge_before h p ws = concluded (judged (rules_before h p ws)) (next_before h p ws)
