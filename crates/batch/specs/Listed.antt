-- What the list of commands says of a batch that was not refused.
-- To be believed: where a theorem is stated by it. It is proved of every walk that was not refused, by `listed` (proofs/CommandList.antt).
use Rattle.std.specs.Prelude.{List, [], ◌∷◌, ◌≡◌, true, ℕ, ◌*◌, ◌/◌, ◌%◌, ◌≤◌, ◌<◌, length, get_or, Ok}
use Rattle.progress.specs.declared.Progress.{Progress}
use Rattle.sequence.specs.Judging.{judge}
use Rattle.commands.specs.Commands.{Command, commands_of, macroblocks_in, batch_frame, batch_picture, how_many}
use Rattle.macroblock.specs.Macroblocks.{macroblock_of}
use Rattle.headers.specs.declared.Opcode.TheVariants.{Surface, Picture}
use Rattle.answers.specs.Answers.{judged, Accepted}
use Rattle.headers.specs.Headers.{macroblock_header}
use Rattle.headers.specs.Words.{word_at}
use Rattle.macroblock.specs.Rules.{alone, command_rules}
use Rattle.sequence.specs.Sound.{have_come}

-- From progress `p` to progress `q` by commands, none of which is refused.
abbrev pub Run : Progress → List Command → Progress → Type 0
Run p [] q = p ≡ q
Run p (c ∷ cs) q = (t : Progress) × (judge c.header p c.words ≡ Ok t) × Run t cs q

-- What the list of commands says of a walk that was not refused.
pub record Listed (ws : List ℕ) (p : Progress) : Type 0 where
  pub count : have_come p ≡ length (macroblocks_in (commands_of ws))
  pub order : (k : ℕ) → k < length (macroblocks_in (commands_of ws))
      → ((macroblock_of (get_or (macroblocks_in (commands_of ws)) k [])).column ≡ k % (batch_picture ws).grid.columns)
      × ((macroblock_of (get_or (macroblocks_in (commands_of ws)) k [])).row ≡ k / (batch_picture ws).grid.columns)
  pub frame : p.frame ≡ batch_frame ws
  pub picture : p.picture ≡ batch_picture ws
  pub surfaces : how_many Surface (commands_of ws) ≤ 1
  pub pictures : how_many Picture (commands_of ws) ≤ 1
  pub full : p.stage.ended ≡ true → length (macroblocks_in (commands_of ws)) ≡ (batch_picture ws).grid.rows * (batch_picture ws).grid.columns

-- What is asked of a MACROBLOCK command's words to be read alone: its header, nine words, and the rules of a command alone.
pub record Alone (m : List ℕ) : Type 0 where
  pub header : word_at m 0 ≡ macroblock_header
  pub nine : 9 ≤ length m
  pub kept : judged (command_rules alone m) ≡ Accepted

abbrev pub AllAlone : List (List ℕ) → Type 0
AllAlone [] = Unit {0}
AllAlone (m ∷ ms) = Alone m × AllAlone ms
