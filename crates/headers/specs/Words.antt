-- The words of a command.
-- To be believed: that a word which is not there counts as 0.
use Rattle.std.specs.Prelude.{ℕ, List, get_or}

-- A word of a command by its number from the header, which is 0. A word that is not there counts as 0.
abbrev pub word_at : List ℕ → ℕ → ℕ
word_at ws i = get_or ws i 0
