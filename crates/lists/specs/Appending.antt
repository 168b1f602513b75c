-- Elements behind the first ones of a list that keeps its length.
-- Proved: what stands in front, by `appended_front` (proofs/Appending.antt).
use Rattle.std.specs.Prelude.{ℕ, ◌+◌, List, ◌++◌, length, take, drop}

-- The first `from` elements, some others behind them, and what stood beyond. What there is no room for is left out.
abbrev pub appended : {A : Type 0} → List A → ℕ → List A → List A
appended old from items = take (length old) (take from old ++ items) ++ drop (from + length items) old
