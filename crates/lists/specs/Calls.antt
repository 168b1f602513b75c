-- States that are handed on from call to call. `Step s c t`: the call `c` on the state `s` promises this of the state `t` that it returns.
-- To be believed: that calls which hand a state on are meant by this.
use Rattle.std.specs.Prelude.{List, [], ◌∷◌, ◌≡◌}

-- From state `s` to state `r` by a list of calls: for the empty list they are the same; for a call and more calls, some state meets what
-- that call on `s` promises, and `r` comes from it by the others.
abbrev pub Along : {S C : Type 0} → (S → C → S → Type 0) → S → List C → S → Type 0
Along Step s [] r = s ≡ r
Along {S = S} Step s (c ∷ cs) r = (t : S) × Step s c t × Along Step t cs r
