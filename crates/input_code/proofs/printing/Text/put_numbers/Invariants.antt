-- `put_numbers`: numbers, each with a space before it; the loop has put those before it.
use Rattle.std.proofs.Common.{◌≡◌, ◌++◌, take}
use Rattle.input.specs.Text.{spaced}
use Rattle.input_code.proofs.printing.Text.put_numbers.Given as goal

abbrev pub invariant-loop-n : goal.invariant-loop-n
invariant-loop-n l = l.self ≡ l.initial.self ++ spaced (take l.n-index l.numbers)
