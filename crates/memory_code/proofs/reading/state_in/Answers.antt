-- `state_in`: the whole state.
use Rattle.memory.specs.Memory.{state_in}
use Rattle.memory_code.proofs.reading.state_in.Goals as goal

pub returns : goal.returns
unfolding state_in
returns c = simp (c.buffer_in-buffer.ensures, c.lengths_in-lengths.ensures, c.fault_in-fault.ensures, c.progress_in-progress.ensures)
