-- `state_words`: the words of a state.
use mir.Syntax.{w32}
use mathlib.Core.Path.{◌≡◌, ap, ◌∙◌}
use borrow.Author.Rules.{elem_Fits}
use Rattle.memory.specs.Memory.{progress_fields, own_fields, lengths_fields, placed, state_in, state_words, Fitting}
use Rattle.memory.proofs.MemoryLaws.{stored_read}
use Rattle.memory_code.proofs.storing.state_words.Goals as goal

pub returns : goal.returns
unfolding state_words
returns c =
    let fitting : Fitting c.args.state =
    let state = c.well_formed.0.1.1 in
    let progress = state.0.1.1 in
    let frame = progress.1.0.1.1 in
    let surface = frame.1.1.0.1.1 in
    let picture = progress.1.1.0.1.1 in
    let forward = picture.1.0.1.1 in
    let backward = picture.1.1.0.1.1 in
    let grid = picture.1.1.1.0.1.1 in
    let position = progress.1.1.1.0.1.1 in
    let previous = progress.1.1.1.1.0.1.1 in
    let buffer = state.1.1.1.1.1.0 in
    record {
      width = frame.0.1;
      height = frame.1.0.1;
      pitch = surface.0.1;
      chroma_row = surface.1.0.1;
      coding = picture.0.1;
      forward_x = forward.0.1;
      forward_y = forward.1.0.1;
      backward_x = backward.0.1;
      backward_y = backward.1.0.1;
      columns = grid.0.1;
      rows = grid.1.0.1;
      column = position.0.1;
      row = position.1.0.1;
      kind = previous.0.1;
      five = previous.1.0.1;
      six = previous.1.1.0.1;
      seven = previous.1.1.1.0.1;
      eight = previous.1.1.1.1.0.1;
      at = state.1.0.1;
      number = c.put_own.ensures.1;
      held_words = buffer.1.0.1;
      buffer = λ i. (elem_Fits w32 w32 c.args.state.buffer buffer.0 i buffer.1.1 tt).fits;
    } in
    let s = c.args.state in
    let words : c.put_lengths.new.memory ≡ state_words s =
    c.put_lengths.ensures
    ∙ ap (placed (lengths_fields s.lengths))
    (c.put_own.ensures.0 ∙ ap (placed (own_fields s)) (c.put_progress.ensures ∙ ap (placed (progress_fields s.progress)) c.put_buffer.ensures)) in
    (words, ap state_in words ∙ stored_read s fitting)
