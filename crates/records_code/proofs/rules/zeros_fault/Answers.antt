-- The first bad byte of the three parts is found part by part.
use mathlib.Core.Bool.{false}
use mathlib.Core.Path.{◌∙◌}
use mathlib.Core.List.{◌++◌}
use Rattle.answers.proofs.Judging.{judged_append}
use Rattle.records.specs.Layout.{filler_part, forward_part, backward_part}
use Rattle.records.specs.RecordRules.{has_forward, has_backward, unused_part, zero_rules}
use Rattle.records_code.proofs.rules.zeros_fault.Goals as goal

pub returns : goal.returns
unfolding zero_rules
returns c =
    let bytes = c.args.bytes.now in
    let kind = c.args.kind in
    let forward = unused_part (has_forward kind) forward_part bytes in
    let backward = unused_part (has_backward kind) backward_part bytes in
    let vectors = judged_append forward backward in
    let all = judged_append (unused_part false filler_part bytes) (forward ++ backward) in
    c.earlier-2.ensures
    ∙ rw (c.earlier.ensures, c.unused_fault-second.ensures, c.unused_fault-first.ensures, c.unused_fault-filler.ensures, all, vectors)
