-- `decode`: decodes a batch with four buffers of these lengths into the log.
use mathlib.Core.Path.{◌≡◌}
use native.Mathlib.Omega.{arith}
use Rattle.std.specs.Prelude.{Ok}
use Rattle.batch.specs.Reports.{verdict_of}
use Rattle.decoding.proofs.Outcomes.{lacks_room, writes, has_room}
use Rattle.decoding_code.proofs.whole.decode.Goals as goal

pub returns-then-log-needed : goal.returns-then-log-needed
returns-then-log-needed c =
    let a = c.args in
    let ended : verdict_of a.words.now ≡ Ok c.in_ok-progress.progress = grind arith in
    lacks_room a.lengths a.words.now a.log.now _ _ ended c.report_of.ensures _ c.in_ok-reported.was _ c.log_length-needed.ensures c.if-log-needed.true

pub write_records-requires : goal.write_records-requires
write_records-requires c =
    let a = c.args in
    let ended : verdict_of a.words.now ≡ Ok c.in_ok-progress.progress = grind arith in
    has_room a.lengths a.words.now a.log.now _ _ ended c.report_of.ensures _ c.in_ok-reported.was _ c.log_length-needed.ensures c.if-log-needed.false

pub returns : goal.returns
returns c =
    let a = c.args in
    let ended : verdict_of a.words.now ≡ Ok c.in_ok-progress.progress = grind arith in
    writes a.lengths a.words.now a.log.now _ _ ended c.report_of.ensures _ c.in_ok-reported.was _ c.log_length-needed.ensures _ c.if-log-needed.false
    c.write_records.ensures
