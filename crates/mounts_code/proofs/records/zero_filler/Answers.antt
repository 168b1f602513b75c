-- `zero_filler`: whether the seven bytes behind the side are zero.
use Rattle.mounts.proofs.SheetLaws.{zero_filler_lem}
use Rattle.mounts_code.proofs.records.zero_filler.Goals as goal

pub returns : goal.returns
returns c = zero_filler_lem c.args.sheets.now c.args.k c.number_at.result c.number_at.ensures
