use Rattle.lru_segmented.proofs.AsRows.{is_plain}
use Rattle.lru_segmented.proofs.unit_laws.plain_without_share.Goals as goal

pub returns : goal.returns
returns g c = is_plain
