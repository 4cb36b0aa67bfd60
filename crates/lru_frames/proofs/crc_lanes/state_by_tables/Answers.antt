use Rattle.std.proofs.Common.{rules, ◌≡◌, ◌∙◌}
use Rattle.std.specs.List.{fold}
use Rattle.lru_frames.specs.Crc.{step}
use Rattle.lru_frames.proofs.crc_lanes.state_by_tables.Goals as goal

pub returns : goal.returns
returns c =
    let tail : c.fold.result ≡ fold step c.loop-rest.state c.loop-rest.rest.now = search rules in
    tail ∙ c.loop-rest.invariant
