use Rattle.std.proofs.Common.{sym, ◌∙◌}
use Rattle.lru_frames.specs.CrcLanes.{joined}
use Rattle.lru_frames.proofs.LaneLaws.{four_on}
use Rattle.lru_frames.proofs.crc_lanes.Lanes.with.Goals as goal

pub returns : goal.returns
returns c =
    let old = c.args.self in
    let more = c.new-more.result in
    four_on old.first old.second old.third old.fourth more.first more.second more.third more.fourth
    c.far.result c.far-2.result c.far-3.result c.far-4.result c.far.ensures c.far-2.ensures c.far-3.ensures c.far-4.ensures
    ∙ sym (c.new-more.ensures (joined old.first old.second old.third old.fourth))
