use Rattle.lru_rows.proofs.Lives.{slot_there, key_there}
use Rattle.lru_rows.proofs.order.OrderKeys.key_at.Goals as goal

pub slot-requires : goal.slot-requires
slot-requires g c = slot_there c.args.self.now.list c.args.place c.requires

pub returns : goal.returns
returns g c = key_there c.args.self.now.list c.args.place c.slot.result.now c.requires c.slot.ensures
