use Rattle.std.proofs.Common.{Some, None}
use Rattle.lru_shard.proofs.PresentRows.{kept_accessed, view_accessed, at_place}
use Rattle.lru_shard.proofs.Views.{found_some, unaccessed}
use Rattle.lru_shard.proofs.unit.LruUnit.access.Goals as goal

pub returns-in_default-clause-answer : goal.returns-in_default-clause-answer
returns-in_default-clause-answer g c = found_some c.self.inside.rows c.self.inside.used_weight c.self.inside.cap c.self.invariant c.args.self.now c.self.view_is c.args.key None c.in_default.ensures.finds

pub returns-in_default-clause-rows : goal.returns-in_default-clause-rows
returns-in_default-clause-rows g c = unaccessed c.self.inside.rows c.self.inside.used_weight c.self.inside.cap c.self.invariant c.args.self.now c.self.view_is c.args.key c.in_default.ensures.finds

pub promote-requires : goal.promote-requires
promote-requires g c = at_place c.self.inside.rows c.self.inside.used_weight c.self.inside.cap c.self.invariant c.args.self.now c.self.view_is c.in-Some.ensures.valid c.args.key c.in-Some.place c.in-Some.ensures.finds

pub invariant_of-self : goal.invariant_of-self
invariant_of-self g c = kept_accessed c.self.inside.rows c.self.inside.used_weight c.self.inside.cap c.self.invariant c.args.self.now c.self.view_is c.in-Some.ensures.valid c.args.key c.in-Some.place c.in-Some.ensures.finds c.promote.new.self c.promote.ensures

pub returns-clause-answer : goal.returns-clause-answer
returns-clause-answer g c = found_some c.self.inside.rows c.self.inside.used_weight c.self.inside.cap c.self.invariant c.args.self.now c.self.view_is c.args.key (Some c.in-Some.place) c.in-Some.ensures.finds

pub returns-clause-rows : goal.returns-clause-rows
returns-clause-rows g c = view_accessed c.self.inside.rows c.self.inside.used_weight c.self.inside.cap c.self.invariant c.args.self.now c.self.view_is c.in-Some.ensures.valid c.args.key c.in-Some.place c.in-Some.ensures.finds c.promote.new.self c.promote.ensures
