use Rattle.lru_pairs.proofs.Seen.{live, held_promoted, view_promoted, laid_well}
use Rattle.lru_pairs.proofs.nodes.Nodes.promote.Goals as goal

pub promote-requires : goal.promote-requires
promote-requires g c = live c.self.inside.weights.items c.self.inside.list c.self.invariant c.args.self.now c.self.view_is c.args.place c.requires

pub invariant_of-self : goal.invariant_of-self
invariant_of-self g c = held_promoted c.self.inside.weights.items c.self.inside.list c.self.invariant c.args.self.now c.self.view_is c.args.place c.requires c.promote.new.self c.promote.ensures.promotes c.promote.ensures.numbered

pub returns-clause-rows : goal.returns-clause-rows
returns-clause-rows g c = view_promoted c.self.inside.weights.items c.self.inside.list c.self.invariant c.args.self.now c.self.view_is c.args.place c.requires c.promote.new.self c.promote.ensures.promotes c.promote.ensures.numbered

pub returns-clause-valid : goal.returns-clause-valid
returns-clause-valid g c = laid_well c.self.inside.weights.items c.promote.new.self (invariant_of-self g c)
