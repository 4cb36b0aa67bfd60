use Rattle.lru_pairs.proofs.Seen.{live, held_demoted, view_demoted, laid_well}
use Rattle.lru_pairs.proofs.nodes.Nodes.demote.Goals as goal

pub demote-requires : goal.demote-requires
demote-requires g c = live c.self.inside.weights.items c.self.inside.list c.self.invariant c.args.self.now c.self.view_is c.args.place c.requires

pub invariant_of-self : goal.invariant_of-self
invariant_of-self g c = held_demoted c.self.inside.weights.items c.self.inside.list c.self.invariant c.args.self.now c.self.view_is c.args.place c.requires c.demote.new.self c.demote.ensures.demotes c.demote.ensures.numbered

pub returns-clause-rows : goal.returns-clause-rows
returns-clause-rows g c = view_demoted c.self.inside.weights.items c.self.inside.list c.self.invariant c.args.self.now c.self.view_is c.args.place c.requires c.demote.new.self c.demote.ensures.demotes c.demote.ensures.numbered

pub returns-clause-valid : goal.returns-clause-valid
returns-clause-valid g c = laid_well c.self.inside.weights.items c.demote.new.self (invariant_of-self g c)
