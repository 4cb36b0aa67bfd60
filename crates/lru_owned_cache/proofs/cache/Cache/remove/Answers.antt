use Rattle.std.proofs.Common.{ap, ◌∙◌}
use Rattle.lru_owned_cache.specs.Representation.{cached_in}
use Rattle.lru_owned_cache.proofs.Views.{unfound, out_light, kept_gone, answer_gone, view_gone, view_unremoved, valid_cache}
use Rattle.lru_owned_cache.proofs.cache.Cache.remove.Goals as goal

pub returns-in_err-row-clause-answer : goal.returns-in_err-row-clause-answer
returns-in_err-row-clause-answer g c = unfound g.K.PartialEq.eq c.self.inside.rows.held c.self.inside.rows.hashes c.self.inside.weight c.self.inside.most_weight c.self.inside.most_entries c.self.invariant c.args.self.now c.self.view_is c.args.key.now c.from_residual.result c.from_residual.ensures c.in_err-row.ensures.removes.0

pub returns-in_err-row-clause-entries : goal.returns-in_err-row-clause-entries
returns-in_err-row-clause-entries g c =
    ap (λ h. cached_in c.remove.new.self.held h c.self.inside.most_weight c.self.inside.most_entries) c.in_err-row.ensures.hashes
    ∙ view_unremoved g.K.PartialEq.eq c.self.inside.rows.held c.self.inside.rows.hashes c.self.inside.weight c.self.inside.most_weight c.self.inside.most_entries c.self.invariant c.args.self.now c.self.view_is c.args.key.now c.remove.new.self.held c.in_err-row.ensures.removes.1 c.in_err-row.ensures.removes.0

pub overflow_sub-self : goal.overflow_sub-self
overflow_sub-self g c = out_light g.K.PartialEq.eq c.self.inside.rows.held c.self.inside.rows.hashes c.self.inside.weight c.self.inside.most_weight c.self.inside.most_entries c.self.invariant c.args.self.now c.self.view_is c.args.key.now c.in_ok-row.ensures.valid c.in_ok-row.row c.remove.new.self.held c.in_ok-row.ensures.removes

pub invariant_of-self-2 : goal.invariant_of-self-2
invariant_of-self-2 g c = kept_gone g.K.PartialEq.eq c.self.inside.rows.held c.self.inside.rows.hashes c.self.inside.weight c.self.inside.most_weight c.self.inside.most_entries c.self.invariant c.args.self.now c.self.view_is c.args.key.now c.in_ok-row.ensures.valid c.in_ok-row.row c.remove.new.self.held c.in_ok-row.ensures.removes

pub returns-clause-answer : goal.returns-clause-answer
returns-clause-answer g c = answer_gone g.K.PartialEq.eq c.self.inside.rows.held c.self.inside.rows.hashes c.self.inside.weight c.self.inside.most_weight c.self.inside.most_entries c.self.invariant c.args.self.now c.self.view_is c.args.key.now c.in_ok-row.ensures.valid c.in_ok-row.row c.remove.new.self.held c.in_ok-row.ensures.removes

pub returns-clause-entries : goal.returns-clause-entries
returns-clause-entries g c =
    ap (λ h. cached_in c.remove.new.self.held h c.self.inside.most_weight c.self.inside.most_entries) c.in_ok-row.ensures.hashes
    ∙ view_gone g.K.PartialEq.eq c.self.inside.rows.held c.self.inside.rows.hashes c.self.inside.weight c.self.inside.most_weight c.self.inside.most_entries c.self.invariant c.args.self.now c.self.view_is c.args.key.now c.in_ok-row.ensures.valid c.in_ok-row.row c.remove.new.self.held c.in_ok-row.ensures.removes

pub returns-in_err-row-clause-valid : goal.returns-in_err-row-clause-valid
returns-in_err-row-clause-valid g c = valid_cache g.K.PartialEq.eq c.self.inside.rows.held c.self.inside.rows.hashes c.self.inside.weight c.self.inside.most_weight c.self.inside.most_entries c.self.invariant c.args.self.now c.self.view_is c.in_err-row.ensures.valid

pub returns-clause-valid : goal.returns-clause-valid
returns-clause-valid g c = valid_cache g.K.PartialEq.eq c.self.inside.rows.held c.self.inside.rows.hashes c.self.inside.weight c.self.inside.most_weight c.self.inside.most_entries c.self.invariant c.args.self.now c.self.view_is c.in_ok-row.ensures.valid
