use Rattle.std.proofs.Common.{Some, None, ap, ◌∙◌}
use Rattle.lru_owned_cache.specs.Representation.{cached_in}
use Rattle.lru_owned_cache.proofs.Views.{found_some, unused, is_at, kept_used, view_used, valid_cache}
use Rattle.lru_owned_cache.proofs.cache.Cache.promote.Goals as goal

pub returns-in_default-clause-answer : goal.returns-in_default-clause-answer
returns-in_default-clause-answer g c = found_some g.K.PartialEq.eq c.self.inside.rows.held c.self.inside.rows.hashes c.self.inside.weight c.self.inside.most_weight c.self.inside.most_entries c.self.invariant c.args.self.now c.self.view_is c.args.key.now None c.in_default.ensures.finds

pub returns-in_default-clause-entries : goal.returns-in_default-clause-entries
returns-in_default-clause-entries g c = unused g.K.PartialEq.eq c.self.inside.rows.held c.self.inside.rows.hashes c.self.inside.weight c.self.inside.most_weight c.self.inside.most_entries c.self.invariant c.args.self.now c.self.view_is c.args.key.now c.in_default.ensures.finds

pub promote-requires : goal.promote-requires
promote-requires g c = is_at g.K.PartialEq.eq c.self.inside.rows.held c.self.inside.rows.hashes c.self.inside.weight c.self.inside.most_weight c.self.inside.most_entries c.self.invariant c.args.self.now c.self.view_is c.args.key.now c.in-Some.place c.in-Some.ensures.finds

pub invariant_of-self : goal.invariant_of-self
invariant_of-self g c = kept_used g.K.PartialEq.eq c.self.inside.rows.held c.self.inside.rows.hashes c.self.inside.weight c.self.inside.most_weight c.self.inside.most_entries c.self.invariant c.args.self.now c.self.view_is c.args.key.now c.find.ensures.valid c.in-Some.place c.in-Some.ensures.finds c.promote.new.self.held c.promote.ensures.rows

pub returns-clause-answer : goal.returns-clause-answer
returns-clause-answer g c = found_some g.K.PartialEq.eq c.self.inside.rows.held c.self.inside.rows.hashes c.self.inside.weight c.self.inside.most_weight c.self.inside.most_entries c.self.invariant c.args.self.now c.self.view_is c.args.key.now (Some c.in-Some.place) c.in-Some.ensures.finds

pub returns-clause-entries : goal.returns-clause-entries
returns-clause-entries g c =
    ap (λ h. cached_in c.promote.new.self.held h c.self.inside.most_weight c.self.inside.most_entries) c.promote.ensures.hashes
    ∙ view_used g.K.PartialEq.eq c.self.inside.rows.held c.self.inside.rows.hashes c.self.inside.weight c.self.inside.most_weight c.self.inside.most_entries c.self.invariant c.args.self.now c.self.view_is c.args.key.now c.find.ensures.valid c.in-Some.place c.in-Some.ensures.finds c.promote.new.self.held c.promote.ensures.rows

pub returns-in_default-clause-valid : goal.returns-in_default-clause-valid
returns-in_default-clause-valid g c = valid_cache g.K.PartialEq.eq c.self.inside.rows.held c.self.inside.rows.hashes c.self.inside.weight c.self.inside.most_weight c.self.inside.most_entries c.self.invariant c.args.self.now c.self.view_is c.find.ensures.valid

pub returns-clause-valid : goal.returns-clause-valid
returns-clause-valid g c = valid_cache g.K.PartialEq.eq c.self.inside.rows.held c.self.inside.rows.hashes c.self.inside.weight c.self.inside.most_weight c.self.inside.most_entries c.self.invariant c.args.self.now c.self.view_is c.find.ensures.valid
