use Rattle.std.proofs.Common.{Some, None, ap, ◌∙◌}
use Rattle.lru_owned_cache.specs.Representation.{cached_in}
use Rattle.lru_owned_cache.proofs.Queried.{query_some, query_unused, query_at, query_kept_used, query_view_used}
use Rattle.lru_owned_cache.proofs.cache.Cache.promote_by.Goals as goal

pub returns-in_default-clause-answer : goal.returns-in_default-clause-answer
returns-in_default-clause-answer g c = query_some g.K.PartialEq.eq c.self.inside.rows.held c.self.inside.rows.hashes c.self.inside.weight c.self.inside.most_weight c.self.inside.most_entries c.self.invariant c.args.self.now c.self.view_is g.Q.Query.stands_for c.args.query None c.in_default.ensures.finds

pub returns-in_default-clause-entries : goal.returns-in_default-clause-entries
returns-in_default-clause-entries g c = query_unused g.K.PartialEq.eq c.self.inside.rows.held c.self.inside.rows.hashes c.self.inside.weight c.self.inside.most_weight c.self.inside.most_entries c.self.invariant c.args.self.now c.self.view_is g.Q.Query.stands_for c.args.query c.in_default.ensures.finds

pub promote-requires : goal.promote-requires
promote-requires g c = query_at g.K.PartialEq.eq c.self.inside.rows.held c.self.inside.rows.hashes c.self.inside.weight c.self.inside.most_weight c.self.inside.most_entries c.self.invariant c.args.self.now c.self.view_is g.Q.Query.stands_for c.args.query c.in-Some.place c.in-Some.ensures.finds

pub invariant_of-self : goal.invariant_of-self
invariant_of-self g c = query_kept_used g.K.PartialEq.eq c.self.inside.rows.held c.self.inside.rows.hashes c.self.inside.weight c.self.inside.most_weight c.self.inside.most_entries c.self.invariant c.args.self.now c.self.view_is g.Q.Query.stands_for c.args.query g.met.K.Eq.laws.refl (g.met.Q.Query.respects_eq c.args.query) c.find_by.ensures.valid c.in-Some.place c.in-Some.ensures.finds c.promote.new.self.held c.promote.ensures.rows

pub returns-clause-answer : goal.returns-clause-answer
returns-clause-answer g c = query_some g.K.PartialEq.eq c.self.inside.rows.held c.self.inside.rows.hashes c.self.inside.weight c.self.inside.most_weight c.self.inside.most_entries c.self.invariant c.args.self.now c.self.view_is g.Q.Query.stands_for c.args.query (Some c.in-Some.place) c.in-Some.ensures.finds

pub returns-clause-entries : goal.returns-clause-entries
returns-clause-entries g c =
    ap (λ h. cached_in c.promote.new.self.held h c.self.inside.most_weight c.self.inside.most_entries) c.promote.ensures.hashes
    ∙ query_view_used g.K.PartialEq.eq c.self.inside.rows.held c.self.inside.rows.hashes c.self.inside.weight c.self.inside.most_weight c.self.inside.most_entries c.self.invariant c.args.self.now c.self.view_is g.Q.Query.stands_for c.args.query g.met.K.Eq.laws.refl (g.met.Q.Query.respects_eq c.args.query) c.find_by.ensures.valid c.in-Some.place c.in-Some.ensures.finds c.promote.new.self.held c.promote.ensures.rows
