use Rattle.std.proofs.Common.{subst, refl, sym, ◌∙◌, Some}
use Rattle.lru_rows.specs.Rows.{recency, promoted}
use Rattle.lru_owned_cache.specs.Cache.{UpdatesEntry}
use Rattle.lru_owned_cache.specs.Representation.{cached_in}
use Rattle.lru_owned_cache.proofs.Rows.{at_updated, first_updated}
use Rattle.lru_owned_cache.proofs.Queried.{query_unupdated, query_at, query_kept_updated, query_view_updated}
use Rattle.lru_owned_cache.proofs.cache.Cache.update_hashed.Goals as goal

pub returns-in_err-found : goal.returns-in_err-found
returns-in_err-found g c = query_unupdated g.K.PartialEq.eq c.self.inside.rows.held c.self.inside.rows.hashes c.self.inside.weight c.self.inside.most_weight c.self.inside.most_entries c.self.invariant c.args.self.now c.self.view_is g.Q.Query.stands_for c.args.query (λ lent w answer left. (g.U.FnOnce).post c.args.update (lent, (w, tt)) (answer, (left, tt))) c.from_residual.result c.from_residual.ensures c.in_err-found.ensures.finds

pub update-answer-requires-clause-held : goal.update-answer-requires-clause-held
update-answer-requires-clause-held g c = query_at g.K.PartialEq.eq c.self.inside.rows.held c.self.inside.rows.hashes c.self.inside.weight c.self.inside.most_weight c.self.inside.most_entries c.self.invariant c.args.self.now c.self.view_is g.Q.Query.stands_for c.args.query c.in_ok-found.found c.in_ok-found.ensures.finds

pub promote-requires : goal.promote-requires
promote-requires g c = at_updated (λ lent w answer left. (g.U.FnOnce).post c.args.update (lent, (w, tt)) (answer, (left, tt))) c.in_ok-found.found c.update-answer.result c.self.inside.rows.held c.update-answer.new.self.held c.update-answer.ensures.updates

pub invariant_of-self : goal.invariant_of-self
invariant_of-self g c = query_kept_updated g.K.PartialEq.eq c.self.inside.rows.held c.self.inside.rows.hashes c.self.inside.weight c.self.inside.most_weight c.self.inside.most_entries c.self.invariant c.args.self.now c.self.view_is g.Q.Query.stands_for c.args.query g.met.K.Eq.laws.refl (g.met.Q.Query.respects_eq c.args.query) c.find_hashed.ensures.valid c.in_ok-found.found c.in_ok-found.ensures.finds (recency (promoted c.self.inside.rows.held.rows c.in_ok-found.found) c.self.inside.rows.held.free) refl (λ lent w answer left. (g.U.FnOnce).post c.args.update (lent, (w, tt)) (answer, (left, tt))) c.update-answer.result c.promote.new.self.held (first_updated (λ lent w answer left. (g.U.FnOnce).post c.args.update (lent, (w, tt)) (answer, (left, tt))) c.in_ok-found.found c.update-answer.result c.self.inside.rows.held c.update-answer.new.self.held c.update-answer.ensures.updates c.promote.new.self.held c.promote.ensures.rows)

pub returns : goal.returns
returns g c =
    subst (λ h. UpdatesEntry g.Q.Query.stands_for (λ lent w answer left. (g.U.FnOnce).post c.args.update (lent, (w, tt)) (answer, (left, tt))) c.args.self.now c.args.query (Some c.update-answer.result) (cached_in c.promote.new.self.held h c.self.inside.most_weight c.self.inside.most_entries)) (sym (c.promote.ensures.hashes ∙ c.update-answer.ensures.hashes))
    (query_view_updated g.K.PartialEq.eq c.self.inside.rows.held c.self.inside.rows.hashes c.self.inside.weight c.self.inside.most_weight c.self.inside.most_entries c.self.invariant c.args.self.now c.self.view_is g.Q.Query.stands_for c.args.query g.met.K.Eq.laws.refl (g.met.Q.Query.respects_eq c.args.query) c.find_hashed.ensures.valid c.in_ok-found.found c.in_ok-found.ensures.finds (recency (promoted c.self.inside.rows.held.rows c.in_ok-found.found) c.self.inside.rows.held.free) refl (λ lent w answer left. (g.U.FnOnce).post c.args.update (lent, (w, tt)) (answer, (left, tt))) c.update-answer.result c.promote.new.self.held (first_updated (λ lent w answer left. (g.U.FnOnce).post c.args.update (lent, (w, tt)) (answer, (left, tt))) c.in_ok-found.found c.update-answer.result c.self.inside.rows.held c.update-answer.new.self.held c.update-answer.ensures.updates c.promote.new.self.held c.promote.ensures.rows))
