use Rattle.std.proofs.Common.{subst, refl, sym, ◌∙◌, Some}
use Rattle.lru_rows.specs.Rows.{recency, promoted}
use Rattle.lru_owned_cache.proofs.Rows.{at_updated, first_updated}
use Rattle.lru_owned_cache.specs.Cache.{UpdatesEntry}
use Rattle.lru_owned_cache.specs.Representation.{cached_in}
use Rattle.lru_owned_cache.proofs.Views.{view_unupdated, kept_updated, view_updated}
use Rattle.lru_owned_cache.proofs.cache.Cache.update.Goals as goal

pub returns-in_err-place : goal.returns-in_err-place
returns-in_err-place g c = view_unupdated g.K.PartialEq.eq c.self.inside.rows.held c.self.inside.rows.hashes c.self.inside.weight c.self.inside.most_weight c.self.inside.most_entries c.self.invariant c.args.self.now c.self.view_is c.args.key.now (λ lent w answer left. (g.U.FnOnce).post c.args.update (lent, (w, tt)) (answer, (left, tt))) c.from_residual.result c.from_residual.ensures c.in_err-place.ensures.finds

pub promote-requires : goal.promote-requires
promote-requires g c = at_updated (λ lent w answer left. (g.U.FnOnce).post c.args.update (lent, (w, tt)) (answer, (left, tt))) c.in_ok-place.place c.update-answer.result c.self.inside.rows.held c.update-answer.new.self.held c.update-answer.ensures.updates

pub invariant_of-self : goal.invariant_of-self
invariant_of-self g c = kept_updated g.K.PartialEq.eq c.self.inside.rows.held c.self.inside.rows.hashes c.self.inside.weight c.self.inside.most_weight c.self.inside.most_entries c.self.invariant c.args.self.now c.self.view_is c.args.key.now c.find.ensures.valid c.in_ok-place.place c.in_ok-place.ensures.finds (λ lent w answer left. (g.U.FnOnce).post c.args.update (lent, (w, tt)) (answer, (left, tt))) c.update-answer.result (recency (promoted c.self.inside.rows.held.rows c.in_ok-place.place) c.self.inside.rows.held.free) c.promote.new.self.held refl (first_updated (λ lent w answer left. (g.U.FnOnce).post c.args.update (lent, (w, tt)) (answer, (left, tt))) c.in_ok-place.place c.update-answer.result c.self.inside.rows.held c.update-answer.new.self.held c.update-answer.ensures.updates c.promote.new.self.held c.promote.ensures.rows)

pub returns : goal.returns
returns g c =
    subst (λ h. UpdatesEntry g.K.PartialEq.eq (λ lent w answer left. (g.U.FnOnce).post c.args.update (lent, (w, tt)) (answer, (left, tt))) c.args.self.now c.args.key.now (Some c.update-answer.result) (cached_in c.promote.new.self.held h c.self.inside.most_weight c.self.inside.most_entries)) (sym (c.promote.ensures.hashes ∙ c.update-answer.ensures.hashes))
    (view_updated g.K.PartialEq.eq c.self.inside.rows.held c.self.inside.rows.hashes c.self.inside.weight c.self.inside.most_weight c.self.inside.most_entries c.self.invariant c.args.self.now c.self.view_is c.args.key.now c.find.ensures.valid c.in_ok-place.place c.in_ok-place.ensures.finds (λ lent w answer left. (g.U.FnOnce).post c.args.update (lent, (w, tt)) (answer, (left, tt))) c.update-answer.result (recency (promoted c.self.inside.rows.held.rows c.in_ok-place.place) c.self.inside.rows.held.free) c.promote.new.self.held refl (first_updated (λ lent w answer left. (g.U.FnOnce).post c.args.update (lent, (w, tt)) (answer, (left, tt))) c.in_ok-place.place c.update-answer.result c.self.inside.rows.held c.update-answer.new.self.held c.update-answer.ensures.updates c.promote.new.self.held c.promote.ensures.rows))
