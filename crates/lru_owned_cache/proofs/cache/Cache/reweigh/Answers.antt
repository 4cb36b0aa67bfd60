use Rattle.std.proofs.Common.{None, refl, arith, ap, Some, subst, sym, ◌∙◌}
use Rattle.lru_owned_cache.specs.Cache.{Cached, UpdatesEntry}
use Rattle.lru_owned_cache.specs.Representation.{cached_in}
use Rattle.lru_owned_cache.proofs.Views.{valid_cache, view_unupdated, at_first, kept_updated, view_updated}
use Rattle.lru_owned_cache.proofs.Reweighed.{too_heavy, settled}
use Rattle.lru_owned_cache.proofs.cache.Cache.reweigh.Goals as goal

pub invariant_of-self : goal.invariant_of-self
invariant_of-self g c = kept_updated g.K.PartialEq.eq c.self.inside.rows.held c.self.inside.rows.hashes c.self.inside.weight c.self.inside.most_weight c.self.inside.most_entries c.self.invariant c.args.self.now c.self.view_is c.args.key.now c.find.ensures.valid c.in-Some.place c.in-Some.ensures.finds (λ lent w answer left. (g.U.FnOnce).post c.args.change (lent, (w, tt)) (answer, (left, tt))) c.update-weight.result c.promote.new.self.held c.update-weight.new.self.held c.promote.ensures.rows c.update-weight.ensures.updates

pub invariant_of-self-else-weight-self : goal.invariant_of-self-else-weight-self
invariant_of-self-else-weight-self g c = kept_updated g.K.PartialEq.eq c.self.inside.rows.held c.self.inside.rows.hashes c.self.inside.weight c.self.inside.most_weight c.self.inside.most_entries c.self.invariant c.args.self.now c.self.view_is c.args.key.now c.find.ensures.valid c.in-Some.place c.in-Some.ensures.finds (λ lent w answer left. (g.U.FnOnce).post c.args.change (lent, (w, tt)) (answer, (left, tt))) c.update-weight.result c.promote.new.self.held c.update-weight.new.self.held c.promote.ensures.rows c.update-weight.ensures.updates

pub update-weight-requires-clause-held : goal.update-weight-requires-clause-held
update-weight-requires-clause-held g c = at_first g.K.PartialEq.eq c.self.inside.rows.held c.self.inside.rows.hashes c.self.inside.weight c.self.inside.most_weight c.self.inside.most_entries c.self.invariant c.args.self.now c.self.view_is c.args.key.now c.find.ensures.valid c.in-Some.place c.in-Some.ensures.finds c.promote.new.self.held c.promote.ensures.rows

pub returns-in_default : goal.returns-in_default
returns-in_default g c = view_unupdated g.K.PartialEq.eq c.self.inside.rows.held c.self.inside.rows.hashes c.self.inside.weight c.self.inside.most_weight c.self.inside.most_entries c.self.invariant c.args.self.now c.self.view_is c.args.key.now (λ lent w answer left. (g.U.FnOnce).post c.args.change (lent, (w, tt)) (answer, (left, tt))) None refl c.in_default.ensures.finds

pub returns-then-weight-self : goal.returns-then-weight-self
returns-then-weight-self g c = too_heavy g.K.PartialEq.eq (λ lent w answer left. (g.U.FnOnce).post c.args.change (lent, (w, tt)) (answer, (left, tt))) (λ p x q. goal.F-step g p x tt q) c.args.visit c.args.self.now (valid_cache g.K.PartialEq.eq c.self.inside.rows.held c.self.inside.rows.hashes c.self.inside.weight c.self.inside.most_weight c.self.inside.most_entries c.self.invariant c.args.self.now c.self.view_is c.find.ensures.valid).placed c.args.key.now c.update-weight.result (cached_in c.update-weight.new.self.held c.update-weight.new.self.hashes c.self.inside.most_weight c.self.inside.most_entries) (subst (λ h. UpdatesEntry g.K.PartialEq.eq (λ lent w answer left. (g.U.FnOnce).post c.args.change (lent, (w, tt)) (answer, (left, tt))) c.args.self.now c.args.key.now (Some c.update-weight.result) (cached_in c.update-weight.new.self.held h c.self.inside.most_weight c.self.inside.most_entries)) (sym (c.update-weight.ensures.hashes ∙ c.promote.ensures.hashes)) (view_updated g.K.PartialEq.eq c.self.inside.rows.held c.self.inside.rows.hashes c.self.inside.weight c.self.inside.most_weight c.self.inside.most_entries c.self.invariant c.args.self.now c.self.view_is c.args.key.now c.find.ensures.valid c.in-Some.place c.in-Some.ensures.finds (λ lent w answer left. (g.U.FnOnce).post c.args.change (lent, (w, tt)) (answer, (left, tt))) c.update-weight.result c.promote.new.self.held c.update-weight.new.self.held c.promote.ensures.rows c.update-weight.ensures.updates)) (omega (arith, c.if-weight-self.true, ap (λ (y : Cached g.row.K.Denot g.row.V.Denot g.row.S.Denot). y.most_weight) c.self.view_is)) c.in-Some-pop_first.entry c.pop_first.new.self c.in-Some-pop_first.ensures

pub returns : goal.returns
returns g c = settled g.K.PartialEq.eq (λ lent w answer left. (g.U.FnOnce).post c.args.change (lent, (w, tt)) (answer, (left, tt))) (λ p x q. goal.F-step g p x tt q) c.args.visit c.args.self.now (valid_cache g.K.PartialEq.eq c.self.inside.rows.held c.self.inside.rows.hashes c.self.inside.weight c.self.inside.most_weight c.self.inside.most_entries c.self.invariant c.args.self.now c.self.view_is c.find.ensures.valid).placed c.args.key.now c.update-weight.result (cached_in c.update-weight.new.self.held c.update-weight.new.self.hashes c.self.inside.most_weight c.self.inside.most_entries) (subst (λ h. UpdatesEntry g.K.PartialEq.eq (λ lent w answer left. (g.U.FnOnce).post c.args.change (lent, (w, tt)) (answer, (left, tt))) c.args.self.now c.args.key.now (Some c.update-weight.result) (cached_in c.update-weight.new.self.held h c.self.inside.most_weight c.self.inside.most_entries)) (sym (c.update-weight.ensures.hashes ∙ c.promote.ensures.hashes)) (view_updated g.K.PartialEq.eq c.self.inside.rows.held c.self.inside.rows.hashes c.self.inside.weight c.self.inside.most_weight c.self.inside.most_entries c.self.invariant c.args.self.now c.self.view_is c.args.key.now c.find.ensures.valid c.in-Some.place c.in-Some.ensures.finds (λ lent w answer left. (g.U.FnOnce).post c.args.change (lent, (w, tt)) (answer, (left, tt))) c.update-weight.result c.promote.new.self.held c.update-weight.new.self.held c.promote.ensures.rows c.update-weight.ensures.updates)) (omega (arith, c.if-weight-self.false, ap (λ (y : Cached g.row.K.Denot g.row.V.Denot g.row.S.Denot). y.most_weight) c.self.view_is)) c.settle.new.self c.settle.ensures
