use Rattle.std.proofs.Common.{arith, sym, ap, ◌∙◌, subst, None, Ok, Err}
use Rattle.lru_owned_cache.specs.Entries.{entry}
use Rattle.lru_owned_cache.specs.Cache.{Puts}
use Rattle.lru_owned_cache.specs.Representation.{cached_in}
use Rattle.lru_owned_cache.proofs.Views.{valid_cache, same_there, kept_put, view_put, entry_put}
use Rattle.lru_owned_cache.proofs.Putting.{fits_alone, settled_puts}
use Rattle.lru_owned_cache.proofs.Fresh.{absent_left, puts_fresh, refuses_fresh}
use Rattle.lru_owned_cache.proofs.cache.Cache.put_hashed.Goals as goal

pub exchange-was-requires : goal.exchange-was-requires
exchange-was-requires g c = same_there g.K.PartialEq.eq c.self.inside.rows.held c.self.inside.rows.hashes c.self.inside.weight c.self.inside.most_weight c.self.inside.most_entries c.self.invariant c.args.self.now c.self.view_is c.args.key c.find_hashed.ensures.valid c.in-Some.place c.in-Some.ensures.finds c.promote.new.self.held c.promote.ensures.rows

pub invariant_of-self : goal.invariant_of-self
invariant_of-self g c = kept_put g.K.PartialEq.eq c.self.inside.rows.held c.self.inside.rows.hashes c.self.inside.weight c.self.inside.most_weight c.self.inside.most_entries c.self.invariant c.args.self.now c.self.view_is c.args.key c.find_hashed.ensures.valid c.in-Some.place c.in-Some.ensures.finds c.args.key c.args.value c.exchange-was.result c.promote.new.self.held c.exchange-was.new.self.held c.promote.ensures.rows c.exchange-was.ensures.old c.exchange-was.ensures.rows

pub returns-in-Some : goal.returns-in-Some
returns-in-Some g c =
    let was = c.exchange-was.result in
    settled_puts g.K.PartialEq.eq c.args.self.now (valid_cache g.K.PartialEq.eq c.self.inside.rows.held c.self.inside.rows.hashes c.self.inside.weight c.self.inside.most_weight c.self.inside.most_entries c.self.invariant c.args.self.now c.self.view_is c.find_hashed.ensures.valid) c.args.key c.args.value c.args.weight was.weight (cached_in c.exchange-was.new.self.held c.exchange-was.new.self.hashes c.self.inside.most_weight c.self.inside.most_entries) (ap (λ h. cached_in c.exchange-was.new.self.held h c.self.inside.most_weight c.self.inside.most_entries) (c.exchange-was.ensures.hashes ∙ c.promote.ensures.hashes) ∙ view_put g.K.PartialEq.eq c.self.inside.rows.held c.self.inside.rows.hashes c.self.inside.weight c.self.inside.most_weight c.self.inside.most_entries c.self.invariant c.args.self.now c.self.view_is c.args.key c.find_hashed.ensures.valid c.in-Some.place c.in-Some.ensures.finds c.args.key c.args.value c.exchange-was.result c.promote.new.self.held c.exchange-was.new.self.held c.promote.ensures.rows c.exchange-was.ensures.old c.exchange-was.ensures.rows) (entry was.key was.value was.weight) (entry_put g.K.PartialEq.eq c.self.inside.rows.held c.self.inside.rows.hashes c.self.inside.weight c.self.inside.most_weight c.self.inside.most_entries c.self.invariant c.args.self.now c.self.view_is c.args.key c.find_hashed.ensures.valid c.in-Some.place c.in-Some.ensures.finds c.args.key c.args.value c.exchange-was.result c.promote.new.self.held c.exchange-was.new.self.held c.promote.ensures.rows c.exchange-was.ensures.old c.exchange-was.ensures.rows)
    (λ p x q. goal.F-step g p x tt q) c.args.visit c.settle.new.self (fits_alone c.self.inside.rows.held c.self.inside.rows.hashes c.self.inside.most_weight c.self.inside.most_entries c.args.self.now c.self.view_is c.args.weight (omega (arith, c.if-weight-self.false)) (omega (arith, c.if-self-eq0.false))) c.settle.ensures

pub push_first_hashed-requires-clause-absent : goal.push_first_hashed-requires-clause-absent
push_first_hashed-requires-clause-absent g c = absent_left g.K.PartialEq.eq c.self.inside.rows.held c.self.inside.rows.hashes c.self.inside.weight c.self.inside.most_weight c.self.inside.most_entries c.self.invariant c.args.self.now c.self.view_is c.find_hashed.ensures.valid c.args.key c.in_default.ensures.finds (λ p x q. goal.F-step g p x tt q) c.args.visit c.args.weight (omega (arith, c.if-weight-self.false)) (omega (arith, c.if-self-eq0.false)) c.shrink-self-inside.new.rows.held c.shrink-self-inside.ensures.shrinks

pub returns-in-Ok : goal.returns-in-Ok
returns-in-Ok g c =
    subst (λ h. Puts g.K.PartialEq.eq (λ p x q. goal.F-step g p x tt q) c.args.visit c.args.self.now c.args.key c.args.value c.args.weight (Ok None) (cached_in c.push_first_hashed.new.self.held h c.self.inside.most_weight c.self.inside.most_entries)) (sym (c.in-Ok.ensures.hashes ∙ c.shrink-self-inside.ensures.hashes))
    (puts_fresh g.K.PartialEq.eq c.self.inside.rows.held c.self.inside.rows.hashes c.self.inside.weight c.self.inside.most_weight c.self.inside.most_entries c.self.invariant c.args.self.now c.self.view_is c.find_hashed.ensures.valid c.args.key c.in_default.ensures.finds (λ p x q. goal.F-step g p x tt q) c.args.visit c.args.weight (omega (arith, c.if-weight-self.false)) (omega (arith, c.if-self-eq0.false)) c.shrink-self-inside.new.rows.held c.shrink-self-inside.ensures.shrinks c.args.value c.in-Ok.field-0 c.push_first_hashed.new.self.held c.in-Ok.ensures.pushes.2)

pub returns-in-Err : goal.returns-in-Err
returns-in-Err g c =
    subst (λ h. Puts g.K.PartialEq.eq (λ p x q. goal.F-step g p x tt q) c.args.visit c.args.self.now c.args.key c.args.value c.args.weight (Err c.new-in-Err.result) (cached_in c.push_first_hashed.new.self.held h c.self.inside.most_weight c.self.inside.most_entries)) (sym (c.in-Err.ensures.hashes ∙ c.shrink-self-inside.ensures.hashes))
    (let refused = c.in-Err.ensures.pushes in
    refuses_fresh g.K.PartialEq.eq c.self.inside.rows.held c.self.inside.rows.hashes c.self.inside.weight c.self.inside.most_weight c.self.inside.most_entries c.self.invariant c.args.self.now c.self.view_is c.find_hashed.ensures.valid c.args.key c.in_default.ensures.finds (λ p x q. goal.F-step g p x tt q) c.args.visit c.args.weight (omega (arith, c.if-weight-self.false)) (omega (arith, c.if-self-eq0.false)) c.shrink-self-inside.new.rows.held c.shrink-self-inside.ensures.shrinks c.in-Err.back.cause refused.0 c.args.value c.push_first_hashed.new.self.held refused.3 c.new-in-Err.result (c.new-in-Err.ensures.cause ∙ c.cause_of.ensures) (c.new-in-Err.ensures.key ∙ refused.1) (c.new-in-Err.ensures.value ∙ refused.2))
