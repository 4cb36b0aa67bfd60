use Rattle.std.proofs.Common.{refl, inl, ap, ◌∙◌}
use Rattle.lru_rows.specs.Rows.{recency, with_value}
use Rattle.lru_owned_cache.specs.Representation.{cached_in}
use Rattle.lru_owned_cache.proofs.Queried.{query_nothing, query_at_first, query_at, query_value_lent, query_kept_lent, query_view_lent}
use Rattle.lru_owned_cache.proofs.cache.Cache.get_mut_hashed.Goals as goal

pub returns-in_err-found : goal.returns-in_err-found
returns-in_err-found g c =
    rw (c.from_residual.ensures, ← c.self.view_is) (refl, record { writes_back = tt; value = query_nothing g.K.PartialEq.eq c.self.inside.rows.held c.self.inside.rows.hashes c.self.inside.weight c.self.inside.most_weight c.self.inside.most_entries c.self.invariant (cached_in c.self.inside.rows.held c.self.inside.rows.hashes c.self.inside.most_weight c.self.inside.most_entries) refl g.Q.Query.stands_for c.args.query (λ e. e.value) c.in_err-found.ensures.finds })

pub promote-requires : goal.promote-requires
promote-requires g c = query_at g.K.PartialEq.eq c.self.inside.rows.held c.self.inside.rows.hashes c.self.inside.weight c.self.inside.most_weight c.self.inside.most_entries c.self.invariant c.args.self.now c.self.view_is g.Q.Query.stands_for c.args.query c.in_ok-found.found c.in_ok-found.ensures.finds

pub value_mut-requires : goal.value_mut-requires
value_mut-requires g c = query_at_first g.K.PartialEq.eq c.self.inside.rows.held c.self.inside.rows.hashes c.self.inside.weight c.self.inside.most_weight c.self.inside.most_entries c.self.invariant c.args.self.now c.self.view_is g.Q.Query.stands_for c.args.query g.met.K.Eq.laws.refl (g.met.Q.Query.respects_eq c.args.query) c.find_hashed.ensures.valid c.in_ok-found.found c.in_ok-found.ensures.finds c.promote.new.self.held c.promote.ensures.rows

pub invariant_of-self-lent : goal.invariant_of-self-lent
invariant_of-self-lent g c = λ w. query_kept_lent g.K.PartialEq.eq c.self.inside.rows.held c.self.inside.rows.hashes c.self.inside.weight c.self.inside.most_weight c.self.inside.most_entries c.self.invariant c.args.self.now c.self.view_is g.Q.Query.stands_for c.args.query g.met.K.Eq.laws.refl (g.met.Q.Query.respects_eq c.args.query) c.find_hashed.ensures.valid c.in_ok-found.found c.in_ok-found.ensures.finds c.promote.new.self.held c.promote.ensures.rows w

pub returns : goal.returns
returns g c =
    let hashes = c.promote.ensures.hashes in
    let lent = λ (v : g.row.V.Denot). ap (λ h. cached_in (recency (with_value c.promote.new.self.held.rows c.in_ok-found.found v) c.promote.new.self.held.free) h c.self.inside.most_weight c.self.inside.most_entries) hashes ∙ query_view_lent g.K.PartialEq.eq c.self.inside.rows.held c.self.inside.rows.hashes c.self.inside.weight c.self.inside.most_weight c.self.inside.most_entries c.self.invariant (cached_in c.self.inside.rows.held c.self.inside.rows.hashes c.self.inside.most_weight c.self.inside.most_entries) refl g.Q.Query.stands_for c.args.query g.met.K.Eq.laws.refl (g.met.Q.Query.respects_eq c.args.query) c.find_hashed.ensures.valid c.in_ok-found.found c.in_ok-found.ensures.finds c.promote.new.self.held c.promote.ensures.rows v in
    rw (← c.self.view_is) (
      (λ i. inl (c.value_mut.result.ghost_name, λ v. (lent v) i)),
      record { writes_back = tt; value = query_value_lent g.K.PartialEq.eq c.self.inside.rows.held c.self.inside.rows.hashes c.self.inside.weight c.self.inside.most_weight c.self.inside.most_entries c.self.invariant (cached_in c.self.inside.rows.held c.self.inside.rows.hashes c.self.inside.most_weight c.self.inside.most_entries) refl g.Q.Query.stands_for c.args.query g.met.K.Eq.laws.refl (g.met.Q.Query.respects_eq c.args.query) c.find_hashed.ensures.valid c.in_ok-found.found c.in_ok-found.ensures.finds c.promote.new.self.held c.promote.ensures.rows c.value_mut.result.now c.value_mut.ensures.value },
    )
