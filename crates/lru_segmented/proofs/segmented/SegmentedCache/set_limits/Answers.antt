use Rattle.std.proofs.Common.{◌≡◌, List, sym, subst}
use Rattle.lru_owned_cache.specs.declared.entry.Entry.{Entry}
use Rattle.lru_owned_cache.specs.Cache.{Fit}
use Rattle.lru_segmented.specs.Segmented.{Segmented, entries, with_segments, with_limits, Balances}
use Rattle.lru_segmented.specs.Seats.{Lowers}
use Rattle.lru_segmented.specs.Representation.{segmented_in}
use Rattle.lru_segmented.proofs.Caches.{kept_limited, view_limited}
use Rattle.lru_segmented.proofs.segmented.SegmentedCache.set_limits.Goals as goal

pub invariant_of-self : goal.invariant_of-self
invariant_of-self g c =
    kept_limited c.self.inside.seats c.self.inside.most_weight c.self.inside.most_entries c.self.inside.most_protected c.args.most_weight c.args.most_entries c.args.most_protected c.lower_down.new.seats (subst (λ n. Lowers c.args.most_protected n c.self.inside.seats c.lower_down.new.seats) c.most_upper.ensures c.lower_down.ensures)
    (subst (λ (x : Segmented g.row.K.Denot g.row.V.Denot g.row.S.Denot). Fit c.args.most_weight c.args.most_entries (entries x)) (sym c.self.view_is) c.let_go.ensures.recedes.fits)

pub returns : goal.returns
returns g c = (
  c.let_go.new.self,
  (
    c.let_go.ensures,
    subst (λ (x : Segmented g.row.K.Denot g.row.V.Denot g.row.S.Denot). (us : List (Entry g.row.K.Denot g.row.V.Denot)) × ((ls : List (Entry g.row.K.Denot g.row.V.Denot)) × (Balances (with_limits x c.args.most_weight c.args.most_entries c.args.most_protected) x.upper x.lower us ls
        × (segmented_in c.lower_down.new.seats c.args.most_weight c.args.most_entries c.args.most_protected ≡ with_segments (with_limits x c.args.most_weight c.args.most_entries c.args.most_protected) us ls)))) c.self.view_is (view_limited c.self.inside.seats c.self.inside.most_weight c.self.inside.most_entries c.self.inside.most_protected c.args.most_weight c.args.most_entries c.args.most_protected c.lower_down.new.seats (subst (λ n. Lowers c.args.most_protected n c.self.inside.seats c.lower_down.new.seats) c.most_upper.ensures c.lower_down.ensures)),
  ),
)
