use Rattle.std.proofs.Common.{Some, None, subst}
use Rattle.lru_owned_cache.specs.Entries.{entry}
use Rattle.lru_owned_cache.specs.Cache.{IsLast}
use Rattle.lru_segmented.specs.Segmented.{Segmented, entries}
use Rattle.lru_segmented.proofs.Caches.{last_missing, last_at, last_shown}
use Rattle.lru_segmented.proofs.segmented.SegmentedCache.peek_last.Goals as goal

pub returns-in_err-place : goal.returns-in_err-place
returns-in_err-place g c =
    rw c.from_residual.ensures
    (subst (λ (x : Segmented g.row.K.Denot g.row.V.Denot g.row.S.Denot). IsLast (entries x) None) c.self.view_is (last_missing c.self.inside.seats c.self.inside.most_weight c.self.inside.most_entries c.self.inside.most_protected c.in_err-place.ensures.place))

pub key_at-key-requires : goal.key_at-key-requires
key_at-key-requires g c = last_at c.self.inside.seats c.self.inside.most_weight c.self.inside.most_entries c.self.inside.most_protected c.in_ok-place.place c.in_ok-place.ensures.place c.in_ok-place.ensures.valid.places

pub returns : goal.returns
returns g c =
    subst (λ (x : Segmented g.row.K.Denot g.row.V.Denot g.row.S.Denot). IsLast (entries x) (Some (entry c.key_at-key.result.now c.value_at-value.result.now c.weight_at.result))) c.self.view_is
    (last_shown c.self.inside.seats c.self.inside.most_weight c.self.inside.most_entries c.self.inside.most_protected c.in_ok-place.place c.in_ok-place.ensures.place c.in_ok-place.ensures.valid.places c.key_at-key.result.now c.value_at-value.result.now c.weight_at.result c.key_at-key.ensures c.value_at-value.ensures c.weight_at.ensures)
