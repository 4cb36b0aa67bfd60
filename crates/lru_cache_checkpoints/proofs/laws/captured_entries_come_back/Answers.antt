use Rattle.lru_cache_checkpoints.proofs.ComesBack.{comes_back}
use Rattle.lru_cache_checkpoints.proofs.laws.captured_entries_come_back.Goals as goal

pub returns : goal.returns
returns g c = λ cache old new rows answer alike is_cache none weight many copies puts.
    comes_back g.K.PartialEq.eq g.K.Clone.is_clone g.V.Clone.is_clone alike g.met.K.Eq.laws.refl cache old new rows answer is_cache none weight many copies puts
