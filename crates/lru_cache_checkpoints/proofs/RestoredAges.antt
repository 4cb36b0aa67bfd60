-- What was copied of a cache whose entries end.
use Rattle.std.proofs.Common.{List, Ok, Err}
use Rattle.std.specs.Prelude.{ℕ, Bool, Option, false, Result, Vec, map, IfOk}
use Rattle.std.specs.declared.alloc.Global.{Global}
use Rattle.lru_frames.specs.Copies.{AreEach}
use Rattle.lru_frames.specs.declared.row.Row.{Row}
use Rattle.lru_owned_cache.specs.Cache.{Cached, parts_of}
use Rattle.lru_deadlines.specs.declared.deadlines.Until.{Until}
use Rattle.lru_shared_deadlines.specs.declared.ages.Aged.{Aged}
use Rattle.lru_shared_deadlines.specs.Calls.{Ends}
use Rattle.lru_shared_deadlines.specs.Answers.{MayPutBack}
use Rattle.lru_cache_checkpoints.specs.Captures.{MayPutOrLeave}
use Rattle.lru_cache_checkpoints.specs.CapturedAges.{IsAgedCopy, MayCopyAged}

-- what was copied of a cache may be the copies of one
pub may_copy : {K V S E : Type 0} (IsCloneKey : K → K → Type 0) (IsCloneValue : V → V → Type 0) (cache : Cached K (Until (Aged V)) S) (r : Result (Vec (Row K (V × (ℕ × ℕ))) Global) E)
    → IfOk r (λ rows. AreEach (IsAgedCopy IsCloneKey IsCloneValue) (map parts_of cache.entries) rows.items) → IfOk r (λ rows. MayCopyAged IsCloneKey IsCloneValue rows.items)
may_copy IsCloneKey IsCloneValue cache (Ok rows) copies =
    (record { entries = cache.entries; places = cache.places; most_weight = cache.most_weight; most_entries = cache.most_entries; hashes = tt }, copies)
may_copy IsCloneKey IsCloneValue cache (Err e) copies = tt

-- what was put back is put so
pub may_put : {K V F : Type 0} (eq : K → K → Bool) (row : Row K (Until (Aged V))) (Step : F → Ends K V → F → Type 0) (visit : F) (was : Option (Ends K V))
    → MayPutBack eq Step visit row.key row.«data» row.weight (Ok was) → MayPutOrLeave eq row (Ok false)
may_put eq row Step visit was p = (p.0, (p.1.0, (p.1.1.1.1.0, (p.1.1.1.1.1.0, (p.1.1.1.1.1.1.0, p.1.1.1.1.1.1.1.1)))))
