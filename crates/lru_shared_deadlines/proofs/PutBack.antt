-- What is put and refused does not hang on what makes the hashes.
use Rattle.std.proofs.Common.{◌≡◌, ℕ, Ok, Err, ap}
use Rattle.std.specs.Prelude.{Option, Bool, Result}
use Rattle.lru_owned_cache.specs.declared.cache.Cause.{Cause}
use Rattle.lru_owned_cache.specs.declared.cache.Cause.TheVariants.{TooHeavy, Full, Memory}
use Rattle.lru_owned_cache.specs.declared.cache.Refused.{Refused}
use Rattle.lru_owned_cache.specs.Cache.{Cached, MayRefuse}
use Rattle.lru_deadlines.specs.declared.deadlines.Until.{Until}
use Rattle.lru_shared_cache.specs.Counting.{PutsCounted}
use Rattle.lru_shared_deadlines.specs.declared.ages.Aged.{Aged}
use Rattle.lru_shared_deadlines.specs.Calls.{ShardOf, Ends}
use Rattle.lru_shared_deadlines.specs.Answers.{MayPutBack}

module _ {K V S : Type 0} where
  abbrev unhashed : Cached K (Until (Aged V)) S → Cached K (Until (Aged V)) (Unit {0})
  unhashed c = record { entries = c.entries; places = c.places; most_weight = c.most_weight; most_entries = c.most_entries; hashes = tt }

  module _ (eq : K → K → Bool) (key : K) (w : ℕ) where
    refuses_unhashed : (old : Cached K (Until (Aged V)) S) (cause : Cause) → MayRefuse eq old key w cause → MayRefuse eq (unhashed old) key w cause
    refuses_unhashed old TooHeavy may = may
    refuses_unhashed old Full may = may
    refuses_unhashed old Memory may = may

    pub may_put_back : {F : Type 0} (Step : F → Ends K V → F → Type 0) (visit : F) (v : Until (Aged V)) (answer : Result (Option (Ends K V)) (Refused K (Until (Aged V)))) (old new : ShardOf K V S)
        → PutsCounted Step visit eq old key v w answer new → MayPutBack eq Step visit key v w answer
    may_put_back Step visit v (Ok was) old new ((fits, (had, (front, (gone, (leaves, (shown, is)))))), counted) =
        (unhashed old.cache, (unhashed new.cache, (fits, (had, (front, (gone, (leaves, (shown, ap unhashed is))))))))
    may_put_back Step visit v (Err r) old new ((may, (key_is, (value_is, is))), counted) =
        (unhashed old.cache, (unhashed new.cache, (refuses_unhashed old.cache r.cause may, (key_is, (value_is, ap unhashed is)))))
