-- What a cause is called.
use Rattle.std.specs.Prelude.{ℕ, List, codes}
use Rattle.lru_owned_cache.specs.declared.cache.Cause.{Cause}
use Rattle.lru_owned_cache.specs.declared.cache.Cause.TheVariants.{TooHeavy, Full, Memory}

abbrev pub cause_text : Cause → List ℕ
cause_text Memory = codes "out of memory"
cause_text TooHeavy = codes "too heavy"
cause_text Full = codes "full"
