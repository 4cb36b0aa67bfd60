-- What a refusal of the bytes of a value is called.
use Rattle.std.specs.Prelude.{ℕ, List, codes}
use Rattle.lru_frames.specs.declared.stored.StoredError.{StoredError}
use Rattle.lru_frames.specs.declared.stored.StoredError.TheVariants.{Damaged, Memory}

abbrev pub stored_error_text : StoredError → List ℕ
stored_error_text Damaged = codes "damaged"
stored_error_text Memory = codes "out of memory"
