-- What a `peek` that finds something tells.
use Rattle.std.proofs.Common.{◌≡◌, None, Some, true, sym, ap}
use Rattle.std.specs.Prelude.{Option, is_some, option_copied}
use Rattle.std.specs.Borrow.{Bor}
use Rattle.std.proofs.lemmas.Bool.{false≢true}

pub found : {K : Type 0} (r : Option (Bor K)) (o : Option K) → option_copied r ≡ o → is_some r ≡ true → is_some o ≡ true
found None o e some = absurd (false≢true some)
found (Some x) o e some = ap is_some (sym e)
