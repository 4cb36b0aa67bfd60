-- Laws of what is written.
use Rattle.std.proofs.Common.{ℕ, List, [], ◌++◌, Some, None, sym, ap, ◌∙◌, append_assoc, append-nil}
use Rattle.std.specs.Prelude.{Option, Result, Ok, Err, OnOk}
use Rattle.std.specs.Io.KnownBytes.{Appends}

-- nothing is written
pub appends_none : (a : Option (List ℕ)) → Appends a a []
appends_none None = tt
appends_none (Some ws) = sym (append-nil ws)

-- writes one after the other
pub appends_then : (a b c : Option (List ℕ)) (x y : List ℕ) → Appends a b x → Appends b c y → Appends a c (x ++ y)
appends_then None b c x y h k = tt
appends_then (Some ws) None c x y h k = absurd h
appends_then (Some ws) (Some bs) None x y h k = absurd k
appends_then (Some ws) (Some bs) (Some cs) x y h k = k ∙ ap (λ zs. zs ++ y) h ∙ append_assoc ws x y

pub on_ok_then : {E : Type 0} (r : Result (Unit {0}) E) (a b c : Option (List ℕ)) (x y : List ℕ) → Appends a b x → OnOk r (Appends b c y) → OnOk r (Appends a c (x ++ y))
on_ok_then (Ok u) a b c x y h k = appends_then a b c x y h k
on_ok_then (Err e) a b c x y h k = tt

-- more is known where it is written
pub on_ok_map : {E P Q : Type 0} (r : Result (Unit {0}) E) → (P → Q) → OnOk r P → OnOk r Q
on_ok_map (Ok u) f h = f h
on_ok_map (Err e) f h = tt
