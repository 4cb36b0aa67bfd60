use Rattle.std.proofs.Common.{◌*◌}
use Rattle.std.proofs.lemmas.Option.{IfSome_then}
use Rattle.std.proofs.Math.Logic.{∥∥₁_elim}
use Rattle.std.proofs.Math.Nat.{ℕ_set}
use Rattle.lru_shared_tests.proofs.related.oldest.Goals as goal

pub returns : goal.returns
returns g c = IfSome_then c.pop_last_of.result c.pop_last_of.ensures (λ e t. ∥∥₁_elim t (ℕ_set e.value (2 * e.key)) (λ is. is))
