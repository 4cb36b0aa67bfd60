use Rattle.std.proofs.Common.{refl}
use Rattle.lru_admission.specs.Sketch.{mixed}
use Rattle.lru_admission.proofs.counters.mix.Goals as goal

pub returns : goal.returns
unfolding mixed
returns c = refl
