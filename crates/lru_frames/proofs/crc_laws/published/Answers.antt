use Rattle.std.proofs.Common.{refl}
use Rattle.lru_frames.specs.Crc.{bit_step, bit_steps, step, crc_of}
use Rattle.lru_frames.proofs.crc_laws.published.Goals as goal

pub returns-clause-digits : goal.returns-clause-digits
unfolding crc_of step bit_steps bit_step
returns-clause-digits c = refl

pub returns-clause-none : goal.returns-clause-none
unfolding crc_of step bit_steps bit_step
returns-clause-none c = refl
