use Rattle.std.proofs.Common.{refl}
use Rattle.lru_frames.specs.Frame.{content_of}
use Rattle.lru_frames.proofs.EnvelopeLaws.{changed_apart}
use Rattle.lru_frames.proofs.laws.more_than_eight_bytes_apart.Goals as goal

pub returns : goal.returns
returns g c = λ header other rows others change.
    changed_apart (content_of g.K.Stored.bytes_of g.V.Stored.bytes_of header rows) (content_of g.K.Stored.bytes_of g.V.Stored.bytes_of other others) _ change refl
