use Rattle.std.proofs.Common.{◌+◌, get_or, set, ap}
use Rattle.lru_index.proofs.Scales.{bits_kept}
use Rattle.lru_index.proofs.cells.put_first.Goals as goal

pub returns : goal.returns
returns c =
    ap (set (set c.args.cells.now (c.args.heads + c.args.place) (get_or c.args.cells.now c.args.home 0)) c.args.home)
    (bits_kept c.args.heads c.requires.scale c.args.bits c.place_of.result c.args.place c.place_of.ensures c.requires.narrow)
