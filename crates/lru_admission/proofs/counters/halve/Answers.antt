use Rattle.std.proofs.Common.{ap, ◌∙◌, arith, get_or}
use Rattle.std.proofs.lemmas.List.{get_or_default}
use Rattle.lru_admission.specs.Representation.{counts_in}
use Rattle.std.proofs.lemmas.List.Edits.{map_over_more}
use Rattle.lru_admission.proofs.Packed.{halved_byte, counts-halved, all_mapped}
use Rattle.lru_admission.proofs.counters.halve.Goals as goal

pub loop-byte-preserved : goal.loop-byte-preserved
loop-byte-preserved c =
    let i = c.loop-byte.byte-index in
    let bytes = c.loop-byte.bytes in
    map_over_more halved_byte c.args.bytes.now bytes i (get_or bytes i 0) (omega arith) c.loop-byte.invariant (get_or_default bytes i 0 (get_or bytes i 0) (omega arith))

pub returns : goal.returns
returns c = ap counts_in (c.loop-byte.invariant ∙ all_mapped halved_byte c.args.bytes.now c.loop-byte.byte-index (omega arith)) ∙ counts-halved c.args.bytes.now
