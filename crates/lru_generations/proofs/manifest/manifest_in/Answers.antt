use Rattle.std.proofs.Common.{◌≡◌, List, length, sym, subst, ap, ◌∙◌, arith}
use Rattle.std.specs.Prelude.{map}
use Rattle.lru_frames.specs.declared.mark.Mark.{Mark}
use Rattle.lru_generations.specs.Manifests.{IsFrameOf, row_mark}
use Rattle.lru_generations.proofs.ManifestLaws.{frame_so, last_so}
use Rattle.lru_generations.proofs.manifest.manifest_in.Goals as goal

pub returns-clause-found : goal.returns-clause-found
returns-clause-found c =
    let header = c.args.frame.header in
    let rows = c.args.frame.rows.items in
    let last = last_so c.checked_add.result header.shard header.shards c.if-ne.ensures c.checked_add.ensures in
    let count : length rows ≡ header.shard = omega (arith, c.if-len-header.false, c.len.ensures) in
    let frames = c.in-Ok.ensures ∙ ap (map row_mark) c.deref.ensures.value in
    subst (λ (marks : List Mark). IsFrameOf header rows header.generation marks) (sym frames) (frame_so header rows last count)
