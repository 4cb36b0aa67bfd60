use Rattle.std.proofs.Common.{◌≡◌, ℕ, length, ap, ◌∙◌, arith}
use Rattle.std.specs.Prelude.{map}
use Rattle.std.proofs.lemmas.List.{length-map}
use Rattle.lru_generations.specs.Manifests.{mark_row, part_header}
use Rattle.lru_generations.proofs.ManifestLaws.{fits_so}
use Rattle.lru_generations.proofs.manifest.encode_manifest.Goals as goal

pub returns-clause-fits : goal.returns-clause-fits
returns-clause-fits c =
    let generation = c.args.manifest.now.generation in
    let marks = c.args.manifest.now.frames.items in
    let written = c.in_ok-rows.ensures ∙ ap (map mark_row) c.deref.ensures.value in
    let count : c.len.result ≡ length marks = omega (arith, c.len.ensures, ap length written, length-map marks mark_row) in
    fits_so c.encode.result c.part.result c.deref-2.result.now generation marks c.encode.ensures.fits
    (c.part.ensures ∙ ap (λ (n : ℕ). part_header generation (length marks) n) count) (c.deref-2.ensures.value ∙ written)
