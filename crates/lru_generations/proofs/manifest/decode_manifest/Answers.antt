use Rattle.std.specs.Prelude.{map}
use Rattle.lru_generations.specs.Manifests.{mark_row}
use Rattle.lru_generations.proofs.ManifestLaws.{header_of, refused, wrong_so, written_so, found_so, wrong_result}
use Rattle.lru_generations.proofs.manifest.decode_manifest.Goals as goal

pub returns-in-Err-clause-written : goal.returns-in-Err-clause-written
returns-in-Err-clause-written c = refused c.in-Err.error c.args.bytes.now c.in-Err.ensures.written

pub returns-in-Err-clause-wrong : goal.returns-in-Err-clause-wrong
returns-in-Err-clause-wrong c = wrong_so c.in-Err.error c.args.bytes.now c.in-Err.ensures.written c.in-Err.ensures.wrong

pub returns-in-Err-clause-changed : goal.returns-in-Err-clause-changed
returns-in-Err-clause-changed c generation marks change = c.in-Err.ensures.changed (header_of generation marks) (map mark_row marks) change

pub returns-in-Err-clause-cut : goal.returns-in-Err-clause-cut
returns-in-Err-clause-cut c generation marks rest small some h =
    let e = c.in-Err.ensures.cut (header_of generation marks) (map mark_row marks) rest small some h in cc

pub returns-in-Err-clause-longer : goal.returns-in-Err-clause-longer
returns-in-Err-clause-longer c generation marks rest some h =
    let e = c.in-Err.ensures.longer (header_of generation marks) (map mark_row marks) rest some h in cc

pub returns-in-Ok-clause-found : goal.returns-in-Ok-clause-found
returns-in-Ok-clause-found c = found_so c.in-Ok.frame c.args.bytes.now c.in-Ok.ensures.written c.in-Ok.ensures.found c.in-Ok.ensures.fits c.manifest_in.result c.manifest_in.ensures.found

pub returns-in-Ok-clause-written : goal.returns-in-Ok-clause-written
returns-in-Ok-clause-written c = written_so c.in-Ok.frame c.args.bytes.now c.in-Ok.ensures.written c.in-Ok.ensures.found c.manifest_in.result c.manifest_in.ensures.found c.manifest_in.ensures.wrong

pub returns-in-Ok-clause-wrong : goal.returns-in-Ok-clause-wrong
returns-in-Ok-clause-wrong c = wrong_result c.in-Ok.frame c.args.bytes.now c.in-Ok.ensures.written c.in-Ok.ensures.found c.manifest_in.result c.manifest_in.ensures.wrong

pub returns-in-Ok-clause-changed : goal.returns-in-Ok-clause-changed
returns-in-Ok-clause-changed c generation marks change = absurd (c.in-Ok.ensures.changed (header_of generation marks) (map mark_row marks) change)

pub returns-in-Ok-clause-cut : goal.returns-in-Ok-clause-cut
returns-in-Ok-clause-cut c generation marks rest small some h =
    let e = c.in-Ok.ensures.cut (header_of generation marks) (map mark_row marks) rest small some h in cc

pub returns-in-Ok-clause-longer : goal.returns-in-Ok-clause-longer
returns-in-Ok-clause-longer c generation marks rest some h =
    let e = c.in-Ok.ensures.longer (header_of generation marks) (map mark_row marks) rest some h in cc
