use Rattle.std.proofs.Common.{sym, ◌∙◌}
use Rattle.std.specs.Prelude.{codes}
use Rattle.lru_generations.proofs.NameLaws.{shard_parts}
use Rattle.lru_generations.proofs.names.manifest_path.Goals as goal

pub returns : goal.returns
returns c =
    let name = c.deref.ensures ∙ c.in_ok-name.ensures.ok ∙ sym (shard_parts c.args.file_name.now (codes ".manifest") c.args.generation) in
    rw name at c.path_of.ensures
