use Rattle.std.proofs.Common.{rules}
use Rattle.lru_generations.specs.declared.names.PartName.TheVariants.{Temp}
use Rattle.lru_generations.proofs.NameLaws.{no_generation, no_kind, part_read}
use Rattle.lru_generations.proofs.names.part_of.Goals as goal

pub returns-in_err-generation : goal.returns-in_err-generation
returns-in_err-generation c = rw c.from_residual-in_err-generation.ensures
    (no_generation c.args.file_name.now c.args.name.now c.in_ok-number.number.now c.in_ok-number.kind.now c.in_ok-number.ensures c.in_err-generation.ensures)

pub returns-in_err-shard-in_default : goal.returns-in_err-shard-in_default
returns-in_err-shard-in_default c = rw c.from_residual-in_err-shard-in_default.ensures
    (no_kind c.args.file_name.now c.args.name.now c.in_ok-number.number.now c.in_ok-number.kind.now c.in_ok-number.ensures
    c.in_default.not-manifest c.in_default.not-text c.in_err-shard-in_default.ensures)

pub returns-in-text : goal.returns-in-text
returns-in-text c = (
  search rules,
  part_read c.args.file_name.now c.args.name.now c.in_ok-number.number.now c.in_ok-number.kind.now c.in_ok-number.ensures
      (Temp c.in_ok-generation.generation) c.in_ok-generation.ensures c.in-text.is,
)
