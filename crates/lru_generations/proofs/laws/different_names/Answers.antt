use Rattle.lru_generations.proofs.NameLaws.{one_name, one_path, has_slash-part_text}
use Rattle.lru_generations.proofs.laws.different_names.Goals as goal

pub returns-clause-names : goal.returns-clause-names
returns-clause-names c = one_name

pub returns-clause-paths : goal.returns-clause-paths
returns-clause-paths c = one_path

pub returns-clause-slash : goal.returns-clause-slash
returns-clause-slash c = has_slash-part_text
