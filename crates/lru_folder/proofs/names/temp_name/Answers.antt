use Rattle.std.proofs.Common.{rules}
use Rattle.lru_folder.proofs.NamesLemmas.{word_text-padded}
use Rattle.lru_folder.proofs.names.temp_name.Goals as goal

pub returns : goal.returns
returns c = search (rules, word_text-padded)
