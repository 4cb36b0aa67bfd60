use Rattle.std.proofs.Common.{◌∙◌}
use Rattle.lru_owned_cache.proofs.RetainedEntries.{count_fits, as_heavy, retains_last_rows}
use Rattle.lru_owned_cache.proofs.keeping.retain_last.Goals as goal

pub put_back-requires : goal.put_back-requires
put_back-requires g c = count_fits c.ask_last-used.ensures.asks

pub returns-clause-retains : goal.returns-clause-retains
returns-clause-retains g c = retains_last_rows c.ask_last-used.ensures.asks c.put_back.ensures.puts

pub returns-clause-used : goal.returns-clause-used
returns-clause-used g c = c.ask_last-used.ensures.used ∙ as_heavy c.ask_last-used.ensures.asks c.put_back.ensures.puts
