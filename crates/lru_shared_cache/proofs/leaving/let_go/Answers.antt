use Rattle.std.proofs.Common.{of_calls, sym}
use Rattle.lru_owned_cache.proofs.Shrunk.{both_le, not_both}
use Rattle.lru_owned_cache.specs.Entries.{weight_of}
use Rattle.std.specs.Prelude.{length}
use Rattle.lru_shared_cache.proofs.Parted.{none_gone, one_gone, all_gone, not_none, fewer}
use Rattle.lru_shared_cache.proofs.leaving.let_go.Goals as goal

pub loop-cache-init : goal.loop-cache-init
loop-cache-init g c = (c.requires, none_gone (λ p x q. goal.F-step g p x tt q) c.args.visit c.args.most_weight c.args.most_entries c.args.cache.now)

pub unreachable-requires : goal.unreachable-requires
unreachable-requires g c = not_none c.loop-cache.cache c.args.most_weight c.args.most_entries c.in_default.ensures.0 (not_both (weight_of c.loop-cache.cache.entries) c.args.most_weight (length c.loop-cache.cache.entries) c.args.most_entries (sym c.loop-cache-test.ensures.fits))

pub loop-cache-smaller : goal.loop-cache-smaller
loop-cache-smaller g c = fewer c.loop-cache.cache c.pop_last.new.self c.in-Some.last c.in-Some.ensures

pub loop-cache-preserved : goal.loop-cache-preserved
loop-cache-preserved g c = (
  search of_calls parts 8,
  one_gone c.len-len.ensures.valid.placed c.loop-cache.invariant.1 c.in-Some.ensures (not_both (weight_of c.loop-cache.cache.entries) c.args.most_weight (length c.loop-cache.cache.entries) c.args.most_entries (sym c.loop-cache-test.ensures.fits)) c.visit.new.self c.visit.ensures,
)

pub returns-clause-goes : goal.returns-clause-goes
returns-clause-goes g c = all_gone c.len-len.ensures.valid.placed c.loop-cache.invariant.1 (both_le (weight_of c.loop-cache.cache.entries) c.args.most_weight (length c.loop-cache.cache.entries) c.args.most_entries (sym c.loop-cache-test.ensures.fits))

pub returns-clause-placed : goal.returns-clause-placed
returns-clause-placed g c = c.len-len.ensures.valid.placed
