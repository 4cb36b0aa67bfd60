use Rattle.std.proofs.Common.{of_calls, arith, sym}
use Rattle.lru_owned_cache.proofs.Shrunk.{both_le, not_both}
use Rattle.lru_segmented.proofs.Receding.{none_gone, some_left, one_gone, fewer, all_gone}
use Rattle.lru_segmented.proofs.segmented.SegmentedCache.let_go.Goals as goal

pub loop-self-init : goal.loop-self-init
loop-self-init g c = (c.requires, none_gone (λ p x q. goal.F-step g p x tt q) c.args.visit c.args.most_weight c.args.most_entries c.args.self.now)

pub unreachable-requires : goal.unreachable-requires
unreachable-requires g c = some_left (λ p x q. goal.F-step g p x tt q) c.args.visit c.args.most_weight c.args.most_entries c.args.self.now c.loop-self.visit c.loop-self.self c.loop-self.invariant.1 c.pop_last.new.self c.in_default.ensures.pops
    (λ both. not_both c.weight.result c.args.most_weight c.len.result c.args.most_entries (sym c.loop-self-test.ensures) (omega (arith, both.0, c.weight.ensures), omega (arith, both.1, c.len.ensures.value)))

pub visit-requires : goal.visit-requires
visit-requires g c = search of_calls parts 8

pub loop-self-smaller : goal.loop-self-smaller
loop-self-smaller g c = fewer (λ p x q. goal.F-step g p x tt q) c.args.visit c.args.most_weight c.args.most_entries c.args.self.now c.loop-self.visit c.loop-self.self c.loop-self.invariant.1 c.in-Some.last c.pop_last.new.self c.in-Some.ensures.pops

pub loop-self-preserved : goal.loop-self-preserved
loop-self-preserved g c = (
  search of_calls parts 8,
  one_gone (λ p x q. goal.F-step g p x tt q) c.args.visit c.args.most_weight c.args.most_entries c.args.self.now c.loop-self.visit c.loop-self.self c.loop-self.invariant.1 c.in-Some.last c.visit.new.self c.visit.ensures
      (λ both. not_both c.weight.result c.args.most_weight c.len.result c.args.most_entries (sym c.loop-self-test.ensures) (omega (arith, both.0, c.weight.ensures), omega (arith, both.1, c.len.ensures.value))) c.pop_last.new.self c.in-Some.ensures.pops,
)

pub returns : goal.returns
returns g c =
    let fit = both_le c.weight.result c.args.most_weight c.len.result c.args.most_entries (sym c.loop-self-test.ensures) in
    all_gone (λ p x q. goal.F-step g p x tt q) c.args.visit c.args.most_weight c.args.most_entries c.args.self.now c.loop-self.visit c.loop-self.self c.loop-self.invariant.1 (omega (arith, fit.0, c.weight.ensures), omega (arith, fit.1, c.len.ensures.value))
