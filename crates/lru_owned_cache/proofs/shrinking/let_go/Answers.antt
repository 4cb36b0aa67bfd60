use Rattle.std.proofs.Common.{of_calls, arith, sym, refl, ◌∙◌}
use Rattle.lru_owned_cache.proofs.Shrunk.{both_le, not_both, none_gone, not_none, last_part, fewer, one_gone, all_gone}
use Rattle.lru_owned_cache.proofs.shrinking.let_go.Goals as goal

pub loop-rows-init : goal.loop-rows-init
loop-rows-init g c = (c.requires.visit, none_gone (λ p x q. goal.F-step g p x tt q) c.args.visit c.args.most_weight c.args.most_rows c.args.rows.now.held c.args.used c.requires.used, refl)

pub unreachable-requires : goal.unreachable-requires
unreachable-requires g c = not_none c.loop-rows.invariant.1 c.in_default.ensures.pops.0 (λ both. not_both c.loop-rows.used c.args.most_weight c.len.result c.args.most_rows (sym c.loop-rows-test.ensures) (both.0, omega (arith, both.1, c.len.ensures.value)))

pub overflow_sub-used : goal.overflow_sub-used
overflow_sub-used g c = last_part c.loop-rows.invariant.1 c.in-Some.ensures.pops

pub visit-requires : goal.visit-requires
visit-requires g c = search of_calls parts 8

pub loop-rows-smaller : goal.loop-rows-smaller
loop-rows-smaller g c = fewer c.loop-rows.invariant.1 c.in-Some.ensures.pops

pub loop-rows-preserved : goal.loop-rows-preserved
loop-rows-preserved g c = (search of_calls parts 8, one_gone c.loop-rows.invariant.1 c.in-Some.ensures.pops (λ both. not_both c.loop-rows.used c.args.most_weight c.len.result c.args.most_rows (sym c.loop-rows-test.ensures) (both.0, omega (arith, both.1, c.len.ensures.value))) c.visit.new.self c.visit.ensures, c.in-Some.ensures.hashes ∙ c.loop-rows.invariant.2)

pub returns-clause-shrinks : goal.returns-clause-shrinks
returns-clause-shrinks g c =
    let fit = both_le c.loop-rows.used c.args.most_weight c.len.result c.args.most_rows (sym c.loop-rows-test.ensures) in
    all_gone c.loop-rows.invariant.1 (fit.0, omega (arith, fit.1, c.len.ensures.value))

pub returns-clause-used : goal.returns-clause-used
returns-clause-used g c = c.loop-rows.invariant.1.used_is

pub returns-clause-hashes : goal.returns-clause-hashes
returns-clause-hashes g c = c.loop-rows.invariant.2
