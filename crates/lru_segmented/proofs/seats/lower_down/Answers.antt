use Rattle.std.proofs.Common.{arith, sym}
use Rattle.lru_owned_cache.proofs.Shrunk.{both_le, not_both}
use Rattle.lru_segmented.proofs.Lowered.{none_lowered, some_upper, fewer_upper, one_lowered, all_lowered}
use Rattle.lru_segmented.proofs.seats.lower_down.Goals as goal

pub loop-seats-init : goal.loop-seats-init
loop-seats-init g c = none_lowered c.args.most_weight c.args.most_rows c.args.seats.now

pub lower_last-requires : goal.lower_last-requires
lower_last-requires g c = some_upper c.args.most_weight c.args.most_rows c.args.seats.now c.loop-seats.seats c.loop-seats.invariant
    (λ both. not_both c.upper_weight.result c.args.most_weight c.upper_len.result c.args.most_rows (sym c.loop-seats-test.ensures) (omega (arith, both.0, c.upper_weight.ensures), omega (arith, both.1, c.upper_len.ensures)))

pub loop-seats-smaller : goal.loop-seats-smaller
loop-seats-smaller g c = fewer_upper c.args.most_weight c.args.most_rows c.args.seats.now c.loop-seats.seats c.loop-seats.invariant c.lower_last.new.self c.lower_last.ensures

pub loop-seats-preserved : goal.loop-seats-preserved
loop-seats-preserved g c = one_lowered c.args.most_weight c.args.most_rows c.args.seats.now c.loop-seats.seats c.loop-seats.invariant c.lower_last.new.self c.lower_last.ensures
    (λ both. not_both c.upper_weight.result c.args.most_weight c.upper_len.result c.args.most_rows (sym c.loop-seats-test.ensures) (omega (arith, both.0, c.upper_weight.ensures), omega (arith, both.1, c.upper_len.ensures)))

pub returns : goal.returns
returns g c =
    let fit = both_le c.upper_weight.result c.args.most_weight c.upper_len.result c.args.most_rows (sym c.loop-seats-test.ensures) in
    all_lowered c.args.most_weight c.args.most_rows c.args.seats.now c.loop-seats.seats c.loop-seats.invariant (omega (arith, fit.0, c.upper_weight.ensures), omega (arith, fit.1, c.upper_len.ensures))
