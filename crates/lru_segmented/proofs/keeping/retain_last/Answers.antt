use Rattle.std.proofs.Common.{of_calls, arith, true, false}
use Rattle.lru_segmented.proofs.Retained.{none_asked, not_untold, asked_row, row_stands, asks, all_asked, one_kept, one_gone}
use Rattle.lru_segmented.proofs.keeping.retain_last.Goals as goal

pub loop-left-init : goal.loop-left-init
loop-left-init g c = (c.requires.keep, c.requires.visit, none_asked (λ p k v w b q. goal.F-step g p k v w b q) c.args.keep (λ p x q. goal.G-step g p x tt q) c.args.visit c.args.most c.args.seats.now g.K.PartialEq.eq c.last-next.result c.min-left.result c.last-next.ensures.place c.last-next.ensures.valid (omega (arith, c.min-left.ensures, c.len.ensures.value)))

pub unreachable-requires : goal.unreachable-requires
unreachable-requires g c = not_untold c.loop-left.invariant.2 c.loop-left-test.true c.in_default.is

pub before-next-requires : goal.before-next-requires
before-next-requires g c =
    let so_far = c.loop-left.invariant.2 in
    row_stands so_far (asked_row so_far c.in-Some.place c.in-Some.is)

pub key_at-key-requires : goal.key_at-key-requires
key_at-key-requires g c =
    let so_far = c.loop-left.invariant.2 in
    row_stands so_far (asked_row so_far c.in-Some.place c.in-Some.is)

pub loop-left-preserved-then-keep : goal.loop-left-preserved-then-keep
loop-left-preserved-then-keep g c =
    let so_far = c.loop-left.invariant.2 in
    let row = asked_row so_far c.in-Some.place c.in-Some.is in
    let answered = asks so_far row c.key_at-key.result c.value_at-value.result c.weight_at.result c.key_at-key.ensures c.value_at-value.ensures c.weight_at.ensures true c.keep.new.self c.if-keep.ensures in
    (search of_calls parts 8, search of_calls parts 8, one_kept so_far row c.loop-left-test.true c.before-next.result c.before-next.ensures c.keep.new.self answered)

pub loop-left-preserved : goal.loop-left-preserved
loop-left-preserved g c =
    let so_far = c.loop-left.invariant.2 in
    let row = asked_row so_far c.in-Some.place c.in-Some.is in
    let answered = asks so_far row c.key_at-key.result c.value_at-value.result c.weight_at.result c.key_at-key.ensures c.value_at-value.ensures c.weight_at.ensures false c.keep.new.self c.if-keep.ensures in
    (search of_calls parts 8, search of_calls parts 8, one_gone so_far row c.loop-left-test.true c.before-next.result c.before-next.ensures c.keep.new.self answered c.take-row.result c.take-row.ensures.taken c.take-row.new.self c.take-row.ensures.rows c.visit.new.self c.visit.ensures)

pub returns : goal.returns
returns g c = all_asked c.loop-left.invariant.2 (omega (arith, c.loop-left-test.false))
