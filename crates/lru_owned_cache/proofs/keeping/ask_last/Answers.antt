use Rattle.std.proofs.Common.{of_calls, arith, sym, ◌∙◌, refl, true, false}
use Rattle.lru_owned_cache.proofs.RetainedEntries.{none_asked, not_untold, asked_row, row_stands, asks, all_asked, one_kept, one_gone}
use Rattle.lru_owned_cache.proofs.keeping.ask_last.Goals as goal

pub loop-left-init : goal.loop-left-init
loop-left-init g c = (c.requires.keep, c.requires.visit, none_asked (λ p k v w b q. goal.F-step g p k v w b q) c.args.keep (λ p x q. goal.G-step g p x tt q) c.args.visit c.args.most c.args.rows.now.held c.args.used c.min-left.result c.requires.used (omega (arith, c.min-left.ensures, c.len.ensures.value)), refl)

pub unreachable-requires : goal.unreachable-requires
unreachable-requires g c = not_untold c.loop-left.invariant.2 c.loop-left-test.true (sym c.in_default.is ∙ c.last.ensures.place)

pub key_at-key-requires : goal.key_at-key-requires
key_at-key-requires g c =
    let so_far = c.loop-left.invariant.2 in
    row_stands so_far (asked_row so_far g.K.PartialEq.eq c.last.ensures.valid c.loop-left-test.true c.in-Some.place (sym c.in-Some.is ∙ c.last.ensures.place))

pub loop-left-preserved-then-keep : goal.loop-left-preserved-then-keep
loop-left-preserved-then-keep g c =
    let so_far = c.loop-left.invariant.2 in
    let row = asked_row so_far g.K.PartialEq.eq c.last.ensures.valid c.loop-left-test.true c.in-Some.place (sym c.in-Some.is ∙ c.last.ensures.place) in
    let answered = asks so_far row c.key_at-key.result c.value_at-value.result c.weight_at.result c.key_at-key.ensures c.value_at-value.ensures c.weight_at.ensures true c.keep.new.self c.if-keep.ensures in
    (search of_calls parts 8, search of_calls parts 8, one_kept so_far row c.loop-left-test.true c.promote.new.self.held c.promote.ensures.rows c.keep.new.self answered, c.promote.ensures.hashes ∙ c.loop-left.invariant.3)

pub loop-left-preserved : goal.loop-left-preserved
loop-left-preserved g c =
    let so_far = c.loop-left.invariant.2 in
    let row = asked_row so_far g.K.PartialEq.eq c.last.ensures.valid c.loop-left-test.true c.in-Some.place (sym c.in-Some.is ∙ c.last.ensures.place) in
    let answered = asks so_far row c.key_at-key.result c.value_at-value.result c.weight_at.result c.key_at-key.ensures c.value_at-value.ensures c.weight_at.ensures false c.keep.new.self c.if-keep.ensures in
    (search of_calls parts 8, search of_calls parts 8, one_gone so_far row c.in-Some-pop_last.ensures.pops c.loop-left-test.true c.keep.new.self answered c.visit.new.self c.visit.ensures, c.in-Some-pop_last.ensures.hashes ∙ c.loop-left.invariant.3)

pub returns-clause-asks : goal.returns-clause-asks
returns-clause-asks g c = all_asked c.loop-left.invariant.2 (omega (arith, c.loop-left-test.false))

pub returns-clause-hashes : goal.returns-clause-hashes
returns-clause-hashes g c = c.loop-left.invariant.3
