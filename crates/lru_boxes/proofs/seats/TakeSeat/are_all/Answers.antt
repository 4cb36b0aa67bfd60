use Rattle.std.proofs.Common.{◌≡◌, sym, subst, refl, true≢false, arith, rules}
use Rattle.std.proofs.lemmas.Option.{slice_get_read}
use Rattle.lru_short_locks.proofs.Hands.{in_order, as_many, own_number}
use Rattle.lru_boxes.proofs.seats.TakeSeat.are_all.Goals as goal

pub returns-then-seats-count : goal.returns-then-seats-count
returns-then-seats-count g c = ((λ t. absurd (true≢false (sym t))), (λ e. absurd (c.if-seats-count.true (as_many (λ s. s.number) c.args.seats.now c.args.count e))))

pub returns-then-seats-taker : goal.returns-then-seats-taker
returns-then-seats-taker g c =
    let at = slice_get_read c.args.seats.now _ c.loop-taker.taker c.index-seats-taker.result refl (search rules) c.index-seats-taker.is in
    ((λ t. absurd (true≢false (sym t))), (λ e. absurd (c.if-seats-taker.true (subst (λ s. s.number ≡ c.loop-taker.taker) c.index-seats-taker.is (own_number (λ s. s.number) c.args.seats.now c.args.count c.loop-taker.taker c.index-seats-taker.result e at)))))

pub returns : goal.returns
returns g c =
    let many = c.if-seats-count.false in
    let end = c.loop-taker-test.false in
    ((λ _. in_order (λ s. s.number) c.args.seats.now c.args.count (omega (arith, many)) (λ k below s at. c.loop-taker.invariant k (omega (arith, below, end)) s at)), (λ _. refl))
