use Rattle.std.proofs.Common.{◌≡◌, ◌<◌, ◌≤◌, length, vec_len, ap, sym, ◌∙◌, arith, rules, lit<}
use Rattle.std.specs.Prelude.{slice_get}
use Rattle.lru_short_locks.specs.Hands.{up}
use Rattle.lru_short_locks.proofs.Hands.{in_order}
use Rattle.lru_cores_tests.proofs.recorded_plain.finished.Goals as goal

pub finish-requires : goal.finish-requires
finish-requires g c =
    let all = c.args.seats.items in
    let value = c.deref-seat-items.ensures.value in
    let len : length all ≡ c.args.count = search rules in
    let long : length c.deref-seat-items.result.now ≡ length all = ap length value in
    let end = c.loop-number-test.false in (
      lit< tt,
      (
        lit< tt,
        in_order (λ s. s.number) all c.args.count len (λ k below s e. c.loop-number.invariant k (omega (arith, below, len, long, end)) s (ap (λ l. slice_get l k) value ∙ e))
            ∙ ap (up 0) (sym c.requires),
      ),
    )
