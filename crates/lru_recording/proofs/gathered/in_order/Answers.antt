use Rattle.std.proofs.Common.{◌≡◌, ◌<◌, length, get_or, Some, vec_len, vec_capacity, rules, arith, sym, ap, ◌∙◌, lit<}
use Rattle.std.specs.Prelude.{slice_get}
use Rattle.std.proofs.lemmas.Iterator.Adapters.{YieldsList-from_vec}
use Rattle.std.proofs.lemmas.Iterator.Consumers.{YieldsList-turn}
use Rattle.std.proofs.lemmas.Option.{slice_get-get_or}
use Rattle.lru_short_locks.proofs.Hands.{some_same, none_some}
use Rattle.lru_recording.proofs.Gathering.{no_empty}
use Rattle.lru_recording.proofs.gathered.in_order.Goals as goal

pub unreachable-requires : goal.unreachable-requires
unreachable-requires g c =
    let os = c.args.slots.items in
    let t = YieldsList-turn (YieldsList-from_vec os (cc) (cc)) c.loop-slot.yielded _ c.loop-slot.yielded_by c.next.result c.next.new.self c.in-Some.slot c.in-Some.is c.next.ensures.steps in
    let at : slice_get os (length c.loop-slot.yielded) ≡ Some c.in-Some.slot = slice_get-get_or os (length c.loop-slot.yielded) c.in-Some.slot t.0 ∙ ap (λ o. Some o) (sym t.1) in
    let k = no_empty os (length c.loop-slot.yielded) c.requires.full t.0 in
    none_some k.0 (sym c.in_default.is ∙ some_same c.in-Some.slot (Some k.0) (sym at ∙ k.1))

pub add-requires : goal.add-requires
add-requires g c =
    let os = c.args.slots.items in
    let t = YieldsList-turn (YieldsList-from_vec os (cc) (cc)) c.loop-slot.yielded _ c.loop-slot.yielded_by c.next.result c.next.new.self c.in-Some.slot c.in-Some.is c.next.ensures.steps in
    let at : slice_get os (length c.loop-slot.yielded) ≡ Some c.in-Some.slot = slice_get-get_or os (length c.loop-slot.yielded) c.in-Some.slot t.0 ∙ ap (λ o. Some o) (sym t.1) in
    let inv = c.loop-slot.invariant in
    let placed : c.in-Some-slot.kept.number ≡ length c.loop-slot.yielded = c.requires.placed (length c.loop-slot.yielded) c.in-Some-slot.kept (at ∙ ap (λ o. Some o) c.in-Some-slot.is) in
    let below : length c.loop-slot.yielded < length os = t.0 in
    let same : length os ≡ vec_len c.args.slots = search rules in
    let l = c.requires.len in
    let u = inv.units in
    let h = inv.len in
    let r = inv.room in
    (lit< tt, (lit< tt, (omega (arith, placed, h), (omega (arith, below, same, l, u, r.0), omega (arith, below, same, l, h, r.1)))))
