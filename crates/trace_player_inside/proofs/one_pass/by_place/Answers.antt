use Rattle.std.proofs.Common.{◌++◌, [], ◌∷◌, map, take, get_or, sym, ap, ◌∙◌, Ok, Err}
use Rattle.std.proofs.lemmas.List.{take_more, map-append}
use Rattle.std.proofs.lemmas.List.Sorted.{searched}
use Rattle.trace_player_inside.specs.Traces.{no_tally}
use Rattle.trace_player_inside.proofs.Order.{made_at, stands, not_out}
use Rattle.trace_player_inside.proofs.one_pass.by_place.Goals as goal

-- each limit is found
pub unreachable-requires : goal.unreachable-requires
unreachable-requires c =
    let sorted = c.args.sorted.now in
    let place = c.loop-limit.limit-index in
    let limit = get_or c.args.limits.now place 0 in
    let out = searched sorted limit (Err c.in_default.field-0) c.in_default.ensures.position (λ i j le lt. c.requires.rises i j 0 le lt) in
    not_out sorted limit c.in_default.field-0 (stands c.args.limits.now sorted place c.requires.same c.loop-limit-test.true) out.1 out.2

pub loop-limit-preserved : goal.loop-limit-preserved
loop-limit-preserved c made e =
    let limits = c.args.limits.now in
    let sorted = c.args.sorted.now in
    let tallies = c.args.tallies.now in
    let place = c.loop-limit.limit-index in
    let limit = get_or limits place 0 in
    let found = searched sorted limit (Ok c.in-Ok.place) c.in-Ok.ensures.position (λ i j le lt. c.requires.rises i j 0 le lt) in
    c.in_ok-push.ensures.items
    ∙ ap (λ ts. ts ++ get_or tallies c.in-Ok.place no_tally ∷ []) (c.loop-limit.invariant made e)
    ∙ ap (λ t. map made (take place limits) ++ t ∷ []) (made_at made sorted tallies c.in-Ok.place limit no_tally found.0 found.1 e)
    ∙ sym (ap (map made) (take_more limits place 0 c.loop-limit-test.true) ∙ map-append made (take place limits) (limit ∷ []))
