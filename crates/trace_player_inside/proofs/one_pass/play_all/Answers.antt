use Rattle.std.proofs.Common.{ℕ, length, map, subst, sym, ap, ◌∙◌}
use Rattle.std.proofs.lemmas.List.{length-map}
use Rattle.std.proofs.lemmas.List.Sorted.{IsNonDecreasingBy-from_sort}
use Rattle.std.specs.List.Sorted.{IsNonDecreasing}
use Rattle.trace_player_inside.specs.Traces.{played}
use Rattle.trace_player_inside.specs.declared.player.Tally.{Tally}
use Rattle.trace_player_inside.proofs.one_pass.play_all.Goals as goal

pub play_in_order-requires-clause-rises : goal.play_in_order-requires-clause-rises
play_in_order-requires-clause-rises c = subst IsNonDecreasing (sym c.deref.ensures.value) (IsNonDecreasingBy-from_sort (λ x. x) c.sort_unstable.new.self.items c.sort_unstable.ensures.sorted)

pub by_place-requires-clause-rises : goal.by_place-requires-clause-rises
by_place-requires-clause-rises c = subst IsNonDecreasing (sym c.deref-2.ensures.value) (IsNonDecreasingBy-from_sort (λ x. x) c.sort_unstable.new.self.items c.sort_unstable.ensures.sorted)

pub by_place-requires-clause-beside : goal.by_place-requires-clause-beside
by_place-requires-clause-beside c =
    let made = λ (limit : ℕ). played limit c.args.requests.now in
    ap length (c.deref-3.ensures.value ∙ c.in_ok-in_order.ensures.tallies ∙ ap (map made) c.deref.ensures.value)
    ∙ length-map c.sort_unstable.new.self.items made ∙ sym (ap length c.deref-2.ensures.value)

pub returns-clause-tallies : goal.returns-clause-tallies
returns-clause-tallies c =
    let made = λ (limit : ℕ). played limit c.args.requests.now in
    c.in_ok-tallies.ensures made (c.deref-3.ensures.value ∙ c.in_ok-in_order.ensures.tallies ∙ ap (map made) (c.deref.ensures.value ∙ sym c.deref-2.ensures.value))

pub returns-clause-hits : goal.returns-clause-hits
returns-clause-hits c =
    let made = λ (limit : ℕ). played limit c.args.requests.now in
    ap (map (λ (tally : Tally). tally.hits)) (c.in_ok-tallies.ensures made (c.deref-3.ensures.value ∙ c.in_ok-in_order.ensures.tallies ∙ ap (map made) (c.deref.ensures.value ∙ sym c.deref-2.ensures.value)))
    ∙ c.in_ok-in_order.ensures.hits c.args.limits.now
