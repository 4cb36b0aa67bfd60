use Rattle.std.proofs.Common.{◌≡◌, ℕ, ◌+◌, ◌<◌, ◌^◌, List, [], ◌∷◌, ◌++◌, length, map, take, get_or, refl, sym, ap, subst, ◌∙◌, arith}
use Rattle.std.proofs.lemmas.List.{take_more, take_all}
use Rattle.trace_player_inside.specs.declared.player.Request.{Request}
use Rattle.trace_player_inside.specs.declared.one_pass.Window.{Window}
use Rattle.trace_player_inside.specs.Traces.{played}
use Rattle.trace_player_inside.specs.Representation.Windows.{place_of, after, summed, tally_of}
use Rattle.trace_player_inside.proofs.Places.{Noted, noted_more, noted_below, length-last_ones}
use Rattle.trace_player_inside.proofs.Windows.{ServeAll, serve_none, serve_step, limits_empty, one_sizes, one_take, tallies}
use Rattle.trace_player_inside.proofs.Order.{Rise, rise_from, limits_of, asked_step, asked_limits, summed_limits, summed_empty}
use Rattle.trace_player_inside.proofs.Distances.{all_near}
use Rattle.trace_player_inside.proofs.one_pass.play_windows.Goals as goal

pub loop-request-init : goal.loop-request-init
loop-request-init c = record {
  noted = record {
    places = λ k. ap (λ r. place_of r k) c.in_ok-places.ensures;
    flags_are = c.in_ok-is_last.ensures.items;
  };
  windows = λ limits e up. (subst (ServeAll []) (sym (ap (summed 0) e ∙ summed_empty limits)) (serve_none limits), ap limits_of e ∙ limits_empty limits);
}

pub note-requires : goal.note-requires
note-requires c =
    noted_below (place_of c.loop-request.places) c.loop-request.is_last.items (take c.loop-request.request-index c.args.requests.now) c.loop-request.invariant.noted

pub loop-request-preserved : goal.loop-request-preserved
loop-request-preserved c =
    let requests = c.args.requests.now in
    let place = c.loop-request.request-index in
    let so_far = take place requests in
    let request : Request = get_or requests place (record { key = 0; size = 0 }) in
    let in_range : place < length requests = omega (arith, c.loop-request-test.true) in
    let more : take (place + 1) requests ≡ so_far ++ request ∷ [] = take_more requests place (record { key = 0; size = 0 }) in_range in
    let inv = c.loop-request.invariant in
    let old_flags = c.loop-request.is_last in
    let noted : Noted (place_of c.note.new.places) c.note.new.is_last.items (so_far ++ request ∷ []) =
    noted_more (place_of c.loop-request.places) (place_of c.note.new.places) old_flags.items c.note.new.is_last.items so_far request
    inv.noted c.in_ok-previous.ensures.places c.in_ok-previous.ensures.is_last in
    let fits : length so_far + 1 < 2 ^ 64 = omega (arith, ap length inv.noted.flags_are, length-last_ones so_far, old_flags.ok.0, old_flags.ok.1, old_flags.small) in
    record {
      noted = subst (Noted (place_of c.note.new.places) c.note.new.is_last.items) (sym more) noted;
      windows = λ limits e up.
          let before = inv.windows limits e up in
          let ws = c.loop-request.windows in
          let previous = c.in_ok-previous.previous in
          let bs = c.deref.result.now in
          let behind = c.in_ok-previous.ensures.previous ∙ ap after (inv.noted.places request.key) in
          let sizes = one_take place requests (one_sizes requests c.requires) in
          let rise : Rise 0 (limits_of ws) = subst (Rise 0) (sym before.1) (rise_from 0 limits (λ d lt. omega arith) up) in
          let step = asked_step so_far request sizes previous bs behind 0 0 ws rise before.0 in (
            subst (λ qs. ServeAll qs (summed 0 c.ask_in_order.new.windows)) (sym more)
                (subst (ServeAll (so_far ++ request ∷ [])) (sym (ap (summed 0) c.ask_in_order.ensures ∙ step))
                (serve_step so_far request (summed 0 ws) (c.requires place (record { key = 0; size = 0 }) in_range) sizes fits previous bs behind
                (c.deref.ensures.value ∙ noted.flags_are) before.0)),
            ap limits_of c.ask_in_order.ensures ∙ asked_limits previous bs ws ∙ before.1,
          );
    }

-- at the end, what is known is that of all requests
all_played : (place : ℕ) (requests : List Request) (ws : List Window) (limits : List ℕ) → take place requests ≡ requests → ServeAll (take place requests) (summed 0 ws) × (limits_of ws ≡ limits)
    → map (tally_of (length requests)) (summed 0 ws) ≡ map (λ limit. played limit requests) limits
all_played place requests ws limits whole h =
    tallies requests (summed 0 ws) (subst (λ qs. ServeAll qs (summed 0 ws)) whole h.0) ∙ ap (map (λ limit. played limit requests)) (summed_limits 0 ws ∙ h.1)

pub returns-clause-tallies : goal.returns-clause-tallies
returns-clause-tallies c limits e up =
    all_played c.loop-request.request-index c.args.requests.now c.loop-request.windows limits
    (take_all c.loop-request.request-index c.args.requests.now (omega (arith, c.loop-request-test.false))) (c.loop-request.invariant.windows limits e up)

pub returns-clause-hits : goal.returns-clause-hits
returns-clause-hits c limits =
    let requests = c.args.requests.now in
    let place = c.loop-request.request-index in
    let flags = c.loop-request.is_last in
    let inv = c.loop-request.invariant in
    let whole : take place requests ≡ requests = take_all place requests (omega (arith, c.loop-request-test.false)) in
    let fits : length requests < 2 ^ 64 = omega (arith, ap length inv.noted.flags_are, length-last_ones (take place requests), ap length whole, flags.ok.0, flags.ok.1, flags.small) in
    all_near limits requests (map (λ limit. played limit requests) limits) (one_sizes requests c.requires) fits refl
