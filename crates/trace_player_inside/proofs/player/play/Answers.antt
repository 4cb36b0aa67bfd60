use Rattle.std.proofs.Common.{◌+◌, ◌∙◌, drop, get_or, sym, ap, refl, subst, arith}
use Rattle.std.specs.Prelude.{Bool}
use Rattle.std.proofs.lemmas.List.{at_drop_more}
use Rattle.lru_shard.specs.Row.{is_held}
use Rattle.trace_player_inside.specs.declared.player.Request.{Request}
use Rattle.trace_player_inside.specs.declared.player.Tally.{Tally}
use Rattle.trace_player_inside.specs.Traces.{Rows, kept_after, counted, played_on}
use Rattle.trace_player_inside.proofs.Refused.{Fits, fits_few, fits_more}
use Rattle.trace_player_inside.proofs.player.play.Goals as goal

pub returns-in-Err-clause-refused : goal.returns-in-Err-clause-refused
returns-in-Err-clause-refused c =
    let fits = c.loop-request.invariant.fits in
    c.in-Err.ensures.refused c.loop-request.invariant.cap (fits_few c.args.limit c.loop-request.unit.rows fits) fits.light

pub loop-request-preserved : goal.loop-request-preserved
loop-request-preserved c =
    let limit = c.args.limit in
    let requests = c.args.requests.now in
    let place = c.loop-request.request-index in
    let rows : Rows = c.loop-request.unit.rows in
    let tally = c.loop-request.tally in
    let none : Request = record { key = 0; size = 0 } in
    let request = get_or requests place none in
    let rest = drop (place + 1) requests in
    let was = c.in-Ok-ask.ensures.was in
    let gone = c.in-Ok-ask.gone in
    let found = is_held rows request.key in
    let told = c.count.ensures ∙ ap (λ (hit : Bool). counted tally hit request.size gone) was ∙ ap (λ n. counted tally found request.size n) c.in-Ok-ask.ensures.evicted in
    record {
      played =
          ap (λ (kept : Rows). played_on limit kept c.count.new.self rest) c.in-Ok-ask.ensures.kept
          ∙ ap (λ (t : Tally). played_on limit (kept_after limit rows request) t rest) told
          ∙ sym (at_drop_more (λ qs. played_on limit rows tally qs) requests place none (omega arith))
          ∙ c.loop-request.invariant.played;
      limit = refl;
      fits = subst (Fits limit) (sym c.in-Ok-ask.ensures.kept) (fits_more limit rows request c.loop-request.invariant.fits);
      cap = c.in-Ok-ask.ensures.cap ∙ c.loop-request.invariant.cap;
    }
