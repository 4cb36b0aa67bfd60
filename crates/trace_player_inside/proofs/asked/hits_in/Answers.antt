use Rattle.std.proofs.Common.{arith}
use Rattle.trace_player_inside.specs.declared.player.Request.{Request}
use Rattle.trace_player_inside.proofs.Found.{byte_le, finds_more}
use Rattle.trace_player_inside.proofs.asked.hits_in.Goals as goal

pub loop-request-preserved : goal.loop-request-preserved
loop-request-preserved g c =
    let none : Request = record { key = 0; size = 0 } in
    let found = c.in_ok-is_found.is_found in
    record {
      within = omega (arith, c.loop-request.invariant.within, byte_le found);
      finds = finds_more g.C.Asked.asks c.args.cache.now c.loop-request.cache c.ask.new.self c.args.requests.now c.loop-request.request-index c.loop-request.hits found none
          (omega arith) c.loop-request.invariant.finds c.in_ok-is_found.ensures;
    }
