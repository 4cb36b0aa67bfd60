use Rattle.std.proofs.Common.{[], ◌∷◌, ◌<◌, ◌^◌, arith, length, nat_eq, sym, ap, ◌∙◌, subst}
use Rattle.std.specs.HashMap as hash
use Rattle.lru_shard.specs.Limits.{cap_of}
use Rattle.lru_inbox.specs.Logs.{front, of_fronts, taken_by}
use Rattle.lru_inbox.specs.Inboxes.{shown, taken_in}
use Rattle.lru_inbox.proofs.Kept.{shown_is}
use Rattle.std.specs.Prelude.{Option, is_some}
use Rattle.std.proofs.Common.{Some, None, refl, ◌≡◌}
use Rattle.std.proofs.Math.Logic.{∥∥₁_map}
use Rattle.lru_boxes.specs.declared.seats.PutSeat.{PutSeat}
use Rattle.lru_boxes.specs.declared.tie.BoxRegistry.{Ghosts}
use Rattle.lru_workers.specs.Accounts.{IsKept}
use Rattle.lru_workers.specs.Seats.{slips_at}
use Rattle.lru_workers.specs.Outlets.{is_ledger}
use Rattle.lru_workers.proofs.Replying.{adds, batch_kept, batch_replies, counted_in, take_all}
use Rattle.lru_workers.proofs.bench.Bench.process_logged.Goals as goal

pub invariant_of-rows : goal.invariant_of-rows
invariant_of-rows g c =
    let cap = cap_of g.B.Archive.shards in
    let rows = c.meet.new.self in
    let taker = c.meet.new.taker in
    let voice = c.in-Some.voice in
    let xs = taken_by voice.token.me.0 in
    let e = sym c.meet.ensures.taker.2 ∙ ap taken_in c.in-Some.is in
    let many = taker.counted voice c.in-Some.is in
    let shard = c.meet.ensures.taker.0 ∙ c.requires.shard.0 ∙ sym c.meet.ensures.same.0 in
    let is = shown_is taker.shard taker.count xs voice.token.me c.show.result.me (taker.told voice c.in-Some.is) c.show.ensures.shown ∙ (λ i. (of_fronts (front (shard i) (take_all xs taker.count many i) ∷ []), [])) in
    record {
      here = c.show.ensures.here;
      told = is ∙ ap (λ m. (of_fronts (front rows.shard (shown m.0) ∷ []), [])) (sym is);
      counted = many ∙ ap (λ m. length (shown m.0)) (sym is);
      kept = subst (λ m. ∥ IsKept cap (shown m.0) c.process_with.new.state (hash.get nat_eq c.process_with.new.weights) (slips_at c.process_with.new.seat) ∥₁) (sym is)
          (batch_kept g.K.Clone.is_clone cap xs (shown rows.seen.me.0) c.args.self.now.batch.items c.args.rows.now.count c.process_with.new.self.effects.items rows.state (hash.get nat_eq rows.weights) c.process_with.new.state (hash.get nat_eq c.process_with.new.weights)
          (c.meet.ensures.same.5 ∙ c.meet.ensures.met xs e) (c.requires.gains xs e) (∥∥₁_map rows.kept (λ k. k.left)) c.process_with.ensures.from (slips_at rows.seat) (slips_at c.process_with.new.seat) rows.kept
          (adds rows.state.shard.rows c.args.self.now.batch.items c.process_with.new.self.effects.items (is_ledger c.args.world.now.outlet) (slips_at rows.seat) (slips_at c.process_with.new.seat)
          (seated rows.seat ∙ ap is_some c.meet.ensures.same.4 ∙ c.requires.seat) c.process_with.ensures.slips (λ no. ap slips_at (c.process_with.ensures.seat no))));
    }
  where
    seated : {B : Type 0} {R : Ghosts B} (seat : Option (PutSeat B R)) → is_some (slips_at seat) ≡ is_some seat
    seated None = refl
    seated (Some s) = refl

pub returns-clause-replies : goal.returns-clause-replies
returns-clause-replies g c = λ taken e.
    let rows = c.meet.new.self in
    let many = counted_in c.args.taker.now.voice c.args.taker.now.count c.args.taker.now.counted taken e in
    let fits : length taken < 2 ^ 64 = omega (arith, many, c.taken-taken.ensures, c.taken-taken.type_inv) in
    batch_replies g.K.Clone.is_clone (cap_of g.B.Archive.shards) taken (shown rows.seen.me.0) c.args.self.now.batch.items c.args.rows.now.count c.process_with.new.self.effects.items rows.state (hash.get nat_eq rows.weights) c.process_with.new.state (hash.get nat_eq c.process_with.new.weights)
    (c.meet.ensures.same.5 ∙ c.meet.ensures.met taken e) (c.requires.gains taken e) (∥∥₁_map rows.kept (λ k. k.left)) c.process_with.ensures.from fits
