use Rattle.std.proofs.Common.{◌≡◌, ◌≤◌, ◌∙◌, refl, sym, ap, subst, arith}
use Rattle.atomic_table.specs.Table.{Me}
use Rattle.atomic_table.specs.declared.shared.Seat.{Seat as Token}
use Rattle.lru_recording.specs.declared.entry.Stamp.{Stamp}
use Rattle.lru_recording.specs.declared.entry.Hand.{Hand}
use Rattle.lru_short_locks.specs.Hands.{times, up}
use Rattle.lru_recording.proofs.Gathering.{gathered_more, one_less}
use Rattle.lru_shard.specs.Limits.{cap_of}
use Rattle.lru_recording.proofs.Homes.{home_of}
use Rattle.lru_recording.proofs.gathered.place.Goals as goal

pub returns-clause-more : goal.returns-clause-more
returns-clause-more g c =
    let j = c.args.recording.journal in
    gathered_more (λ k. k.number) (λ k. k.history.items) g.row.N j.number c.args.slots.now.items c.args.book.now.me j.token.me c.look.new.token.me _ c.requires.so_far refl c.args.recording.below j.told
    ((ap (λ (k : Token Stamp Hand). k.me) c.look.ensures.same) ∙ c.join.ensures.both)
    (λ x. subst (λ n. times x c.look.new.token.me.0.shards ≤ times x (up 0 n)) c.requires.names (subst (λ (m : Me Stamp Hand). times x m.0.shards ≤ times x (up 0 c.args.names.shards)) (sym (ap (λ (k : Token Stamp Hand). k.me) c.look.ensures.same)) (c.look.ensures.shows.once x)))

pub returns-clause-fewer : goal.returns-clause-fewer
returns-clause-fewer g c =
    let j = c.args.recording.journal in
    one_less (λ k. k.number) (λ k. k.history.items) g.row.N j.number c.args.slots.now.items c.args.book.now.me j.token.me c.look.new.token.me _ c.requires.so_far refl c.args.recording.below j.told
    ((ap (λ (k : Token Stamp Hand). k.me) c.look.ensures.same) ∙ c.join.ensures.both)
    (λ x. subst (λ n. times x c.look.new.token.me.0.shards ≤ times x (up 0 n)) c.requires.names (subst (λ (m : Me Stamp Hand). times x m.0.shards ≤ times x (up 0 c.args.names.shards)) (sym (ap (λ (k : Token Stamp Hand). k.me) c.look.ensures.same)) (c.look.ensures.shows.once x)))

pub invariant_of-kept-clause-own : goal.invariant_of-kept-clause-own
invariant_of-kept-clause-own g c =
    let r = c.args.recording in
    record { home = home_of g.row.N r.journal.number (cap_of g.row.N) r.unit.rows r.journal.history.items r.ends r.homes; cap = r.capped; light = omega (arith, c.used_weight-weight.ensures.valid.light, r.capped) }
