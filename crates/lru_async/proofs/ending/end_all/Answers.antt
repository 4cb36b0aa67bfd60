use Rattle.std.proofs.Common.{◌≡◌, ◌+◌, length, ◌++◌, ◌∷◌, [], map, sym, ap, ◌∙◌, subst, arith}
use Rattle.std.proofs.lemmas.List.{map-append}
use Rattle.lru_shard.specs.Limits.{cap_of}
use Rattle.lru_async.specs.Accounts.{Accounts}
use Rattle.lru_async.proofs.Ends.{accounts_more}
use Rattle.lru_async.proofs.ending.end_all.Goals as goal

pub loop-shard-preserved : goal.loop-shard-preserved
loop-shard-preserved g c =
    let i = c.loop-shard.invariant in
    let cap = cap_of g.B.Archive.shards in
    let ends = c.loop-shard.ends in
    let seats = c.loop-shard.seats in
    let end = c.next_end-end.result.0 in
    let seat = c.next_end-end.result.1 in
    let put = c.push_reserved.ensures in
    let seated = c.push_reserved-in-loop-shard.ensures in
    let many : length ends.items ≡ c.loop-shard.shard = omega (arith, i.ends, ends.ok.0) in
    let number : end.shard ≡ 0 + c.loop-shard.shard = c.next_end-end.ensures.shard ∙ (let z : c.loop-shard.shard ≡ 0 + c.loop-shard.shard = omega arith in z) in
    record {
      accounts = subst (λ es. Accounts cap 0 es (map (λ s. s.share.slips) c.push_reserved-in-loop-shard.new.self.items)) (sym put.items)
          (subst (λ lists. Accounts cap 0 (ends.items ++ end ∷ []) lists) (sym (ap (map (λ s. s.share.slips)) seated.items ∙ map-append (λ s. s.share.slips) seats.items (seat ∷ [])))
          (accounts_more cap 0 c.loop-shard.shard ends.items (map (λ s. s.share.slips) seats.items) end seat.share.slips i.accounts many number c.next_end-end.ensures.account));
      ends = omega (arith, put.len, i.ends);
      seats = omega (arith, seated.len, i.seats);
      ends_fit = omega (arith, put.capacity, i.ends_fit);
      seats_fit = omega (arith, seated.capacity, i.seats_fit);
    }
