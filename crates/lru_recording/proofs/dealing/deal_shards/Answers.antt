use Rattle.std.proofs.Common.{◌≡◌, ◌+◌, ◌-◌, [], ◌∷◌, List, ℕ, take, drop, vec_len, rules, sym, ap, ◌∙◌}
use Rattle.atomic_table.specs.Table.{Me}
use Rattle.lru_recording.specs.declared.entry.Stamp.{Stamp}
use Rattle.lru_recording.specs.declared.entry.Hand.{Hand}
use Rattle.lru_short_locks.specs.Hands.{up}
use Rattle.lru_recording.specs.Ties.{hand}
use Rattle.lru_short_locks.proofs.Hands.{up_rest}
use Rattle.lru_recording.proofs.dealing.deal_shards.Goals as goal

pub loop-number-preserved : goal.loop-number-preserved
loop-number-preserved g c =
    let i = c.loop-number.invariant in
    let names : c.loop-number.rest.me.0.shards ≡ c.loop-number.number ∷ up (c.loop-number.number + 1) (g.row.N - (c.loop-number.number + 1)) = ap (λ (m : Me Stamp Hand). m.0.shards) i.1.1 ∙ up_rest _ _ (search rules) in
    (c.next_shard-token.ensures.ids.0 ∙ i.0, (search rules, c.next_shard-token.ensures.rest ∙ (λ k. (hand (drop 1 (names k)) (i.1.1 k).0.seats [] [], []))))
