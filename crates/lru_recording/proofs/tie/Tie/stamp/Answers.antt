use Rattle.std.proofs.Common.{[], inl, arith, sym, refl, ap, ◌∙◌, subst}
use mathlib.Core.Option.{some}
use Rattle.atomic_table.specs.Table.{Me}
use Rattle.lru_recording.specs.declared.entry.Stamp.{Stamp}
use Rattle.lru_recording.specs.declared.entry.Hand.{Hand}
use Rattle.lru_short_locks.specs.Hands.{Among}
use Rattle.lru_recording.specs.Ties.{stamped, hand, HasSlips}
use Rattle.lru_recording.proofs.Moves.{splits, joins, stamps, cuts_lend, cuts_parts, together}
use Rattle.lru_recording.proofs.tie.Tie.stamp.Goals as goal

pub split_seat-lent-requires : goal.split_seat-lent-requires
split_seat-lent-requires c = let o = c.args.self.now.one in (c.requires.ids.1, omega (arith, o), splits _ _ _ _ _ (cuts_lend _))

pub join_seat-requires : goal.join_seat-requires
join_seat-requires c = let o = c.args.self.now.one in let l = c.split_seat-lent.ensures in (c.requires.ids.0, l.3 ∙ c.requires.ids.1, ap (λ (m : Me Stamp Hand). m.1) l.4, omega (arith, o), joins _ _ _ _ _)

pub compare_exchange_with-requires : goal.compare_exchange_with-requires
compare_exchange_with-requires c =
    let o = c.args.self.now.one in
    let both = together _ _ _ _ _ _ _ _ c.requires.book c.requires.seat c.split_seat-lent.ensures.4 c.join_seat.ensures.2 in (
      c.join_seat.ensures.0 ∙ c.requires.ids.0,
      omega (arith, o),
      stamps _ _ _ _ 0 0 _ (λ n. n) _
          (subst (λ (m : Me Stamp Hand). Among c.args.said.now.shard m.0.shards) (sym both) (inl refl))
          (subst (λ (m : Me Stamp Hand). Among c.args.said.now.seat m.0.seats) (sym both) (inl refl)),
    )

pub split_seat-requires : goal.split_seat-requires
split_seat-requires c = let o = c.args.self.now.one in (c.compare_exchange_with.ensures.0 ∙ c.join_seat.ensures.0 ∙ c.requires.ids.0, omega (arith, o), splits _ _ _ _ _ (cuts_parts _))

pub returns-clause-book : goal.returns-clause-book
returns-clause-book c =
    let both = together _ _ _ _ _ _ _ _ c.requires.book c.requires.seat c.split_seat-lent.ensures.4 c.join_seat.ensures.2 in
    c.split_seat.ensures.2 ∙ ap (λ (m : Me Stamp Hand). (hand m.0.shards [] m.0.book [], m.1)) (c.compare_exchange_with.ensures.2.0 ∙ ap (λ (m : Me Stamp Hand). (stamped (some c.args.said.now) m.0, m.1)) both)

pub returns-clause-seat : goal.returns-clause-seat
returns-clause-seat c =
    let both = together _ _ _ _ _ _ _ _ c.requires.book c.requires.seat c.split_seat-lent.ensures.4 c.join_seat.ensures.2 in
    c.split_seat.ensures.4 ∙ ap (λ (m : Me Stamp Hand). (hand [] m.0.seats [] m.0.slips, [])) (c.compare_exchange_with.ensures.2.0 ∙ ap (λ (m : Me Stamp Hand). (stamped (some c.args.said.now) m.0, m.1)) both)

pub returns-clause-known : goal.returns-clause-known
returns-clause-known c x a same =
    let both = together _ _ _ _ _ _ _ _ c.requires.book c.requires.seat c.split_seat-lent.ensures.4 c.join_seat.ensures.2 in
    let has = subst (λ (m : Me Stamp Hand). HasSlips m.0) both c.compare_exchange_with.ensures.2.1 in
    has x a (inl same)
