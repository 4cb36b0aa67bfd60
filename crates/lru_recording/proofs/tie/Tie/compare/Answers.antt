use Rattle.std.proofs.Common.{[], arith, sym, ap, ◌∙◌, subst}
use Rattle.atomic_table.specs.Table.{Me}
use Rattle.atomic_table.specs.declared.shared.Seat.{Seat as Token}
use Rattle.lru_recording.specs.declared.entry.Stamp.{Stamp}
use Rattle.lru_recording.specs.declared.entry.Hand.{Hand}
use Rattle.lru_recording.specs.Ties.{hand, Shows}
use Rattle.lru_recording.proofs.Moves.{splits, joins, cuts_lend, cuts_apart, together_seat}
use Rattle.lru_recording.proofs.tie.Tie.compare.Goals as goal

pub split_seat-lent-requires : goal.split_seat-lent-requires
split_seat-lent-requires c = let o = c.args.self.now.one in (c.requires.ids.0, omega (arith, o), splits _ _ _ _ _ (cuts_lend _))

pub join_seat-requires : goal.join_seat-requires
join_seat-requires c = let o = c.args.self.now.one in let l = c.split_seat-lent.ensures in (c.requires.ids.1, l.3 ∙ c.requires.ids.0, ap (λ (m : Me Stamp Hand). m.1) l.4, omega (arith, o), joins _ _ _ _ _)

pub split_seat-requires : goal.split_seat-requires
split_seat-requires c = let o = c.args.self.now.one in (ap (λ (t : Token Stamp Hand). t.table_id) c.look.ensures.same ∙ c.join_seat.ensures.0 ∙ c.requires.ids.1, omega (arith, o), splits _ _ _ _ _ (cuts_apart _))

pub returns-clause-book : goal.returns-clause-book
returns-clause-book c =
    let both = together_seat _ _ _ _ _ _ _ _ c.requires.book c.requires.seat c.split_seat-lent.ensures.4 c.join_seat.ensures.2 in (
      c.split_seat.ensures.3 ∙ ap (λ (t : Token Stamp Hand). t.table_id) c.look.ensures.same ∙ c.join_seat.ensures.0 ∙ c.requires.ids.1 ∙ sym c.requires.ids.0,
      c.split_seat.ensures.4 ∙ ap (λ (m : Me Stamp Hand). (hand m.0.shards [] m.0.book [], [])) (ap (λ (t : Token Stamp Hand). t.me) c.look.ensures.same ∙ both) ∙ sym c.requires.book,
    )

pub returns-clause-seat : goal.returns-clause-seat
returns-clause-seat c =
    let both = together_seat _ _ _ _ _ _ _ _ c.requires.book c.requires.seat c.split_seat-lent.ensures.4 c.join_seat.ensures.2 in
    let s = c.split_seat.ensures in
    λ i. record {
      marker = c.args.seat.now.marker;
      table_id = (s.0 ∙ ap (λ (t : Token Stamp Hand). t.table_id) c.look.ensures.same ∙ c.join_seat.ensures.0) i;
      id = (s.1 ∙ ap (λ (t : Token Stamp Hand). t.id) c.look.ensures.same ∙ c.join_seat.ensures.1) i;
      me = (s.2 ∙ ap (λ (m : Me Stamp Hand). (hand [] m.0.seats [] m.0.slips, m.1)) (ap (λ (t : Token Stamp Hand). t.me) c.look.ensures.same ∙ both) ∙ sym c.requires.seat) i;
    }

pub returns-clause-shows : goal.returns-clause-shows
returns-clause-shows c =
    let both = together_seat _ _ _ _ _ _ _ _ c.requires.book c.requires.seat c.split_seat-lent.ensures.4 c.join_seat.ensures.2 in
    subst (λ (m : Me Stamp Hand). Shows c.args.names.shards c.args.names.seats m.0) both c.look.ensures.shows
