use Rattle.std.proofs.Common.{◌≡◌, ℕ, ◌<◌, [], ◌∷◌, Some, get_or, set, ap, ◌∙◌, arith, subst, below_more}
use Rattle.std.proofs.lemmas.List.{set-get_or}
use Rattle.std.proofs.lemmas.Option.{get_or_from_slice_get}
use Rattle.atomic_table.specs.Table.{Me}
use Rattle.lru_recording.specs.declared.entry.Stamp.{Stamp}
use Rattle.lru_recording.specs.declared.entry.Hand.{Hand}
use Rattle.lru_recording.specs.declared.journal.Seat.{Seat}
use Rattle.lru_recording.specs.Ties.{hand, Shows}
use Rattle.lru_recording.specs.Stamps.{slips_in}
use Rattle.lru_recording.proofs.Lists.{get_below}
use Rattle.lru_recording.proofs.journal.compare_all.Goals as goal

pub loop-seat-preserved : goal.loop-seat-preserved
loop-seat-preserved g c =
    let inv = c.loop-seat.invariant in
    let k = c.loop-seat.seat-index in
    let n = c.args.names in
    let all = c.args.seats.now in
    record {
      same = ap (set c.loop-seat.seats k) c.compare.ensures.same ∙ set-get_or c.loop-seat.seats k c.seat-item.result ∙ inv.same;
      table = c.compare.ensures.book.0 ∙ inv.table;
      book = c.compare.ensures.book.1 ∙ inv.book;
      shows = below_more _ _ inv.shows (λ s e.
          subst (λ (x : Seat g.row.B.Denot g.B.Registry). Shows n.shards n.seats (hand c.args.book.now.me.0.shards (x.number ∷ []) c.args.book.now.me.0.book (slips_in x.number 0 x.receipts.items)))
          (ap (λ l. get_or l k c.seat-item.result) inv.same ∙ get_or_from_slice_get all k s c.seat-item.result e)
          (subst (λ (m : Me Stamp Hand). Shows n.shards n.seats (hand m.0.shards ((get_or c.loop-seat.seats k c.seat-item.result).number ∷ []) m.0.book (slips_in (get_or c.loop-seat.seats k c.seat-item.result).number 0 (get_or c.loop-seat.seats k c.seat-item.result).receipts.items)))
          inv.book
          c.compare.ensures.shows));
    }

pub returns-clause-shows : goal.returns-clause-shows
returns-clause-shows g c i s e =
    let within = get_below c.args.seats.now i s e in
    c.loop-seat.invariant.shows i (omega (arith, within)) s e
