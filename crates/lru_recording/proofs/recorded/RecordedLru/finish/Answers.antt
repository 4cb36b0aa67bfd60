use Rattle.std.proofs.Common.{◌≡◌, [], sym, ap, ◌∙◌, subst}
use Rattle.atomic_table.specs.declared.shared.Seat.{Seat as Token}
use Rattle.lru_recording.specs.declared.entry.Stamp.{Stamp}
use Rattle.lru_recording.specs.declared.entry.Hand.{Hand}
use Rattle.lru_recording.specs.Histories.{lists_of}
use Rattle.lru_recording.proofs.Records.{legal_all}
use Rattle.lru_recording.proofs.Gathering.{tied_by}
use Rattle.lru_recording.proofs.Vectors.{same_items}
use Rattle.lru_recording.proofs.recorded.RecordedLru.finish.Goals as goal

pub returns-clause-legal : goal.returns-clause-legal
returns-clause-legal g c = let all = c.fill-units.result in legal_all g.row.N (lists_of all.histories.items) all.right all.homes

pub returns-clause-tied : goal.returns-clause-tied
returns-clause-tied g c =
    let s = c.args.self in
    let all = c.fill-units.result in
    tied_by (λ s. s.number) (λ s. s.receipts.items) g.row.N g.B.Registry.seats c.args.self.names.shards c.args.self.names.seats c.fill-units.new.book.me c.look.new.token.me (lists_of all.histories.items) c.args.seats.items c.as_mut_slice.result.now
    s.names_are s.seats_are (ap (λ (k : Token Stamp Hand). k.me) c.look.ensures.same) c.as_mut_slice.ensures.value c.requires
    c.compare_all.ensures.shows c.look.ensures.shows c.fill-units.ensures.book.1 c.fill-units.ensures.is_book all.rising

pub returns-clause-seats : goal.returns-clause-seats
returns-clause-seats g c = same_items c.args.seats c.compare_all.new.seats (c.compare_all.ensures.same ∙ c.as_mut_slice.ensures.value)
