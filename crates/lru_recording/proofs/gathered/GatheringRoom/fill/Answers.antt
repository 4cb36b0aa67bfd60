use Rattle.std.proofs.Common.{◌≡◌, ◌∙◌, map, length, Some, List, sym, ap, rules, lit<}
use Rattle.std.specs.Prelude.{option_map}
use Rattle.lru_recording.specs.declared.entry.Entry.{Entry}
use Rattle.lru_recording.specs.Histories.{lists_of}
use Rattle.lru_recording.proofs.Gathering.{starts, is_book, map_twice}
use Rattle.lru_recording.proofs.gathered.GatheringRoom.fill.Goals as goal

pub gather-requires : goal.gather-requires
gather-requires g c =
    let s = c.args.self in
    let len : length s.slots.items ≡ g.row.N = search rules in
    (lit< tt, (lit< tt, (c.requires.tie, (c.requires.names, (c.requires.book.0, (starts (λ k. k.number) (λ k. k.history.items) g.row.N s.slots.items c.args.book.now.me len s.empty c.requires.book.1, s.empty ∙ sym c.requires.shards))))))

pub returns-clause-is_book : goal.returns-clause-is_book
returns-clause-is_book g c =
    is_book (λ k. k.number) (λ k. k.history.items) g.row.N c.gather.new.slots.items c.gather.new.book.me (lists_of c.in_order.result.histories.items) c.gather.ensures.more c.gather.ensures.count
    (map_twice (λ v. v.items) (λ (h : List Entry). Some h) c.in_order.result.histories.items ∙ c.in_order.ensures.histories)
