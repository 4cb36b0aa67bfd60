use Rattle.std.proofs.Common.{◌≡◌, [], ◌∷◌, length, map, List, refl, sym, ap, ◌∙◌, subst}
use Rattle.std.proofs.lemmas.Iterator.Adapters.{YieldsList-from_vec}
use Rattle.std.proofs.lemmas.Iterator.Consumers.{YieldsList-end}
use Rattle.atomic_table.specs.Table.{Me}
use Rattle.lru_mailbox.specs.declared.slip.Slip.{Slip}
use Rattle.lru_boxes.specs.declared.hand.DeskHand.{DeskHand}
use Rattle.lru_boxes.specs.Ties.{kept, hand, known, Shows}
use Rattle.lru_boxes.proofs.Desks.{all_told, map_same}
use Rattle.lru_boxes.proofs.desk.gather_puts.Goals as goal

pub returns-clause-known : goal.returns-clause-known
returns-clause-known g c =
    let lists : List (List Slip) = known c.args.desk.now.me.0 in
    let all : c.loop-seat.yielded ≡ c.args.seats.items = sym (map_same c.loop-seat.yielded) ∙ (YieldsList-end (YieldsList-from_vec c.args.seats.items (cc) (cc)) c.loop-seat.yielded _ c.loop-seat.yielded_by c.next.result c.next.new.self c.in-None.is c.next.ensures.steps).0 in
    let told = c.loop-seat.invariant.told ∙ ap (λ l. (hand (lists ∷ []) (map (λ s. kept s.number s.share.slips) l), [])) all in
    all_told (λ s. s.number) (λ s. s.share.slips) (length lists) lists c.args.seats.items refl c.requires.numbers (subst (λ (m : Me (Unit {0}) DeskHand). Shows m.0) told c.look.ensures.shows)
