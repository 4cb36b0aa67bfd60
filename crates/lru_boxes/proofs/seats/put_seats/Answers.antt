use Rattle.std.proofs.Common.{◌≡◌, ◌+◌, ◌-◌, [], ◌∷◌, ◌++◌, List, ℕ, take, drop, map, rules, sym, ap, ◌∙◌, refl, arith, subst}
use Rattle.std.specs.Prelude.{All}
use Rattle.std.proofs.lemmas.List.Elements.{All-push}
use Rattle.atomic_table.specs.Table.{Me}
use Rattle.lru_boxes.specs.declared.hand.SeatSlips.{SeatSlips}
use Rattle.lru_boxes.specs.declared.hand.DeskHand.{DeskHand}
use Rattle.lru_short_locks.specs.Hands.{up}
use Rattle.lru_boxes.specs.Ties.{hand, kept, blank_seats}
use Rattle.lru_short_locks.proofs.Hands.{up_snoc, map_snoc}
use Rattle.lru_boxes.proofs.Dealing.{seats_rest}
use Rattle.lru_boxes.proofs.seats.put_seats.Goals as goal

pub new-requires : goal.new-requires
new-requires g c =
    let i = c.loop-number.invariant in
    let seats : c.loop-number.rest.me.0.seats ≡ kept c.loop-number.number [] ∷ blank_seats (c.loop-number.number + 1) (c.args.count - (c.loop-number.number + 1)) = ap (λ (m : Me (Unit {0}) DeskHand). m.0.seats) i.1.1 ∙ seats_rest _ _ (search rules) in
    (c.next_seat-token.ensures.ids.1 ∙ i.0, c.next_seat-token.ensures.one ∙ ap (λ (l : List SeatSlips). (hand [] (take 1 l), [])) seats)

pub loop-number-preserved : goal.loop-number-preserved
loop-number-preserved g c =
    let i = c.loop-number.invariant in
    let seats : c.loop-number.rest.me.0.seats ≡ kept c.loop-number.number [] ∷ blank_seats (c.loop-number.number + 1) (c.args.count - (c.loop-number.number + 1)) = ap (λ (m : Me (Unit {0}) DeskHand). m.0.seats) i.1.1 ∙ seats_rest _ _ (search rules) in
    let nums : c.new.result.number ≡ 0 + c.loop-number.number = let e = c.new.ensures.number in omega (arith, e) in
    let fresh = subst (All (λ s. s.share.slips ≡ [])) (sym c.in_ok-push.ensures.items) (All-push (λ s. s.share.slips ≡ []) c.loop-number.seats.items c.new.result i.1.0.1 c.new.ensures.slips) in
    (c.next_seat-token.ensures.ids.0 ∙ i.0, ((ap (map (λ s. s.number)) c.in_ok-push.ensures.items ∙ map_snoc (λ s. s.number) _ _ ∙ (λ k. i.1.0.0 k ++ nums k ∷ []) ∙ sym (up_snoc 0 c.loop-number.number), fresh), c.next_seat-token.ensures.rest ∙ (λ k. (hand (i.1.1 k).0.desks (drop 1 (seats k)), []))))
