use Rattle.std.proofs.Common.{[], ◌∷◌, ◌++◌, List, ℕ, inl, refl, arith, sym, ap, ◌∙◌, subst}
use Rattle.std.specs.Prelude.{slice_set}
use Rattle.atomic_table.specs.Table.{Me}
use Rattle.lru_mailbox.specs.declared.slip.Slip.{Slip}
use Rattle.lru_boxes.specs.declared.hand.DeskHand.{DeskHand}
use Rattle.lru_boxes.specs.Ties.{hand, kept, of_desk, of_seat, known, own, noted, Shows}
use Rattle.lru_boxes.proofs.Moves.{splits, joins, notes, cuts_lend, cuts_parts, together}
use Rattle.lru_boxes.proofs.tie.DeskTie.note_said.Goals as goal

pub split_seat-lent-requires : goal.split_seat-lent-requires
split_seat-lent-requires g c = let o = c.args.self.now.one in (c.requires.ids.1, omega (arith, o), splits _ _ _ _ (cuts_lend _))

pub join_seat-requires : goal.join_seat-requires
join_seat-requires g c = let o = c.args.self.now.one in let l = c.split_seat-lent.ensures in (c.requires.ids.0, l.3 ∙ c.requires.ids.1, ap (λ (m : Me (Unit {0}) DeskHand). m.1) l.4, omega (arith, o), joins _ _ _ _)

pub load-requires : goal.load-requires
load-requires g c =
    let o = c.args.self.now.one in
    let both = together _ _ _ _ _ _ _ c.requires.desk c.requires.seat c.split_seat-lent.ensures.4 c.join_seat.ensures.2 in
    (c.join_seat.ensures.0 ∙ c.requires.ids.0, omega (arith, o), notes _ _ _ 0 0 _ _ _ _ both)

pub split_seat-requires : goal.split_seat-requires
split_seat-requires g c = let o = c.args.self.now.one in (c.load.ensures.0 ∙ c.join_seat.ensures.0 ∙ c.requires.ids.0, omega (arith, o), splits _ _ _ _ (cuts_parts _))

pub returns-clause-known : goal.returns-clause-known
returns-clause-known g c =
    let both = together _ _ _ _ _ _ _ c.requires.desk c.requires.seat c.split_seat-lent.ensures.4 c.join_seat.ensures.2 in
    (subst (λ (m : Me (Unit {0}) DeskHand). Shows m.0) both c.load.ensures.2.1).agree (known c.args.desk.now.me.0) (kept c.args.number (own c.args.seat.now.me.0)) (inl refl) (inl refl)

pub returns-clause-desk : goal.returns-clause-desk
returns-clause-desk g c =
    let both = together _ _ _ _ _ _ _ c.requires.desk c.requires.seat c.split_seat-lent.ensures.4 c.join_seat.ensures.2 in
    c.split_seat.ensures.2 ∙ ap (λ (m : Me (Unit {0}) DeskHand). (hand m.0.desks [], m.1)) (c.load.ensures.2.0 ∙ ap (λ (m : Me (Unit {0}) DeskHand). (noted g.S.Saying.said m.0, m.1)) both)
    ∙ ap (λ (x : Slip). (of_desk (slice_set (known c.args.desk.now.me.0) c.args.number (own c.args.seat.now.me.0 ++ x ∷ [])), [])) c.requires.said

pub returns-clause-seat : goal.returns-clause-seat
returns-clause-seat g c =
    let both = together _ _ _ _ _ _ _ c.requires.desk c.requires.seat c.split_seat-lent.ensures.4 c.join_seat.ensures.2 in
    c.split_seat.ensures.4 ∙ ap (λ (m : Me (Unit {0}) DeskHand). (hand [] m.0.seats, [])) (c.load.ensures.2.0 ∙ ap (λ (m : Me (Unit {0}) DeskHand). (noted g.S.Saying.said m.0, m.1)) both)
    ∙ ap (λ (x : Slip). (of_seat c.args.number (own c.args.seat.now.me.0 ++ x ∷ []), [])) c.requires.said
