use Rattle.std.proofs.Common.{[], ◌∷◌, ◌++◌, List, arith, ap, ◌∙◌, subst, map}
use Rattle.atomic_table.specs.Table.{Me}
use Rattle.lru_inbox.specs.declared.hand.LogHand.{LogHand}
use Rattle.lru_inbox.specs.Logs.{hand, front, front_of, accepted, of_log, of_fronts, log_of, put_in, put_at, Shows}
use Rattle.lru_inbox.proofs.Moves.{splits, joins, puts, cuts_lend, cuts_seen, together_seen, put_whole}
use Rattle.lru_inbox.proofs.tie.LogTie.send_said.Goals as goal

pub split_seat-lent-requires : goal.split_seat-lent-requires
split_seat-lent-requires g c = let o = c.args.self.now.one in (c.requires.ids.1, omega (arith, o), splits _ _ _ _ (cuts_lend _))

pub join_seat-requires : goal.join_seat-requires
join_seat-requires g c = let o = c.args.self.now.one in let l = c.split_seat-lent.ensures in (c.requires.ids.0, l.3 ∙ c.requires.ids.1, ap (λ (m : Me (Unit {0}) (LogHand g.row.E.Denot)). m.1) l.4, omega (arith, o), joins _ _ _ _)

pub load-requires : goal.load-requires
load-requires g c =
    let o = c.args.self.now.one in
    let both = together_seen _ _ _ _ _ _ c.requires.desk c.requires.caller c.split_seat-lent.ensures.4 c.join_seat.ensures.2 in
    (c.join_seat.ensures.0 ∙ c.requires.ids.0, omega (arith, o), puts _ _ _ 0 0 _ _ _ _ _ both)

pub split_seat-requires : goal.split_seat-requires
split_seat-requires g c = let o = c.args.self.now.one in (c.load.ensures.0 ∙ c.join_seat.ensures.0 ∙ c.requires.ids.0, omega (arith, o), splits _ _ _ _ (cuts_seen _))

pub returns-clause-desk : goal.returns-clause-desk
returns-clause-desk g c =
    let both = together_seen _ _ _ _ _ _ c.requires.desk c.requires.caller c.split_seat-lent.ensures.4 c.join_seat.ensures.2 in
    c.split_seat.ensures.2 ∙ ap (λ (m : Me (Unit {0}) (LogHand g.row.E.Denot)). (hand m.0.logs m.0.takers [], m.1)) (c.load.ensures.2.0 ∙ ap (λ (m : Me (Unit {0}) (LogHand g.row.E.Denot)). (put_at g.S.Saying.said m.0.logs m.0.takers m.0.fronts, m.1)) both)
    ∙ ap (λ (x : List g.row.E.Denot). (of_log (put_in (log_of c.args.desk.now.me.0) x), [])) c.requires.said

pub returns-clause-caller : goal.returns-clause-caller
returns-clause-caller g c =
    let both = together_seen _ _ _ _ _ _ c.requires.desk c.requires.caller c.split_seat-lent.ensures.4 c.join_seat.ensures.2 in
    let l = log_of c.args.desk.now.me.0 in
    let fs = c.args.caller.now.me.0.fronts in
    c.split_seat.ensures.4 ∙ ap (λ (m : Me (Unit {0}) (LogHand g.row.E.Denot)). (hand [] [] (map front_of m.0.logs ++ m.0.fronts), [])) (c.load.ensures.2.0 ∙ ap (λ (m : Me (Unit {0}) (LogHand g.row.E.Denot)). (put_at g.S.Saying.said m.0.logs m.0.takers m.0.fronts, m.1)) both)
    ∙ ap (λ (x : List g.row.E.Denot). (of_fronts (front l.shard (accepted (put_in l x)) ∷ fs), [])) c.requires.said
    ∙ ap (λ (x : List g.row.E.Denot). (of_fronts (front l.shard x ∷ fs), [])) (put_whole l _)

pub returns-clause-shows : goal.returns-clause-shows
returns-clause-shows g c =
    let both = together_seen _ _ _ _ _ _ c.requires.desk c.requires.caller c.split_seat-lent.ensures.4 c.join_seat.ensures.2 in
    subst (λ (m : Me (Unit {0}) (LogHand g.row.E.Denot)). Shows m.0) both c.load.ensures.2.1
