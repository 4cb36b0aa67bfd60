use Rattle.std.proofs.Common.{[], ◌++◌, ℕ, inl, refl, arith, sym, ap, ◌∙◌, subst, take}
use Rattle.atomic_table.specs.Table.{Me}
use Rattle.lru_inbox.specs.declared.hand.LogHand.{LogHand}
use Rattle.lru_inbox.specs.Logs.{hand, front, of_log, of_taker, log_of, taken_by, taken_from, take_at, Shows}
use Rattle.lru_inbox.proofs.Moves.{splits, joins, takes, cuts_lend, cuts_parts, together_taken}
use Rattle.lru_inbox.proofs.tie.LogTie.take_counted.Goals as goal

pub split_seat-lent-requires : goal.split_seat-lent-requires
split_seat-lent-requires g c = let o = c.args.self.now.one in (c.requires.ids.1, omega (arith, o), splits _ _ _ _ (cuts_lend _))

pub join_seat-requires : goal.join_seat-requires
join_seat-requires g c = let o = c.args.self.now.one in let l = c.split_seat-lent.ensures in (c.requires.ids.0, l.3 ∙ c.requires.ids.1, ap (λ (m : Me (Unit {0}) (LogHand g.row.E.Denot)). m.1) l.4, omega (arith, o), joins _ _ _ _)

pub load-requires : goal.load-requires
load-requires g c =
    let o = c.args.self.now.one in
    let both = together_taken _ _ _ _ _ _ _ c.requires.desk c.requires.taker c.split_seat-lent.ensures.4 c.join_seat.ensures.2 in
    (c.join_seat.ensures.0 ∙ c.requires.ids.0, omega (arith, o), takes _ _ _ 0 0 _ _ _ _ _ (sym c.requires.shard) both)

pub split_seat-requires : goal.split_seat-requires
split_seat-requires g c = let o = c.args.self.now.one in (c.load.ensures.0 ∙ c.join_seat.ensures.0 ∙ c.requires.ids.0, omega (arith, o), splits _ _ _ _ (cuts_parts _))

pub returns-clause-known : goal.returns-clause-known
returns-clause-known g c =
    let both = together_taken _ _ _ _ _ _ _ c.requires.desk c.requires.taker c.split_seat-lent.ensures.4 c.join_seat.ensures.2 in
    (subst (λ (m : Me (Unit {0}) (LogHand g.row.E.Denot)). Shows m.0) both c.load.ensures.2.1).taken (log_of c.args.desk.now.me.0) (front c.args.shard (taken_by c.args.taker.now.me.0)) (inl refl) (inl refl) c.requires.shard

pub returns-clause-desk : goal.returns-clause-desk
returns-clause-desk g c =
    let both = together_taken _ _ _ _ _ _ _ c.requires.desk c.requires.taker c.split_seat-lent.ensures.4 c.join_seat.ensures.2 in
    c.split_seat.ensures.2 ∙ ap (λ (m : Me (Unit {0}) (LogHand g.row.E.Denot)). (hand m.0.logs [] m.0.fronts, m.1)) (c.load.ensures.2.0 ∙ ap (λ (m : Me (Unit {0}) (LogHand g.row.E.Denot)). (take_at g.C.Counting.count m.0.logs m.0.takers m.0.fronts, m.1)) both)
    ∙ ap (λ (n : ℕ). (of_log (taken_from (log_of c.args.desk.now.me.0) n), [])) c.requires.count

pub returns-clause-taker : goal.returns-clause-taker
returns-clause-taker g c =
    let both = together_taken _ _ _ _ _ _ _ c.requires.desk c.requires.taker c.split_seat-lent.ensures.4 c.join_seat.ensures.2 in
    c.split_seat.ensures.4 ∙ ap (λ (m : Me (Unit {0}) (LogHand g.row.E.Denot)). (hand [] m.0.takers [], [])) (c.load.ensures.2.0 ∙ ap (λ (m : Me (Unit {0}) (LogHand g.row.E.Denot)). (take_at g.C.Counting.count m.0.logs m.0.takers m.0.fronts, m.1)) both)
    ∙ ap (λ (n : ℕ). (of_taker c.args.shard (taken_by c.args.taker.now.me.0 ++ take n (log_of c.args.desk.now.me.0).left), [])) c.requires.count
