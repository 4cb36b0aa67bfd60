use Rattle.std.proofs.Common.{set, subst, sym, ap, ◌<◌, ◌∙◌, refl, arith, Some, length}
use Rattle.lru_list.specs.Insertions.{inserted}
use Rattle.lru_rows.specs.Rows.{LacksPlace, recency}
use Rattle.lru_rows.proofs.Pushed.{refused_memory}
use Rattle.lru_pairs.specs.Representation.Nodes.{Laid, rows_in}
use Rattle.lru_pairs.proofs.Seen.{place_in, place_fits, no_row, short, full, laid_well, laid_as, refused_full, same_pair}
use Rattle.lru_pairs.proofs.Inserted.{index_there, held_inserted, view_inserted}
use Rattle.lru_pairs.proofs.nodes.Nodes.push_before.Goals as goal

pub insert_before-requires : goal.insert_before-requires
insert_before-requires g c = index_there c.self.inside.weights.items c.self.inside.list c.self.invariant c.args.self.now c.self.view_is c.args.before c.requires.before c.index_of-next.result c.index_of-next.ensures

pub index_mut-requires : goal.index_mut-requires
index_mut-requires g c = subst (λ n. c.in-Ok.at < n) (sym c.self.inside.weights.ok.0) (place_in c.self.inside.weights.items c.self.inside.list c.self.invariant c.args.self.now c.self.view_is c.requires.room c.in-Ok.at c.in-Ok.ensures.pushes.1)

pub overflow_cast-result : goal.overflow_cast-result
overflow_cast-result g c = omega (arith, place_fits c.self.inside.weights.items c.self.inside.list c.self.invariant c.args.self.now c.self.view_is c.requires.room c.in-Ok.at c.in-Ok.ensures.pushes.1)

pub invariant_of-self : goal.invariant_of-self
invariant_of-self g c = held_inserted c.self.inside.weights.items c.self.inside.list c.self.invariant c.args.self.now c.self.view_is c.requires.room c.in-Ok.at c.in-Ok.ensures.pushes.1 c.args.before c.index_of-next.result c.index_of-next.ensures c.args.key c.args.value c.insert_before.new.self c.in-Ok.ensures.pushes.2 c.in-Ok.ensures.numbered c.args.weight (set c.self.inside.weights.items c.in-Ok.at c.args.weight) refl

pub returns-in-Ok-clause-pushes : goal.returns-in-Ok-clause-pushes
returns-in-Ok-clause-pushes g c = (
  short c.self.inside.weights.items c.self.inside.list c.self.invariant c.args.self.now c.self.view_is c.requires.room c.in-Ok.ensures.pushes.0,
  no_row c.self.inside.weights.items c.self.inside.list c.self.invariant c.args.self.now c.self.view_is c.requires.room c.in-Ok.at c.in-Ok.ensures.pushes.1,
  ap (λ (x : Laid g.row.K.Denot g.row.V.Denot). x.held) (view_inserted c.self.inside.weights.items c.self.inside.list c.self.invariant c.args.self.now c.self.view_is c.requires.room c.in-Ok.at c.in-Ok.ensures.pushes.1 c.args.before c.index_of-next.result c.index_of-next.ensures c.args.key c.args.value c.insert_before.new.self c.in-Ok.ensures.pushes.2 c.in-Ok.ensures.numbered c.args.weight (set c.self.inside.weights.items c.in-Ok.at c.args.weight) refl),
)

pub returns-in-Ok-clause-valid : goal.returns-in-Ok-clause-valid
returns-in-Ok-clause-valid g c = laid_well (set c.self.inside.weights.items c.in-Ok.at c.args.weight) c.insert_before.new.self (held_inserted c.self.inside.weights.items c.self.inside.list c.self.invariant c.args.self.now c.self.view_is c.requires.room c.in-Ok.at c.in-Ok.ensures.pushes.1 c.args.before c.index_of-next.result c.index_of-next.ensures c.args.key c.args.value c.insert_before.new.self c.in-Ok.ensures.pushes.2 c.in-Ok.ensures.numbered c.args.weight (set c.self.inside.weights.items c.in-Ok.at c.args.weight) refl)

pub returns-in-Err-Memory-clause-valid : goal.returns-in-Err-Memory-clause-valid
returns-in-Err-Memory-clause-valid g c = laid_as c.self.inside.weights.items c.self.inside.list c.self.invariant c.insert_before.new.self (refused_memory c.self.inside.list (inserted c.self.inside.list c.index_of-next.result (Some (c.args.key, c.args.value))) (Some (c.args.key, c.args.value)) c.in-Err-Memory.field-0 c.in-Err-Memory.node c.insert_before.new.self c.in-Err-Memory.field-0-is c.in-Err-Memory.ensures.pushes).2

pub returns-in-Err-Full-clause-pushes : goal.returns-in-Err-Full-clause-pushes
returns-in-Err-Full-clause-pushes g c =
    let m = refused_full c.self.inside.list (inserted c.self.inside.list c.index_of-next.result (Some (c.args.key, c.args.value))) (Some (c.args.key, c.args.value)) c.in-Err-Full.field-0 c.in-Err-Full.node c.insert_before.new.self c.in-Err-Full.field-0-is c.in-Err-Full.ensures.pushes in
    let pair = same_pair c.unpushed-in-Err-Full.result.key c.args.key c.unpushed-in-Err-Full.result.value c.args.value c.in-Err-Full.node c.unpushed-in-Err-Full.ensures.pair m.1 in (
      subst (LacksPlace c.args.self.now.held) (sym c.unpushed-in-Err-Full.ensures.cause) (full c.self.inside.weights.items c.self.inside.list c.self.invariant c.args.self.now c.self.view_is c.requires.room m.0),
      pair.0,
      pair.1,
      ap (λ l. recency (rows_in c.self.inside.weights.items l.live) (length l.freed)) m.2 ∙ ap (λ (x : Laid g.row.K.Denot g.row.V.Denot). x.held) c.self.view_is,
    )

pub returns-in-Err-Full-clause-valid : goal.returns-in-Err-Full-clause-valid
returns-in-Err-Full-clause-valid g c = laid_as c.self.inside.weights.items c.self.inside.list c.self.invariant c.insert_before.new.self (refused_full c.self.inside.list (inserted c.self.inside.list c.index_of-next.result (Some (c.args.key, c.args.value))) (Some (c.args.key, c.args.value)) c.in-Err-Full.field-0 c.in-Err-Full.node c.insert_before.new.self c.in-Err-Full.field-0-is c.in-Err-Full.ensures.pushes).2
