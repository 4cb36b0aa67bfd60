use Rattle.std.proofs.Common.{ap, ◌∙◌, None, length}
use Rattle.lru_list.specs.Linked.{pushed_head}
use Rattle.lru_rows.specs.Rows.{recency}
use Rattle.lru_rows.proofs.Pushed.{refused_memory}
use Rattle.lru_pairs.specs.Representation.Nodes.{Laid, rows_in}
use Rattle.lru_pairs.proofs.Seen.{short, full, held_back, view_back, laid_well, laid_as, refused_full}
use Rattle.lru_pairs.proofs.nodes.Nodes.make_free.Goals as goal

pub returns-in-Err-Memory-clause-valid : goal.returns-in-Err-Memory-clause-valid
returns-in-Err-Memory-clause-valid g c = laid_as c.self.inside.weights.items c.self.inside.list c.self.invariant c.push_head.new.self (refused_memory c.self.inside.list (pushed_head c.self.inside.list None) None c.in-Err-Memory.field-0 c.in-Err-Memory.field-0-0 c.push_head.new.self c.in-Err-Memory.field-0-is c.in-Err-Memory.ensures.pushes).2

pub returns-in-Err-Full-clause-makes : goal.returns-in-Err-Full-clause-makes
returns-in-Err-Full-clause-makes g c =
    let m = refused_full c.self.inside.list (pushed_head c.self.inside.list None) None c.in-Err-Full.field-0 c.in-Err-Full.field-0-0 c.push_head.new.self c.in-Err-Full.field-0-is c.in-Err-Full.ensures.pushes in
    (full c.self.inside.weights.items c.self.inside.list c.self.invariant c.args.self.now c.self.view_is c.requires m.0, ap (λ l. recency (rows_in c.self.inside.weights.items l.live) (length l.freed)) m.2 ∙ ap (λ (x : Laid g.row.K.Denot g.row.V.Denot). x.held) c.self.view_is)

pub returns-in-Err-Full-clause-valid : goal.returns-in-Err-Full-clause-valid
returns-in-Err-Full-clause-valid g c = laid_as c.self.inside.weights.items c.self.inside.list c.self.invariant c.push_head.new.self (refused_full c.self.inside.list (pushed_head c.self.inside.list None) None c.in-Err-Full.field-0 c.in-Err-Full.field-0-0 c.push_head.new.self c.in-Err-Full.field-0-is c.in-Err-Full.ensures.pushes).2

pub invariant_of-self-2 : goal.invariant_of-self-2
invariant_of-self-2 g c = held_back c.self.inside.weights.items c.self.inside.list c.self.invariant c.args.self.now c.self.view_is c.requires c.in-Ok.place c.in-Ok.ensures.pushes.1 c.push_head.new.self c.in-Ok.ensures.pushes.2 _ c.remove.result c.remove.new.self c.remove.ensures.removes c.remove.ensures.numbered

pub returns-clause-makes : goal.returns-clause-makes
returns-clause-makes g c = (short c.self.inside.weights.items c.self.inside.list c.self.invariant c.args.self.now c.self.view_is c.requires c.in-Ok.ensures.pushes.0, view_back c.self.inside.weights.items c.self.inside.list c.self.invariant c.args.self.now c.self.view_is c.requires c.in-Ok.place c.in-Ok.ensures.pushes.1 c.push_head.new.self c.in-Ok.ensures.pushes.2 _ c.remove.result c.remove.new.self c.remove.ensures.removes c.remove.ensures.numbered)

pub returns-clause-valid : goal.returns-clause-valid
returns-clause-valid g c = laid_well c.self.inside.weights.items c.remove.new.self (held_back c.self.inside.weights.items c.self.inside.list c.self.invariant c.args.self.now c.self.view_is c.requires c.in-Ok.place c.in-Ok.ensures.pushes.1 c.push_head.new.self c.in-Ok.ensures.pushes.2 _ c.remove.result c.remove.new.self c.remove.ensures.removes c.remove.ensures.numbered)
