use Rattle.std.proofs.Common.{refl, arith}
use Rattle.lru_list.specs.declared.linked_list.Node.{Node}
use Rattle.lru_list.proofs.NodeFields.{written_field, kept_field}
use Rattle.lru_list.proofs.linked_list.set_prev.Goals as goal

pub returns-clause-nexts : goal.returns-clause-nexts
returns-clause-nexts g c =
    kept_field (λ (n : Node g.row.K.Denot). n.next) c.args.nodes.now c.args.place _ c.index-nodes-place.result (omega arith) refl

pub returns-clause-prevs : goal.returns-clause-prevs
returns-clause-prevs g c = written_field (λ (n : Node g.row.K.Denot). n.prev) c.args.nodes.now c.args.place _ c.args.link refl

pub returns-clause-items : goal.returns-clause-items
returns-clause-items g c =
    kept_field (λ (n : Node g.row.K.Denot). n.item) c.args.nodes.now c.args.place _ c.index-nodes-place.result (omega arith) refl
