use Rattle.std.proofs.Common.{arith, ap}
use Rattle.lru_list.specs.declared.linked_list.Node.{Node}
use Rattle.lru_list.proofs.NodeFields.{written_field, kept_field}
use Rattle.lru_list.proofs.linked_list.replace_item.Goals as goal

pub returns-clause-nexts : goal.returns-clause-nexts
returns-clause-nexts g c =
    kept_field (λ (n : Node g.row.K.Denot). n.next) c.args.nodes.now.items c.args.place _ c.index_mut-node.result.now (omega arith) (ap (λ (n : Node g.row.K.Denot). n.next) c.index_mut-node.ensures.value)

pub returns-clause-prevs : goal.returns-clause-prevs
returns-clause-prevs g c =
    kept_field (λ (n : Node g.row.K.Denot). n.prev) c.args.nodes.now.items c.args.place _ c.index_mut-node.result.now (omega arith) (ap (λ (n : Node g.row.K.Denot). n.prev) c.index_mut-node.ensures.value)

pub returns-clause-items : goal.returns-clause-items
returns-clause-items g c = written_field (λ (n : Node g.row.K.Denot). n.item) c.args.nodes.now.items c.args.place _ c.args.item c.replace.ensures.after
