use Rattle.lru_list.specs.Linked.{item_at}
use Rattle.lru_list.proofs.LinkedLaws.{place_from_peek}
use Rattle.lru_rows_tests.proofs.Peeks.{found}
use Rattle.lru_rows_tests.proofs.linked_list_tests.neighbours.Goals as goal

pub prev_index-requires : goal.prev_index-requires
prev_index-requires g c =
    place_from_peek c.args.list.now c.len-len.ensures.numbered c.args.index (found c.peek.result (item_at c.args.list.now c.args.index) c.peek.ensures c.if-is_none.ensures)

pub next_index-requires : goal.next_index-requires
next_index-requires g c =
    place_from_peek c.args.list.now c.len-len.ensures.numbered c.args.index (found c.peek.result (item_at c.args.list.now c.args.index) c.peek.ensures c.if-is_none.ensures)
