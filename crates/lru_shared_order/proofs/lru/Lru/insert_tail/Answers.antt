use Rattle.lru_shared_order.proofs.lru.Lru.insert_tail.Goals as goal

pub returns-clause-row : goal.returns-clause-row
returns-clause-row g c =
    let locked = c.deref_mut.result.now in
    (locked.unit, (c.insert_tail-answer.new.self.unit, (locked.capped, c.insert_tail-answer.ensures)))
