use Rattle.std.proofs.Common.{◌≡◌, ℕ, length, ◌&&◌, ap, ◌∙◌, arith}
use Rattle.std.specs.Ordering.{nat_cmp, is_le, is_lt}
use Rattle.lru_list.proofs.LinkedWrites.{slot_tells}
use Rattle.lru_list.proofs.linked_list.LinkedList.has_slot.Goals as goal

pub returns : goal.returns
returns g c =
    let count : c.len.result ≡ length c.self.inside.nodes.items = omega (arith, c.len.ensures) in
    rw (← c.self.view_is) (c.contains.ensures.value ∙ ap (λ (n : ℕ). is_le (nat_cmp 2 c.args.index) && is_lt (nat_cmp c.args.index n)) count
    ∙ slot_tells c.self.inside.nodes.items c.self.inside.last_freed c.self.inside.len c.self.invariant c.args.index)
