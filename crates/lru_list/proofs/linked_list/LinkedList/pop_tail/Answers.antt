use Rattle.std.proofs.Common.{refl, sym, ◌∙◌}
use Rattle.lru_list.proofs.LinkedModels.{tail_live, popped, no_tail}
use Rattle.lru_list.proofs.linked_list.LinkedList.pop_tail.Goals as goal

pub returns-in_err-index : goal.returns-in_err-index
returns-in_err-index g c =
    let none = no_tail c.args.self.now (sym c.tail.ensures.index ∙ c.in_err-index.was) in
    rw c.from_residual.ensures (record { pops = (none, refl); numbered = c.tail.ensures.numbered })

pub remove-requires : goal.remove-requires
remove-requires g c = tail_live c.args.self.now c.in_ok-index.index c.tail.ensures.numbered (sym c.tail.ensures.index ∙ c.in_ok-index.was)

pub returns : goal.returns
returns g c = record {
  pops = popped g.K.Default.is_default c.args.self.now c.in_ok-index.index c.remove.result c.remove.new.self c.tail.ensures.numbered (sym c.tail.ensures.index ∙ c.in_ok-index.was) c.remove.ensures.removes;
  numbered = c.remove.ensures.numbered;
}
