use Rattle.std.proofs.Common.{◌≡◌, ◌-◌, ◌≤◌, List, ℕ, ◌++◌, length, ap, ◌∙◌, arith}
use Rattle.std.specs.Prelude.{Result, Ok, Err, OnOk, OnErr, Option, replicate}
use Rattle.std.proofs.lemmas.List.{length-append, length-replicate}
use Rattle.lru_list.specs.Linked.{Linked}
use Rattle.lru_pairs.specs.Representation.Nodes.{IsHeld}
use Rattle.lru_pairs.proofs.Seen.{laid_well, room_is}
use Rattle.lru_pairs.proofs.nodes.Nodes.lengthen.Goals as goal

longer : {K V A E : Type 0} (weights weights' : List ℕ) (len : ℕ) (list : Linked (Option (K × V))) → IsHeld weights list → length weights ≤ len → len ≤ 4294967295 → (r : Result A E) → OnOk r (weights' ≡ weights ++ replicate (len - length weights) 0) → OnErr r (weights' ≡ weights) → IsHeld weights' list
longer weights weights' len list is short few (Ok a) made refused =
    let long = ap length made ∙ length-append weights (replicate (len - length weights) 0) in
    record {
      numbered = is.numbered;
      held = is.held;
      wide = omega (arith, is.wide, long);
      few = omega (arith, few, short, long, length-replicate {A = ℕ} (len - length weights) 0);
    }
longer weights weights' len list is short few (Err e) made refused = record {
  numbered = is.numbered;
  held = is.held;
  wide = omega (arith, is.wide, ap length refused);
  few = omega (arith, is.few, ap length refused);
}

pub returns-clause-valid : goal.returns-clause-valid
returns-clause-valid g c =
    laid_well c.fill_up.new.column.items c.self.inside.list
    (longer c.self.inside.weights.items c.fill_up.new.column.items c.args.places c.self.inside.list c.self.invariant
    (omega (arith, c.requires, room_is c.self.inside.weights.items c.self.inside.list c.self.invariant c.args.self.now c.self.view_is)) (omega (arith, c.ranges.places.fits)) c.fill_up.result c.fill_up.ensures.made c.fill_up.ensures.refused)
