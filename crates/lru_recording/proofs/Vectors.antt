-- Vectors that were lent as slices.
use Rattle.std.proofs.Common.{◌≡◌, List, length, arith, rules, sym, ap, ◌∙◌}
use native.Mathlib.Nat.{ℕ_set}
use mathlib.Core.HLevel.{is_prop→PathP}
use Rattle.std.specs.Prelude.{Vec}
use Rattle.std.specs.Vec.{with_items}
use Rattle.std.proofs.lemmas.List.{with_items_is, places}

-- a vector given its own items is the same vector
pub same_items : {X Z : Type 0} (v : Vec X Z) (ws : List X) → ws ≡ v.items → with_items v ws ≡ v
same_items v ws same = ap (with_items v) same ∙ itself
  where
    front : (with_items v v.items).items ≡ v.items
    front = with_items_is v v.items (search (rules, places))

    itself : with_items v v.items ≡ v
    itself = λ i. record {
      ptr = v.ptr;
      len = v.len;
      cap = v.cap;
      alloc = v.alloc;
      items = front i;
      ok = (is_prop→PathP (λ j. v.len ≡ length (front j)) (λ j. ℕ_set _ _) (with_items v v.items).ok.0 v.ok.0 i, v.ok.1);
      small = v.small;
    }
