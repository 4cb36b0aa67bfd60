-- What a list shows of a place that has a key.
use Rattle.std.proofs.Common.{◌≡◌, ℕ, Some, None, refl, sym, ap, ◌∙◌}
use Rattle.std.specs.Prelude.{Option, is_some, IsSome}
use Rattle.std.proofs.lemmas.Bool.{false≢true}
use Rattle.lru_list.specs.Linked.{Linked, item_of, item_at}
use Rattle.lru_list.proofs.LinkedLaws.{item_of-append}

some_is : {A : Type 0} (o : Option A) → IsSome o → (a : A) × (o ≡ Some a)
some_is None h = absurd (false≢true h)
some_is (Some a) h = (a, refl)

module _ {K : Type 0} (l : Linked K) (i : ℕ) where
  -- a live key stands in a slot, and is what is read there
  pub slot_there : IsSome (item_of l.live i) → IsSome (item_at l i)
  slot_there live =
      let k = some_is (item_of l.live i) live in
      ap is_some (item_of-append l.live l.freed i k.0 k.1)

  pub key_there : (x : K) → IsSome (item_of l.live i) → item_at l i ≡ Some x → item_of l.live i ≡ Some x
  key_there x live seen =
      let k = some_is (item_of l.live i) live in
      k.1 ∙ sym (item_of-append l.live l.freed i k.0 k.1) ∙ seen
