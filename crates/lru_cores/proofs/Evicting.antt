-- Laws of one eviction.
use Rattle.std.proofs.Common.{◌≡◌, ℕ, ◌+◌, ◌%◌, ◌<◌, false, ◌||◌, List, [], length, get_or, Some, None, refl, ap, ◌∙◌, arith}
use Rattle.std.specs.Prelude.{Option}
use Rattle.std.proofs.lemmas.Bool.{le-ltb}
use Rattle.lru_shard.specs.Row.{Row, weight_of}
use Rattle.lru_cores.specs.Core.{Core, core_weight, core_len}
use Rattle.lru_cores.specs.Eviction.{is_over}
use Rattle.lru_shard.specs.Limits.{is_above}
use Rattle.lru_shard.proofs.Circle.{all_empty, empty_sum}

none_above : (n : ℕ) (mark : Option ℕ) → n ≡ 0 → is_above n mark ≡ false
none_above n None z = refl
none_above n (Some w) z = le-ltb w n (omega (arith, z))

module _ {T : Type 0} where
  -- an empty core isn't over
  pub empty_under : (c : Core T) (from : ℕ) → from < length c.lists → ((k : ℕ) → k < length c.lists → get_or c.lists ((from + k) % length c.lists) [] ≡ []) → is_over c ≡ false
  empty_under c from f h =
      let each = all_empty c.lists from f h in
      let w = empty_sum weight_of refl c.lists each in
      let l = empty_sum (λ (rows : List (Row T)). length rows) refl c.lists each in
      ap (λ b. b || is_above (core_len c) c.watermark) (le-ltb c.weight_limit (core_weight c) (omega (arith, w))) ∙ none_above (core_len c) c.watermark l
