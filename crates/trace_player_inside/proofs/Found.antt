-- What a cache finds that is asked for one object more.
use Rattle.std.proofs.Common.{◌≡◌, ◌+◌, ◌<◌, ◌≤◌, ap, refl, arith, ℕ, List, length, take, get_or}
use Rattle.std.specs.Prelude.{Bool, true, false, if◌then◌else◌}
use Rattle.std.specs.List.{FoldsTo}
use Rattle.std.proofs.lemmas.Fn.{FoldsTo-push}
use Rattle.std.proofs.lemmas.List.{take_more}
use mir.Val.{bool_byte}
use Rattle.trace_player_inside.specs.declared.player.Request.{Request}
use Rattle.trace_player_inside.specs.Policies.{Counts}

byte_is : (b : Bool) → bool_byte b ≡ (if b then 1 else 0)
byte_is true = refl
byte_is false = refl

pub byte_le : (b : Bool) → bool_byte b ≤ 1
byte_le true = omega arith
byte_le false = omega arith

module _ {C : Type 0} (Asks : C → Request → Bool → C → Type 0) where
  -- asked for one more
  pub finds_more : (first c next : C) (qs : List Request) (i n : ℕ) (found : Bool) (none : Request) → i < length qs →
      FoldsTo (Counts Asks) (first, 0) (take i qs) (c, n) → Asks c (get_or qs i none) found next → FoldsTo (Counts Asks) (first, 0) (take (i + 1) qs) (next, n + bool_byte found)
  finds_more first c next qs i n found none within so_far asked =
      rw (take_more qs i none within)
      (FoldsTo-push (Counts Asks) (first, 0) (take i qs) (c, n) (get_or qs i none) (next, n + bool_byte found) so_far (found, (asked, ap (λ m. n + m) (byte_is found))))
