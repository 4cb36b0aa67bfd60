use Rattle.std.proofs.Common.{[], ◌∷◌, nat_eq, length, sym, ap, ◌∙◌, subst}
use Rattle.std.specs.HashMap as hash_map
use Rattle.std.specs.Map.{lookup}
use Rattle.lru_shard.specs.Limits.{cap_of}
use Rattle.lru_inbox.specs.Logs.{front, of_fronts}
use Rattle.lru_inbox.specs.Inboxes.{shown}
use Rattle.lru_workers.specs.Accounts.{IsKept}
use Rattle.lru_workers.specs.Seats.{slips_at}
use Rattle.lru_workers.proofs.Accounts.{kept_first}
use Rattle.lru_workers.proofs.logged_shard.LoggedShard.new.Goals as goal

pub invariant_of-result : goal.invariant_of-result
invariant_of-result g c =
    let seen = c.args.seen in
    let nothing = ap (λ m. shown m.0) c.requires.nothing in
    record {
      here = c.requires.here;
      told = c.requires.nothing ∙ ap (λ m. (of_fronts (front c.args.shard (shown m.0) ∷ []), [])) (sym c.requires.nothing);
      counted = ap length (sym nothing);
      kept = subst (λ n. ∥ IsKept (cap_of n) (shown seen.me.0) c.in_ok-with_capacity.field-0 (hash_map.get nat_eq c.in_ok-with_capacity-2.field-0) (slips_at c.args.seat) ∥₁) (sym c.requires.all)
          ∣ kept_first (cap_of c.args.shards) (shown seen.me.0) c.in_ok-with_capacity.field-0 (hash_map.get nat_eq c.in_ok-with_capacity-2.field-0) (slips_at c.args.seat) nothing c.in_ok-with_capacity.ensures
          (λ h. ap (lookup (nat_eq h)) c.in_ok-with_capacity-2.ensures.empty) c.requires.fresh ∣₁;
    }
