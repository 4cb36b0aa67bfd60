-- What an effect has to tell, so that a message is done.
use Rattle.std.proofs.Common.{◌≡◌, ℕ, ◌+◌, ◌%◌, ◌^◌, Bool, true, length, None, sym, ap, ◌∙◌, subst}
use Rattle.std.specs.Prelude.{Option}
use Rattle.lru_shard.specs.Row.{weight_of}
use Rattle.lru_shard.specs.Shard.{Shard, shard}
use Rattle.lru_actors.specs.declared.message.LruMsg.{LruMsg}
use Rattle.lru_actors.specs.declared.effect.Effect.{Effect}
use Rattle.lru_actors.specs.declared.effect.Reply.{Reply}
use Rattle.lru_actors.specs.Messages.{State, state_of, consumed, put_of, cleared_of, evicted_of, looks, refusal_of, MayBeRefused, IsRefused, Replies, IsDone, quiet, measure}

module _ {K : Type 0} (IsClone : K → K → Type 0) where
  -- what a message left, and the sizes that were told
  pub record IsTold (old : State K) (msg : LruMsg K) (base : Effect K) (new : State K) : Type 0 where
    pub allowed : refusal_of old.shard msg ≡ None
    pub left : new ≡ state_of (shard (consumed old.shard.rows msg) old.shard.cap) old.refused
    pub base_is : base ≡ quiet (measure old.shard.rows) (measure new.shard.rows) (looks msg)

  pub done : (old : State K) (msg : LruMsg K) (base : Effect K) (new : State K) (put : Option (ℕ × ℕ)) (cleared : Option ℕ) (evicted : Option (K × ℕ)) (reply : Option (Reply K))
      → IsTold old msg base new → put ≡ put_of old.shard.rows msg → cleared ≡ cleared_of old.shard.rows msg → evicted ≡ evicted_of old.shard.rows msg → Replies IsClone old.shard.rows msg reply
      → IsDone IsClone old msg (record base { put = put; cleared = cleared; evicted = evicted; reply = reply }) new
  done old msg base new put cleared evicted reply t p c e r = record {
    allowed = t.allowed;
    left = t.left;
    refused = ap (λ (z : Effect K). z.refused) t.base_is;
    put = p;
    cleared = c;
    evicted = e;
    reply = r;
    look = ap (λ (z : Effect K). z.look) t.base_is;
    measured = record {
      weight_before = ap (λ (z : Effect K). z.weight_before) t.base_is;
      len_before = ap (λ (z : Effect K). z.len_before) t.base_is;
      weight_after = ap (λ (z : Effect K). z.weight_after) t.base_is;
      len_after = ap (λ (z : Effect K). z.len_after) t.base_is;
    };
  }

  -- nothing but sizes is told
  pub done_quiet : (old : State K) (msg : LruMsg K) (base : Effect K) (new : State K) → IsTold old msg base new
      → None ≡ put_of old.shard.rows msg → None ≡ cleared_of old.shard.rows msg → None ≡ evicted_of old.shard.rows msg → Replies IsClone old.shard.rows msg None → IsDone IsClone old msg base new
  done_quiet old msg base new t p c e r =
      let q = t.base_is in
      done old msg base new base.put base.cleared base.evicted base.reply t (ap (λ (z : Effect K). z.put) q ∙ p) (ap (λ (z : Effect K). z.cleared) q ∙ c) (ap (λ (z : Effect K). z.evicted) q ∙ e)
      (subst (λ o. Replies IsClone old.shard.rows msg o) (sym (ap (λ (z : Effect K). z.reply) q)) r)

  -- the map changes
  pub done_put : (old : State K) (msg : LruMsg K) (base : Effect K) (new : State K) (put : Option (ℕ × ℕ)) → IsTold old msg base new
      → put ≡ put_of old.shard.rows msg → None ≡ cleared_of old.shard.rows msg → None ≡ evicted_of old.shard.rows msg → Replies IsClone old.shard.rows msg None
      → IsDone IsClone old msg (record base { put = put }) new
  done_put old msg base new put t p c e r =
      let q = t.base_is in
      done old msg base new put base.cleared base.evicted base.reply t p (ap (λ (z : Effect K). z.cleared) q ∙ c) (ap (λ (z : Effect K). z.evicted) q ∙ e)
      (subst (λ o. Replies IsClone old.shard.rows msg o) (sym (ap (λ (z : Effect K). z.reply) q)) r)

  pub done_cleared : (old : State K) (msg : LruMsg K) (base : Effect K) (new : State K) (cleared : Option ℕ) → IsTold old msg base new
      → None ≡ put_of old.shard.rows msg → cleared ≡ cleared_of old.shard.rows msg → None ≡ evicted_of old.shard.rows msg → Replies IsClone old.shard.rows msg None
      → IsDone IsClone old msg (record base { cleared = cleared }) new
  done_cleared old msg base new cleared t p c e r =
      let q = t.base_is in
      done old msg base new base.put cleared base.evicted base.reply t (ap (λ (z : Effect K). z.put) q ∙ p) c (ap (λ (z : Effect K). z.evicted) q ∙ e)
      (subst (λ o. Replies IsClone old.shard.rows msg o) (sym (ap (λ (z : Effect K). z.reply) q)) r)

  pub done_evicted : (old : State K) (msg : LruMsg K) (base : Effect K) (new : State K) (cleared : Option ℕ) (evicted : Option (K × ℕ)) → IsTold old msg base new
      → None ≡ put_of old.shard.rows msg → cleared ≡ cleared_of old.shard.rows msg → evicted ≡ evicted_of old.shard.rows msg → Replies IsClone old.shard.rows msg None
      → IsDone IsClone old msg (record base { cleared = cleared; evicted = evicted }) new
  done_evicted old msg base new cleared evicted t p c e r =
      let q = t.base_is in
      done old msg base new base.put cleared evicted base.reply t (ap (λ (z : Effect K). z.put) q ∙ p) c e
      (subst (λ o. Replies IsClone old.shard.rows msg o) (sym (ap (λ (z : Effect K). z.reply) q)) r)

  pub done_reply : (old : State K) (msg : LruMsg K) (base : Effect K) (new : State K) (reply : Option (Reply K)) → IsTold old msg base new
      → None ≡ put_of old.shard.rows msg → None ≡ cleared_of old.shard.rows msg → None ≡ evicted_of old.shard.rows msg → Replies IsClone old.shard.rows msg reply
      → IsDone IsClone old msg (record base { reply = reply }) new
  done_reply old msg base new reply t p c e r =
      let q = t.base_is in
      done old msg base new base.put base.cleared base.evicted reply t (ap (λ (z : Effect K). z.put) q ∙ p) (ap (λ (z : Effect K). z.cleared) q ∙ c) (ap (λ (z : Effect K). z.evicted) q ∙ e) r

module _ {K : Type 0} where
  -- a refused message
  pub declined : (old : State K) (msg : LruMsg K) (e : Effect K) (new : State K) (look : Bool) → new ≡ state_of old.shard ((old.refused + 1) % 2 ^ 64)
      → e ≡ record (quiet (measure old.shard.rows) (measure old.shard.rows) look) { refused = true } → look ≡ looks msg → IsRefused old msg e new
  declined old msg e new look left q l =
      let same : new.shard ≡ old.shard = ap (λ (z : State K). z.shard) left in
      record {
        left = left;
        refused = ap (λ (z : Effect K). z.refused) q;
        put = ap (λ (z : Effect K). z.put) q;
        cleared = ap (λ (z : Effect K). z.cleared) q;
        evicted = ap (λ (z : Effect K). z.evicted) q;
        reply = ap (λ (z : Effect K). z.reply) q;
        look = ap (λ (z : Effect K). z.look) q ∙ l;
        measured = record {
          weight_before = ap (λ (z : Effect K). z.weight_before) q;
          len_before = ap (λ (z : Effect K). z.len_before) q;
          weight_after = ap (λ (z : Effect K). z.weight_after) q ∙ ap (λ (z : Shard K). weight_of z.rows) (sym same);
          len_after = ap (λ (z : Effect K). z.len_after) q ∙ ap (λ (z : Shard K). length z.rows) (sym same);
        };
      }

-- the sizes that an effect tells, by what was measured before
pub told : {K : Type 0} (e : Effect K) (b before after : ℕ × ℕ) (look : Bool) → e ≡ quiet b after look → b ≡ before → e ≡ quiet before after look
told e b before after look p q = p ∙ ap (λ m. quiet m after look) q

-- a message that a unit refused, which stays as it was
pub declined_unit : {K : Type 0} (old : State K) (u u' : Shard K) (r : ℕ) → state_of u r ≡ old → u' ≡ u → (msg : LruMsg K) (e : Effect K) (new : State K) (look : Bool)
    → new ≡ state_of u' ((r + 1) % 2 ^ 64) → e ≡ record (quiet (measure u'.rows) (measure u'.rows) look) { refused = true } → look ≡ looks msg
    → MayBeRefused u msg → MayBeRefused old.shard msg × IsRefused old msg e new
declined_unit {K} old u u' r view same msg e new look left q l may = (
  subst (λ (s : State K). MayBeRefused s.shard msg) view may,
  declined old msg e new look
      (left ∙ ap (λ (z : Shard K). state_of z ((r + 1) % 2 ^ 64)) same ∙ ap (λ (s : State K). state_of s.shard ((s.refused + 1) % 2 ^ 64)) view)
      (q ∙ ap (λ (z : Shard K). record (quiet {K = K} (measure z.rows) (measure z.rows) look) { refused = true }) same
      ∙ ap (λ (s : State K). record (quiet {K = K} (measure s.shard.rows) (measure s.shard.rows) look) { refused = true }) view) l,
)
