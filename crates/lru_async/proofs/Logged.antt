-- What was seen of one shard and of the others.
use Rattle.std.proofs.Common.{◌≡◌, ◌≢◌, ℕ, ◌==◌, Bool, true, false, cond, List, [], ◌∷◌, ◌++◌, append-nil, append_assoc, refl, sym, ap, ◌∙◌, subst}
use Rattle.std.proofs.lemmas.Bool.{ne_eqb}
use Rattle.std.proofs.Math.Logic.{∥∥₁_map}
use native.Mathlib.Decide.{ℕ_discrete}
use Rattle.std.proofs.Common.{Some, None}
use Rattle.std.specs.Prelude.{Option, IfOk}
use Rattle.std.specs.Option.{ForSome}
use Rattle.lru_short_locks.proofs.Hands.{some_same}
use Rattle.lru_actors.specs.declared.effect.Reply.{Reply}
use Rattle.lru_actors.specs.declared.effect.Reply.TheVariants as reply
use Rattle.lru_actors.specs.declared.message.LruMsg.{LruMsg}
use Rattle.lru_inbox.specs.declared.hand.Front.{Front}
use Rattle.lru_inbox.specs.Logs.{Begins, front, seen_of}
use Rattle.lru_inbox.specs.Inboxes.{Sends, Learns}
use Rattle.lru_inbox.specs.Replies.{IsReply}
use Rattle.lru_inbox.specs.declared.tie.Archive as archive
use Rattle.lru_inbox.specs.declared.caller.Caller.{Caller}
use Rattle.lru_async.specs.Sends.{answered_by}
use Rattle.lru_async.specs.declared.async_lru.ShardData.{ShardData}
use Rattle.lru_async.specs.Logged.{fronts_of, seen, IsRows, Learned, SeesMore}
use Rattle.lru_inbox.proofs.Lists.{seen_first}

module _ {E : Type 0} where
  begins_self : (xs : List E) → Begins xs xs
  begins_self xs = ([], append-nil xs)

  pub begins_then : (xs ys zs : List E) → Begins xs ys → Begins ys zs → Begins xs zs
  begins_then xs ys zs b d = (b.0 ++ d.0, sym (append_assoc xs b.0 d.0) ∙ ap (λ (ws : List E). ws ++ d.0) b.1 ∙ d.1)

  -- of each log at least as much was seen
  abbrev pub More : List (Front E) → List (Front E) → Type 0
  More old new = (t : ℕ) → Begins (seen_of t old) (seen_of t new)

  pub more_if_same : (old new : List (Front E)) → new ≡ old → More old new
  more_if_same old new e t = subst (λ fs. Begins (seen_of t old) (seen_of t fs)) (sym e) (begins_self (seen_of t old))

  pub more_then : (old mid new : List (Front E)) → More old mid → More mid new → More old new
  more_then old mid new f g t = begins_then (seen_of t old) (seen_of t mid) (seen_of t new) (f t) (g t)

  -- what was seen last of one shard goes on where what was seen of it before ends
  pub more_of_one : (shard : ℕ) (old new : List (Front E)) → Begins (seen_of shard old) (seen_of shard new) → ((t : ℕ) → t ≢ shard → seen_of t new ≡ seen_of t old) → More old new
  more_of_one shard old new here others t = by_shard (ℕ_discrete t shard)
    where
      by_shard : Dec (t ≡ shard) → Begins (seen_of t old) (seen_of t new)
      by_shard (yes e) = subst (λ n. Begins (seen_of n old) (seen_of n new)) (sym e) here
      by_shard (no e) = subst (Begins (seen_of t old)) (sym (others t e)) (begins_self (seen_of t old))

  pub seen_other : (n t : ℕ) (xs : List E) (fs : List (Front E)) → t ≢ n → seen_of t (front n xs ∷ fs) ≡ seen_of t fs
  seen_other n t xs fs apart = ap (λ (b : Bool). cond b xs (seen_of t fs)) (ne_eqb n t (λ e. apart (sym e)))

  -- what is seen behind all that was seen before
  after_others : (n t : ℕ) (xs : List E) (fs : List (Front E)) → t ≢ n → seen_of t (fs ++ front n xs ∷ []) ≡ seen_of t fs
  after_others n t xs [] apart = seen_other n t xs [] apart
  after_others n t xs (f ∷ fs) apart = ap (λ l. cond (f.shard == t) f.seen l) (after_others n t xs fs apart)

  by_bool : (b : Bool) (own xs ys : List E) → Begins xs ys → Begins (cond b own xs) (cond b own ys)
  by_bool true own xs ys h = begins_self own
  by_bool false own xs ys h = h

  after_here : (n : ℕ) (xs : List E) (fs : List (Front E)) → Begins (seen_of n fs) (seen_of n (fs ++ front n xs ∷ []))
  after_here n xs [] = (seen_of n (front n xs ∷ []), refl)
  after_here n xs (f ∷ fs) = by_bool (f.shard == n) f.seen (seen_of n fs) (seen_of n (fs ++ front n xs ∷ [])) (after_here n xs fs)

  pub looked_others : (n : ℕ) (xs : List E) (old new : List (Front E)) → new ≡ old ++ front n xs ∷ [] → (t : ℕ) → t ≢ n → seen_of t new ≡ seen_of t old
  looked_others n xs old new e t apart = ap (seen_of t) e ∙ after_others n t xs old apart

  pub looked_more : (n : ℕ) (xs : List E) (old new : List (Front E)) → new ≡ old ++ front n xs ∷ [] → More old new
  looked_more n xs old new e = more_of_one n old new (subst (λ fs. Begins (seen_of n old) (seen_of n fs)) (sym e) (after_here n xs old)) (looked_others n xs old new e)

module _ {K : Type 0} (shard : ℕ) (message : LruMsg K) (old new : List (Front (LruMsg K))) (s : Sends shard message old new) where
  pub grew_seen : seen_of shard new ≡ s.0 ++ message ∷ []
  grew_seen = ap (seen_of shard) s.2 ∙ seen_first shard (s.0 ++ message ∷ []) old

  pub grew_others : (t : ℕ) → t ≢ shard → seen_of t new ≡ seen_of t old
  grew_others t apart = ap (seen_of t) s.2 ∙ seen_other shard t (s.0 ++ message ∷ []) old apart

  pub sent_more : More old new
  sent_more = more_of_one shard old new
      (subst (Begins (seen_of shard old)) (sym grew_seen) (begins_then (seen_of shard old) s.0 (s.0 ++ message ∷ []) s.1 (message ∷ [], refl)))
      grew_others

module _ {K : Type 0} (IsClone : K → K → Type 0) (cap shard : ℕ) (old : List (Front (LruMsg K))) (refused : ℕ) (new : List (Front (LruMsg K))) where
  pub learned_more : (reply : Option (Reply K)) → Learns IsClone cap shard old reply refused new → More old new
  learned_more None l = more_if_same old new l
  learned_more (Some r) l =
      let now : seen_of shard new ≡ l.0 = ap (seen_of shard) l.2 ∙ seen_first shard l.0 old in
      more_of_one shard old new (subst (Begins (seen_of shard old)) (sym now) l.1) (λ t apart. ap (seen_of t) l.2 ∙ seen_other shard t l.0 old apart)

module _ {K : Type 0} (IsClone : K → K → Type 0) (cap shard : ℕ) (question : LruMsg K) (old mid : List (Front (LruMsg K))) (refused : ℕ) (new : List (Front (LruMsg K))) (s : Sends shard question old mid) where
  -- a question was sent, and a reply tells of what it saw
  abbrev pub Learnt : Reply K → Type 0
  Learnt r =
      (grown : List (LruMsg K)) × Begins (seen_of shard old) grown × Begins (grown ++ question ∷ []) (seen_of shard new) × ((t : ℕ) → t ≢ shard → seen_of t new ≡ seen_of t old)
      × ∥ IsReply IsClone cap (seen_of shard new) refused r ∥₁

  learnt : (r : Reply K) → Learns IsClone cap shard mid (Some r) refused new → Learnt r
  learnt r l =
      let now : seen_of shard new ≡ l.0 = ap (seen_of shard) l.2 ∙ seen_first shard l.0 mid in (
        s.0,
        s.1,
        subst (Begins (s.0 ++ question ∷ [])) (sym now) (subst (λ xs. Begins xs l.0) (grew_seen shard question old mid s) l.1),
        (λ t apart. ap (seen_of t) l.2 ∙ seen_other shard t l.0 mid apart ∙ grew_others shard question old mid s t apart),
        subst (λ xs. ∥ IsReply IsClone cap xs refused r ∥₁) (sym now) l.3,
      )

  same_reply : (r q : Reply K) → Some r ≡ Some q → Learnt r → Learnt q
  same_reply r q e l = subst Learnt (some_same r q e) l

  pub asked : (reply : Option (Reply K)) → Learns IsClone cap shard mid reply refused new → IfOk (answered_by reply) (λ o. ForSome o Learnt)
  asked None l = tt
  asked (Some reply.Memory) l = tt
  asked (Some (reply.Weight w)) l = λ q e. same_reply (reply.Weight w) q e (learnt (reply.Weight w) l)
  asked (Some (reply.Lru found)) l = λ q e. same_reply (reply.Lru found) q e (learnt (reply.Lru found) l)
  asked (Some (reply.Rows pairs)) l = λ q e. same_reply (reply.Rows pairs) q e (learnt (reply.Rows pairs) l)

module _ {K B : Type 0} {A : archive.Ghosts B} where
  pub sees_then : (old mid new : Caller K B A) → SeesMore old mid → SeesMore mid new → SeesMore old new
  sees_then old mid new f g = record { more = more_then (fronts_of old) (fronts_of mid) (fronts_of new) f.more g.more }

  -- a snapshot has the rows that a beginning of the log leaves
  pub rows_told : (IsClone : K → K → Type 0) (cap : ℕ) (question : LruMsg K) (old mid new : Caller K B A) (shard : ℕ) (rows : ShardData K)
      → SeesMore old mid → SeesMore mid new → rows.shard_index ≡ shard → rows.refused ≡ new.refused → Learned IsClone cap shard question mid (reply.Rows rows.items) new → IsRows IsClone cap old rows
  rows_told IsClone cap question old mid new shard rows f g here counted l =
      ∥∥₁_map l.4 (λ r.
      (seen rows.shard_index new, (sees_then old mid new f g).more rows.shard_index, subst (λ n. IsReply IsClone cap (seen rows.shard_index new) n (reply.Rows rows.items)) (sym counted) (subst (λ n. IsReply IsClone cap (seen n new) new.refused (reply.Rows rows.items)) (sym here) r)))
