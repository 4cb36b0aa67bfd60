-- What follows where a value was made, whichever shard it was for, and however the shards are seen.
use Rattle.std.proofs.Common.{ℕ, None, Ok, Err, inl, inr, sym, ap, subst}
use Rattle.std.specs.Prelude.{◌⊎◌, Option, Bool, Result, IfErr}
use Rattle.std.specs.Borrow.{MutBor}
use Rattle.lru_owned_cache.specs.declared.cache.Refused.{Refused}
use Rattle.lru_shared_cache.specs.declared.calls.NotGot.{NotGot}
use Rattle.lru_shared_cache.specs.declared.calls.NotGot.TheVariants.{Memory, Unmade, Refused as Unput}
use Rattle.lru_shared_cache.specs.Shards.{MayDo, Acts, Begins}
use Rattle.lru_shared_cache.specs.Answers.{HandsBack}
use Rattle.lru_deadlines.specs.declared.deadlines.Until.{Until}
use Rattle.lru_shared_deadlines.specs.declared.ages.Aged.{Aged}
use Rattle.lru_shared_deadlines.specs.declared.ages.Moment.{Moment}
use Rattle.lru_shared_deadlines.specs.Calls.{ShardOf, Ends, RefusesMade, EndsMaking, Answers, GetsOrPuts}

-- what a closure that was lent a shard does is done to that
acted : {S R : Type 0} (post : MutBor S → R → MutBor S → Type 0) (P : R → S → S → Type 0) → ((lent : MutBor S) (r : R) (left : MutBor S) → post lent r left → P r lent.now left.now) → (r : R) (a b : S) → Acts post r a b → P r a b
acted post P each r a b acts = subst (λ y. P r a y) acts.leaves (subst (λ x. P r x acts.left.now) acts.shows (each acts.lent r acts.left acts.called))

-- where a look-up tells an error, that is what it did; or it found none, and there was no memory for the note
pub begun_err : {S V E : Type 0} (post : MutBor S → Result (Option V) E → MutBor S → Type 0) (P : Result (Option V) E → S → S → Type 0) → ((lent : MutBor S) (r : Result (Option V) E) (left : MutBor S) → post lent r left → P r lent.now left.now)
    → (result : Result (Option V) E) (does : (S → S → Type 0) → Type 0) → ((A B : S → S → Type 0) → ((a b : S) → A a b → B a b) → does A → does B) → does (Begins post result) → IfErr result (λ e. does (λ a b. P (Err e) a b ⊎ P (Ok None) a b))
begun_err post P each (Ok found) does more h = tt
begun_err post P each (Err e) does more h = more (Begins post (Err e)) (λ a b. P (Err e) a b ⊎ P (Ok None) a b) (λ a b begins. elim begins [ inl acts ↦ inl (acted post P each (Err e) a b acts) | inr acts ↦ inr (acted post P each (Ok None) a b acts) ]) h

-- what is handed back of a value that was made is so, whichever shard it was
module _ {K V E F : Type 0} (S T MayEnd : Type 0) (eq : K → K → Bool) (clones : V → V → Type 0) (Makes : Result (V × ℕ) E → Type 0) (Step : F → Ends K V → F → Type 0) (visit : F) (m : Moment) (key : K) where
  abbrev may_do : T → (ShardOf K V S → ShardOf K V S → Type 0) → T → Type 0
  may_do old P new = MayDo P

  unput : (made : V × ℕ) → Makes (Ok made) → (r : Refused K V) (before after : ShardOf K V S) → RefusesMade MayEnd eq clones Makes Step visit may_do m key made r before after → HandsBack Makes key (Unput r)
  unput made may r before after (inl (none, (mid, (room, (seen, (puts, counted)))))) = (puts.1.0, (made.1, subst (λ v. Makes (Ok (v, made.1))) (sym (ap (λ (u : Until (Aged V)). u.value.value) puts.1.1.0)) may))
  unput made may r before after (inr lost) = (lost.1.0, (made.1, subst (λ v. Makes (Ok (v, made.1))) (sym lost.1.1.0) may))

  ended : (mid new : T) (made : Result (V × ℕ) E) → Makes made → (n : NotGot K V E) → EndsMaking MayEnd eq clones Makes Step visit may_do m key mid made (Err n) new → HandsBack Makes key n
  ended mid new (Ok made) may (Memory k) ends = absurd ends
  ended mid new (Ok made) may (Unmade k e) ends = absurd ends
  ended mid new (Ok made) may (Unput r) ends = unput made may r ends.0 ends.1.0 ends.1.1
  ended mid new (Err error) may (Memory k) ends = absurd ends
  ended mid new (Err error) may (Unmade k e) ends = (ends.0, subst (λ x. Makes (Err x)) (sym ends.1.0) may)
  ended mid new (Err error) may (Unput r) ends = absurd ends

  answered : (n : NotGot K V E) (before after : ShardOf K V S) → Answers MayEnd eq clones Makes Step visit may_do m key (Err n) before after → HandsBack Makes key n
  answered (Memory k) before after a = a.0
  answered (Unmade k e) before after a = absurd a
  answered (Unput r) before after a = absurd a

  refused_back : (old new : T) (n : NotGot K V E) → GetsOrPuts MayEnd eq clones Makes Step visit may_do m key old (Err n) new → HandsBack Makes key n
  refused_back old new n (inl here) = answered n here.0 here.1.0 here.1.1
  refused_back old new n (inr (mid, (none, (made, (may, ends))))) = ended mid new made may n ends

  pub hands_back : (old new : T) (result : Result V (NotGot K V E)) → GetsOrPuts MayEnd eq clones Makes Step visit may_do m key old result new → IfErr result (HandsBack Makes key)
  hands_back old new (Ok v) gets = tt
  hands_back old new (Err n) gets = refused_back old new n gets

-- what is known of all shards is known of what they are seen as
module _ {K V S E F T U : Type 0} (MayEnd : Type 0) (eq : K → K → Bool) (clones : V → V → Type 0) (Makes : Result (V × ℕ) E → Type 0) (Step : F → Ends K V → F → Type 0) (visit : F) (m : Moment) (key : K)
    (seen : T → U) (does : U → (ShardOf K V S → ShardOf K V S → Type 0) → U → Type 0) where
  abbrev seen_does : T → (ShardOf K V S → ShardOf K V S → Type 0) → T → Type 0
  seen_does old P new = does (seen old) P (seen new)

  ends_seen : (mid new : T) (made : Result (V × ℕ) E) (answer : Result V (NotGot K V E)) → EndsMaking MayEnd eq clones Makes Step visit seen_does m key mid made answer new → EndsMaking MayEnd eq clones Makes Step visit does m key (seen mid) made answer (seen new)
  ends_seen mid new (Ok made) (Ok v) ends = ends
  ends_seen mid new (Ok made) (Err (Unput r)) ends = ends
  ends_seen mid new (Ok made) (Err (Unmade k e)) ends = ends
  ends_seen mid new (Ok made) (Err (Memory k)) ends = ends
  ends_seen mid new (Err error) (Ok v) ends = ends
  ends_seen mid new (Err error) (Err (Unput r)) ends = ends
  ends_seen mid new (Err error) (Err (Unmade k e)) ends = ends
  ends_seen mid new (Err error) (Err (Memory k)) ends = ends

  here_seen : (answer : Result V (NotGot K V E)) (before after : ShardOf K V S) → Answers MayEnd eq clones Makes Step visit seen_does m key answer before after → Answers MayEnd eq clones Makes Step visit does m key answer before after
  here_seen (Ok v) before after a = a
  here_seen (Err (Memory k)) before after a = a
  here_seen (Err (Unmade k e)) before after a = a
  here_seen (Err (Unput r)) before after a = a

  pub gets_seen : ((P Q : ShardOf K V S → ShardOf K V S → Type 0) → ((a b : ShardOf K V S) → P a b → Q a b) → (s t : U) → does s P t → does s Q t)
      → (old new : T) (answer : Result V (NotGot K V E)) → GetsOrPuts MayEnd eq clones Makes Step visit seen_does m key old answer new → GetsOrPuts MayEnd eq clones Makes Step visit does m key (seen old) answer (seen new)
  gets_seen more old new answer (inl here) = inl (more _ _ (here_seen answer) (seen old) (seen new) here)
  gets_seen more old new answer (inr (mid, (none, (made, (may, ends))))) = inr (seen mid, (none, (made, (may, ends_seen mid new made answer ends))))
