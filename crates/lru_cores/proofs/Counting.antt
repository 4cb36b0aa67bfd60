-- What each call does to the number of rows that a key has; and so what any list of calls does.
use Rattle.std.proofs.Common.{◌≡◌, ◌≢◌, ℕ, ◌+◌, List, [], ◌∷◌, map, cond, eqb, Some, None, Ok, Err, refl, sym, ap, ◌∙◌, arith, subst, inl, inr}
use Rattle.std.specs.Prelude.{Option, Result}
use Rattle.std.proofs.lemmas.Bool.{cases_eq, cond-true, cond-false, eq-eqb, ne_eqb}
use Rattle.lru_shard.specs.declared.unit.Cause.{Cause}
use Rattle.lru_shard.specs.Row.{Row, pair_of, times, without_last}
use Rattle.lru_shard.proofs.Rows.{times-append}
use Rattle.lru_shard.proofs.LastRows.{last_split}
use Rattle.rand_core.specs.Stream.{Stream}
use Rattle.lru_cores.specs.Core.{Core, list_at}
use Rattle.lru_cores.specs.Eviction.{EvictionRun}
use Rattle.lru_cores.specs.declared.tiered.Tier.{Tier}
use Rattle.lru_cores.specs.declared.tiered.Tier.TheVariants.{Hot, Cold}
use Rattle.lru_cores.specs.Tiers.{Tiers, tiers, row_where, times_in, times_of, AreTiers}
use Rattle.lru_cores.specs.TierCalls.{TouchesRow, Spills, SpillRun}
use Rattle.lru_cores.specs.TierRuns.{Event, Admitted, NotAdmitted, Touched, Removed, Spilled, Balanced, Happens, Runs, AreAllGone, due, told, IsAccounted}
use Rattle.lru_cores.proofs.Times.{times_with, times_core_without_same}
use Rattle.lru_cores.proofs.Moving.{moved, times_moved}
use Rattle.lru_cores.proofs.Keeping.{keeps_removed, keeps_touched, keeps_spilled, keeps_promoted, times_promoted, keeps_admitted, times_admitted, times_core_without_other, evicted_in, keeps_evicted}

module _ {T : Type 0} where
  -- a call keeps the tiers, and each key has as many rows as before
  pub record IsSame (n : ℕ) (old new : Tiers T) : Type 0 where
    pub kept : AreTiers n new
    pub same : (q : ℕ) → times_of q new ≡ times_of q old

  unchanged : (n : ℕ) (old new : Tiers T) → AreTiers n old → new ≡ old → IsSame n old new
  unchanged n old new is e = record { kept = subst (AreTiers n) (sym e) is; same = λ q. ap (times_of q) e }

  touched : (n : ℕ) (old : Tiers T) → AreTiers n old → (k : ℕ) (o : Option (Tier × Row T)) (answer : Result (Option Tier) Cause) (new : Tiers T) → TouchesRow old k o answer new → IsSame n old new
  touched n old is k (Some (Hot, r)) (Ok answer) new h =
      let hot = ap (λ (t : Tiers T). t.hot) h.1 in
      let cold = ap (λ (t : Tiers T). t.cold) h.1 in
      record {
        kept = subst (λ z. AreTiers n (tiers new.hot z)) (sym cold) (keeps_promoted n old is k new.hot hot);
        same = λ q. omega (arith, times_promoted n old is k new.hot hot q, ap (times_in q) cold);
      }
  touched n old is k (Some (Cold, r)) (Ok answer) new h =
      let m = moved old.hot old.cold k new.hot new.cold h.1.0 h.1.1 in
      record {
        kept = keeps_touched n old is k h.1.0 new.hot new.cold h.1.1;
        same = λ q. times_moved old.hot old.cold k new.hot new.cold n is.hot is.cold m q (is.apart q);
      }
  touched n old is k (Some (Cold, r)) (Err cause) new h = unchanged n old new is h.1
  touched n old is k (Some (Hot, r)) (Err cause) new h = absurd h
  touched n old is k None (Ok answer) new h = unchanged n old new is h.1
  touched n old is k None (Err cause) new h = absurd h

  spilled : (n : ℕ) (old : Tiers T) → AreTiers n old → (a b : ℕ) (answer : Result (Option ℕ) Cause) (new : Tiers T) → Spills old a b answer new → IsSame n old new
  spilled n old is a b (Ok (Some k)) new h =
      let m = moved old.cold old.hot k new.cold new.hot h.1.0 h.1.1 in
      record {
        kept = keeps_spilled n old is k h.1.0 new.cold new.hot h.1.1;
        same = λ q. omega (arith, times_moved old.cold old.hot k new.cold new.hot n is.cold is.hot m q (omega (arith, is.apart q)));
      }
  spilled n old is a b (Ok None) new h = unchanged n old new is h.1
  spilled n old is a b (Err cause) new h = unchanged n old new is h.1.1.1

  spilled_all : (n : ℕ) (old : Tiers T) → AreTiers n old → (words : Stream) (keys : List ℕ) (new : Tiers T) (rest : Stream) → SpillRun old words keys new rest → IsSame n old new
  spilled_all n old is words [] new rest h = unchanged n old new is h.0
  spilled_all n old is words (k ∷ ks) new rest h =
      let one = spilled n old is _ _ (Ok (Some k)) h.0 h.1.0 in
      let more = spilled_all n h.0 one.kept _ ks new rest h.1.1 in
      record { kept = more.kept; same = λ q. more.same q ∙ one.same q }

  -- rows that leave a core for good
  pub record Lose (old new : Core T) (pairs : List (T × ℕ)) : Type 0 where
    pub rows : List (Row T)
    pub shown : map pair_of rows ≡ pairs
    pub counts : (q : ℕ) → times_in q new + times q rows ≡ times_in q old

  loses : (old : Core T) (words : Stream) (pairs : List (T × ℕ)) (new : Core T) (rest : Stream) → EvictionRun old words pairs new rest → Lose old new pairs
  loses old words [] new rest h = record { rows = []; shown = refl; counts = λ q. omega (arith, ap (times_in q) h.0) }
  loses old words (p ∷ ps) new rest h =
      let e = h.1.0 in
      let more = loses h.0 _ ps new rest h.1.1 in
      let at = list_at old e.victim in
      record {
        rows = e.row ∷ more.rows;
        shown = ap (λ x. x ∷ map pair_of more.rows) (sym e.answer) ∙ ap (λ xs. p ∷ xs) more.shown;
        counts = λ q. omega (
          arith,
          more.counts q,
          ap (times_in q) e.left,
          times_with old e.victim (evicted_in 0 old _ _ p h.0 e) (without_last at) q,
          ap (times q) (last_split at e.row e.last),
          times-append q (without_last at) (e.row ∷ []),
          times-append q (e.row ∷ []) more.rows,
        );
      }

  pub record BalancedBy (n : ℕ) (old new : Tiers T) (pairs : List (T × ℕ)) : Type 0 where
    pub kept : AreTiers n new
    pub rows : List (Row T)
    pub shown : map pair_of rows ≡ pairs
    pub counts : (q : ℕ) → times_of q new + times q rows ≡ times_of q old

  cold_loses : (n : ℕ) (old mid new : Tiers T) → IsSame n old mid → (words : Stream) (pairs : List (T × ℕ)) (rest : Stream) → EvictionRun mid.cold words pairs new.cold rest → new.hot ≡ mid.hot → BalancedBy n old new pairs
  cold_loses n old mid new is words pairs rest run hot =
      let l = loses mid.cold words pairs new.cold rest run in
      record {
        kept = subst (λ z. AreTiers n (tiers z new.cold)) (sym hot) (keeps_evicted n mid is.kept words pairs new.cold rest run);
        rows = l.rows;
        shown = l.shown;
        counts = λ q. omega (arith, l.counts q, is.same q, ap (times_in q) hot);
      }

  balanced_as : (n : ℕ) (old : Tiers T) → AreTiers n old → (pairs : List (T × ℕ)) (new : Tiers T) → Happens old (Balanced pairs) new → BalancedBy n old new pairs
  balanced_as n old is pairs new h =
      elim h.1.1 [
        | inl b ↦ cold_loses n old b.spilled new (spilled_all n old is h.0 b.spills.keys b.spilled b.left b.spills.run) b.left pairs h.1.0 b.evicts.run b.hot
        | inr e ↦
            elim e.1 [
              | inl s ↦
                  let same = spilled_all n old is h.0 s.0.keys new s.0.left s.0.run in
                  record { kept = same.kept; rows = []; shown = sym s.1; counts = λ q. omega (arith, same.same q) }
              | inr b ↦ cold_loses n old b.0.spilled new (spilled_all n old is h.0 b.0.spills.keys b.0.spilled b.0.left b.0.spills.run) b.0.left pairs h.1.0 b.0.evicts.run b.0.hot
            ]
      ]

  -- any list of calls
  pub record Accounts (n : ℕ) (new : Tiers T) (events : List (Event T)) (t d : ℕ → ℕ) : Type 0 where
    pub kept : AreTiers n new
    pub gone : List (List (Row T))
    pub answered : AreAllGone events gone
    pub each : (k : ℕ) → times_of k new + told k (t k) events gone ≡ due k (d k) events

  -- a call that sets how many rows of a key there are
  sets : (old mid : Tiers T) (j m : ℕ) (t d : ℕ → ℕ) → times_of j mid ≡ m → ((q : ℕ) → q ≢ j → times_of q mid ≡ times_of q old) → ((k : ℕ) → times_of k old + t k ≡ d k) → (k : ℕ) → times_of k mid + cond (eqb j k) 0 (t k) ≡ cond (eqb j k) m (d k)
  sets old mid j m t d here other h k =
      elim (cases_eq k j) [
        | inl e ↦ omega (arith, cond-true (eqb j k) 0 (t k) (eq-eqb j k (sym e)), cond-true (eqb j k) m (d k) (eq-eqb j k (sym e)), ap (λ q. times_of q mid) e, here)
        | inr ne ↦ omega (arith, cond-false (eqb j k) 0 (t k) (ne_eqb j k (λ e. ne (sym e))), cond-false (eqb j k) m (d k) (ne_eqb j k (λ e. ne (sym e))), other k ne, h k)
      ]

  pub accounts : (n : ℕ) (old : Tiers T) → AreTiers n old → (es : List (Event T)) (new : Tiers T) → Runs old es new → (t d : ℕ → ℕ) → ((k : ℕ) → times_of k old + t k ≡ d k) → Accounts n new es t d
  accounts n old is [] new run t d h = record { kept = subst (AreTiers n) (sym run) is; gone = []; answered = tt; each = λ k. omega (arith, h k, ap (times_of k) run) }
  accounts n old is (Admitted j x w ∷ es) new run t d h =
      let mid = run.0 in
      let put = run.1.0 in
      let kept : AreTiers n mid = subst (λ z. AreTiers n (tiers mid.hot z)) (sym put.1.1) (keeps_admitted n old is j x w put.0 mid.hot put.1.0) in
      let count = times_admitted n old is j x w put.0 mid.hot put.1.0 in
      let a = accounts n mid kept es new run.1.1 (λ k. cond (eqb j k) 0 (t k)) (λ k. cond (eqb j k) 1 (d k))
      (sets old mid j 1 t d (omega (arith, count.0, ap (times_in j) put.1.1)) (λ q ne. omega (arith, count.1 q ne, ap (times_in q) put.1.1)) h) in
      record { kept = a.kept; gone = [] ∷ a.gone; answered = (refl, a.answered); each = a.each }
  accounts n old is (Removed j ∷ es) new run t d h =
      let mid = run.0 in
      let kept : AreTiers n mid = subst (AreTiers n) (sym run.1.0) (keeps_removed n old is j) in
      let a = accounts n mid kept es new run.1.1 (λ k. cond (eqb j k) 0 (t k)) (λ k. cond (eqb j k) 0 (d k))
      (sets old mid j 0 t d
      (omega (arith, ap (times_of j) run.1.0, times_core_without_same n old.hot j is.hot, times_core_without_same n old.cold j is.cold))
      (λ q ne. omega (arith, ap (times_of q) run.1.0, times_core_without_other n old.hot j is.hot q ne, times_core_without_other n old.cold j is.cold q ne)) h) in
      record { kept = a.kept; gone = [] ∷ a.gone; answered = (refl, a.answered); each = a.each }
  accounts n old is (NotAdmitted j x w ∷ es) new run t d h =
      let s = unchanged n old run.0 is run.1.0.1.1 in
      let a = accounts n run.0 s.kept es new run.1.1 (λ k. t k + times {T = T} k []) d (λ k. omega (arith, s.same k, h k)) in
      record { kept = a.kept; gone = [] ∷ a.gone; answered = (refl, a.answered); each = a.each }
  accounts n old is (Touched j ∷ es) new run t d h =
      let s = touched n old is j (row_where old j) run.1.0.0 run.0 run.1.0.1 in
      let a = accounts n run.0 s.kept es new run.1.1 (λ k. t k + times {T = T} k []) d (λ k. omega (arith, s.same k, h k)) in
      record { kept = a.kept; gone = [] ∷ a.gone; answered = (refl, a.answered); each = a.each }
  accounts n old is (Spilled i j ∷ es) new run t d h =
      let s = spilled n old is i j run.1.0.0 run.0 run.1.0.1 in
      let a = accounts n run.0 s.kept es new run.1.1 (λ k. t k + times {T = T} k []) d (λ k. omega (arith, s.same k, h k)) in
      record { kept = a.kept; gone = [] ∷ a.gone; answered = (refl, a.answered); each = a.each }
  accounts n old is (Balanced pairs ∷ es) new run t d h =
      let b = balanced_as n old is pairs run.0 run.1.0 in
      let a = accounts n run.0 b.kept es new run.1.1 (λ k. t k + times k b.rows) d (λ k. omega (arith, b.counts k, h k)) in
      record { kept = a.kept; gone = b.rows ∷ a.gone; answered = (b.shown, a.answered); each = a.each }

  -- the law
  pub accounted : (n : ℕ) (old : Tiers T) → AreTiers n old → (es : List (Event T)) (new : Tiers T) → Runs old es new → AreTiers n new × IsAccounted old es new
  accounted n old is es new run =
      let a = accounts n old is es new run (λ k. 0) (λ k. times_of k old) (λ k. omega arith) in
      (a.kept, record { gone = a.gone; answered = a.answered; each = a.each })
