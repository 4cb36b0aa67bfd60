-- One turn more of a load.
use Rattle.std.proofs.Common.{◌≡◌, ℕ, suc, ◌+◌, Bool, cond, List, [], ◌∷◌, ◌++◌, length, Result, Ok, Err, refl, sym, ◌∙◌, ap, subst, arith, zero-add}
use Rattle.std.specs.Prelude.{count_by, All, map, zero, ◌<◌, ◌≤◌, get_or}
use Rattle.std.specs.List.Sorted.{IsStrictlyIncreasing}
use Rattle.std.proofs.lemmas.List.Elements.{All-nil, All-cons, All-weaker}
use Rattle.std.specs.Borrow.{Bor}
use Rattle.std.specs.FinMap.{get}
use Rattle.std.proofs.lemmas.List.{append-nil, append_assoc, length_push, length-append}
use Rattle.std.proofs.lemmas.List.Sums.{sum_by-append}
use Rattle.lru_folder.specs.declared.errors.ShardLoadFailure.{ShardLoadFailure}
use Rattle.lru_folder.specs.declared.errors.ShardLoadFailure.TheVariants as failure
use Rattle.lru_shard_files.specs.declared.loading.ShardLoad.{ShardLoad}
use Rattle.lru_shard_files.specs.declared.loading.ShardLoad.TheVariants as load
use Rattle.lru_shard_files.specs.LoadingInside.{outcome_of}
use Rattle.lru_folder.specs.Names.{shard_path}
use Rattle.lru_folder.specs.Files.{Files}
use Rattle.lru_folder.specs.Blames.{Blame, blame_of}
use Rattle.lru_shard_files.specs.Loading.{LoadTurn, Missing, Unread, Given, is_loaded, is_missing, failure_of, failures_from, TurnCalls, CallsFrom, IsKeptBack, IsTrueTurn, AreTrueFrom, IsLoad, failed_shard}

IsKeptBack-weaker : (kept kept' rose rose' : Type 0) → (kept' → kept) → (kept' → rose → rose') → (path : List ℕ) (blame : Blame) → IsKeptBack kept rose path blame → IsKeptBack kept' rose' path blame
IsKeptBack-weaker kept kept' rose rose' keeps rises path blame h = record { called = h.called; on = h.on; cause = λ k. let cause = h.cause (keeps k) in (cause.0, λ io. rises k (cause.1 io)) }

-- a number below rising ones
increasing_cons : (x : ℕ) (xs : List ℕ) → All (λ y. x < y) xs → IsStrictlyIncreasing xs → IsStrictlyIncreasing (x ∷ xs)
increasing_cons x xs above rising zero within = above 0 0 (omega arith)
increasing_cons x xs above rising (suc k) within =
    let next : suc k + 1 ≡ suc (k + 1) = omega arith in
    subst (λ j. get_or xs k 0 < get_or (x ∷ xs) j 0) (sym next) (rising k (omega arith))

module _ {E : Type 0} where
  pub failures_from-push : (turns : List (LoadTurn E)) (n : ℕ) (turn : LoadTurn E) → failures_from n (turns ++ turn ∷ []) ≡ failures_from n turns ++ failure_of (length turns + n) turn
  failures_from-push [] n turn = append-nil (failure_of n turn) ∙ ap (λ k. failure_of k turn) (sym (zero-add n))
  failures_from-push (first ∷ turns) n turn =
      let at : length turns + suc n ≡ suc (length turns) + n = omega arith in
      ap (λ fs. failure_of n first ++ fs) (failures_from-push turns (suc n) turn ∙ ap (λ k. failures_from (suc n) turns ++ failure_of k turn) at)
      ∙ sym (append_assoc (failure_of n first) (failures_from (suc n) turns) (failure_of (suc (length turns) + n) turn))

  -- each turn is counted once
  one_each : (n : ℕ) (turn : LoadTurn E) → cond (is_loaded turn) 1 0 + cond (is_missing turn) 1 0 + length (failure_of n turn) ≡ 1
  one_each n Missing = refl
  one_each n (Unread failure) = refl
  one_each n (Given bytes (Ok done)) = refl
  one_each n (Given bytes (Err error)) = refl

  count_cons : (p : LoadTurn E → Bool) (x : LoadTurn E) (xs : List (LoadTurn E)) → count_by p (x ∷ xs) ≡ cond (p x) 1 0 + count_by p xs
  count_cons p x xs = sum_by-append (λ y. cond (p y) 1 0) (x ∷ []) xs ∙ omega arith

  pub counts_all : (turns : List (LoadTurn E)) (n : ℕ) → count_by is_loaded turns + count_by is_missing turns + length (failures_from n turns) ≡ length turns
  counts_all [] n = refl
  counts_all (turn ∷ turns) n = omega (arith, count_cons is_loaded turn turns, count_cons is_missing turn turns, length-append (failure_of n turn) (failures_from (suc n) turns), one_each n turn, counts_all turns (suc n))

  -- what is true of a turn stays so under stronger premises
  module _ (kept kept' rose rose' : Type 0) (files files' : Files) (keeps : kept' → kept) (rises : kept' → rose → rose') (same : kept' → files ≡ files') where
    pub IsTrueTurn-weaker : (path : List ℕ) (shard : ℕ) (turn : LoadTurn E) → IsTrueTurn kept rose files path shard turn → IsTrueTurn kept' rose' files' path shard turn
    IsTrueTurn-weaker path shard Missing h = λ k. ap (λ (m : Files). get m path) (sym (same k)) ∙ h (keeps k)
    IsTrueTurn-weaker path shard (Given bytes answer) h = λ k. ap (λ (m : Files). get m path) (sym (same k)) ∙ h (keeps k)
    IsTrueTurn-weaker path shard (Unread (failure.Io number source)) h = (h.0, IsKeptBack-weaker kept kept' rose rose' keeps rises path (blame_of source) h.1)
    IsTrueTurn-weaker path shard (Unread (failure.Memory number)) h = h
    IsTrueTurn-weaker path shard (Unread (failure.Deserialize number source)) h = absurd h

    pub AreTrueFrom-weaker : (dir file_name : List ℕ) (turns : List (LoadTurn E)) (n : ℕ) → AreTrueFrom kept rose files dir file_name n turns → AreTrueFrom kept' rose' files' dir file_name n turns
    AreTrueFrom-weaker dir file_name [] n h = tt
    AreTrueFrom-weaker dir file_name (turn ∷ turns) n h = (IsTrueTurn-weaker (shard_path dir file_name n) n turn h.0, AreTrueFrom-weaker dir file_name turns (suc n) h.1)

  pub AreTrueFrom-push : (kept rose : Type 0) (files : Files) (dir file_name : List ℕ) (turns : List (LoadTurn E)) (n : ℕ) (turn : LoadTurn E) → AreTrueFrom kept rose files dir file_name n turns
      → IsTrueTurn kept rose files (shard_path dir file_name (length turns + n)) (length turns + n) turn → AreTrueFrom kept rose files dir file_name n (turns ++ turn ∷ [])
  AreTrueFrom-push kept rose files dir file_name [] n turn so here =
      (subst (λ k. IsTrueTurn kept rose files (shard_path dir file_name k) k turn) (zero-add n) here, tt)
  AreTrueFrom-push kept rose files dir file_name (first ∷ turns) n turn so here =
      let at : suc (length turns) + n ≡ length turns + suc n = omega arith in
      (so.0, AreTrueFrom-push kept rose files dir file_name turns (suc n) turn so.1 (subst (λ k. IsTrueTurn kept rose files (shard_path dir file_name k) k turn) at here))

  pub CallsFrom-push : {C : Type 0} (step : C → ℕ → Bor (List ℕ) → Result (Unit {0}) E → C → Type 0) (turns : List (LoadTurn E)) (n : ℕ) (turn : LoadTurn E) (before mid after : C)
      → CallsFrom step n before turns mid → TurnCalls step (length turns + n) mid turn after → CallsFrom step n before (turns ++ turn ∷ []) after
  CallsFrom-push step [] n turn before mid after calls here =
      (after, subst (λ k. TurnCalls step k before turn after) (zero-add n) (subst (λ c. TurnCalls step (0 + n) c turn after) calls here), refl)
  CallsFrom-push step (first ∷ turns) n turn before mid after calls here =
      let at : suc (length turns) + n ≡ length turns + suc n = omega arith in
      (calls.0, calls.1, CallsFrom-push step turns (suc n) turn calls.0 mid after calls.2 (subst (λ k. TurnCalls step k mid turn after) at here))

  -- before the first turn
  unfoldable pub load_none : {C : Type 0} (step : C → ℕ → Bor (List ℕ) → Result (Unit {0}) E → C → Type 0) (kept rose : Type 0) (files : Files) (dir file_name : List ℕ) (before : C)
      → IsLoad step kept rose files dir file_name before before 0 0 0 []
  load_none step kept rose files dir file_name before = record { turns = []; each = refl; calls = refl; so = tt; loaded_shards = refl; missing_shards = refl; failed_shards = refl }

  -- and with one more
  unfoldable pub load_more : {C : Type 0} (step : C → ℕ → Bor (List ℕ) → Result (Unit {0}) E → C → Type 0) (kept rose rose' : Type 0) (files : Files) (dir file_name : List ℕ) (before mid after : C)
      (n loaded loaded' missing missing' : ℕ) (failures failures' : List (ShardLoadFailure E)) (turn : LoadTurn E) → IsLoad step kept rose files dir file_name before mid n loaded missing failures → (kept → rose → rose')
      → TurnCalls step n mid turn after → IsTrueTurn kept rose' files (shard_path dir file_name n) n turn
      → loaded' ≡ loaded + cond (is_loaded turn) 1 0 → missing' ≡ missing + cond (is_missing turn) 1 0 → failures' ≡ failures ++ failure_of n turn
      → IsLoad step kept rose' files dir file_name before after (n + 1) loaded' missing' failures'
  load_more step kept rose rose' files dir file_name before mid after n loaded loaded' missing missing' failures failures' turn so_far rises calls so is_load is_miss is_fail =
      let turns = so_far.turns in
      let at : n ≡ length turns + 0 = omega (arith, so_far.each) in
      record {
        turns = turns ++ turn ∷ [];
        each = omega (arith, length_push turns turn, so_far.each);
        calls = CallsFrom-push step turns 0 turn before mid after so_far.calls (subst (λ k. TurnCalls step k mid turn after) at calls);
        so = AreTrueFrom-push kept rose' files dir file_name turns 0 turn (AreTrueFrom-weaker kept kept rose rose' files files (λ k. k) rises (λ k. refl) dir file_name turns 0 so_far.so)
            (subst (λ k. IsTrueTurn kept rose' files (shard_path dir file_name k) k turn) at so);
        loaded_shards = omega (arith, is_load, so_far.loaded_shards, sum_by-append (λ (t : LoadTurn E). cond (is_loaded t) 1 0) turns (turn ∷ []));
        missing_shards = omega (arith, is_miss, so_far.missing_shards, sum_by-append (λ (t : LoadTurn E). cond (is_missing t) 1 0) turns (turn ∷ []));
        failed_shards = is_fail ∙ ap (λ fs. fs ++ failure_of n turn) so_far.failed_shards ∙ ap (λ k. failures_from 0 turns ++ failure_of k turn) at ∙ sym (failures_from-push turns 0 turn);
      }

  -- what a turn's answer adds to the counts and the failures
  abbrev pub loaded_by : Result ShardLoad (ShardLoadFailure E) → ℕ
  loaded_by (Ok load.Loaded) = 1
  loaded_by (Ok load.Missing) = 0
  loaded_by (Err failure) = 0

  abbrev pub missing_by : Result ShardLoad (ShardLoadFailure E) → ℕ
  missing_by (Ok load.Loaded) = 0
  missing_by (Ok load.Missing) = 1
  missing_by (Err failure) = 0

  abbrev pub failures_by : Result ShardLoad (ShardLoadFailure E) → List (ShardLoadFailure E)
  failures_by (Ok done) = []
  failures_by (Err failure) = failure ∷ []

  pub loaded_turn : (n : ℕ) (turn : LoadTurn E) → cond (is_loaded turn) 1 0 ≡ loaded_by (outcome_of n turn)
  loaded_turn n Missing = refl
  loaded_turn n (Unread failure) = refl
  loaded_turn n (Given bytes (Ok done)) = refl
  loaded_turn n (Given bytes (Err error)) = refl

  pub missing_turn : (n : ℕ) (turn : LoadTurn E) → cond (is_missing turn) 1 0 ≡ missing_by (outcome_of n turn)
  missing_turn n Missing = refl
  missing_turn n (Unread failure) = refl
  missing_turn n (Given bytes (Ok done)) = refl
  missing_turn n (Given bytes (Err error)) = refl

  pub failed_turn : (n : ℕ) (turn : LoadTurn E) → failure_of n turn ≡ failures_by (outcome_of n turn)
  failed_turn n Missing = refl
  failed_turn n (Unread failure) = refl
  failed_turn n (Given bytes (Ok done)) = refl
  failed_turn n (Given bytes (Err error)) = refl

  -- a shard's call more
  unfoldable pub load_next : {C : Type 0} (step : C → ℕ → Bor (List ℕ) → Result (Unit {0}) E → C → Type 0) (kept rose kept_then rose_then rose' : Type 0) (files files_then : Files) (dir file_name : List ℕ) (before mid after : C)
      (n loaded loaded' missing missing' : ℕ) (failures failures' : List (ShardLoadFailure E)) (result : Result ShardLoad (ShardLoadFailure E))
      → IsLoad step kept rose files dir file_name before mid n loaded missing failures
      → (turn : LoadTurn E) → result ≡ outcome_of n turn → TurnCalls step n mid turn after → IsTrueTurn kept_then rose_then files_then (shard_path dir file_name n) n turn
      → (kept → kept_then) → (kept → files_then ≡ files) → (kept → rose → rose') → (kept → rose_then → rose')
      → loaded' ≡ loaded + loaded_by result → missing' ≡ missing + missing_by result → failures' ≡ failures ++ failures_by result
      → IsLoad step kept rose' files dir file_name before after (n + 1) loaded' missing' failures'
  load_next step kept rose kept_then rose_then rose' files files_then dir file_name before mid after n loaded loaded' missing missing' failures failures' result so_far turn ended calls so keeps same rises rises_then is_load is_miss is_fail =
      load_more step kept rose rose' files dir file_name before mid after n loaded loaded' missing missing' failures failures' turn so_far rises calls
      (IsTrueTurn-weaker kept_then kept rose_then rose' files_then files keeps rises_then same (shard_path dir file_name n) n turn so)
      (is_load ∙ ap (λ k. loaded + k) (ap loaded_by ended ∙ sym (loaded_turn n turn)))
      (is_miss ∙ ap (λ k. missing + k) (ap missing_by ended ∙ sym (missing_turn n turn)))
      (is_fail ∙ ap (λ fs. failures ++ fs) (ap failures_by ended ∙ sym (failed_turn n turn)))

  -- the whole load, when the folder has gone on
  unfoldable pub load_over : {C : Type 0} (step : C → ℕ → Bor (List ℕ) → Result (Unit {0}) E → C → Type 0) (kept rose rose' : Type 0) (files : Files) (dir file_name : List ℕ) (before after : C)
      (n shards loaded missing : ℕ) (failures : List (ShardLoadFailure E)) → IsLoad step kept rose files dir file_name before after n loaded missing failures → n ≡ shards → (kept → rose → rose')
      → IsLoad step kept rose' files dir file_name before after shards loaded missing failures
  load_over step kept rose rose' files dir file_name before after n shards loaded missing failures load all rises = record {
    turns = load.turns;
    each = load.each ∙ all;
    calls = load.calls;
    so = AreTrueFrom-weaker kept kept rose rose' files files (λ k. k) rises (λ k. refl) dir file_name load.turns 0 load.so;
    loaded_shards = load.loaded_shards;
    missing_shards = load.missing_shards;
    failed_shards = load.failed_shards;
  }

  -- the failures name their shards, each once, from the first up
  named_from : (kept rose : Type 0) (files : Files) (dir file_name : List ℕ) (turns : List (LoadTurn E)) (n : ℕ) → AreTrueFrom kept rose files dir file_name n turns
      → All (λ shard. n ≤ shard) (map failed_shard (failures_from n turns)) × IsStrictlyIncreasing (map failed_shard (failures_from n turns))
  named_from kept rose files dir file_name [] n so = (All-nil (λ shard. n ≤ shard), λ k within. absurd (omega arith))
  named_from kept rose files dir file_name (turn ∷ turns) n so =
      let rest = named_from kept rose files dir file_name turns (suc n) so.1 in
      let shards = map failed_shard (failures_from (suc n) turns) in
      let later : All (λ shard. n ≤ shard) shards = All-weaker (λ shard. suc n ≤ shard) (λ shard. n ≤ shard) (λ shard h. omega arith) shards rest.0 in
      let here : All (λ shard. n ≤ shard) (n ∷ shards) × IsStrictlyIncreasing (n ∷ shards) =
      (All-cons (λ shard. n ≤ shard) n shards (omega arith) later, increasing_cons n shards (All-weaker (λ shard. suc n ≤ shard) (λ shard. n < shard) (λ shard h. omega arith) shards rest.0) rest.1) in
      let P : List ℕ → Type 0 = λ ns. All (λ shard. n ≤ shard) ns × IsStrictlyIncreasing ns in
      named_turn kept rose files (shard_path dir file_name n) n turn (failures_from (suc n) turns) so.0 P (later, rest.1) here
    where
      named_turn : (kept rose : Type 0) (files : Files) (path : List ℕ) (n : ℕ) (turn : LoadTurn E) (rest : List (ShardLoadFailure E)) → IsTrueTurn kept rose files path n turn
          → (P : List ℕ → Type 0) → P (map failed_shard rest) → P (n ∷ map failed_shard rest) → P (map failed_shard (failure_of n turn ++ rest))
      named_turn kept rose files path n Missing rest so P without with = without
      named_turn kept rose files path n (Given bytes (Ok done)) rest so P without with = without
      named_turn kept rose files path n (Given bytes (Err error)) rest so P without with = with
      named_turn kept rose files path n (Unread (failure.Io number source)) rest so P without with = subst (λ k. P (k ∷ map failed_shard rest)) (sym so.0) with
      named_turn kept rose files path n (Unread (failure.Memory number)) rest so P without with = subst (λ k. P (k ∷ map failed_shard rest)) (sym so) with
      named_turn kept rose files path n (Unread (failure.Deserialize number source)) rest so P without with = absurd so

  pub load_named : {C : Type 0} (step : C → ℕ → Bor (List ℕ) → Result (Unit {0}) E → C → Type 0) (kept rose : Type 0) (files : Files) (dir file_name : List ℕ) (before after : C)
      (shards loaded missing : ℕ) (failures : List (ShardLoadFailure E)) → IsLoad step kept rose files dir file_name before after shards loaded missing failures → IsStrictlyIncreasing (map failed_shard failures)
  load_named step kept rose files dir file_name before after shards loaded missing failures load =
      subst (λ fs. IsStrictlyIncreasing (map failed_shard fs)) (sym load.failed_shards) (named_from kept rose files dir file_name load.turns 0 load.so).1
