-- What was saved is what is loaded.
use Rattle.std.proofs.Common.{◌≡◌, ◌≢◌, ◌⊎◌, inl, inr, ℕ, zero, suc, ◌+◌, ◌%◌, ◌<◌, ◌≤◌, false, cond, nat_lt, List, [], ◌∷◌, ◌++◌, length, slice_get, Option, Some, None, Ok, Err, IsOk, IfOk, IfSome, IfNone, MatchOption, refl, sym, ◌∙◌, ap, subst, arith}
use Rattle.std.specs.Prelude.{count_by, map, slice_index_or}
use Rattle.std.specs.List.{Any, cons_option}
use Rattle.std.specs.FinMap.{get}
use Rattle.std.specs.declared.alloc.AllocError.{AllocError}
use Rattle.std.proofs.lemmas.Bool.{false_from_ne_true, ltb-true}
use Rattle.std.proofs.lemmas.List.{get_or-set_other, length-set}
use Rattle.rand_core.specs.Stream.{Stream, next_u32}
use Rattle.lru_shard.specs.declared.unit.Cause.TheVariants as cause
use Rattle.pingora_lru.specs.Row.{Row, pair_of, times, weight_of, HasDistinctKeys}
use Rattle.pingora_lru.specs.Shard.{IsShard, most_rows}
use Rattle.pingora_lru.specs.Shard as rows_and_cap
use Rattle.pingora_lru.specs.Limits.{cap_of}
use Rattle.pingora_lru.specs.Core.{Core, IsCore, list_at, with_list}
use Rattle.lru_folder.specs.Blames.{blame_of}
use Rattle.lru_folder.specs.Files.{Files}
use Rattle.lru_folder.specs.Folder.{InOrder}
use Rattle.lru_folder.specs.Meaning.{Meaning}
use Rattle.lru_folder.specs.Names.{shard_path}
use Rattle.lru_folder.specs.declared.errors.ShardLoadFailure.{ShardLoadFailure}
use Rattle.lru_folder.specs.declared.errors.ShardLoadFailure.TheVariants as failure
use Rattle.lru_folder.specs.declared.errors.ShardSaveFailure.{ShardSaveFailure}
use Rattle.lru_folder.specs.declared.errors.ShardSaveError.TheVariants.{Setup, AllShardsFailed}
use Rattle.lru_folder.specs.declared.errors.ShardSaveSetupError.TheVariants.{CreateDir}
use Rattle.lru_folder.specs.declared.errors.ShardSaveSetupError.TheVariants as setup
use Rattle.lru_folder.specs.declared.fault.FolderFault.{FolderFault}
use Rattle.lru_folder.specs.declared.fault.FolderFault.TheVariants.{NotFound, Memory, Io}
use Rattle.lru_shard_files.specs.Loading.{LoadTurn, Missing, Unread, Given, is_loaded, TurnCalls, CallsFrom, AreTrueFrom, IsLoad, IsUnread, failures_from}
use Rattle.lru_shard_files.specs.Saves.{TakesTurns}
use Rattle.lru_shard_files.specs.Turns as saving
use Rattle.lru_shard_files.specs.Turns.{SaveTurn, RunsTo, SavesOne, Ends, IsKept, IsFailureOf, IsRefused, failures_of}
use Rattle.lru_shard_files.specs.declared.snapshot.Keyed.{Keyed}
use Rattle.lru_shard_files.specs.declared.snapshot.LoadError.{LoadError}
use Rattle.lru_shard_files.specs.declared.snapshot.LoadError.TheVariants as unloaded
use Rattle.lru_shard_files.specs.Snapshot.{bytes_of}
use Rattle.lru_shard_files.specs.SnapshotLoads.{Loads, LoadsShard, AreLoadable, limit_passed, rows_of}
use Rattle.lru_shard_files.specs.SnapshotSaves.{AreBytesOf, GivesShard, HoldCore, TellCore}
use Rattle.lru_shard_files.specs.Stores.{SaveResult, LoadResult, SavesCore, LoadsCore, AreSaved, AreLoaded, HasNoRows, TellsMemory, TellsLoadMemory, TellAllKeys, LacksMemory}
use Rattle.lru_shard_files.proofs.SnapshotLemmas.{length-bytes_of}
use Rattle.lru_shard_files.proofs.SnapshotRestores.{counted}

-- some element, the first one or a later one
pub any-here : {X : Type 0} (P : X → Type 0) (x : X) (xs : List X) → P x → Any P (x ∷ xs)
any-here P x xs p = (0, x, omega arith, refl, p)

pub any-later : {X : Type 0} (P : X → Type 0) (x : X) (xs : List X) → Any P xs → Any P (x ∷ xs)
any-later P x xs a = (suc a.0, a.1, omega (arith, a.2), a.3, a.4)

-- each turn of a save was given the bytes of its shard
pub run_gives : (core : Core Keyed) (shard : ℕ) (f last : Unit {0}) (s rest : Stream) (turns : List (SaveTurn AllocError)) → RunsTo (GivesShard core) shard f s turns last rest
    → (i : ℕ) (turn : SaveTurn AllocError) → slice_get turns i ≡ Some turn → IfOk turn.given (λ bytes. AreBytesOf core (shard + i) bytes.items)
run_gives core shard f last s rest [] run i turn is = absurd (let f : ⊥ = cc in f)
run_gives core shard f last s rest (t ∷ turns) run zero turn is =
    let same : t ≡ turn = cc in
    let at : shard ≡ shard + 0 = omega arith in
    subst (λ (p : ℕ × SaveTurn AllocError). IfOk p.1.given (λ bytes. AreBytesOf core p.0 bytes.items)) (λ j. (at j, same j)) run.1
run_gives core shard f last s rest (t ∷ turns) run (suc i) turn is =
    let at : suc shard + i ≡ shard + suc i = omega arith in
    subst (λ (k : ℕ). IfOk turn.given (λ bytes. AreBytesOf core k bytes.items)) at (run_gives core (suc shard) run.0 last (next_u32 s).1 rest turns run.3 i turn is)

-- a list has what stands below its length
pub get_some : {X : Type 0} (xs : List X) (i : ℕ) → i < length xs → (x : X) × (slice_get xs i ≡ Some x)
get_some [] i lt = absurd (omega arith)
get_some (x ∷ xs) zero lt = (x, refl)
get_some (x ∷ xs) (suc i) lt = get_some xs i (omega arith)

-- where no turn failed, this one did not
not_this : (failed : Option (ShardSaveFailure AllocError)) (rest : List (ShardSaveFailure AllocError)) → length (cons_option failed rest) ≡ 0 → (failed ≡ None) × (length rest ≡ 0)
not_this None rest none = (refl, none)
not_this (Some f) rest none = absurd (omega arith)

none_failed : (turns : List (SaveTurn AllocError)) → length (failures_of turns) ≡ 0 → (i : ℕ) (turn : SaveTurn AllocError) → slice_get turns i ≡ Some turn → turn.failed ≡ None
none_failed [] none i turn is = absurd (let f : ⊥ = cc in f)
none_failed (t ∷ turns) none zero turn is =
    let same : t ≡ turn = cc in
    ap (λ (q : SaveTurn AllocError). q.failed) (sym same) ∙ (not_this t.failed (failures_of turns) none).0
none_failed (t ∷ turns) none (suc i) turn is = none_failed turns (not_this t.failed (failures_of turns) none).1 i turn is

-- all shards were saved, so the folder holds the core
taken_holds : {F : Type 0} (m : Meaning F) (dir file_name : List ℕ) (n : ℕ) (core : Core Keyed) (drawn rest : Stream) (old new : F) (result : SaveResult) → m.keeps old
    → TakesTurns m (GivesShard core) dir file_name n tt drawn old result rest new → AreSaved n result → HoldCore (m.files new) dir file_name n core
taken_holds m dir file_name n core drawn rest old new (Err e) keeps h all s lt = absurd all
taken_holds m dir file_name n core drawn rest old new (Ok report) keeps h all s lt =
    let none : length (failures_of h.turns) ≡ 0 = omega (arith, h.ends.told.0, h.ends.told.1, all) in
    let at = get_some h.turns s (omega (arith, h.ends.all)) in
    let turn = at.0 in
    let saved = none_failed h.turns none s turn at.1 in
    given (turn.given) (subst (λ (o : Option (ShardSaveFailure AllocError)). MatchOption o (IsOk turn.given) (IsFailureOf dir file_name s turn)) saved (h.ends.ends s turn at.1))
    (subst (λ (o : Option (ShardSaveFailure AllocError)). IfNone o (IfOk turn.given (λ bytes. get (m.files new) (shard_path dir file_name s) ≡ Some bytes.items))) saved ((h.saves keeps).kept s turn at.1))
    (run_gives core 0 tt h.last drawn rest h.turns h.run s turn at.1)
  where
    given : (g : saving.Given AllocError) → IsOk g → IfOk g (λ bytes. get (m.files new) (shard_path dir file_name s) ≡ Some bytes.items)
        → IfOk g (λ bytes. AreBytesOf core (0 + s) bytes.items) → (bytes : List ℕ) × ((get (m.files new) (shard_path dir file_name s) ≡ Some bytes) × AreBytesOf core s bytes)
    given (Ok bytes) ok kept those = (bytes.items, (kept, subst (λ (k : ℕ). AreBytesOf core k bytes.items) (let e : 0 + s ≡ s = omega arith in e) those))
    given (Err e) ok kept those = absurd (let f : ⊥ = cc in f)

pub holds : {F : Type 0} (m : Meaning F) (dir file_name : List ℕ) (n : ℕ) (core : Core Keyed) (drawn rest : Stream) (old new : F) (result : SaveResult) → m.keeps old
    → SavesCore m dir file_name n core drawn old result rest new → AreSaved n result → HoldCore (m.files new) dir file_name n core
holds m dir file_name n core drawn rest old new (Err e) keeps h all = absurd all
holds m dir file_name n core drawn rest old new (Ok report) keeps h all = taken_holds m dir file_name n core drawn rest old new (Ok report) keeps (h.turns tt) all

-- where only memory keeps a shard back, a failure tells so, or there is none
or_none : (turns : List (SaveTurn AllocError)) → ((i : ℕ) (turn : SaveTurn AllocError) → slice_get turns i ≡ Some turn → IfSome turn.failed IsRefused)
    → Any IsRefused (failures_of turns) ⊎ (length (failures_of turns) ≡ 0)
or_none [] each = inr refl
or_none (t ∷ turns) each = go t.failed (each 0 t refl) (or_none turns (λ i turn is. each (suc i) turn is))
  where
    go : (failed : Option (ShardSaveFailure AllocError)) → IfSome failed IsRefused → Any IsRefused (failures_of turns) ⊎ (length (failures_of turns) ≡ 0)
        → Any IsRefused (cons_option failed (failures_of turns)) ⊎ (length (cons_option failed (failures_of turns)) ≡ 0)
    go None refused rest = rest
    go (Some f) refused rest = inl (any-here IsRefused f (failures_of turns) refused)

-- turns in order don't take failures back
turns_later : {F : Type 0} (m : Meaning F) (dir file_name : List ℕ) (shard : ℕ) (turns : List (SaveTurn AllocError)) (old new : F) → InOrder (SavesOne m dir file_name) shard turns old new → m.faults old ≤ m.faults new
turns_later m dir file_name shard [] old new same = omega (arith, ap m.faults same)
turns_later m dir file_name shard (t ∷ turns) old new steps = omega (arith, steps.1.later, turns_later m dir file_name (suc shard) turns steps.0 new steps.2)

module _ {F : Type 0} (m : Meaning F) (dir file_name : List ℕ) (n : ℕ) (core : Core Keyed) (drawn rest : Stream) (old new : F) where
  taken_later : (result : SaveResult) → m.keeps old → TakesTurns m (GivesShard core) dir file_name n tt drawn old result rest new → m.faults old ≤ m.faults new
  taken_later result keeps h = omega (arith, (h.makes keeps).faults, turns_later m dir file_name 0 h.turns h.made new (h.in_order keeps))

  -- a save takes no failure back
  pub saves_later : (result : SaveResult) → m.keeps old → SavesCore m dir file_name n core drawn old result rest new → m.faults old ≤ m.faults new
  saves_later (Ok report) keeps h = taken_later (Ok report) keeps (h.turns tt)
  saves_later (Err (AllShardsFailed count failures)) keeps h = taken_later (Err (AllShardsFailed count failures)) keeps (h.turns tt)
  saves_later (Err (Setup (CreateDir path source))) keeps h = (h.reason keeps).later
  saves_later (Err (Setup setup.Memory)) keeps h = omega (arith, ap m.faults (h.early refl))

  -- where the device did not fail, all shards were saved, or the result tells that memory was refused
  pub saves_all : (result : SaveResult) → m.keeps old → 0 < n → m.faults new ≡ m.faults old → SavesCore m dir file_name n core drawn old result rest new → TellsMemory result ⊎ AreSaved n result
  saves_all (Ok report) keeps some same h =
      let t = h.turns tt in
      elim (or_none t.turns ((t.saves keeps).refused same)) [
        | inl any ↦ inl (subst (λ (fs : List (ShardSaveFailure AllocError)). Any IsRefused fs) (sym t.ends.told.2) any)
        | inr none ↦ inr (omega (arith, t.ends.told.0, t.ends.told.1, none))
      ]
  saves_all (Err (AllShardsFailed count failures)) keeps some same h =
      let t = h.turns tt in
      elim (or_none t.turns ((t.saves keeps).refused same)) [
        | inl any ↦ inl (subst (λ (fs : List (ShardSaveFailure AllocError)). Any IsRefused fs) (sym t.ends.told.1) any)
        | inr none ↦ absurd (omega (arith, t.ends.told.2, none))
      ]
  saves_all (Err (Setup (CreateDir path NotFound))) keeps some same h = absurd ((h.reason keeps).missing refl refl)
  saves_all (Err (Setup (CreateDir path Memory))) keeps some same h = inl refl
  saves_all (Err (Setup (CreateDir path Io))) keeps some same h = let rose = (h.reason keeps).failed refl in absurd (omega arith)
  saves_all (Err (Setup setup.Memory)) keeps some same h = inl tt

-- a fault that is neither the device's nor a missing file's is one of memory
pub of_memory : (fault : FolderFault) → fault ≢ NotFound → (fault ≡ Io → ⊥) → fault ≡ Memory
of_memory NotFound there quiet = absurd (there refl)
of_memory Memory there quiet = refl
of_memory Io there quiet = absurd (quiet refl)

-- the bytes of rows are whole rows
whole_rows : (pairs : List (Keyed × ℕ)) → length (bytes_of pairs) % 24 ≡ 0
whole_rows pairs = let h = length-bytes_of pairs in omega arith

-- rows that a shard may have pass no limit
no_limit : (cap : ℕ) (rows : List (Row Keyed)) → length rows ≤ most_rows cap → weight_of rows ≤ cap → limit_passed cap rows ≡ None
no_limit cap rows short light =
    let a : nat_lt (most_rows cap) (length rows) ≡ false = false_from_ne_true _ (λ t. let lt = ltb-true (most_rows cap) (length rows) t in omega arith) in
    let b : nat_lt cap (weight_of rows) ≡ false = false_from_ne_true _ (λ t. let lt = ltb-true cap (weight_of rows) t in omega arith) in
    (λ i. cond (a i) (Some cause.Length) (cond (b i) (Some cause.Weight) None))

-- a shard's bytes, put into a shard without rows
module _ (n : ℕ) (saved : Core Keyed) (valid : IsCore n saved) (tell : TellAllKeys saved) (shard : ℕ) (before : Core Keyed) (bytes : List ℕ) (lt : shard < n)
    (long : length before.lists ≡ n) (empty : list_at before shard ≡ []) (those : AreBytesOf saved shard bytes) where
  told : rows_of bytes ≡ list_at saved shard
  told = those.back (tell shard)

  rows_are : list_at before shard ++ rows_of bytes ≡ list_at saved shard
  rows_are = ap (λ xs. xs ++ rows_of bytes) empty ∙ told

  of_shard : IsShard (rows_and_cap.shard (list_at saved shard) (cap_of n))
  of_shard = valid.valid shard [] (omega (arith, valid.count))

  loadable : AreLoadable before shard bytes
  loadable = record {
    whole = ap (λ (l : List ℕ). length l % 24) those.those ∙ whole_rows (map pair_of (list_at saved shard));
    joins = record {
      homes = λ q some. ap (λ l. q % l) long ∙ valid.homes shard q (subst (λ (rows : List (Row Keyed)). 0 < times q rows) told some);
      keys = subst (λ (rows : List (Row Keyed)). HasDistinctKeys rows) (sym rows_are) of_shard.keys;
    };
  }

  passes_none : limit_passed (cap_of (length before.lists)) (list_at before shard ++ rows_of bytes) ≡ None
  passes_none = (λ i. limit_passed (cap_of (long i)) (rows_are i)) ∙ no_limit (cap_of n) (list_at saved shard) of_shard.short of_shard.light

  -- such bytes are refused for want of memory alone
  pub refused : (error : LoadError) (after : Core Keyed) → Loads before shard bytes (Err error) after → error ≡ unloaded.Unit cause.Memory
  refused unloaded.Damaged after h = absurd (h.0 loadable)
  refused (unloaded.Unit cause.Memory) after h = refl
  refused (unloaded.Unit cause.Weight) after h = absurd (let e = sym passes_none ∙ h.1.0 in let f : ⊥ = cc in f)
  refused (unloaded.Unit cause.Length) after h = absurd (let e = sym passes_none ∙ h.1.0 in let f : ⊥ = cc in f)

module _ (kept rose : Type 0) (files : Files) (dir file_name : List ℕ) (n : ℕ) (saved : Core Keyed) (k : kept) (quiet : rose → ⊥) (valid : IsCore n saved)
    (hold : HoldCore files dir file_name n saved) (tell : TellAllKeys saved) where
  unread : (shard : ℕ) (f : ShardLoadFailure LoadError) → IsUnread kept rose (shard_path dir file_name shard) shard f → LacksMemory f
  unread shard (failure.Io number source) h = let why = h.1.cause k in of_memory (blame_of source).cause why.0 (λ io. quiet (why.1 io))
  unread shard (failure.Memory number) h = tt
  unread shard (failure.Deserialize number source) h = absurd h

  those_held : (shard : ℕ) (bytes : List ℕ) → shard < n → get files (shard_path dir file_name shard) ≡ Some bytes → AreBytesOf saved shard bytes
  those_held shard bytes lt is = let h = hold shard lt in subst (AreBytesOf saved shard) (let e : h.0 ≡ bytes = (let f : Some h.0 ≡ Some bytes = sym h.1.0 ∙ is in cc) in e) h.1.1

  -- each turn loads its shard, or tells that memory was refused
  all_or_memory : (shard : ℕ) (before after : Core Keyed) (turns : List (LoadTurn LoadError)) → CallsFrom LoadsShard shard before turns after → AreTrueFrom kept rose files dir file_name shard turns
      → shard + length turns ≡ n → length before.lists ≡ n → ((s : ℕ) → shard ≤ s → list_at before s ≡ []) → Any LacksMemory (failures_from shard turns) ⊎ (count_by is_loaded turns ≡ length turns)
  all_or_memory shard before after [] calls so count long rest = inr refl
  all_or_memory shard before after (Missing ∷ turns) calls so count long rest =
      absurd (let h = hold shard (omega arith) in let e = sym (so.0 k) ∙ h.1.0 in let f : ⊥ = cc in f)
  all_or_memory shard before after (Unread f ∷ turns) calls so count long rest = inl (any-here LacksMemory f (failures_from (suc shard) turns) (unread shard f so.0))
  all_or_memory shard before after (Given bytes (Err error) ∷ turns) calls so count long rest =
      let shown = calls.1.0 in
      inl (any-here LacksMemory (failure.Deserialize shard error) (failures_from (suc shard) turns)
      (refused n saved valid tell shard before shown.now (omega arith) long (rest shard (omega arith)) (those_held shard shown.now (omega arith) (so.0 k ∙ ap Some (sym calls.1.1))) error calls.0 calls.1.2))
  all_or_memory shard before after (Given bytes (Ok ok) ∷ turns) calls so count long rest =
      let shown = calls.1.0 in
      let loads = calls.1.2.1 in
      let rows = list_at before shard ++ rows_of shown.now in
      let now : calls.0 ≡ with_list before shard rows = loads.1.1.1 in
      let count' : suc shard + length turns ≡ n = omega arith in
      let long' : length (calls.0).lists ≡ n = ap (λ c. length c.lists) now ∙ length-set before.lists shard rows ∙ long in
      let rest' : (q : ℕ) → suc shard ≤ q → list_at calls.0 q ≡ [] =
      λ q h. ap (λ c. list_at c q) now ∙ get_or-set_other before.lists shard q rows [] (λ e. omega arith) ∙ rest q (omega arith) in
      elim (all_or_memory (suc shard) calls.0 after turns calls.2 so.1 count' long' rest') [
        | inl any ↦ inl any
        | inr all ↦ inr (omega (arith, counted bytes ok turns, all))
      ]

  -- the same of a whole load
  pub loads_all : (old new : Core Keyed) (result : LoadResult) → HasNoRows old → length old.lists ≡ n
      → IfOk result (λ report. IsLoad LoadsShard kept rose files dir file_name old new n report.loaded_shards report.missing_shards report.failures.items)
      → TellsLoadMemory result ⊎ AreLoaded n result
  loads_all old new (Err refused) none long loads = inl tt
  loads_all old new (Ok report) none long loads = elim (all_or_memory 0 old new loads.turns loads.calls loads.so (omega (arith, loads.each)) long (λ s le. none s)) [
    | inl any ↦ inl (subst (λ (fs : List (ShardLoadFailure LoadError)). Any LacksMemory fs) (sym loads.failed_shards) any)
    | inr all ↦ inr (loads.loaded_shards ∙ all ∙ loads.each)
  ]

-- a refusal changes nothing
pub unmoved : (before after : Core Keyed) (shard : ℕ) (bytes : List ℕ) (e : LoadError) → Loads before shard bytes (Err e) after → after ≡ before
unmoved before after shard bytes unloaded.Damaged h = h.1
unmoved before after shard bytes (unloaded.Unit cause.Memory) h = h
unmoved before after shard bytes (unloaded.Unit cause.Weight) h = h.1.1
unmoved before after shard bytes (unloaded.Unit cause.Length) h = h.1.1

-- a turn of a load keeps the number of shards, and the rows of the others
pub turn_length : (shard : ℕ) (before after : Core Keyed) (turn : LoadTurn LoadError) → TurnCalls LoadsShard shard before turn after → length after.lists ≡ length before.lists
turn_length shard before after Missing call = ap (λ c. length c.lists) call
turn_length shard before after (Unread f) call = ap (λ c. length c.lists) call
turn_length shard before after (Given bytes (Ok ok)) call = ap (λ c. length c.lists) call.2.1.1.1.1 ∙ length-set before.lists shard (list_at before shard ++ rows_of (call.0).now)
turn_length shard before after (Given bytes (Err error)) call = ap (λ c. length c.lists) (unmoved before after shard (call.0).now error call.2)

pub turn_others : (shard : ℕ) (before after : Core Keyed) (turn : LoadTurn LoadError) → TurnCalls LoadsShard shard before turn after → (q : ℕ) → q ≢ shard → list_at after q ≡ list_at before q
turn_others shard before after Missing call q ne = ap (λ c. list_at c q) call
turn_others shard before after (Unread f) call q ne = ap (λ c. list_at c q) call
turn_others shard before after (Given bytes (Ok ok)) call q ne =
    ap (λ c. list_at c q) call.2.1.1.1.1 ∙ get_or-set_other before.lists shard q (list_at before shard ++ rows_of (call.0).now) [] ne
turn_others shard before after (Given bytes (Err error)) call q ne = ap (λ c. list_at c q) (unmoved before after shard (call.0).now error call.2)

-- a load keeps the number of shards
calls_length : (shard : ℕ) (before after : Core Keyed) (turns : List (LoadTurn LoadError)) → CallsFrom LoadsShard shard before turns after → length after.lists ≡ length before.lists
calls_length shard before after [] calls = ap (λ c. length c.lists) calls
calls_length shard before after (turn ∷ turns) calls = calls_length (suc shard) calls.0 after turns calls.2 ∙ turn_length shard before calls.0 turn calls.1

pub loads_length : {F : Type 0} (m : Meaning F) (dir file_name : List ℕ) (n : ℕ) (before after : Core Keyed) (old new : F) (result : LoadResult) → AreLoaded n result
    → LoadsCore m dir file_name n before old result after new → length after.lists ≡ length before.lists
loads_length m dir file_name n before after old new (Err e) all h = absurd all
loads_length m dir file_name n before after old new (Ok report) all h = calls_length 0 before after h.loads.load.turns h.loads.load.calls

-- two lists that are as long and have the same at each place are one
pub same_list : {X : Type 0} (d : X) (xs ys : List X) → length xs ≡ length ys → ((s : ℕ) → s < length ys → slice_index_or xs s d ≡ slice_index_or ys s d) → xs ≡ ys
same_list d [] [] long each = refl
same_list d [] (y ∷ ys) long each = absurd (omega arith)
same_list d (x ∷ xs) [] long each = absurd (omega arith)
same_list d (x ∷ xs) (y ∷ ys) long each = λ i. each 0 (omega arith) i ∷ same_list d xs ys (omega arith) (λ s lt. each (suc s) (omega arith)) i

-- files that hold a core tell it
pub tells : (files : Files) (dir file_name : List ℕ) (n : ℕ) (core : Core Keyed) → TellAllKeys core → HoldCore files dir file_name n core → TellCore files dir file_name n core
tells files dir file_name n core tell hold s lt = let h = hold s lt in (h.0, (h.1.0, h.1.1.back (tell s)))
