-- The calls of a load, seen as what they do to a value that the closure holds.
use Rattle.std.proofs.Common.{◌≡◌, ℕ, ◌+◌, ◌<◌, ◌≤◌, suc, List, [], ◌∷◌, length, Ok, Err, ap, ◌∙◌, arith}
use Rattle.std.specs.Prelude.{Result, IfOk}
use Rattle.std.specs.Borrow.{Bor}
use Rattle.lru_folder.specs.Files.{Files}
use Rattle.lru_folder.specs.declared.errors.ShardLoadFailure.{ShardLoadFailure}
use Rattle.lru_shard_files.specs.Loading.{LoadTurn, Missing, Unread, Given, TurnCalls, CallsFrom, IsLoad}

pub if_ok : {X E : Type 0} (P Q : X → Type 0) → ((x : X) → P x → Q x) → (r : Result X E) → IfOk r P → IfOk r Q
if_ok P Q f (Ok x) h = f x h
if_ok P Q f (Err e) h = h

module _ {C D E : Type 0} (step : C → ℕ → Bor (List ℕ) → Result (Unit {0}) E → C → Type 0) (seen : D → ℕ → Bor (List ℕ) → Result (Unit {0}) E → D → Type 0) (view : C → D) (n : ℕ) (shows : (f g : C) (k : ℕ) (shown : Bor (List ℕ)) (answer : Result (Unit {0}) E) → k < n → step f k shown answer g → seen (view f) k shown answer (view g)) where
  pub turn_seen : (shard : ℕ) (f : C) (turn : LoadTurn E) (g : C) → shard < n → TurnCalls step shard f turn g → TurnCalls seen shard (view f) turn (view g)
  turn_seen shard f Missing g lt h = ap view h
  turn_seen shard f (Unread failure) g lt h = ap view h
  turn_seen shard f (Given bytes answer) g lt h = (h.0, h.1, shows f g shard h.0 answer lt h.2)

  pub calls_seen : (shard : ℕ) (f : C) (turns : List (LoadTurn E)) (g : C) → shard + length turns ≤ n → CallsFrom step shard f turns g → CallsFrom seen shard (view f) turns (view g)
  calls_seen shard f [] g le h = ap view h
  calls_seen shard f (turn ∷ turns) g le h =
      (view h.0, turn_seen shard f turn h.0 (omega arith) h.1, calls_seen (suc shard) h.0 turns g (omega arith) h.2)

  unfoldable pub load_seen : (kept rose : Type 0) (files : Files) (dir file_name : List ℕ) (before after : C) (loaded missing : ℕ) (failures : List (ShardLoadFailure E)) → IsLoad step kept rose files dir file_name before after n loaded missing failures → IsLoad seen kept rose files dir file_name (view before) (view after) n loaded missing failures
  load_seen kept rose files dir file_name before after loaded missing failures h = record {
    turns = h.turns;
    each = h.each;
    calls = calls_seen 0 before h.turns after (omega (arith, h.each)) h.calls;
    so = h.so;
    loaded_shards = h.loaded_shards;
    missing_shards = h.missing_shards;
    failed_shards = h.failed_shards;
  }

-- what each call keeps, all of them keep
pub calls_keep : {C E X : Type 0} (step : C → ℕ → Bor (List ℕ) → Result (Unit {0}) E → C → Type 0) (tag : C → X) → ((f g : C) (k : ℕ) (shown : Bor (List ℕ)) (answer : Result (Unit {0}) E) → step f k shown answer g → tag g ≡ tag f) → (shard : ℕ) (f : C) (turns : List (LoadTurn E)) (g : C) → CallsFrom step shard f turns g → tag g ≡ tag f
calls_keep step tag keeps shard f [] g h = ap tag h
calls_keep step tag keeps shard f (Missing ∷ turns) g h = calls_keep step tag keeps (suc shard) h.0 turns g h.2 ∙ ap tag h.1
calls_keep step tag keeps shard f (Unread failure ∷ turns) g h = calls_keep step tag keeps (suc shard) h.0 turns g h.2 ∙ ap tag h.1
calls_keep step tag keeps shard f (Given bytes answer ∷ turns) g h = calls_keep step tag keeps (suc shard) h.0 turns g h.2 ∙ keeps f h.0 shard h.1.0 answer h.1.2
