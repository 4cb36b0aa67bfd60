-- What each turn of a run was given.
use Rattle.std.proofs.Common.{◌≡◌, ℕ, ◌+◌, ◌<◌, ◌≤◌, suc, List, [], ◌∷◌, length, Ok, Err, refl, ap, subst, ◌∙◌, arith}
use Rattle.std.specs.Prelude.{IfOk, Vec}
use Rattle.std.specs.declared.alloc.AllocError.{AllocError}
use Rattle.std.specs.declared.alloc.Global.{Global}
use Rattle.rand_core.specs.Stream.{Stream, next_u32}
use Rattle.lru_folder.specs.Meaning.{Meaning}
use Rattle.lru_shard_files.specs.Saves.{SavesShards, TakesTurns}
use Rattle.lru_shard_files.specs.Turns.{Given, SaveTurn, RunsTo}
use Rattle.pingora_lru.specs.Core.{Core}
use Rattle.lru_shard_files.specs.declared.snapshot.Keyed.{Keyed}
use Rattle.lru_shard_files.specs.SnapshotSaves.{AreBytesOf, GivesShard}
use Rattle.lru_shard_files.specs.Stores.{SaveResult, SavesCore}

when : {E A : Type 0} (Q : Vec ℕ Global → Type 0) (given : Given E) → A → IfOk given (λ b. A → Q b) → IfOk given Q
when Q (Ok b) a h = h a
when Q (Err e) a h = h

-- a run whose calls give what holds of each number below n, seen as one that has no closure
gives_run : {S E : Type 0} (step : S → ℕ → Given E → S → Type 0) (Is : S → Type 0) (P : ℕ → Given E → Type 0) (n : ℕ)
    → ((f g : S) (k : ℕ) (given : Given E) → k < n → Is f → step f k given g → P k given × Is g)
    → (shard : ℕ) (f : S) (s : Stream) (turns : List (SaveTurn E)) (last : S) (rest : Stream) → shard + length turns ≤ n → RunsTo step shard f s turns last rest → Is f
    → RunsTo (λ (before : Unit {0}) (k : ℕ) (given : Given E) (after : Unit {0}). P k given) shard tt s turns tt rest
gives_run step Is P n h shard f s [] last rest le run is = (refl, run.1)
gives_run step Is P n h shard f s (turn ∷ turns) last rest le run is =
    let here = h f run.0 shard turn.given (omega arith) is run.1 in
    (tt, here.0, run.2, gives_run step Is P n h (suc shard) run.0 (next_u32 s).1 turns last rest (omega arith) run.3 here.1)

-- A save whose closure gives the bytes of the core that it holds, and stays as it is.
module _ {S F : Type 0} (m : Meaning F) (step : S → ℕ → Given AllocError → S → Type 0) (core_of : S → Core Keyed) (core : Core Keyed) (n : ℕ)
    (does : (f g : S) (k : ℕ) (given : Given AllocError) → step f k given g → IfOk given (λ bytes. k < n → AreBytesOf (core_of f) k bytes.items) × (g ≡ f))
    (dir file_name : List ℕ) (closure : S) (drawn : Stream) (old : F) (result : SaveResult) (rest : Stream) (new : F) (is : core_of closure ≡ core) where
  one_turn : (f g : S) (k : ℕ) (given : Given AllocError) → k < n → core_of f ≡ core → step f k given g → IfOk given (λ bytes. AreBytesOf core k bytes.items) × (core_of g ≡ core)
  one_turn f g k given lt same st = (
    when (λ bytes. AreBytesOf core k bytes.items) given lt
        (subst (λ (held : Core Keyed). IfOk given (λ bytes. k < n → AreBytesOf held k bytes.items)) same (does f g k given st).0),
    ap core_of (does f g k given st).1 ∙ same,
  )

  turns_seen : TakesTurns m step dir file_name n closure drawn old result rest new → TakesTurns m (GivesShard core) dir file_name n tt drawn old result rest new
  turns_seen h = record {
    turns = h.turns;
    last = tt;
    run = gives_run step (λ f. core_of f ≡ core) (λ k given. IfOk given (λ bytes. AreBytesOf core k bytes.items)) n one_turn 0 closure drawn h.turns h.last rest (omega (arith, h.ends.all)) h.run is;
    ends = h.ends;
    made = h.made;
    makes = h.makes;
    in_order = h.in_order;
    saves = h.saves;
  }

  save_seen : SavesShards m step dir file_name n closure drawn old result rest new → SavesCore m dir file_name n core drawn old result rest new
  save_seen h = record {
    turns = λ begun. turns_seen (h.turns begun);
    names = h.names;
    early = h.early;
    reason = h.reason;
    parents = h.parents;
    time = h.time;
    loss = h.loss;
    drawn = h.drawn;
    kept = h.kept;
  }

  -- the same, where the number of shards is told
  pub saves_seen : (shards : ℕ) → shards ≡ n → SavesShards m step dir file_name shards closure drawn old result rest new → SavesCore m dir file_name n core drawn old result rest new
  saves_seen shards all h = save_seen (subst (λ (count : ℕ). SavesShards m step dir file_name count closure drawn old result rest new) all h)
