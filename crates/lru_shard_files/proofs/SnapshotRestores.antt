-- An empty core that loads all shards of another has its lists.
use Rattle.std.proofs.Common.{◌≡◌, ℕ, ◌+◌, ◌<◌, ◌≤◌, ◌≢◌, suc, List, [], ◌∷◌, ◌++◌, length, Some, Ok, Err, sym, ap, ◌∙◌, arith, cond, inl, inr}
use Rattle.std.specs.Prelude.{count_by, IfOk}
use Rattle.std.proofs.lemmas.Bool.{cases_eq}
use Rattle.std.proofs.lemmas.List.Sums.{sum_by-cons}
use Rattle.std.proofs.lemmas.List.{get_or-set_other, length-set}
use Rattle.pingora_lru.specs.Core.{Core, list_at, with_list}
use Rattle.lru_folder.specs.Files.{Files}
use Rattle.lru_shard_files.specs.Loading.{LoadTurn, Missing, Unread, Given, is_loaded, CallsFrom, AreTrueFrom, IsLoad}
use Rattle.lru_shard_files.specs.declared.snapshot.Keyed.{Keyed}
use Rattle.lru_shard_files.specs.declared.snapshot.LoadError.{LoadError}
use Rattle.lru_shard_files.specs.SnapshotLoads.{LoadsShard, rows_of}
use Rattle.lru_shard_files.specs.SnapshotSaves.{TellCore}
use Rattle.lru_shard_files.specs.Stores.{LoadResult, AreLoaded, HasNoRows}
use Rattle.lru_shard_files.proofs.SnapshotLoadLemmas.{list_at-with}

pub counted : (bytes : List ℕ) (done : Unit {0}) (turns : List (LoadTurn LoadError)) → count_by is_loaded (Given bytes (Ok done) ∷ turns) ≡ 1 + count_by is_loaded turns
counted bytes done turns = sum_by-cons (λ (t : LoadTurn LoadError). cond (is_loaded t) 1 0) (Given bytes (Ok done)) turns

count_le : (turns : List (LoadTurn LoadError)) → count_by is_loaded turns ≤ length turns
count_le [] = omega arith
count_le (Missing ∷ turns) = omega (arith, count_le turns)
count_le (Unread failure ∷ turns) = omega (arith, count_le turns)
count_le (Given bytes (Ok done) ∷ turns) = omega (arith, counted bytes done turns, count_le turns)
count_le (Given bytes (Err error) ∷ turns) = omega (arith, count_le turns)

module _ (kept rose : Type 0) (files : Files) (dir file_name : List ℕ) (n : ℕ) (saved : Core Keyed) (k : kept) (tell : TellCore files dir file_name n saved) where
  pub restored : (shard : ℕ) (before after : Core Keyed) (turns : List (LoadTurn LoadError)) → CallsFrom LoadsShard shard before turns after → AreTrueFrom kept rose files dir file_name shard turns → count_by is_loaded turns ≡ length turns → shard + length turns ≡ n → length before.lists ≡ n → ((s : ℕ) → s < shard → list_at before s ≡ list_at saved s) → ((s : ℕ) → shard ≤ s → list_at before s ≡ []) → (s : ℕ) → s < n → list_at after s ≡ list_at saved s
  restored shard before after [] calls so all count long done rest s lt = ap (λ c. list_at c s) calls ∙ done s (omega arith)
  restored shard before after (Missing ∷ turns) calls so all count long done rest s lt = absurd (omega (arith, count_le turns))
  restored shard before after (Unread failure ∷ turns) calls so all count long done rest s lt = absurd (omega (arith, count_le turns))
  restored shard before after (Given bytes (Err error) ∷ turns) calls so all count long done rest s lt = absurd (omega (arith, count_le turns))
  restored shard before after (Given bytes (Ok ok) ∷ turns) calls so all count long done rest s lt =
      let shown = calls.1.0 in
      let loads = calls.1.2.1 in
      let t = tell shard (omega arith) in
      let same : bytes ≡ t.0 = (let e : Some bytes ≡ Some t.0 = sym (so.0 k) ∙ t.1.0 in (cc)) in
      let rows : list_at before shard ++ rows_of shown.now ≡ list_at saved shard =
      ap (λ xs. xs ++ rows_of shown.now) (rest shard (omega arith)) ∙ ap rows_of (calls.1.1 ∙ same) ∙ t.1.1 in
      let now : calls.0 ≡ with_list before shard (list_at saved shard) = loads.1.1.1 ∙ ap (λ rs. with_list before shard rs) rows in
      let there : shard < length before.lists = omega arith in
      let here : list_at calls.0 shard ≡ list_at saved shard = ap (λ c. list_at c shard) now ∙ list_at-with before shard (list_at saved shard) there in
      let other : (q : ℕ) → q ≢ shard → list_at calls.0 q ≡ list_at before q = λ q ne. ap (λ c. list_at c q) now ∙ get_or-set_other before.lists shard q (list_at saved shard) [] ne in
      let count' : suc shard + length turns ≡ n = omega arith in
      let long' : length (calls.0).lists ≡ n = ap (λ c. length c.lists) now ∙ length-set before.lists shard (list_at saved shard) ∙ long in
      let all' : count_by is_loaded turns ≡ length turns = omega (arith, counted bytes ok turns) in
      restored (suc shard) calls.0 after turns calls.2 so.1 all' count' long'
      (λ q h. elim (cases_eq q shard) [ inl e ↦ ap (λ p. list_at calls.0 p) e ∙ here ∙ ap (λ p. list_at saved p) (sym e) | inr ne ↦ other q ne ∙ done q (omega arith) ])
      (λ q h. other q (λ e. omega arith) ∙ rest q (omega arith)) s lt

  -- the same of a whole load, whose report has room
  pub restored_all : (old new : Core Keyed) (result : LoadResult) → HasNoRows old → length old.lists ≡ n → IfOk result (λ report. IsLoad LoadsShard kept rose files dir file_name old new n report.loaded_shards report.missing_shards report.failures.items)
      → AreLoaded n result → (s : ℕ) → s < n → list_at new s ≡ list_at saved s
  restored_all old new (Err refused) none long loads all s lt = absurd all
  restored_all old new (Ok report) none long loads all s lt =
      restored 0 old new loads.turns loads.calls loads.so (sym loads.loaded_shards ∙ all ∙ sym loads.each) (omega (arith, loads.each)) long
      (λ q below. absurd (omega arith)) (λ q above. none q) s lt
