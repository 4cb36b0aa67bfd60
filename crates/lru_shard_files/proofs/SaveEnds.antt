-- The end of a save whose shards had their turns.
use Rattle.std.proofs.Common.{◌≡◌, ◌≢◌, ◌≤◌, ◌↔◌, ℕ, Bool, true, false, cond, nat_lt, List, Option, Some, None, Ok, Err, refl, ap, subst, arith}
use Rattle.std.proofs.lemmas.Bool.{ltb-false}
use Rattle.rand_core.specs.Stream.{Stream}
use Rattle.lru_folder.specs.declared.errors.ShardSaveError.TheVariants.{Setup, AllShardsFailed}
use Rattle.lru_folder.specs.Meaning.{Meaning}
use Rattle.lru_shard_files.specs.Progress.{IsSaveOf, Progress, Tells, next_of}
use Rattle.lru_shard_files.specs.Saves.{SaveResultOf, SavesShards, TakesTurns}
use Rattle.lru_shard_files.specs.Turns.{Given, SaveTurn}
use Rattle.lru_shard_files.proofs.SavesSoFar.{IsSoFar}

-- no shard is left
next_none : {E : Type 0} (p : Progress E) (r : Option ℕ) → r ≡ next_of p → ((x : ℕ) → r ≢ Some x) → p.shards ≤ p.next
next_none p r is none = go (nat_lt p.next p.shards) refl is
  where
    go : (b : Bool) → nat_lt p.next p.shards ≡ b → r ≡ cond b (Some p.next) None → p.shards ≤ p.next
    go true lt some = absurd (none p.next some)
    go false ge some = ltb-false p.next p.shards ge

-- the turns are those of a whole save
pub ends_all : {E : Type 0} (dir file_name : List ℕ) (shards : ℕ) (turns : List (SaveTurn E)) (saver : Progress E) (next : Option ℕ) (result : SaveResultOf E)
    → IsSoFar dir file_name shards turns saver → next ≡ next_of saver → ((x : ℕ) → next ≢ Some x) → Tells saver.shards saver.failures result
    → IsSaveOf dir file_name shards turns result
ends_all dir file_name shards turns saver next result so_far is none tells =
    let past = next_none saver next is none in
    let next_is = ap (λ p. p.next) so_far.saver_is in
    let shards_is = ap (λ p. p.shards) so_far.saver_is in
    record {
      all = omega (arith, past, next_is, shards_is, so_far.some);
      ends = so_far.ends;
      told = subst (λ (p : Progress _). Tells p.shards p.failures result) so_far.saver_is tells;
    }

-- so the save as a whole is one
pub saves_all : {F S E : Type 0} (m : Meaning F) (step : S → ℕ → Given E → S → Type 0) (dir file_name : List ℕ) (shards : ℕ) (closure : S) (drawn_from : Stream) (old : F)
    (result : SaveResultOf E) (rest : Stream) (new : F) (told : ℕ) (failures : _) → Tells told failures result
    → TakesTurns m step dir file_name shards closure drawn_from old result rest new → (m.keeps old ↔ m.keeps new)
    → SavesShards m step dir file_name shards closure drawn_from old result rest new
saves_all m step dir file_name shards closure drawn_from old (Ok report) rest new told failures tells turns kept = record {
  turns = λ begun. turns;
  names = tt;
  early = λ e. absurd (let f : ⊥ = cc in f);
  reason = λ k. tt;
  parents = λ k. tt;
  time = λ k. tt;
  loss = λ k. tt;
  drawn = tt;
  kept = kept;
}
saves_all m step dir file_name shards closure drawn_from old (Err (AllShardsFailed count all)) rest new told failures tells turns kept = record {
  turns = λ begun. turns;
  names = tt;
  early = λ e. absurd (let f : ⊥ = cc in f);
  reason = λ k. tt;
  parents = λ k. tt;
  time = λ k. tt;
  loss = λ k. tt;
  drawn = tt;
  kept = kept;
}
saves_all m step dir file_name shards closure drawn_from old (Err (Setup error)) rest new told failures tells turns kept = absurd tells
