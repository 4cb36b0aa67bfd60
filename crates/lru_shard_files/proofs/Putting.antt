-- One turn of a saver.
use Rattle.std.proofs.Common.{◌≡◌, ℕ, List, subst}
use Rattle.lru_shard_files.specs.Progress.{Progress}

-- progress is its parts
pub same_progress : {E : Type 0} (a b : Progress E) → a.dir ≡ b.dir → a.file_name ≡ b.file_name → a.shards ≡ b.shards → a.next ≡ b.next → a.failures ≡ b.failures → a ≡ b
same_progress a b dir file_name shards next failures =
    λ i. record { dir = dir i; file_name = file_name i; shards = shards i; next = next i; failures = failures i }

-- what holds of a shard's place holds of the same place
pub at_place : (P : List ℕ → List ℕ → ℕ → Type 0) (dir dir' file_name file_name' : List ℕ) (shard shard' : ℕ)
    → dir ≡ dir' → file_name ≡ file_name' → shard ≡ shard' → P dir file_name shard → P dir' file_name' shard'
at_place P dir dir' file_name file_name' shard shard' dir_is name_is shard_is h =
    subst (λ (p : List ℕ × List ℕ × ℕ). P p.0 p.1 p.2) (λ i. (dir_is i, name_is i, shard_is i)) h
