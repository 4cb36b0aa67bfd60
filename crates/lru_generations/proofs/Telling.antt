-- What is told of each generation of a folder.
use Rattle.std.proofs.Common.{◌≡◌, ℕ, ◌<◌, eqb, List, [], Result, Ok, Err, sym, subst}
use Rattle.std.specs.Prelude.{◌↔◌, AllPairs, Contains}
use Rattle.std.specs.List.Retain.{IsFiltered, DiffersFromLast}
use Rattle.std.specs.List.Sorted.{IsPermutation}
use Rattle.std.proofs.lemmas.List.Filters.{dedup_is}
use Rattle.std.proofs.lemmas.List.Kept.{Contains-dedup_nat, Contains-from_dedup}
use Rattle.std.proofs.lemmas.List.Sorted.{Contains-permutation, IsPermutation-sym}
use Rattle.lru_folder.specs.Files.{Files}
use Rattle.lru_folder.specs.Meaning.{Meaning}
use Rattle.lru_generations.specs.declared.names.PartName.{PartName}
use Rattle.lru_generations.specs.Listing.{HasParts}
use Rattle.lru_generations.specs.Names.{generation_of}
use Rattle.lru_generations.proofs.Members.{ComeBy}
use Rattle.lru_generations.specs.declared.errors.CheckpointError.{CheckpointError}
use Rattle.lru_generations.specs.Checkpoints.{IsWhole}
use Rattle.lru_generations.specs.Told.{AreAll, IsTold}
use Rattle.lru_generations.proofs.Refusals.{check_again}

-- in another order and each once they come from the same parts
pub sorted_come : (R : PartName → ℕ → Type 0) (parts : List PartName) (found sorted once turned : List ℕ) → ComeBy R parts found
    → IsPermutation found sorted → IsFiltered (DiffersFromLast eqb) [] sorted once → IsPermutation once turned
    → (n : ℕ) → Contains turned n ↔ ((part : PartName) × (Contains parts part × R part n))
sorted_come R parts found sorted once turned come moved filtered back n =
    let is = dedup_is eqb sorted once filtered in (
      λ h.
          let at_once = Contains-permutation turned once n (IsPermutation-sym once turned back) h in
          let at_sorted = Contains-from_dedup eqb sorted n (subst (λ (l : List ℕ). Contains l n) is at_once) in
          come.each n (Contains-permutation sorted found n (IsPermutation-sym found sorted moved) at_sorted),
      λ h.
          let at_sorted = Contains-permutation found sorted n moved (come.there h.0 n h.1.0 h.1.1) in
          Contains-permutation once turned n back (subst (λ (l : List ℕ). Contains l n) (sym is) (Contains-dedup_nat sorted n at_sorted)),
    )

-- the generations of all the parts of a folder
pub all_so : (dir file_name : List ℕ) (files : Files) (parts : List PartName) (generations : List ℕ) → HasParts dir file_name files parts
    → ((n : ℕ) → Contains generations n ↔ ((part : PartName) × (Contains parts part × (generation_of part ≡ n)))) → AllPairs (λ first later. later < first) generations → AreAll dir file_name files generations
all_so dir file_name files parts generations has found falling = record {
  found = λ n. (
    λ h. let from = (found n).0 h in let is = has.fits from.0 from.1.0 in (from.0, (is, (from.1.1, (has.there from.0 is).0 from.1.0))),
    λ h. (found n).1 (h.0, ((has.there h.0 h.1.0).1 h.1.1.1, h.1.1.0)),
  );
  falling = falling;
}

-- what is told by the files alone
pub told_again : {F : Type 0} (meaning : Meaning F) (dir file_name : List ℕ) (a b c d : F) → meaning.files a ≡ meaning.files c → (n : ℕ) (shards : Result ℕ CheckpointError)
    → IsTold dir file_name meaning a b n shards → IsTold dir file_name meaning c d n shards
told_again meaning dir file_name a b c d files n (Ok shards) h = (h.0, (subst (λ (f : Files). IsWhole dir file_name n h.0 f) files h.1.0, h.1.1))
told_again meaning dir file_name a b c d files n (Err error) h = (
  h.0,
  (
    λ w. h.1.0 (w.0, subst (λ (f : Files). IsWhole dir file_name n w.0 f) (sym files) w.1),
    check_again meaning dir file_name a b c d files n error h.0 h.1.1,
  ),
)
