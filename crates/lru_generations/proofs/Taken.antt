-- What is taken for whole.
use Rattle.std.proofs.Common.{◌≡◌, inl, inr, ℕ, ◌≤◌, List, length, Option, Some, None, sym, ◌∙◌}
use Rattle.std.specs.FinMap.{get}
use Rattle.lru_folder.specs.Files.{Files}
use Rattle.lru_frames.specs.declared.mark.Mark.{Mark}
use Rattle.lru_generations.specs.declared.manifest.Manifest.{Manifest}
use Rattle.lru_generations.specs.Manifests.{IsManifest, manifest_bytes}
use Rattle.lru_generations.specs.Names.{manifest_path}
use Rattle.lru_generations.specs.Checkpoints.{IsKnown, IsTaken, IsWhole, most_shards}

-- a manifest that stands
pub record IsManifested (dir file_name : List ℕ) (generation : ℕ) (marks : List Mark) (files : Files) : Type 0 where
  pub numbers : IsManifest generation marks
  pub few : length marks ≤ most_shards
  pub manifest : get files (manifest_path dir file_name generation) ≡ Some (manifest_bytes generation marks)

module _ (dir file_name : List ℕ) where
  -- what is taken for whole has its manifest
  pub taken_manifest : (known : Option Manifest) (generation : ℕ) (marks : List Mark) (files : Files) → IsTaken dir file_name known generation marks files → IsManifested dir file_name generation marks files
  taken_manifest None generation marks files h = record { numbers = h.numbers; few = h.few; manifest = h.manifest }
  taken_manifest (Some known) generation marks files (inl h) = record { numbers = h.numbers; few = h.few; manifest = h.manifest }
  taken_manifest (Some known) generation marks files (inr h) = record { numbers = h.numbers; few = h.few; manifest = h.manifest }

  -- what is whole is taken for it
  pub whole_taken : (known : Option Manifest) (generation : ℕ) (marks : List Mark) (files : Files) → IsWhole dir file_name generation marks files → IsTaken dir file_name known generation marks files
  whole_taken None generation marks files h = h
  whole_taken (Some known) generation marks files h = inl h

  -- and so is what has the manifest that is known
  pub still_taken : (known : Option Manifest) (found : Manifest) (generation : ℕ) (files : Files) → found.generation ≡ generation → IsKnown known found → IsManifest generation found.frames.items
      → length found.frames.items ≤ most_shards → get files (manifest_path dir file_name generation) ≡ Some (manifest_bytes generation found.frames.items)
      → IsTaken dir file_name known generation found.frames.items files
  still_taken None found generation files is it numbers few manifest = absurd it
  still_taken (Some known) found generation files is it numbers few manifest = inr (record { same = it.0 ∙ is; marks_same = it.1; numbers = numbers; few = few; manifest = manifest })

  -- what is taken for whole and has not the manifest that is known is whole
  pub taken_unless : (known : Option Manifest) (found : Manifest) (generation : ℕ) (others : List Mark) (files : Files) → found.generation ≡ generation → others ≡ found.frames.items → ¬ IsKnown known found
      → IsTaken dir file_name known generation others files → IsWhole dir file_name generation others files
  taken_unless None found generation others files is same unlike h = h
  taken_unless (Some known) found generation others files is same unlike (inl h) = h
  taken_unless (Some known) found generation others files is same unlike (inr h) = absurd (unlike (h.same ∙ sym is, h.marks_same ∙ same))
