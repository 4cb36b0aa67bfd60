-- Where what is known is whole still, what is taken for whole is whole.
use Rattle.std.proofs.Common.{inl, inr, ℕ, List, Option, Some, None, subst}
use Rattle.lru_folder.specs.Files.{Files}
use Rattle.lru_folder.specs.Meaning.{Meaning}
use Rattle.lru_frames.specs.declared.mark.Mark.{Mark}
use Rattle.lru_frames.specs.declared.row.Row.{Row}
use Rattle.lru_generations.specs.declared.manifest.Manifest.{Manifest}
use Rattle.lru_generations.specs.Checkpoints.{IsTaken, IsWhole}
use Rattle.lru_generations.proofs.Saved.{leaves_more, loses_more}
use Rattle.lru_generations.proofs.Taken.{whole_taken}
use Rattle.lru_generations.specs.Newest.{IsAsKnown, IsHighestTaken, IsNewest, IsTakenAt, IsWholeAt}
use Rattle.lru_generations.specs.Saving.{IsSavedAfter, SavesAfter, SavesNext}

module _ (dir file_name : List ℕ) (files : Files) where
  taken_whole : (known : Option Manifest) → IsAsKnown dir file_name files known → (generation : ℕ) (marks : List Mark) → IsTaken dir file_name known generation marks files → IsWhole dir file_name generation marks files
  taken_whole None is generation marks h = h
  taken_whole (Some known) is generation marks (inl h) = h
  taken_whole (Some known) is generation marks (inr h) =
      subst (λ (ms : List Mark). IsWhole dir file_name generation ms files) h.marks_same (subst (λ (n : ℕ). IsWhole dir file_name n known.frames.items files) h.same is)

  at_taken : (known : Option Manifest) (n : ℕ) → IsWholeAt dir file_name files n → IsTakenAt dir file_name files known n
  at_taken known n w = (w.0, whole_taken dir file_name known n w.0 files w.1)

  module _ (known : Option Manifest) (is : IsAsKnown dir file_name files known) where
    at_whole : (n : ℕ) → IsTakenAt dir file_name files known n → IsWholeAt dir file_name files n
    at_whole n w = (w.0, taken_whole known is n w.0 w.1)

    pub newest_taken : (newest : Option ℕ) → IsHighestTaken dir file_name files known newest → IsNewest dir file_name files newest
    newest_taken None h = λ n w. h n (at_taken known n w)
    newest_taken (Some newest) h = (at_whole newest h.0, λ n lt w. h.1 n lt (at_taken known n w))

    pub taken_newest : (newest : Option ℕ) → IsNewest dir file_name files newest → IsHighestTaken dir file_name files known newest
    taken_newest None h = λ n w. h n (at_whole n w)
    taken_newest (Some newest) h = (at_taken known newest h.0, λ n lt w. h.1 n lt (at_whole n w))

module _ {K V : Type 0} (key_bytes : K → List ℕ) (IsKey : K → Type 0) (data_bytes : V → List ℕ) (IsData : V → Type 0) (dir file_name : List ℕ)
    (HandsOut : ℕ → List (Row K V) → Type 0) (count : ℕ) where
  next_known : (known : Option Manifest) (found was m : Files) → IsAsKnown dir file_name found known → IsSavedAfter key_bytes IsKey data_bytes IsData dir file_name HandsOut count known found was m
      → IsSavedAfter key_bytes IsKey data_bytes IsData dir file_name HandsOut count None found was m
  next_known known found was m is h = record {
    stays = h.stays;
    newest = λ g rows before there top. h.newest g rows before there (taken_newest dir file_name found known is (Some g) top);
    comes = h.comes;
  }

  -- so all is as where nothing is known
  pub saves_known : (known : Option Manifest) {F : Type 0} (meaning : Meaning F) (old new : F) → IsAsKnown dir file_name (meaning.files old) known
      → SavesAfter key_bytes IsKey data_bytes IsData dir file_name HandsOut count known meaning old new → SavesNext key_bytes IsKey data_bytes IsData dir file_name HandsOut count meaning old new
  saves_known known meaning old new is h =
      let found = meaning.files old in
      let A = IsSavedAfter key_bytes IsKey data_bytes IsData dir file_name HandsOut count known found in
      let B = IsSavedAfter key_bytes IsKey data_bytes IsData dir file_name HandsOut count None found in
      record {
        any_moment = leaves_more meaning (A found) (B found) (λ m next. next_known known found found m is next) old new h.any_moment;
        any_loss = loses_more meaning A B (λ was m next. next_known known found was m is next) old new h.any_loss;
      }
