-- How a run of calls goes on.
use Rattle.std.specs.Prelude.{◌≡◌}
use Rattle.std.proofs.Common.{inl, inr, ⊎_elim, arith}
use Rattle.lru_folder.specs.Files.{Files}
use Rattle.lru_folder.specs.Folder.{Passes, LeavesOnly}
use Rattle.lru_folder.specs.Meaning.{Meaning}

module _ {F : Type 0} (meaning : Meaning F) (P : Files → Type 0) where
  -- before the first call
  pub started : (old : F) → meaning.keeps old → ((m : Files) → m ≡ meaning.files old → P m)
      → P (meaning.files old) → LeavesOnly meaning P old old
  started old kept same here = record { later = omega arith; each = λ m s. same m (meaning.only_now old m kept s); now = here; before = λ t m le s. inl s }

  -- one call more, each part of which has P
  pub goes_on : (part : Files → Files → Type 0) (old mid new : F) → LeavesOnly meaning P old mid → Passes meaning part mid new
      → ((m : Files) → part (meaning.files mid) m → P m) → LeavesOnly meaning P old new
  goes_on part old mid new so_far call here = record {
    later = omega (arith, so_far.later, call.later);
    each = λ m s. ⊎_elim (so_far.each m) (here m) (call.nothing_else (meaning.clock old) m so_far.later s);
    now = here (meaning.files new) call.leaves;
    before = λ t m le s. ⊎_elim (so_far.before t m le) (λ p. inr (here m p)) (call.nothing_else t m (omega (arith, le, so_far.later)) s);
  }

-- one run after another, where what each may leave has R
pub then_run : {F : Type 0} (meaning : Meaning F) (P Q R : Files → Type 0) (old mid new : F)
    → LeavesOnly meaning P old mid → LeavesOnly meaning Q mid new
    → ((m : Files) → P m → R m) → ((m : Files) → Q m → R m) → LeavesOnly meaning R old new
then_run meaning P Q R old mid new first second p q = record {
  later = omega (arith, first.later, second.later);
  each = λ m s. ⊎_elim (λ before. p m (first.each m before)) (q m) (second.before (meaning.clock old) m first.later s);
  now = q (meaning.files new) second.now;
  before = λ t m le s. ⊎_elim (λ before. ⊎_elim inl (λ h. inr (p m h)) (first.before t m le before)) (λ h. inr (q m h)) (second.before t m (omega (arith, le, first.later)) s);
}
