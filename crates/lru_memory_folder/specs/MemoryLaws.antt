-- What a folder in memory means, with the laws of a folder.
use Rattle.std.specs.Prelude.{◌≡◌, ◌≤◌, ℕ, zero, suc, List, [], ◌∷◌, length}
use Rattle.std.proofs.Common.{inr, refl, sym, subst, arith}
use Rattle.std.specs.FinMap.{from_entries}
use Rattle.lru_folder.specs.Files.{Files}
use Rattle.lru_memory_folder.specs.Calls.{Noted, effect, after, StoppedSince}
use Rattle.lru_folder.specs.Losses.{IsSpread, at_opening}
use Rattle.lru_folder.specs.Meaning.{Meaning}
use Rattle.lru_memory_folder.specs.Memory.{Memory, files_of, folders_of, clock_of, stopped_since_of, lost_since_of, loose_of, faults_of}
use Rattle.lru_memory_folder.specs.LosingLaws.{opened_own, own_left, left-files, LostSince-now}

-- the files now are among those that a stop could leave
pub StoppedSince-now : (cs : List Noted) (t : ℕ) (start : Files) → t ≤ length cs → StoppedSince cs t start (after cs start)
StoppedSince-now [] t start le = refl
StoppedSince-now (c ∷ cs) zero start le = inr (inr (StoppedSince-now cs zero (effect c start) (omega arith)))
StoppedSince-now (c ∷ cs) (suc t) start le = StoppedSince-now cs t (effect c start) (omega arith)

-- since now there is nothing else
pub StoppedSince-only : (cs : List Noted) (start m : Files) → StoppedSince cs (length cs) start m → m ≡ after cs start
StoppedSince-only [] start m s = s
StoppedSince-only (c ∷ cs) start m s = StoppedSince-only cs (effect c start) m s

pub memory_counts_now : (m : Memory) (t : ℕ) → t ≤ clock_of m → stopped_since_of m t (files_of m)
memory_counts_now m t le = StoppedSince-now m.calls t (from_entries m.begun) le

pub memory_only_now : (m : Memory) (f : Files) → stopped_since_of m (clock_of m) f → f ≡ files_of m
memory_only_now m f s = StoppedSince-only m.calls (from_entries m.begun) f s

-- what is there now, with any bytes at its loose paths, is among what a loss of power could leave
pub memory_counts_lost : (m : Memory) (t : ℕ) (f : Files) → t ≤ clock_of m → IsSpread (loose_of m) (files_of m) f → lost_since_of m t f
memory_counts_lost m t f le h =
    let start = at_opening (from_entries m.begun) in
    LostSince-now m.calls t start f le (own_left m.calls start (opened_own (from_entries m.begun)) f (subst (λ (files : Files). IsSpread (loose_of m) files f) (sym (left-files m.calls start)) h))

-- what a folder in memory means, which it always keeps
abbrev pub memory_meaning : Meaning Memory
memory_meaning = record {
  files = files_of;
  folders = folders_of;
  clock = clock_of;
  stopped_since = stopped_since_of;
  lost_since = lost_since_of;
  loose = loose_of;
  faults = faults_of;
  last_call = λ m. m.last;
  keeps = λ _. Unit {0};
  counts_now = λ m t _ le. memory_counts_now m t le;
  only_now = λ m f _ s. memory_only_now m f s;
  counts_lost = λ m t f _ le h. memory_counts_lost m t f le h;
}
