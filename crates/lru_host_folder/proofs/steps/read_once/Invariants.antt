use Rattle.std.proofs.Common.{◌≡◌, ℕ}
use Rattle.lru_host_folder.specs.Steps.{interrupted}
use Rattle.lru_host_folder.proofs.steps.read_once.Given as goal

-- so many reads were interrupted, and no more was done
abbrev pub invariant-tries : goal.invariant-tries
invariant-tries g l = record {
  reads : (n : ℕ) × (g.S.System.book.notes l.system ≡ interrupted g.S.System.book.note n (g.S.System.book.notes l.initial.system));
  place : g.S.System.book.file_of l.file ≡ g.S.System.book.file_of l.initial.file;
}
