-- What a call that the device did not fail leaves of the number of failures.
use Rattle.std.proofs.Common.{◌≡◌, ℕ, Result, Err, inl, inr, arith}
use Rattle.std.proofs.lemmas.Bool.{cases_lt}
use Rattle.lru_folder.specs.declared.fault.FolderFault.{FolderFault}
use Rattle.lru_folder.specs.declared.fault.FolderFault.TheVariants.{Io}
use Rattle.lru_folder.specs.Folder.{HasCause}

pub no_fault : {T : Type 0} (before now : ℕ) (result : Result T FolderFault) → HasCause before now result → ¬ (result ≡ Err Io) → now ≡ before
no_fault before now result cause other = elim (cases_lt before now) [
  | inl rose ↦ absurd (other (cause.told rose))
  | inr same ↦ omega (arith, same, cause.later)
]
