-- What a fault of a folder is called.
use Rattle.std.specs.Prelude.{ℕ, List, codes}
use Rattle.lru_folder.specs.declared.fault.FolderFault.{FolderFault}
use Rattle.lru_folder.specs.declared.fault.FolderFault.TheVariants.{NotFound, Memory, Io}

abbrev pub fault_text : FolderFault → List ℕ
fault_text NotFound = codes "not found"
fault_text Memory = codes "out of memory"
fault_text Io = codes "input or output failed"
