-- What a list of `Listed` says.
use Rattle.std.specs.Prelude.{ℕ, List, Option, Some, None, string_bytes}
use Rattle.lru_folder.specs.declared.listed.Listed.{Listed}
use Rattle.lru_folder.specs.declared.listed.Listed.TheVariants.{Name, Unreadable}

-- the name, where it can be read
abbrev pub name_of : Listed → Option (List ℕ)
name_of (Name name) = Some (string_bytes name)
name_of Unreadable = None
