use Rattle.std.proofs.Common.{◌≡◌, ◌++◌, Some, None, map, replicate, string_bytes}
use Rattle.lru_folder.specs.Listings.{name_of}
use Rattle.lru_host_folder.proofs.steps.listing.Given as goal

-- the names so far
abbrev pub invariant-loop-name : goal.invariant-loop-name
invariant-loop-name l = map name_of l.listed.items ≡ map Some (map string_bytes l.yielded)

-- all names, and those so far that are no UTF-8
abbrev pub invariant-unread : goal.invariant-unread
invariant-unread l = map name_of l.listed.items ≡ map Some (map string_bytes l.fn.names.items) ++ replicate l.counter None
