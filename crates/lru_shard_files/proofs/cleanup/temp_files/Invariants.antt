use Rattle.std.proofs.Common.{◌≡◌, filter, map, replicate, take, string_bytes, count_by}
use Rattle.std.specs.Prelude.{is_none}
use Rattle.std.specs.List.{filter_map}
use Rattle.lru_folder.specs.declared.fault.FolderFault.TheVariants.{Io}
use Rattle.lru_folder.specs.Blames.{blame_of, ReadDirEntry}
use Rattle.lru_folder.specs.Listings.{name_of}
use Rattle.lru_folder.specs.Names.{is_temp_name, path_text}
use Rattle.lru_shard_files.proofs.cleanup.temp_files.Given as goal

abbrev pub invariant-loop-entry : goal.invariant-loop-entry
invariant-loop-entry l = record {
  paths : map string_bytes l.paths.items ≡ map (path_text l.dir_path) (filter (is_temp_name l.file_name) (filter_map name_of (take l.entry-index l.listed)));
  unreadable : map blame_of l.unreadable.items
      ≡ replicate (count_by (λ entry. is_none (name_of entry)) (take l.entry-index l.listed)) (record { call = ReadDirEntry; path = l.dir_path; cause = Io });
}
