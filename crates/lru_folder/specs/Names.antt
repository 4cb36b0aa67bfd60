-- The names of a shard's files, and where they stand.
use Rattle.std.specs.Prelude.{ℕ, ◌-◌, ◌==◌, ◌||◌, ◌&&◌, Bool, false, List, ◌++◌, codes, if◌then◌else◌, length, nat_eq, replicate, slice_index}
use Rattle.std.specs.List.{list_any, starts_with, ends_with}
use Rattle.std.specs.Fmt.{decimal, digits}

-- whether a name has a slash
abbrev pub has_slash : List ℕ → Bool
has_slash name = list_any (λ byte. byte == 47) name

-- whether a folder's text is empty or ends in a slash
abbrev pub is_closed : List ℕ → Bool
is_closed dir = length dir == 0 || slice_index dir (length dir - 1) == 47

-- the path of a name in a folder
abbrev pub path_text : List ℕ → List ℕ → List ℕ
path_text dir name = if is_closed dir then dir ++ name else dir ++ (codes "/" ++ name)

-- a word as eight lower hexadecimal digits
abbrev pub word_text : ℕ → List ℕ
word_text word = let shown = digits 16 false word in replicate (8 - length shown) 48 ++ shown

-- the file of a shard
abbrev pub shard_text : List ℕ → ℕ → List ℕ
shard_text file_name shard = file_name ++ (codes "." ++ decimal shard)

-- the file that a shard is first written to
abbrev pub temp_text : List ℕ → ℕ → ℕ → List ℕ
temp_text file_name shard word =
    file_name ++ (codes "." ++ (decimal shard ++ (codes "." ++ (word_text word ++ codes ".tmp"))))

-- the path of a shard's file
abbrev pub shard_path : List ℕ → List ℕ → ℕ → List ℕ
shard_path dir file_name shard = path_text dir (shard_text file_name shard)

-- the path of the file that it is first written to
abbrev pub temp_path : List ℕ → List ℕ → ℕ → ℕ → List ℕ
temp_path dir file_name shard word = path_text dir (temp_text file_name shard word)

-- whether the name is one that cleanup removes
abbrev pub is_temp_name : List ℕ → List ℕ → Bool
is_temp_name file_name name = starts_with nat_eq name file_name && ends_with nat_eq name (codes ".tmp")
