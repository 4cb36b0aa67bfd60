-- What a line means.
use Rattle.std.specs.Prelude.{◌≡◌, ℕ, ◌<◌, ◌==◌, ◌&&◌, nat_lt, not, false, List, [], ◌∷◌, length, map, codes, Option, Some, None, option_and_then, if◌then◌else◌}
use Rattle.std.specs.Str.{bytes_eq, is_utf8}
use Rattle.pingora_lru.specs.declared.calls.Call.{Call}
use Rattle.pingora_lru.specs.declared.calls.Call.TheVariants.{Admit, InsertTail, IncrementWeight, UpdateOrAdmit, SetWeight, Promote, PromoteTopN, Remove, EvictShard, EvictStep, EvictToLimit, SetWeightLimit, Peek, PeekWeight, PeekLru, Totals}
use Rattle.lru_tool_inside.specs.declared.command.Command.{Command}
use Rattle.lru_tool_inside.specs.declared.command.Command.TheVariants as command
use Rattle.lru_shard_files.specs.declared.snapshot.Keyed.{Keyed}
use Rattle.pingora_lru_files.specs.Names.{has_slash}
use Rattle.pingora_lru.specs.Calls.{IsAllowed}
use Rattle.lru_lines.specs.Lines.{number_of, most_of, parts_of, lines_of}

-- what a line asks for: a call of the core, the rows of a shard, or the core saved into a folder under a name, or loaded
pub data Asked : Type 0 where
  Do : (call : Call Keyed) → Asked
  ListRows : (shard : ℕ) → Asked
  Save : (dir : List ℕ) → (file : List ℕ) → Asked
  Load : (dir : List ℕ) → (file : List ℕ) → Asked

-- what a command asks for, its texts as bytes
abbrev pub asked : Command → Asked
asked (command.Do call) = Do call
asked (command.List shard) = ListRows shard
asked (command.Save dir file) = Save dir.now file.now
asked (command.Load dir file) = Load dir.now file.now

-- a text: a word of UTF-8 that is not empty
abbrev pub text_of : List ℕ → Option (List ℕ)
text_of word = if not (length word == 0) && is_utf8 word then Some word else None

-- the name of a file: a text without a slash
abbrev pub file_name_of : List ℕ → Option (List ℕ)
file_name_of word = if has_slash word then None else text_of word

abbrev pub keyed : ℕ → ℕ → Keyed
keyed k v = record { key = k; value = v }

abbrev pub bare : List ℕ → Option Asked
bare name =
    if bytes_eq name (codes "limit") then Some (Do EvictToLimit) else (
    if bytes_eq name (codes "total") then Some (Do Totals) else None)

abbrev pub with_one : List ℕ → ℕ → Option Asked
with_one name a =
    if bytes_eq name (codes "promote") then Some (Do (Promote a)) else (
    if bytes_eq name (codes "remove") then Some (Do (Remove a)) else (
    if bytes_eq name (codes "evict") then Some (Do (EvictShard a)) else (
    if bytes_eq name (codes "setlimit") then Some (Do (SetWeightLimit a)) else (
    if bytes_eq name (codes "peek") then Some (Do (Peek a)) else (
    if bytes_eq name (codes "peekw") then Some (Do (PeekWeight a)) else (
    if bytes_eq name (codes "lru") then Some (Do (PeekLru a)) else (
    if bytes_eq name (codes "list") && nat_lt a 2 then Some (ListRows a) else None)))))))

abbrev pub with_two : List ℕ → ℕ → ℕ → Option Asked
with_two name a b =
    if bytes_eq name (codes "setw") then Some (Do (SetWeight a b)) else (
    if bytes_eq name (codes "top") then Some (Do (PromoteTopN a b)) else (
    if bytes_eq name (codes "step") && nat_lt a 2 && nat_lt b 2 then Some (Do (EvictStep a b)) else None))

-- `update` gives the value to a row that is there and to a new one alike
abbrev pub with_three : List ℕ → ℕ → ℕ → ℕ → Option Asked
with_three name a b c =
    if bytes_eq name (codes "admit") then Some (Do (Admit a (keyed a b) c)) else (
    if bytes_eq name (codes "tail") then Some (Do (InsertTail a (keyed a b) c)) else (
    if bytes_eq name (codes "update") then Some (Do (UpdateOrAdmit a (keyed a b) (keyed a b) c)) else None))

abbrev pub with_four : List ℕ → ℕ → ℕ → ℕ → Option ℕ → Option Asked
with_four name a b c most =
    if bytes_eq name (codes "incr") then Some (Do (IncrementWeight a (keyed a b) c most)) else None

-- a name with a folder and a file's name, or with two numbers
abbrev pub of_name_and_two : List ℕ → List ℕ → List ℕ → Option Asked
of_name_and_two name a b =
    if bytes_eq name (codes "save") then option_and_then (λ dir. option_and_then (λ file. Some (Save dir file)) (file_name_of b)) (text_of a) else (
    if bytes_eq name (codes "load") then option_and_then (λ dir. option_and_then (λ file. Some (Load dir file)) (file_name_of b)) (text_of a) else
    option_and_then (λ x. option_and_then (λ y. with_two name x y) (number_of b)) (number_of a))

-- a name with its numbers or texts; anything else is no command
abbrev pub of_words : List (List ℕ) → Option Asked
of_words (name ∷ []) = bare name
of_words (name ∷ a ∷ []) = option_and_then (λ x. with_one name x) (number_of a)
of_words (name ∷ a ∷ b ∷ []) = of_name_and_two name a b
of_words (name ∷ a ∷ b ∷ c ∷ []) =
    option_and_then (λ x. option_and_then (λ y. option_and_then (λ z. with_three name x y z) (number_of c)) (number_of b)) (number_of a)
of_words (name ∷ a ∷ b ∷ c ∷ m ∷ []) =
    option_and_then (λ x. option_and_then (λ y. option_and_then (λ z. option_and_then (λ most. with_four name x y z most) (most_of m)) (number_of c)) (number_of b)) (number_of a)
of_words _ = None

-- words are separated by one space
abbrev pub command_of : List ℕ → Option Asked
command_of line = of_words (parts_of 32 line)

-- the commands of an input, a line each
abbrev pub commands_of : List ℕ → List (Option Asked)
commands_of input = map command_of (lines_of input)

-- the shards that a command names are there, and a file's name has no slash
abbrev pub IsPossible : Asked → Type 0
IsPossible (Do call) = IsAllowed 2 call
IsPossible (ListRows s) = s < 2
IsPossible (Save dir file) = has_slash file ≡ false
IsPossible (Load dir file) = has_slash file ≡ false

abbrev pub Possible : Option Asked → Type 0
Possible None = Unit {0}
Possible (Some command) = IsPossible command
