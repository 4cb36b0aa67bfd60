-- What the program writes.
use Rattle.std.specs.declared.alloc.AllocError.{AllocError}
use Rattle.std.specs.Prelude.{◌≡◌, ℕ, ◌+◌, Bool, List, [], ◌∷◌, ◌++◌, length, map, codes, decimal, Option, Some, None, Result, Ok, Err, if◌then◌else◌}
use Rattle.std.specs.Io.KnownBytes.{Appends}
use Rattle.lru_shard_files.specs.declared.snapshot.Keyed.{Keyed}
use Rattle.pingora_lru.specs.declared.calls.Reply.{Reply}
use Rattle.pingora_lru.specs.declared.calls.Reply.TheVariants.{Shard, Inserted, Weight as NewWeight, Updated, Was, Held, Left, Evicted, Known, Last, Totals, Done}
use Rattle.pingora_lru.specs.declared.unit.Cause.{Cause}
use Rattle.pingora_lru.specs.declared.unit.Cause.TheVariants.{Memory, Weight, Length}
use Rattle.pingora_lru.specs.Row.{pair_of}
use Rattle.pingora_lru.specs.Core.{list_at}
use Rattle.pingora_lru.specs.Calls.{Gives}
use Rattle.lru_folder.specs.declared.errors.ShardSaveError.TheVariants.{Setup, AllShardsFailed}
use Rattle.lru_folder.specs.declared.reports.TempFileCleanupReport.{TempFileCleanupReport}
use Rattle.lru_tool_inside.specs.Commands.{Asked, Do, ListRows, Save, Load}
use Rattle.pingora_lru_files.specs.Stores.{Meaning, SaveResult, LoadResult, SavesCore, LoadsCore}
use Rattle.lru_tool_inside.specs.Storing.{State}

abbrev pub line : List ℕ → List ℕ
line text = text ++ 10 ∷ []

abbrev pub cause_text : Cause → List ℕ
cause_text Memory = codes "refused memory"
cause_text Weight = codes "refused weight"
cause_text Length = codes "refused length"

abbrev pub refused_text : Cause → List ℕ
refused_text cause = line (cause_text cause)

abbrev pub flag_text : Bool → List ℕ
flag_text held = line (if held then codes "true" else codes "false")

-- a weight, if there is one
abbrev pub weight_text : Option ℕ → List ℕ
weight_text None = line (codes "none")
weight_text (Some weight) = line (decimal weight)

-- a row, if there is one: its key, value and weight
abbrev pub row_text : Option (Keyed × ℕ) → List ℕ
row_text None = line (codes "none")
row_text (Some pair) = line (decimal pair.0.key ++ (32 ∷ decimal pair.0.value ++ (32 ∷ decimal pair.1)))

-- ` K:V:W`
abbrev pub pair_text : Keyed × ℕ → List ℕ
pair_text pair = 32 ∷ decimal pair.0.key ++ (58 ∷ decimal pair.0.value ++ (58 ∷ decimal pair.1))

abbrev pub pairs_text : List (Keyed × ℕ) → List ℕ
pairs_text [] = []
pairs_text (pair ∷ pairs) = pair_text pair ++ pairs_text pairs

-- rows in their order, with their count in front
abbrev pub rows_text : List (Keyed × ℕ) → List ℕ
rows_text pairs = decimal (length pairs) ++ (pairs_text pairs ++ 10 ∷ [])

-- an eviction that was cut short still tells the rows that left
abbrev pub cut_short_text : List (Keyed × ℕ) → List ℕ
cut_short_text pairs = codes "refused memory " ++ rows_text pairs

-- the line of a reply
abbrev pub reply_text : Reply Keyed → List ℕ
reply_text (Shard (Ok shard)) = line (decimal shard)
reply_text (Shard (Err refused)) = refused_text refused.cause
reply_text (Inserted (Ok added)) = flag_text added
reply_text (Inserted (Err refused)) = refused_text refused.cause
reply_text (NewWeight (Ok weight)) = line (decimal weight)
reply_text (NewWeight (Err cause)) = refused_text cause
reply_text (Updated (Ok was)) = weight_text was
reply_text (Updated (Err refused)) = refused_text refused.cause
reply_text (Was (Ok was)) = weight_text was
reply_text (Was (Err cause)) = refused_text cause
reply_text (Held held) = flag_text held
reply_text (Left row) = row_text row
reply_text (Evicted (Ok pairs)) = rows_text pairs.items
reply_text (Evicted (Err stopped)) = cut_short_text stopped.evicted.items
reply_text (Known weight) = weight_text weight
reply_text (Last (Ok row)) = row_text row
reply_text (Last (Err refused)) = refused_text Memory
reply_text (Totals len weight evicted_len evicted_weight) =
    line (decimal len ++ (32 ∷ decimal weight ++ (32 ∷ decimal evicted_len ++ (32 ∷ decimal evicted_weight))))
reply_text Done = line (codes "ok")

abbrev pub saved_text : ℕ → ℕ → List ℕ
saved_text saved failed = line (codes "saved " ++ (decimal saved ++ (codes " failed " ++ decimal failed)))

-- the line of a save
abbrev pub save_text : SaveResult → List ℕ
save_text (Ok report) = saved_text report.saved_shards report.failed_shards
save_text (Err (AllShardsFailed shards failures)) = saved_text 0 shards
save_text (Err (Setup error)) = line (codes "save refused")

-- how many temp files were removed, `-` where cleanup found no memory
abbrev pub removed_text : Result TempFileCleanupReport AllocError → List ℕ
removed_text (Ok cleanup) = decimal cleanup.removed_files
removed_text (Err refused) = codes "-"

-- the line of a load
abbrev pub load_text : LoadResult → List ℕ
load_text (Ok report) =
    line (codes "loaded " ++ (decimal report.loaded_shards ++ (codes " missing " ++ (decimal report.missing_shards
    ++ (codes " errored " ++ (decimal report.error_shards ++ (codes " removed " ++ removed_text report.temp_cleanup)))))))
load_text (Err refused) = refused_text Memory

abbrev pub error_line_text : ℕ → List ℕ
error_line_text n = line (codes "error line " ++ decimal n)

abbrev pub usage_text : List ℕ
usage_text = line (codes "usage: lru_tool LIMIT WATERMARK SEED")

-- a command may write this text, and leave this state
abbrev pub Answers : {F : Type 0} → Meaning F → State F → Asked → List ℕ → State F → Type 0
Answers m old (Do call) text new =
    (reply : Reply Keyed) × (Gives old.core old.words call reply new.core new.words × ((text ≡ reply_text reply) × (new.folder ≡ old.folder)))
Answers m old (ListRows s) text new = (text ≡ rows_text (map pair_of (list_at old.core s))) × (new ≡ old)
Answers m old (Save dir file) text new =
    (result : SaveResult) × (SavesCore m dir file 2 old.core old.words old.folder result new.words new.folder
    × ((text ≡ save_text result) × (new.core ≡ old.core)))
Answers m old (Load dir file) text new =
    (result : LoadResult) × (LoadsCore m dir file 2 old.core old.folder result new.core new.folder
    × ((text ≡ load_text result) × (new.words ≡ old.words)))

-- a command's reply was written
abbrev pub WritesReply : {F : Type 0} → Meaning F → State F → Asked → Option (List ℕ) → Option (List ℕ) → State F → Type 0
WritesReply m old command before after new = (text : List ℕ) × (Answers m old command text new × Appends before after text)

-- the lines, from number n on, may write this text, and leave this folder: each command's reply in turn, up to and with the first bad line
abbrev pub Serves : {F : Type 0} → Meaning F → State F → List (Option Asked) → ℕ → List ℕ → F → Type 0
Serves m state [] n text last = (text ≡ []) × (last ≡ state.folder)
Serves m state (None ∷ lines) n text last = (text ≡ error_line_text n) × (last ≡ state.folder)
Serves {F} m state (Some command ∷ lines) n text last =
    (reply : List ℕ) × ((rest : List ℕ) × ((after : State F) × (Answers m state command reply after × (Serves m after lines (n + 1) rest last × (text ≡ reply ++ rest)))))
