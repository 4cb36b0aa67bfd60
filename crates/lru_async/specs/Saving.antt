-- What a save did with the shards.
use Rattle.std.specs.Prelude.{◌≡◌, ℕ, ◌+◌, List, [], ◌∷◌, Option, Some, None, option_map, Result, Ok, Err}
use Rattle.std.specs.Option.{ForSome}
use Rattle.lru_async.specs.declared.async_lru.ShardData.{ShardData}
use Rattle.lru_async.specs.declared.saving.SaveReport.{SaveReport}

module _ {K E : Type 0} where
  -- what became of a shard more: its rows were handed on, and this was answered; or it gave none
  abbrev pub added : Option (ShardData K × Result (Unit {0}) E) → SaveReport → SaveReport
  added None r = record r { missing = r.missing + 1 }
  added (Some (rows, Ok _)) r = record r { written = r.written + 1 }
  added (Some (rows, Err _)) r = record r { refused = r.refused + 1 }

  abbrev pub report_of : List (Option (ShardData K × Result (Unit {0}) E)) → SaveReport
  report_of [] = record { written = 0; refused = 0; missing = 0 }
  report_of (end ∷ ends) = added end (report_of ends)

  -- `Gives` is what a closure answers to rows
  module _ (Gives : ShardData K → Result (Unit {0}) E → Type 0) where
    -- these rows were handed on, if there are any, and what was answered is counted
    abbrev pub HandsOn : Option (ShardData K) → SaveReport → SaveReport → Type 0
    HandsOn rows old new =
        (end : Option (ShardData K × Result (Unit {0}) E)) × (option_map (λ e. e.0) end ≡ rows) × ForSome end (λ e. Gives e.0 e.1) × (new ≡ added end old)

    -- what became of so many shards, the last one first: each was handed on once, with rows of which `Has` holds, or gave none
    abbrev pub AreSaved : (ShardData K → Type 0) → ℕ → List (Option (ShardData K × Result (Unit {0}) E)) → Type 0
    AreSaved Has count [] = count ≡ 0
    AreSaved Has count (end ∷ ends) =
        (before : ℕ) × (count ≡ before + 1) × ForSome end (λ e. (e.0.shard_index ≡ before) × Has e.0 × Gives e.0 e.1) × AreSaved Has before ends

    -- a save of so many shards is told by this report
    abbrev pub IsReport : (ShardData K → Type 0) → ℕ → SaveReport → Type 0
    IsReport Has count report = (ends : List (Option (ShardData K × Result (Unit {0}) E))) × AreSaved Has count ends × (report ≡ report_of ends)

    -- and by how many were written
    abbrev pub IsWritten : (ShardData K → Type 0) → ℕ → ℕ → Type 0
    IsWritten Has count written = (report : SaveReport) × IsReport Has count report × (written ≡ report.written)
