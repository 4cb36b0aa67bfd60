-- Histories of shards and receipts of seats, as lists of stamps; and how they are tied.
use Rattle.std.specs.Prelude.{◌≡◌, ℕ, suc, ◌<◌, List, [], ◌∷◌, ◌++◌, Option, Some, None, slice_get}
use Rattle.lru_recording.specs.declared.entry.Stamp.{Stamp}
use Rattle.lru_recording.specs.declared.entry.Entry.{Entry}
use Rattle.lru_recording.specs.declared.entry.Receipt.{Receipt}
use Rattle.lru_recording.specs.declared.entry.Call.{Call}
use Rattle.lru_recording.specs.declared.entry.Reply.{Reply}

abbrev pub entry : ℕ → ℕ → Call → Reply → Entry
entry seat turn call reply = record { seat = seat; turn = turn; call = call; reply = reply }

abbrev pub receipt : ℕ → ℕ → Call → Reply → Receipt
receipt shard place call reply = record { shard = shard; place = place; call = call; reply = reply }

abbrev pub stamp : ℕ → ℕ → Entry → Stamp
stamp shard place e = record { shard = shard; place = place; seat = e.seat; turn = e.turn; call = e.call; reply = e.reply }

abbrev pub slip : ℕ → ℕ → Receipt → Stamp
slip seat turn r = record { shard = r.shard; place = r.place; seat = seat; turn = turn; call = r.call; reply = r.reply }

-- the stamps of a shard's entries, from this place on
abbrev pub stamps_in : ℕ → ℕ → List Entry → List Stamp
stamps_in shard place [] = []
stamps_in shard place (e ∷ es) = stamp shard place e ∷ stamps_in shard (suc place) es

-- the stamps of a seat's receipts, from this turn on
abbrev pub slips_in : ℕ → ℕ → List Receipt → List Stamp
slips_in seat turn [] = []
slips_in seat turn (r ∷ rs) = slip seat turn r ∷ slips_in seat (suc turn) rs

-- in a history the turns of each seat rise
abbrev pub TurnsRise : List Entry → Type 0
TurnsRise es = (p q : ℕ) (d e : Entry) → p < q → slice_get es p ≡ Some d → slice_get es q ≡ Some e → d.seat ≡ e.seat → d.turn < e.turn

-- a call with a reply is noted at the end; one without a reply is not noted
abbrev pub and_entry : List Entry → ℕ → ℕ → Call → Option Reply → List Entry
and_entry es seat turn call None = es
and_entry es seat turn call (Some reply) = es ++ entry seat turn call reply ∷ []

abbrev pub and_receipt : List Receipt → ℕ → ℕ → Call → Option Reply → List Receipt
and_receipt rs shard place call None = rs
and_receipt rs shard place call (Some reply) = rs ++ receipt shard place call reply ∷ []

-- the receipts grow by that of this call on this shard, with this reply, at some place; or, where it has no reply, by none
abbrev pub GetsReceipt : List Receipt → ℕ → Call → Option Reply → List Receipt → Type 0
GetsReceipt old shard call reply new = (place : ℕ) × (new ≡ and_receipt old shard place call reply)
