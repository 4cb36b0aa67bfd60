-- What a cell for one reply holds.
use Rattle.std.specs.Prelude.{Bool, true, false, Option, Some, None}
use Rattle.lru_actors.specs.declared.reply_cell.Answer.{Answer}
use Rattle.lru_actors.specs.declared.reply_cell.Answer.TheVariants.{Waiting, Given, Left}

module _ {T : Type 0} where
  -- the first to fill it decides
  abbrev pub decided : Answer T → Answer T → Answer T
  decided Waiting with = with
  decided answer with = answer

  -- the reply that was given
  abbrev pub given_in : Answer T → Option T
  given_in (Given reply) = Some reply
  given_in Waiting = None
  given_in Left = None

  -- whether a reply may still come
  abbrev pub waits : Answer T → Bool
  waits Waiting = true
  waits (Given _) = false
  waits Left = false
