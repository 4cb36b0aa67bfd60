-- The world of the actors: what there is, what may happen in it, and what holds after anything that happened.
-- What an event is free to do stands in the event, or is any value for which its relation holds.
use Rattle.std.specs.Prelude.{◌≡◌, ℕ, ◌+◌, ◌-◌, ◌≤◌, ◌%◌, ◌^◌, ◌&&◌, Bool, true, false, List, [], ◌∷◌, ◌++◌, length, map, filter, take, replicate, sum_by, slice_get, slice_set, Option, Some, None, Result, Ok, Err, ◌==◌, if◌then◌else◌}
use Rattle.std.specs.List.{flat_map}
use Rattle.lru_mailbox.specs.declared.mail_error.MailError.{MailError}
use Rattle.lru_mailbox.specs.Mail.{Post, Mail, mail_of, empty, served, left, Pushes, PushesEvict}
use Rattle.lru_mailbox.specs.Queue.{Queue, dispatched}
use Rattle.lru_shard.specs.Row.{Row, weight_of, times}
use Rattle.lru_shard.specs.Shard.{shard}
use Rattle.lru_shard.specs.Victims.{longer_of}
use Rattle.lru_actors.specs.declared.message.LruMsg.{LruMsg}
use Rattle.lru_actors.specs.declared.message.LruMsg.TheVariants.{Evict}
use Rattle.lru_actors.specs.declared.effect.Effect.{Effect}
use Rattle.lru_actors.specs.Messages.{State, state_of}
use Rattle.lru_actors.specs.Processing.{Processes, ProcessesAll}
use Rattle.lru_actors.specs.Turns.{Sent, Turn, sent, turn, sent_of, turns_of, messages_of, rows_left, refusals, leaving, evictions, brings, removes, evicts, times_done, weight_in, AreAllowed, AreAnswered}

-- one shard with its mailbox and its actor. `accepted` are all messages that were ever put, `turns` those that were
-- consumed, `hand` those that the actor took and has still to consume, `behind` those that waited when the mailbox was stopped
pub record Actor (K : Type 0) : Type 0 where
  pub accepted : List (Sent K)
  pub turns : List (Turn K)
  pub hand : List (Sent K)
  pub behind : List (Sent K)
  pub post : Post (Sent K)
  pub state : State K
  -- the map of weights, as a function of hashes
  pub look : ℕ → Option ℕ
  -- how many rows the shard is told to have, to all threads
  pub len : ℕ

-- `evicted` are the rows that left for weight, each with its shard; `queue` are those that wait for a callback
pub record World (K : Type 0) : Type 0 where
  pub actors : List (Actor K)
  pub len : ℕ
  pub weight : ℕ
  pub evicted_len : ℕ
  pub evicted_weight : ℕ
  pub evicted : List (ℕ × (K × ℕ))
  pub called : List (K × ℕ)
  pub lost : List (K × ℕ)
  pub queue : Queue K
  pub stopped : Bool

-- what may happen
pub data Event (K : Type 0) : Type 0 where
  -- a sender puts a message into the mailbox of a shard, and is answered
  Send : (by s : ℕ) → (msg : LruMsg K) → (answer : Result (Unit {0}) (MailError (Sent K))) → Event K
  -- an actor with nothing in hand takes so many messages
  Take : (s : ℕ) → (n : ℕ) → Event K
  -- an actor consumes the first message in its hand
  Consume : (s : ℕ) → Event K
  -- an eviction worker that drew two shards, and read these lengths of them, puts `Evict` into the mailbox of one
  Look : (a b len_a len_b : ℕ) → Event K
  -- a callback worker takes the first waiting row
  Call : Event K
  -- the receivers leave
  Leave : Event K
  -- the stop reaches the eviction workers
  StopWorkers : Event K
  -- the stop reaches a mailbox
  StopMailbox : (s : ℕ) → Event K

module _ {K : Type 0} where
  -- the rows that an actor's turns leave
  abbrev pub rows_of : Actor K → List (Row K)
  rows_of a = a.state.shard.rows

  -- a message that was put is accepted
  abbrev pub accepted_by : Result (Unit {0}) (MailError (Sent K)) → Sent K → List (Sent K)
  accepted_by (Ok _) x = x ∷ []
  accepted_by (Err _) x = []

  -- a message is put as the mailbox's call `Puts` says, or refused. Whether there was memory is free
  abbrev pub IsPut : (Mail (Sent K) → Sent K → Result (Unit {0}) (MailError (Sent K)) → Mail (Sent K) → Type 0) → Sent K → Result (Unit {0}) (MailError (Sent K)) → Actor K → Actor K → Type 0
  IsPut Puts x answer old new =
      (room : ℕ) × ((mail : Mail (Sent K))
      × (Puts (mail_of old.post room) x answer mail × (new ≡ record old { post = mail.post; accepted = old.accepted ++ accepted_by answer x })))

  -- a sender puts a message other than `Evict`
  abbrev pub Sends : ℕ → LruMsg K → Result (Unit {0}) (MailError (Sent K)) → Actor K → Actor K → Type 0
  Sends by msg answer old new = (msg ≡ Evict → ⊥) × IsPut Pushes (sent (Some by) msg) answer old new

  -- an eviction worker puts `Evict`
  abbrev pub Urges : Actor K → Actor K → Type 0
  Urges old new = (answer : Result (Unit {0}) (MailError (Sent K))) × IsPut PushesEvict (sent None Evict) answer old new

  -- an actor takes messages, at most 64
  abbrev pub Takes : ℕ → Actor K → Actor K → Type 0
  Takes n old new = (old.hand ≡ []) × ((n ≤ 64) × (new ≡ record old { hand = take n old.post.waiting; post = served n old.post }))

  -- a mailbox is stopped
  abbrev pub Stops : Actor K → Actor K → Type 0
  Stops old new = new ≡ record old { behind = old.behind ++ old.post.waiting; post = left old.post }

  -- an event of one actor, which changes nothing else
  abbrev pub At : World K → ℕ → (Actor K → Actor K → Type 0) → World K → Type 0
  At old s Does new =
      (a : Actor K) × ((b : Actor K) × ((slice_get old.actors s ≡ Some a) × (Does a b × (new ≡ record old { actors = slice_set old.actors s b }))))

  -- the receivers leave: what waits is lost, and so is what comes later
  abbrev pub left_alone : World K → World K
  left_alone w = record w {
    lost = w.lost ++ w.queue.waiting;
    queue = record { waiting = []; closed = true; lost = (w.queue.lost + length w.queue.waiting) % 2 ^ 64 };
  }

  -- a row is called
  abbrev pub Calls : World K → World K → Type 0
  Calls old new =
      (p : K × ℕ) × ((rest : List (K × ℕ)) × ((old.queue.waiting ≡ p ∷ rest)
      × (new ≡ record old { called = old.called ++ p ∷ []; queue = record old.queue { waiting = rest } })))

  -- an actor after a message with this effect. What is told of its rows follows by the net difference
  abbrev pub advanced : Actor K → Sent K → Effect K → List (Sent K) → State K → (ℕ → Option ℕ) → Actor K
  advanced a x e rest state look = record a {
    turns = a.turns ++ turn x e ∷ [];
    hand = rest;
    state = state;
    look = look;
    len = a.len + e.len_after - e.len_before;
  }

  -- counters follow an effect by the net difference, and those of evictions follow the pairs that leave; each pair is dispatched
  abbrev pub followed : World K → ℕ → Actor K → Effect K → List (K × ℕ) → Queue K → World K
  followed w s b e pairs queue = record w {
    actors = slice_set w.actors s b;
    len = w.len + e.len_after - e.len_before;
    weight = w.weight + e.weight_after - e.weight_before;
    evicted_len = w.evicted_len + length pairs;
    evicted_weight = w.evicted_weight + sum_by (λ p. p.1) pairs;
    evicted = w.evicted ++ map (λ p. (s, p)) pairs;
    lost = if w.queue.closed then w.lost ++ pairs else w.lost;
    queue = queue;
  }

  -- a plain queue, into which a pair is put as `dispatched` says
  abbrev pub PutsPair : Queue K → ℕ → K → ℕ → Queue K → Type 0
  PutsPair q _ key weight q' = q' ≡ dispatched q key weight

  abbrev pub IsSameQueue : Queue K → Queue K → Type 0
  IsSameQueue q q' = q' ≡ q

  abbrev pub itself : Queue K → Queue K
  itself q = q

  -- whether a plain queue has memory is free
  abbrev pub AtAnyTime : Queue K → Type 0
  AtAnyTime q = Unit {0}

  module _ (IsClone : K → K → Type 0) where
    -- an actor consumes the first message in its hand, as `process_msg` does with a queue of pairs
    abbrev pub Consumes : ℕ → World K → World K → Type 0
    Consumes s old new =
        (a : Actor K) × ((x : Sent K) × ((rest : List (Sent K)) × ((e : Effect K) × ((state : State K) × ((look : ℕ → Option ℕ) × ((queue : Queue K)
        × ((slice_get old.actors s ≡ Some a) × ((a.hand ≡ x ∷ rest)
        × (Processes PutsPair IsSameQueue itself IsClone AtAnyTime a.state a.look old.queue x.msg e state look queue
        × (new ≡ followed old s (advanced a x e rest state look) e (leaving (rows_of a) (turn x e)) queue))))))))))

    abbrev pub Happens : World K → Event K → World K → Type 0
    Happens old (Send by s msg answer) new = At old s (Sends by msg answer) new
    Happens old (Take s n) new = At old s (Takes n) new
    Happens old (Consume s) new = Consumes s old new
    Happens old (Look a b len_a len_b) new = (old.stopped ≡ false) × At old (longer_of a b len_a len_b) Urges new
    Happens old Call new = Calls old new
    Happens old Leave new = new ≡ left_alone old
    Happens old StopWorkers new = new ≡ record old { stopped = true }
    Happens old (StopMailbox s) new = At old s Stops new

    -- events, one after the other
    abbrev pub Runs : World K → List (Event K) → World K → Type 0
    Runs old [] new = new ≡ old
    Runs old (e ∷ es) new = (mid : World K) × (Happens old e mid × Runs mid es new)
    -- what a sender has put into the mailbox of a shard, by these events, in its order

  abbrev pub put_by : ℕ → ℕ → Event K → List (LruMsg K)
  put_by by s (Send number shard msg (Ok _)) = if number == by && shard == s then msg ∷ [] else []
  put_by by s _ = []

  abbrev pub all_put_by : ℕ → ℕ → List (Event K) → List (LruMsg K)
  all_put_by by s events = flat_map (put_by by s) events

  module _ (IsClone : K → K → Type 0) where
    -- what holds of each shard, whose weights may sum up to the cap, after these events
    pub record IsKept (cap : ℕ) (events : List (Event K)) (w : World K) (s : ℕ) (a : Actor K) : Type 0 where
      -- in the order in which they were put: the consumed ones, those in hand, those left behind, those that wait
      pub order : a.accepted ≡ map sent_of a.turns ++ (a.hand ++ (a.behind ++ a.post.waiting))
      -- each sender's accepted messages are what it has put, in its order
      pub own : (by : ℕ) → messages_of by a.accepted ≡ all_put_by by s events
      -- and in its order they are consumed: first those that were, then those that come
      pub own_order : (by : ℕ) → messages_of by (map sent_of a.turns) ++ messages_of by (a.hand ++ (a.behind ++ a.post.waiting)) ≡ all_put_by by s events
      pub rows : rows_of a ≡ rows_left [] a.turns
      pub cap_is : a.state.shard.cap ≡ cap
      pub allowed : AreAllowed cap [] a.turns
      pub refused : a.state.refused ≡ refusals a.turns % 2 ^ 64
      pub map_is : (h : ℕ) → a.look h ≡ weight_in (rows_of a) h
      pub one_evict : (i j : ℕ) (x y : Sent K) → slice_get a.post.waiting i ≡ Some x → slice_get a.post.waiting j ≡ Some y → x.msg ≡ Evict → y.msg ≡ Evict → i ≡ j
      pub answered : AreAnswered IsClone [] a.turns
      -- of each hash, the rows that ever came are held, were removed or were evicted
      pub hashes : (h : ℕ) → times_done (brings h) [] a.turns ≡ times h (rows_of a) + times_done (removes h) [] a.turns + times_done (evicts h) [] a.turns
      -- what is told of its rows is how many there are
      pub len_is : a.len ≡ length (rows_of a)
      -- the evicted rows of this shard, in order
      pub evicted : map (λ (p : ℕ × (K × ℕ)). p.1) (filter (λ p. p.0 == s) w.evicted) ≡ evictions [] a.turns

  -- what holds of the whole, which began with n shards
  pub record IsWhole (n : ℕ) (w : World K) : Type 0 where
    pub shards : length w.actors ≡ n
    pub len : w.len ≡ sum_by (λ a. length (rows_of a)) w.actors
    pub weight : w.weight ≡ sum_by (λ a. weight_of (rows_of a)) w.actors
    pub evicted_len : w.evicted_len ≡ length w.evicted
    pub evicted_weight : w.evicted_weight ≡ sum_by (λ (p : ℕ × (K × ℕ)). p.1.1) w.evicted
    -- in the order in which they were evicted: the called ones, the lost ones, those that wait
    pub pairs : map (λ (p : ℕ × (K × ℕ)). p.1) w.evicted ≡ w.called ++ (w.lost ++ w.queue.waiting)
    pub lost : w.queue.lost ≡ length w.lost % 2 ^ 64

  abbrev pub fresh : ℕ → Actor K
  fresh cap = record { accepted = []; turns = []; hand = []; behind = []; post = empty; state = state_of (shard [] cap) 0; look = λ _. None; len = 0 }

  -- n shards whose weights may sum up to the cap, and nothing has happened yet
  abbrev pub start : ℕ → ℕ → World K
  start n cap = record {
    actors = replicate n (fresh cap);
    len = 0;
    weight = 0;
    evicted_len = 0;
    evicted_weight = 0;
    evicted = [];
    called = [];
    lost = [];
    queue = record { waiting = []; closed = false; lost = 0 };
    stopped = false;
  }

  -- `Puts`, `IsSame`, `queue` and `MayRefuse` are what a queue of evicted pairs says of itself
  module _ (IsClone : K → K → Type 0) {D : Type 0} (Puts : D → ℕ → K → ℕ → D → Type 0) (IsSame : D → D → Type 0) (queue : D → Queue K) (MayRefuse : D → Type 0) where
    -- an actor, and the world around it, after a batch with these effects
    pub record IsAfterBatch (a : Actor K) (taken rest : List (Sent K)) (effects : List (Effect K)) (state : State K) (look : ℕ → Option ℕ) (d : D) (s : ℕ) (new : World K) : Type 0 where
      pub actor : Actor K
      pub there : slice_get new.actors s ≡ Some actor
      pub turns : actor.turns ≡ a.turns ++ turns_of taken effects
      pub hand : actor.hand ≡ rest
      pub state_is : actor.state ≡ state
      pub map_is : (h : ℕ) → actor.look h ≡ look h
      pub queue_is : new.queue ≡ queue d

    -- a batch of messages that an actor has first in its hand, processed with a queue, is so many consume events in a row
    abbrev pub BatchIsConsumes : Type 0
    BatchIsConsumes =
        (taken rest : List (Sent K)) (effects : List (Effect K)) (old : World K) (s : ℕ) (a : Actor K) (d d' : D) (state : State K) (look : ℕ → Option ℕ)
        → slice_get old.actors s ≡ Some a → a.hand ≡ taken ++ rest → old.queue ≡ queue d
        → ProcessesAll Puts IsSame queue IsClone MayRefuse a.state a.look d (map (λ (x : Sent K). x.msg) taken) effects state look d'
        → (new : World K) × (Runs IsClone old (replicate (length taken) (Consume s)) new × IsAfterBatch a taken rest effects state look d' s new)

    -- a message that is processed with any queue is processed so with the plain queue that it is
    abbrev pub IsAsPlain : Type 0
    IsAsPlain =
        (old : State K) (look : ℕ → Option ℕ) (d : D) (msg : LruMsg K) (e : Effect K) (new : State K) (look' : ℕ → Option ℕ) (d' : D)
        → Processes Puts IsSame queue IsClone MayRefuse old look d msg e new look' d'
        → Processes PutsPair IsSameQueue itself IsClone AtAnyTime old look (queue d) msg e new look' (queue d')
