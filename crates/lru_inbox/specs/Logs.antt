-- The logs of shards: what each one's mailbox accepted, in order, and what is known of them.
use Rattle.std.specs.Prelude.{◌≡◌, ℕ, ◌≤◌, ◌==◌, if◌then◌else◌, List, [], ◌∷◌, ◌++◌, map, take, drop}
use Rattle.atomic_table.specs.Table.{Me, Step}
use Rattle.lru_short_locks.specs.Hands.{total, up, Among, Held}
use Rattle.lru_inbox.specs.declared.hand.Log.{Log}
use Rattle.lru_inbox.specs.declared.hand.Front.{Front}
use Rattle.lru_inbox.specs.declared.hand.LogHand.{LogHand}

-- ys goes on where xs ends
abbrev pub Begins : {A : Type 0} → List A → List A → Type 0
Begins {A} xs ys = (rest : List A) × (xs ++ rest ≡ ys)

module _ {E : Type 0} where
  abbrev pub log : ℕ → List E → List E → Log E
  log shard taken left = record { shard = shard; taken = taken; left = left }

  abbrev pub front : ℕ → List E → Front E
  front shard seen = record { shard = shard; seen = seen }

  abbrev pub hand : List (Log E) → List (Front E) → List (Front E) → LogHand E
  hand logs takers fronts = record { logs = logs; takers = takers; fronts = fronts }

  -- all that was accepted, in order
  abbrev pub accepted : Log E → List E
  accepted l = l.taken ++ l.left

  -- the whole log, as it was seen
  abbrev pub front_of : Log E → Front E
  front_of l = front l.shard (accepted l)

  -- the first so many of what was seen
  abbrev pub begun : ℕ → Front E → Front E
  begun count f = front f.shard (take count f.seen)

  -- a hand that speaks for one log, for one who takes from a shard, or for what was seen
  abbrev pub of_log : Log E → LogHand E
  of_log l = hand (l ∷ []) [] []

  abbrev pub of_taker : ℕ → List E → LogHand E
  of_taker shard taken = hand [] (front shard taken ∷ []) []

  abbrev pub of_fronts : List (Front E) → LogHand E
  of_fronts fronts = hand [] [] fronts

  -- the first log
  abbrev pub first_log : List (Log E) → Log E
  first_log [] = log 0 [] []
  first_log (l ∷ _) = l

  abbrev pub log_of : LogHand E → Log E
  log_of v = first_log v.logs

  -- what the first of those who take had
  abbrev pub first_seen : List (Front E) → List E
  first_seen [] = []
  first_seen (f ∷ _) = f.seen

  abbrev pub taken_by : LogHand E → List E
  taken_by v = first_seen v.takers

  -- more was put
  abbrev pub put_in : Log E → List E → Log E
  put_in l said = log l.shard l.taken (l.left ++ said)

  -- so many more were taken, or as many as there were
  abbrev pub taken_from : Log E → ℕ → Log E
  taken_from l count = log l.shard (l.taken ++ take count l.left) (drop count l.left)

  -- so many empty logs, from this number up, and those who take from them
  abbrev pub blank_logs : ℕ → ℕ → List (Log E)
  blank_logs from count = map (λ n. log n [] []) (up from count)

  abbrev pub blank_fronts : ℕ → ℕ → List (Front E)
  blank_fronts from count = map (λ n. front n []) (up from count)

  -- how many have this number
  abbrev pub logs_of : ℕ → List (Log E) → ℕ
  logs_of n logs = total (λ l. if l.shard == n then 1 else 0) logs

  abbrev pub takers_of : ℕ → List (Front E) → ℕ
  takers_of n takers = total (λ t. if t.shard == n then 1 else 0) takers

  -- one who takes had what the log says was taken
  abbrev pub IsTaken : Log E → Front E → Type 0
  IsTaken l t = l.taken ≡ t.seen

  -- the log begins with what was seen
  abbrev pub IsSeen : Log E → Front E → Type 0
  IsSeen l f = Begins f.seen (accepted l)

  -- there is a log of that shard of which this is so
  abbrev pub Told : (Log E → Front E → Type 0) → Front E → List (LogHand E) → Type 0
  Told is f vs = (l : Log E) × Held (λ (v : LogHand E). v.logs) l vs × (l.shard ≡ f.shard) × is l f

  -- there is one log and one who takes of each number at most; what those had is what was taken, and what was seen begins a log
  pub record Logs (vs : List (LogHand E)) : Type 0 where
    pub one_log : (n : ℕ) → total (λ v. logs_of n v.logs) vs ≤ 1
    pub one_taker : (n : ℕ) → total (λ v. takers_of n v.takers) vs ≤ 1
    pub taken : (t : Front E) → Held (λ (v : LogHand E). v.takers) t vs → Told IsTaken t vs
    pub seen : (f : Front E) → Held (λ (v : LogHand E). v.fronts) f vs → Told IsSeen f vs

  -- what a hand shows: those who take from a log of the hand had what was taken; what was seen of it begins it; and of what was
  -- seen of one shard, all begin one log
  pub record Shows (v : LogHand E) : Type 0 where
    pub taken : (l : Log E) (t : Front E) → Among l v.logs → Among t v.takers → l.shard ≡ t.shard → IsTaken l t
    pub seen : (l : Log E) (f : Front E) → Among l v.logs → Among f v.fronts → l.shard ≡ f.shard → IsSeen l f
    pub both : (f g : Front E) → Among f v.fronts → Among g v.fronts → f.shard ≡ g.shard → (whole : List E) × Begins f.seen whole × Begins g.seen whole

  -- a hand of one log to which more was put
  abbrev pub put_at : List E → List (Log E) → List (Front E) → List (Front E) → LogHand E
  put_at said (l ∷ []) takers fronts = hand (put_in l said ∷ []) takers fronts
  put_at said logs takers fronts = hand logs takers fronts

  -- a hand of one log and one who took so many more
  abbrev pub take_at : ℕ → List (Log E) → List (Front E) → List (Front E) → LogHand E
  take_at count (l ∷ []) (t ∷ []) fronts = hand (taken_from l count ∷ []) (front t.shard (t.seen ++ take count l.left) ∷ []) fronts
  take_at count logs takers fronts = hand logs takers fronts

  -- the steps
  abbrev pub Puts : {S : Type 0} → List E → Step S → Me S (LogHand E) → ℕ → Me S (LogHand E) → Type 0
  Puts said st m n m' = (m' ≡ (put_at said m.0.logs m.0.takers m.0.fronts, m.1)) × Shows m.0

  abbrev pub Takes : {S : Type 0} → ℕ → Step S → Me S (LogHand E) → ℕ → Me S (LogHand E) → Type 0
  Takes count st m n m' = (m' ≡ (take_at count m.0.logs m.0.takers m.0.fronts, m.1)) × Shows m.0

  abbrev pub Looks : {S : Type 0} → Step S → Me S (LogHand E) → ℕ → Me S (LogHand E) → Type 0
  Looks st m n m' = (m' ≡ m) × Shows m.0

  abbrev pub joined : LogHand E → LogHand E → LogHand E
  joined v w = hand (v.logs ++ w.logs) (v.takers ++ w.takers) (v.fronts ++ w.fronts)

  -- what of a shard's log was seen last; nothing where none of it was
  abbrev pub seen_of : ℕ → List (Front E) → List E
  seen_of shard [] = []
  seen_of shard (f ∷ fs) = if f.shard == shard then f.seen else seen_of shard fs
