-- A cache in two segments whose entries have deadlines: what is answered at a time, and what goes.
use Rattle.std.specs.Prelude.{◌≡◌, ℕ, ◌-◌, not, Bool, List, [], ◌++◌, length, filter, ◌⊎◌, Option, Some, None, Result, Ok, Err, if◌then◌else◌}
use Rattle.std.specs.Borrow.{MutBor}
use Rattle.lru_owned_cache.specs.declared.entry.Entry.{Entry}
use Rattle.lru_owned_cache.specs.Entries.{entry, IsShown}
use Rattle.lru_rows.specs.Rows.{Updates}
use Rattle.lru_owned_cache.specs.declared.cache.Refused.{Refused}
use Rattle.lru_owned_cache.specs.declared.cache.NotPut.{NotPut}
use Rattle.lru_deadlines.specs.declared.deadlines.Until.{Until}
use Rattle.lru_deadlines.specs.Deadlines.{look, is_past, last_of, before_last, has_room, living, past_of}
use Rattle.lru_segmented.specs.Segmented.{Segmented, entries, plain, with_segments, removed, Raises, Uses, UpdatesEntry, Puts, UsesOrPuts}

module _ {K V : Type 0} where
  -- what is left of entries of which so many of the last are looked at: of these go that are past their deadline
  abbrev pub swept : ℕ → ℕ → List (Entry K (Until V)) → List (Entry K (Until V))
  swept time most es = before_last most es ++ filter (λ e. not (is_past time e)) (last_of most es)

  -- the cache without those: so many of the lower segment's last entries are looked at, and of the upper one's as many as the lower one has too few
  abbrev pub swept_at : {S : Type 0} → ℕ → ℕ → Segmented K (Until V) S → Segmented K (Until V) S
  swept_at time most c = with_segments c (swept time (most - length c.lower) c.upper) (swept time most c.lower)

  -- of the last entries those go that are past their deadline, and each is shown. The others stay in their segments, in their order
  abbrev pub Sweeps : {F S : Type 0} → (F → Entry K (Until V) → F → Type 0) → F → ℕ → ℕ → Segmented K (Until V) S → Segmented K (Until V) S → Type 0
  Sweeps Step visit time most old new = IsShown Step visit (filter (is_past time) (last_of most (entries old))) × (new ≡ swept_at time most old)

  -- what goes so that an entry of this weight has room: those of the last entries that are past their deadline, where it has none
  abbrev pub gone_for_room : {S : Type 0} → ℕ → ℕ → Segmented K (Until V) S → List (Entry K (Until V))
  gone_for_room time w c = if has_room w (plain c) then [] else filter (is_past time) (last_of look (entries c))

  -- what is left then
  abbrev pub left_for_room : {S : Type 0} → ℕ → ℕ → Segmented K (Until V) S → Segmented K (Until V) S
  left_for_room time w c = if has_room w (plain c) then c else swept_at time look c

  abbrev pub MakesRoom : {F S : Type 0} → (F → Entry K (Until V) → F → Type 0) → F → ℕ → ℕ → Segmented K (Until V) S → Segmented K (Until V) S → Type 0
  MakesRoom Step visit time w old new = IsShown Step visit (gone_for_room time w old) × (new ≡ left_for_room time w old)

  -- room is made for an entry, and then it is put. Of the closure is not said in which state the first calls leave it
  abbrev pub PutsAt : {F S : Type 0} → (K → K → Bool) → (F → Entry K (Until V) → F → Type 0) → F → ℕ → Segmented K (Until V) S → K → Until V → ℕ → Result (Option (Entry K (Until V))) (Refused K (Until V)) → Segmented K (Until V) S → Type 0
  PutsAt {F} {S} eq Step visit time old k u w result new =
      (mid : Segmented K (Until V) S) × (MakesRoom Step visit time w old mid × ((seen : F) × Puts eq Step seen mid k u w result new))

  -- by what stands for a key: a key that equals it, or what a query matches
  module _ {Q : Type 0} (eq : K → Q → Bool) where
    -- a key's entry is taken out of its segment where it is past its deadline
    abbrev pub TakesPast : {S : Type 0} → ℕ → Segmented K (Until V) S → Q → Option (Entry K (Until V)) → Segmented K (Until V) S → Type 0
    TakesPast time old key None new = (past_of eq time (entries old) key ≡ None) × (new ≡ old)
    TakesPast time old key (Some past) new = (past_of eq time (entries old) key ≡ Some past) × (new ≡ removed eq old key)

    -- a key is used, if it has an entry; one that is past its deadline is taken out, and handed over
    abbrev pub PromotesLiving : {S : Type 0} → ℕ → Segmented K (Until V) S → Q → Result Bool (Entry K (Until V)) → Segmented K (Until V) S → Type 0
    PromotesLiving time old key (Ok found) new = (past_of eq time (entries old) key ≡ None) × Uses eq old key found new
    PromotesLiving time old key (Err past) new = (past_of eq time (entries old) key ≡ Some past) × (new ≡ removed eq old key)

    -- the same, and its value and deadline are lent to a closure, which may change both
    abbrev pub UpdatesLiving : {R S : Type 0} → (MutBor (Until V) → ℕ → R → MutBor (Until V) → Type 0) → ℕ → Segmented K (Until V) S → Q → Result (Option R) (Entry K (Until V)) → Segmented K (Until V) S → Type 0
    UpdatesLiving post time old key (Ok answer) new = (past_of eq time (entries old) key ≡ None) × UpdatesEntry eq post old key answer new
    UpdatesLiving post time old key (Err past) new = (past_of eq time (entries old) key ≡ Some past) × (new ≡ removed eq old key)

    -- the same, but an entry that is past its deadline stays where it is, as if the key had none
    abbrev pub UpdatesIfLiving : {R S : Type 0} → (MutBor (Until V) → ℕ → R → MutBor (Until V) → Type 0) → ℕ → Segmented K (Until V) S → Q → Option R → Segmented K (Until V) S → Type 0
    UpdatesIfLiving post time old key None new = (living eq time (entries old) key ≡ None) × (new ≡ old)
    UpdatesIfLiving post time old key (Some answer) new =
        (e : Entry K (Until V)) × ((living eq time (entries old) key ≡ Some e) × ((u : Until V) × (Updates post e.value e.weight answer u × Raises eq old key (entry e.key u e.weight) new)))

  module _ (eq : K → K → Bool) where
    -- a key's entry is taken out and shown where it is past its deadline. Then the key is used; or, where it has no entry, one is put that is made
    abbrev pub UsesOrPutsLiving : {E F S : Type 0} → (Result (Until V × ℕ) E → Type 0) → (F → Entry K (Until V) → F → Type 0) → F → ℕ → Segmented K (Until V) S → K → Result Bool (NotPut K (Until V) E) → Segmented K (Until V) S → Type 0
    UsesOrPutsLiving {E} {F} {S} Makes Step visit time old key result new =
        ((past : Entry K (Until V)) × ((past_of eq time (entries old) key ≡ Some past) × ((seen : F) × (Step visit past seen
        × UsesOrPuts eq Makes Step seen (removed eq old key) key result new))))
        ⊎ ((past_of eq time (entries old) key ≡ None) × UsesOrPuts eq Makes Step visit old key result new)
