-- A cache whose entries have deadlines: what is answered at a time, and what goes.
use Rattle.std.specs.Prelude.{◌≡◌, ℕ, ◌-◌, nat_lt, nat_le, ◌&&◌, Bool, not, List, [], ◌++◌, length, take, drop, filter, ◌⊎◌, ◌∷◌, Option, Some, None, Result, Ok, Err, is_some, if◌then◌else◌}
use Rattle.std.specs.Borrow.{MutBor}
use Rattle.lru_owned_cache.specs.declared.entry.Entry.{Entry}
use Rattle.lru_rows.specs.Rows.{Updates}
use Rattle.lru_owned_cache.specs.declared.cache.Refused.{Refused}
use Rattle.lru_owned_cache.specs.declared.cache.NotPut.{NotPut}
use Rattle.lru_owned_cache.specs.Cache.{Cached, entry_of, without, used, with_entries, UpdatesEntry, Puts, Reweighs, UsesOrPuts}
use Rattle.lru_owned_cache.specs.Entries.{entry, weight_of, IsShown}
use Rattle.lru_deadlines.specs.declared.deadlines.Until.{Until}

abbrev pub until : {V : Type 0} → V → ℕ → Until V
until v deadline = record { value = v; deadline = deadline }

-- how many of the last entries are looked at where there is no room
abbrev pub look : ℕ
look = 4

module _ {K V : Type 0} where
  -- an entry's deadline is past
  abbrev pub is_past : ℕ → Entry K (Until V) → Bool
  is_past time e = nat_lt e.value.deadline time

  -- an entry, if there is one and it passes a test
  abbrev pub where_it : (Entry K (Until V) → Bool) → Option (Entry K (Until V)) → Option (Entry K (Until V))
  where_it test None = None
  where_it test (Some e) = if test e then Some e else None

  -- so many of the last entries, or all where there are fewer; and those before them
  abbrev pub last_of : ℕ → List (Entry K (Until V)) → List (Entry K (Until V))
  last_of most es = drop (length es - most) es

  abbrev pub before_last : ℕ → List (Entry K (Until V)) → List (Entry K (Until V))
  before_last most es = take (length es - most) es

  -- of the last entries those go that are past their deadline, and each is shown. The others stay, and so do those before them
  abbrev pub Sweeps : {F S : Type 0} → (F → Entry K (Until V) → F → Type 0) → F → ℕ → ℕ → Cached K (Until V) S → Cached K (Until V) S → Type 0
  Sweeps Step visit time most old new =
      IsShown Step visit (filter (is_past time) (last_of most old.entries))
      × (new ≡ with_entries old (before_last most old.entries ++ filter (λ e. not (is_past time e)) (last_of most old.entries)))

  -- an entry of this weight has room beside all that are there
  abbrev pub has_room : {S : Type 0} → ℕ → Cached K (Until V) S → Bool
  has_room w c = nat_le w c.most_weight && nat_le (weight_of c.entries) (c.most_weight - w) && nat_lt (length c.entries) c.most_entries

  -- what goes so that an entry of this weight has room: those of the last entries that are past their deadline, where it has none
  abbrev pub gone_for_room : {S : Type 0} → ℕ → ℕ → Cached K (Until V) S → List (Entry K (Until V))
  gone_for_room time w c = if has_room w c then [] else filter (is_past time) (last_of look c.entries)

  -- what is left then
  abbrev pub left_for_room : {S : Type 0} → ℕ → ℕ → Cached K (Until V) S → Cached K (Until V) S
  left_for_room time w c = if has_room w c then c else with_entries c (before_last look c.entries ++ filter (λ e. not (is_past time e)) (last_of look c.entries))

  abbrev pub MakesRoom : {F S : Type 0} → (F → Entry K (Until V) → F → Type 0) → F → ℕ → ℕ → Cached K (Until V) S → Cached K (Until V) S → Type 0
  MakesRoom Step visit time w old new = IsShown Step visit (gone_for_room time w old) × (new ≡ left_for_room time w old)

  -- room is made for an entry, and then it is put. Of the closure is not said in which state the first calls leave it
  abbrev pub PutsAt : {F S : Type 0} → (K → K → Bool) → (F → Entry K (Until V) → F → Type 0) → F → ℕ → Cached K (Until V) S → K → Until V → ℕ → Result (Option (Entry K (Until V))) (Refused K (Until V)) → Cached K (Until V) S → Type 0
  PutsAt {F} {S} eq Step visit time old k u w result new =
      (mid : Cached K (Until V) S) × (MakesRoom Step visit time w old mid × ((seen : F) × Puts eq Step seen mid k u w result new))

  -- by what stands for a key: a key that equals it, or what a query matches
  module _ {Q : Type 0} (eq : K → Q → Bool) where
    -- the entry of a key, if there is one and it is not past its deadline
    abbrev pub living : ℕ → List (Entry K (Until V)) → Q → Option (Entry K (Until V))
    living time es key = where_it (λ e. not (is_past time e)) (entry_of eq es key)

    -- the same where it is past
    abbrev pub past_of : ℕ → List (Entry K (Until V)) → Q → Option (Entry K (Until V))
    past_of time es key = where_it (is_past time) (entry_of eq es key)

    -- a key's entry is taken out where it is past its deadline
    abbrev pub TakesPast : {S : Type 0} → ℕ → Cached K (Until V) S → Q → Option (Entry K (Until V)) → Cached K (Until V) S → Type 0
    TakesPast time old key None new = (past_of time old.entries key ≡ None) × (new ≡ old)
    TakesPast time old key (Some past) new = (past_of time old.entries key ≡ Some past) × (new ≡ with_entries old (without eq old.entries key))

    -- a key's entry goes first, if it has one; one that is past its deadline is taken out, and handed over
    abbrev pub PromotesLiving : {S : Type 0} → ℕ → Cached K (Until V) S → Q → Result Bool (Entry K (Until V)) → Cached K (Until V) S → Type 0
    PromotesLiving time old key (Ok found) new = (past_of time old.entries key ≡ None) × ((found ≡ is_some (entry_of eq old.entries key)) × (new ≡ with_entries old (used eq old.entries key)))
    PromotesLiving time old key (Err past) new = (past_of time old.entries key ≡ Some past) × (new ≡ with_entries old (without eq old.entries key))

    -- the same, and its value and deadline are lent to a closure, which may change both
    abbrev pub UpdatesLiving : {R S : Type 0} → (MutBor (Until V) → ℕ → R → MutBor (Until V) → Type 0) → ℕ → Cached K (Until V) S → Q → Result (Option R) (Entry K (Until V)) → Cached K (Until V) S → Type 0
    UpdatesLiving post time old key (Ok answer) new = (past_of time old.entries key ≡ None) × UpdatesEntry eq post old key answer new
    UpdatesLiving post time old key (Err past) new = (past_of time old.entries key ≡ Some past) × (new ≡ with_entries old (without eq old.entries key))

    -- the same, but an entry that is past its deadline stays where it is, as if the key had none
    abbrev pub UpdatesIfLiving : {R S : Type 0} → (MutBor (Until V) → ℕ → R → MutBor (Until V) → Type 0) → ℕ → Cached K (Until V) S → Q → Option R → Cached K (Until V) S → Type 0
    UpdatesIfLiving post time old key None new = (living time old.entries key ≡ None) × (new ≡ old)
    UpdatesIfLiving post time old key (Some answer) new =
        (e : Entry K (Until V)) × ((living time old.entries key ≡ Some e) × ((u : Until V) × (Updates post e.value e.weight answer u × (new ≡ with_entries old (entry e.key u e.weight ∷ without eq old.entries key)))))

  module _ (eq : K → K → Bool) where
    -- a key's entry is taken out where it is past its deadline, and handed over; else it is weighed again
    abbrev pub ReweighsLiving : {F S : Type 0} → (MutBor (Until V) → ℕ → ℕ → MutBor (Until V) → Type 0) → (F → Entry K (Until V) → F → Type 0) → F → ℕ → Cached K (Until V) S → K → Result Bool (Entry K (Until V)) → Cached K (Until V) S → Type 0
    ReweighsLiving post Step visit time old key result new =
        ((past : Entry K (Until V)) × ((past_of eq time old.entries key ≡ Some past) × ((result ≡ Err past) × (new ≡ with_entries old (without eq old.entries key)))))
        ⊎ ((past_of eq time old.entries key ≡ None) × Reweighs eq post Step visit old key result new)

    -- a key's entry is taken out and shown where it is past its deadline. Then the key is used; or, where it has no entry, one is put that is made
    abbrev pub UsesOrPutsLiving : {E F S : Type 0} → (Result (Until V × ℕ) E → Type 0) → (F → Entry K (Until V) → F → Type 0) → F → ℕ → Cached K (Until V) S → K → Result Bool (NotPut K (Until V) E) → Cached K (Until V) S → Type 0
    UsesOrPutsLiving {E} {F} {S} Makes Step visit time old key result new =
        ((past : Entry K (Until V)) × ((past_of eq time old.entries key ≡ Some past) × ((seen : F) × (Step visit past seen
        × UsesOrPuts eq Makes Step seen (with_entries old (without eq old.entries key)) key result new))))
        ⊎ ((past_of eq time old.entries key ≡ None) × UsesOrPuts eq Makes Step visit old key result new)
