-- Laws of evictions that spare the row of a key.
use Rattle.std.proofs.Common.{◌≡◌, ◌≢◌, ℕ, ◌+◌, ◌-◌, ◌%◌, ◌<◌, ◌≤◌, zero, suc, true, List, [], ◌∷◌, ◌++◌, length, take, set, get_or, Some, None, Ok, refl, sym, ap, ◌∙◌, arith, subst, inl, inr}
use Rattle.std.specs.Prelude.{Option, MatchOption, option_map, slice_get, max}
use Rattle.std.proofs.Math.Nat.{mod-eq_of_lt}
use Rattle.std.proofs.lemmas.Bool.{cases_eq, cases_lt, false≢true}
use Rattle.std.proofs.lemmas.List.{length-map, length-set, get_or-set_same, get_or-set_other, nil_from_length}
use Rattle.std.proofs.lemmas.List.Sums.{sum_by-set, get_or-le-sum_by}
use Rattle.std.proofs.lemmas.List.Elements.{All-from_get_or}
use Rattle.lru_shard.specs.Row.{Row, row, times, pair_of, without, with_first, last_row, without_last}
use Rattle.lru_shard.specs.Shard.{Shard, shard, IsShard}
use Rattle.lru_shard.proofs.Rows.{without_absent, without_there, length-without-le}
use Rattle.lru_shard.proofs.LastRows.{held_last, length-without_last}
use Rattle.lru_shard.specs.Limits.{cap_of}
use Rattle.lru_shard.proofs.Circle.{before_end, past_end, all_empty, empty_sum}
use Rattle.lru_cores.specs.Core.{Core, core_len, list_at, home, IsCore}
use Rattle.lru_cores.specs.CoreCalls.{CoreAdmits}
use Rattle.lru_cores.specs.Eviction.{is_over, evicted, EvictsFrom}
use Rattle.lru_cores.specs.Sparing.{besides, GivesUp, EvictsSparing, SparingRun, StandsFirst, HasPut, IsNext, IsLast}
use Rattle.lru_cores.proofs.Evicting.{empty_under}

module _ {T : Type 0} where
  besides_at : (lists : List (List (Row T))) (k s : ℕ) → get_or (besides lists k) s [] ≡ without (get_or lists s []) k
  besides_at [] k s = refl
  besides_at (rows ∷ lists) k zero = refl
  besides_at (rows ∷ lists) k (suc s) = besides_at lists k s

  besides_long : (lists : List (List (Row T))) (k : ℕ) → length (besides lists k) ≡ length lists
  besides_long lists k = length-map lists (λ (rows : List (Row T)). without rows k)

  split_first : (rows : List (Row T)) (r : Row T) → slice_get rows 0 ≡ Some r → (rest : List (Row T)) × (rows ≡ r ∷ rest)
  split_first [] r h = absurd (let bad : None ≡ Some r = h in cc)
  split_first (x ∷ rows) r h = (rows, let same : Some x ≡ Some r = h in let is : x ≡ r = cc in ap (λ y. y ∷ rows) is)

  -- the rows but the first one, whose key this is
  rest_of : (rows rest : List (Row T)) (cap k : ℕ) (r : Row T) → IsShard (shard rows cap) → r.key ≡ k → rows ≡ r ∷ rest → without rows k ≡ rest
  rest_of rows rest cap k r valid own is =
      ap (λ j. without rows j) (sym own) ∙ ap (λ rs. without rs r.key) is ∙ without_there [] rest r (λ j. subst (λ rs. times j rs ≤ 1) is (valid.keys j))

  -- a list of more than one row keeps its first one without its last
  front_first : (rows : List (Row T)) (r : Row T) → slice_get rows 0 ≡ Some r → 1 < length rows → slice_get (without_last rows) 0 ≡ Some r
  front_first [] r h lt = absurd (omega arith)
  front_first (x ∷ []) r h lt = absurd (omega arith)
  front_first (x ∷ y ∷ rows) r h lt =
      let e : length (x ∷ y ∷ rows) - 1 ≡ suc (length rows) = omega arith in
      ap (λ m. slice_get (take m (x ∷ y ∷ rows)) 0) e ∙ h

  -- where no row is left, each list is empty
  each_empty : (c : Core T) → core_len c ≤ 0 → (i : ℕ) → i < length c.lists → list_at c i ≡ []
  each_empty c none i lt = nil_from_length (list_at c i) (omega (arith, none, get_or-le-sum_by (λ (rows : List (Row T)). length rows) c.lists i [] lt))

  -- a core that is over has rows
  pub over_held : (c : Core T) → 0 < length c.lists → is_over c ≡ true → 0 < core_len c
  over_held c some over =
      elim (cases_lt 0 (core_len c)) [
        | inl held ↦ held
        | inr none ↦ absurd (false≢true (sym (empty_under c 0 some (λ j lt. each_empty c none ((0 + j) % length c.lists) (omega (arith, some)))) ∙ over))
      ]

  module _ (n : ℕ) (c : Core T) (valid : IsCore n c) (k : ℕ) where
    pub some_lists : 0 < length c.lists
    some_lists = omega (arith, valid.some, valid.count)

    pub home_in : home c k < length c.lists
    home_in = omega (arith, some_lists)

    home_is : home c k ≡ k % n
    home_is = ap (λ m. k % m) valid.count

    -- no other list has the key
    away : (s : ℕ) → s ≢ home c k → without (list_at c s) k ≡ list_at c s
    away s ne = without_absent k (list_at c s)
        (elim (cases_lt 0 (times k (list_at c s))) [
          | inl some ↦ absurd (ne (sym (valid.homes s k some) ∙ sym home_is))
          | inr none ↦ omega (arith, none)
        ])

    given_in : (victim : ℕ) → GivesUp c k victim → victim < length c.lists
    given_in victim (inl i) = omega (arith, i.place, besides_long c.lists k, some_lists)
    given_in victim (inr last) = omega (arith, home_in, last.1)

    module _ (r : Row T) (own : r.key ≡ k) (first : StandsFirst c r) where
      own_first : 0 < core_len c → slice_get (list_at c (home c k)) 0 ≡ Some r
      own_first some = ap (λ j. slice_get (list_at c (home c j)) 0) (sym own) ∙ first some

      -- the own list without the key's row
      own_rest : 0 < core_len c → length (without (list_at c (home c k)) k) + 1 ≡ length (list_at c (home c k))
      own_rest some =
          let split = split_first (list_at c (home c k)) r (own_first some) in
          let rest = rest_of (list_at c (home c k)) split.0 (cap_of n) k r (valid.valid (home c k) [] home_in) own split.1 in
          let long : length (r ∷ split.0) ≡ length split.0 + 1 = omega arith in
          omega (arith, ap length rest, ap length split.1, long)

      some_own : 0 < length (list_at c (home c k)) → 0 < core_len c
      some_own h = omega (arith, h, get_or-le-sum_by (λ (rows : List (Row T)). length rows) c.lists (home c k) [] home_in)

      -- the own list has another row
      pub gives_own : 1 < length (list_at c (home c k)) → GivesUp c k (home c k)
      gives_own more = inl (record {
        steps = 0;
        near = omega (arith, besides_long c.lists k, some_lists);
        place = sym (ap (λ m. (home c k + 0) % m) (besides_long c.lists k) ∙ mod-eq_of_lt {n = home c k + 0} {m = length c.lists} (omega (arith, home_in)) ∙ omega arith);
        held = omega (arith, ap length (besides_at c.lists k (home c k)), own_rest (some_own (omega (arith, more))), more);
        empty_before = λ j lt. absurd (omega (arith, lt));
      })

      -- it has none
      own_bare : 0 < core_len c → length (list_at c (home c k)) ≤ 1 → get_or (besides c.lists k) (home c k) [] ≡ []
      own_bare some bare = besides_at c.lists k (home c k) ∙ nil_from_length (without (list_at c (home c k)) k) (omega (arith, own_rest some, bare))

      behind : (steps : ℕ) → 0 < steps → steps < length c.lists → (home c k + steps) % length c.lists ≢ home c k
      behind steps some near e =
          elim (cases_lt (home c k + steps) (length c.lists)) [
            | inl lt ↦ absurd (omega (arith, e, some, before_end (length c.lists) (home c k) steps lt))
            | inr ge ↦ absurd (omega (arith, e, near, past_end (length c.lists) (home c k) steps home_in near ge))
          ]

      around : (j : ℕ) → (home c k + j) % length (besides c.lists k) ≡ (home c k + j) % length c.lists
      around j = ap (λ m. (home c k + j) % m) (besides_long c.lists k)

      bare_at : (s : ℕ) → list_at c s ≡ [] → get_or (besides c.lists k) s [] ≡ []
      bare_at s none = besides_at c.lists k s ∙ ap (λ rows. without rows k) none

      -- round the circle nothing stands besides the key's row, up to these steps
      none_before : (steps : ℕ) → 0 < core_len c → length (list_at c (home c k)) ≤ 1 → ((j : ℕ) → 0 < j → j < steps → list_at c ((home c k + j) % length c.lists) ≡ []) →
          (j : ℕ) → j < steps → get_or (besides c.lists k) ((home c k + j) % length (besides c.lists k)) [] ≡ []
      none_before steps some bare empty zero lt =
          ap (λ s. get_or (besides c.lists k) s []) (around 0 ∙ mod-eq_of_lt {n = home c k + 0} {m = length c.lists} (omega (arith, home_in)) ∙ omega arith) ∙ own_bare some bare
      none_before steps some bare empty (suc j) lt =
          ap (λ s. get_or (besides c.lists k) s []) (around (suc j)) ∙ bare_at ((home c k + suc j) % length c.lists) (empty (suc j) (omega arith) lt)

      -- a list behind it has a row
      pub gives_next : (next : ℕ) → 0 < core_len c → length (list_at c (home c k)) ≤ 1 → IsNext c.lists (home c k) next → GivesUp c k next
      gives_next next some bare i =
          let ne : next ≢ home c k = λ e. behind i.steps i.some i.near (sym i.place ∙ e) in
          inl (record {
            steps = i.steps;
            near = omega (arith, besides_long c.lists k, i.near);
            place = i.place ∙ sym (around i.steps);
            held = omega (arith, ap length (besides_at c.lists k next), ap length (away next ne), i.held);
            empty_before = none_before i.steps some bare i.empty_between;
          })

      -- no list behind it has one
      pub gives_last : 0 < core_len c → length (list_at c (home c k)) ≤ 1 → IsLast c.lists (home c k) → GivesUp c k (home c k)
      gives_last some bare empty =
          let around_all = λ (j : ℕ) (lt : j < length (besides c.lists k)). none_before (length c.lists) some bare empty j (omega (arith, lt, besides_long c.lists k)) in
          let each = all_empty (besides c.lists k) (home c k) (omega (arith, home_in, besides_long c.lists k)) around_all in
          inr (All-from_get_or (λ rows. rows ≡ []) (besides c.lists k) [] each, refl)

      -- the list that gives up a row has one
      pub given_held : (victim : ℕ) → 0 < core_len c → GivesUp c k victim → 0 < length (list_at c victim)
      given_held victim some (inl i) = omega (arith, i.held, ap length (besides_at c.lists k victim), length-without-le k (list_at c victim))
      given_held victim some (inr last) = omega (arith, own_rest some, ap (λ s. length (list_at c s)) last.1)

      -- the row stays first, unless it was the last one
      module _ (victim : ℕ) (v : Row T) (some : 0 < core_len c) (at : victim < length c.lists) (last : last_row (list_at c victim) ≡ Some v) where
        left_long : length (evicted c victim v).lists ≡ length c.lists
        left_long = length-set c.lists victim (without_last (list_at c victim))

        new_own : list_at (evicted c victim v) (home (evicted c victim v) r.key) ≡ get_or (set c.lists victim (without_last (list_at c victim))) (home c k) []
        new_own = ap (λ s. get_or (set c.lists victim (without_last (list_at c victim))) s []) (ap (λ m. r.key % m) left_long ∙ ap (λ j. j % length c.lists) own)

        kept_first : get_or (set c.lists victim (without_last (list_at c victim))) (home c k) [] ≡ list_at c (home c k) → slice_get (list_at (evicted c victim v) (home (evicted c victim v) r.key)) 0 ≡ Some r
        kept_first same = ap (λ rows. slice_get rows 0) (new_own ∙ same) ∙ own_first some

        stays : GivesUp c k victim → StandsFirst (evicted c victim v) r
        stays (inl i) left =
            elim (cases_eq victim (home c k)) [
              | inl e ↦
                  let more : 1 < length (list_at c (home c k)) = omega (arith, i.held, ap length (besides_at c.lists k victim), ap (λ s. length (without (list_at c s) k)) e, own_rest some) in
                  ap (λ rows. slice_get rows 0) (new_own ∙ ap (λ s. get_or (set c.lists s (without_last (list_at c s))) (home c k) []) e ∙ get_or-set_same c.lists (home c k) (without_last (list_at c (home c k))) [] home_in)
                  ∙ front_first (list_at c (home c k)) r (own_first some) more
              | inr ne ↦ kept_first (get_or-set_other c.lists victim (home c k) (without_last (list_at c victim)) [] (λ e. ne (sym e)))
            ]
        stays (inr bare) left =
            let each = λ (s : ℕ) (lt : s < length c.lists). sym (besides_at c.lists k s) ∙ bare.0 s [] (omega (arith, lt, besides_long c.lists k)) in
            let empty : (s : ℕ) → s < length (evicted c victim v).lists → list_at (evicted c victim v) s ≡ [] = λ s lt.
            elim (cases_eq s victim) [
              | inl e ↦
                  ap (λ q. get_or (set c.lists victim (without_last (list_at c victim))) q []) e ∙ get_or-set_same c.lists victim (without_last (list_at c victim)) [] at
                  ∙ nil_from_length (without_last (list_at c victim)) (omega (arith, length-without_last (list_at c victim) v last, own_rest some, ap length (each (home c k) home_in), ap (λ q. length (list_at c q)) bare.1))
              | inr ne ↦
                  get_or-set_other c.lists victim s (without_last (list_at c victim)) [] ne
                  ∙ sym (away s (λ e. ne (e ∙ sym bare.1))) ∙ each s (omega (arith, lt, left_long))
            ] in
            absurd (omega (arith, left, empty_sum (λ (rows : List (Row T)). length rows) refl (evicted c victim v).lists empty))

    pub stands_on : (pair : T × ℕ) (new : Core T) → 0 < core_len c → EvictsSparing c k pair new → (r : Row T) → r.key ≡ k → StandsFirst c r → StandsFirst new r
    stands_on pair new some e r own first =
        subst (λ (z : Core T). StandsFirst z r) (sym e.left) (stays r own first e.victim e.row some (given_in e.victim e.gives_up) e.last e.gives_up)

  -- the same of the own list's place, however it was found
  module _ (n : ℕ) (c : Core T) (valid : IsCore n c) (k own : ℕ) (own_is : own ≡ k % n) (put : HasPut c k) (over : is_over c ≡ true) where
    at_home : own ≡ home c k
    at_home = own_is ∙ sym (home_is n c valid k)

    held : 0 < core_len c
    held = over_held c (some_lists n c valid k) over

    pub more_gives : 1 < length (list_at c own) → GivesUp c k own
    more_gives more = subst (GivesUp c k) (sym at_home) (gives_own n c valid k put.row put.own put.first (omega (arith, more, ap (λ s. length (list_at c s)) at_home)))

    pub next_gives : (next : ℕ) → length (list_at c own) ≤ 1 → IsNext c.lists own next → GivesUp c k next
    next_gives next bare i = gives_next n c valid k put.row put.own put.first next held (omega (arith, bare, ap (λ s. length (list_at c s)) at_home)) (subst (λ s. IsNext c.lists s next) at_home i)

    pub last_gives : length (list_at c own) ≤ 1 → IsLast c.lists own → GivesUp c k own
    last_gives bare none = subst (GivesUp c k) (sym at_home) (gives_last n c valid k put.row put.own put.first held (omega (arith, bare, ap (λ s. length (list_at c s)) at_home)) (subst (IsLast c.lists) at_home none))

  -- one such eviction makes the core shorter by one row
  pub sparing_shorter : (n : ℕ) (c : Core T) → IsCore n c → (k : ℕ) (pair : T × ℕ) (new : Core T) → EvictsSparing c k pair new → core_len new + 1 ≡ core_len c
  sparing_shorter n c valid k pair new e =
      omega (
        arith,
        ap core_len e.left,
        sum_by-set (λ (rows : List (Row T)). length rows) c.lists e.victim (without_last (list_at c e.victim)) [] (given_in n c valid k e.victim e.gives_up),
        length-without_last (list_at c e.victim) e.row e.last,
      )

  -- what an eviction from the list that gives up a row is
  pub spares : (n : ℕ) (c : Core T) → IsCore n c → (k victim : ℕ) (pair : T × ℕ) (new : Core T) → is_over c ≡ true → GivesUp c k victim → EvictsFrom c victim (Some pair) new → EvictsSparing c k pair new
  spares n c valid k victim pair new over gives h = from (last_row (list_at c victim)) refl h
    where
      from : (o : Option (Row T)) → last_row (list_at c victim) ≡ o → MatchOption o ((Some pair ≡ None) × (new ≡ c)) (λ r. (Some pair ≡ Some (pair_of r)) × (new ≡ evicted c victim r)) → EvictsSparing c k pair new
      from None e m = absurd (let bad : Some pair ≡ None = m.0 in cc)
      from (Some r) e m = record {
        over = over;
        victim = victim;
        gives_up = gives;
        row = r;
        last = e;
        answer = let same : Some pair ≡ Some (pair_of r) = m.0 in cc;
        left = m.1;
      }

  abbrev nothing : Option (T × ℕ)
  nothing = None

  -- that list has a row
  pub never_bare : (n : ℕ) (c : Core T) → IsCore n c → (k victim : ℕ) (new : Core T) → HasPut c k → is_over c ≡ true → GivesUp c k victim → EvictsFrom c victim None new → ⊥
  never_bare n c valid k victim new put over gives h =
      let held = given_held n c valid k put.row put.own put.first victim (over_held c (some_lists n c valid k) over) gives in
      from (last_row (list_at c victim)) refl held h
    where
      from : (o : Option (Row T)) → last_row (list_at c victim) ≡ o → 0 < length (list_at c victim) → MatchOption o ((nothing ≡ None) × (new ≡ c)) (λ r. (nothing ≡ Some (pair_of r)) × (new ≡ evicted c victim r)) → ⊥
      from None e held m = held_last (list_at c victim) held (sym (ap (option_map pair_of) e))
      from (Some r) e held m = let bad : nothing ≡ Some (pair_of r) = m.0 in cc

  -- a run goes on by one eviction
  pub sparing_push : (old : Core T) (k : ℕ) (pairs : List (T × ℕ)) (mid : Core T) (pair : T × ℕ) (new : Core T) → SparingRun old k pairs mid → EvictsSparing mid k pair new → SparingRun old k (pairs ++ pair ∷ []) new
  sparing_push old k [] mid pair new run e = (new, (subst (λ (z : Core T). EvictsSparing z k pair new) run e, refl))
  sparing_push old k (p ∷ ps) mid pair new run e = (run.0, (run.1.0, sparing_push run.0 k ps mid pair new run.1.1 e))

  -- a row that was admitted stands first
  pub admitted_first : (old : Core T) (k : ℕ) (d : T) (w s : ℕ) (new : Core T) → 0 < length old.lists → CoreAdmits old k d w (Ok s) new → StandsFirst new (row k d (max w 1))
  admitted_first old k d w s new some h left =
      let acts = h.1.1 in
      let r : Row T = row k d (max w 1) in
      let rows : acts.rows ≡ with_first (list_at old (home old k)) r = ap (λ (z : Shard T). z.rows) acts.acts.1.left in
      let at : home old k < length old.lists = omega (arith, some) in
      let own : list_at new (home new k) ≡ acts.rows =
      ap (λ (z : Core T). list_at z (home z k)) acts.left
      ∙ ap (λ m. get_or (set old.lists (home old k) acts.rows) (k % m) []) (length-set old.lists (home old k) acts.rows)
      ∙ get_or-set_same old.lists (home old k) acts.rows [] at in
      ap (λ rs. slice_get rs 0) (own ∙ rows)
