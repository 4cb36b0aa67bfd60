-- Rows that were captured of a core and are put into an empty one of as many shards stand as they stood.
use Rattle.std.proofs.Common.{◌≡◌, ◌≢◌, ℕ, suc, ◌+◌, ◌%◌, ◌≤◌, ◌<◌, List, [], ◌∷◌, ◌++◌, ◌&&◌, length, get_or, Ok, Err, Some, None, refl, sym, ap, subst, ◌∙◌, arith, true, false, append-nil, append_assoc, inl, inr, eqb}
use Rattle.std.specs.Prelude.{Bool, Result, MatchResult, Vec, map, cond, is_some, nat_lt, nat_le, if◌then◌else◌}
use Rattle.std.specs.declared.alloc.Global.{Global}
use Rattle.std.specs.List.{AllByRecursion}
use Rattle.std.proofs.lemmas.Bool.{eq-eqb, le-ltb, lt-leb, false≢true}
use Rattle.std.proofs.lemmas.List.{length-append, length-set, get_or-set_same, get_or-set_other}
use Rattle.std.proofs.lemmas.List.Sums.{sum_by-append, sum_by-cons}
use Rattle.lru_frames.specs.declared.row.Row.{Row}
use Rattle.lru_frames.specs.Copies.{AreEach}
use Rattle.lru_shard.specs.declared.unit.Cause.{Cause}
use Rattle.lru_shard.specs.declared.unit.Cause.TheVariants.{Memory, Weight, Length}
use Rattle.lru_shard.specs.declared.unit.Refused.{Refused}
use Rattle.lru_shard.specs.Row as order
use Rattle.lru_shard.specs.Shard.{Shard, IsShard, MayRefuse, Size, size_of, refusal, most_rows, shard}
use Rattle.lru_shard.specs.Unit.{tailed, InsertsTail}
use Rattle.lru_shard.proofs.Rows.{times-append, times-cons, row_of_absent}
use Rattle.lru_shard.specs.Limits.{cap_of}
use Rattle.lru_cores.specs.Core.{Core, ActsOn, list_at, IsCore}
use Rattle.lru_order_checkpoints.specs.Captures.{AreCopies, PutsRow, PutsEach, PutsShards, ArePlaced, order_row}

no_refusal : (longer full heavy : Bool) → full ≡ false → heavy ≡ false → (if longer && full then Some Length else (if heavy then Some Weight else None)) ≡ None
no_refusal true false false p q = refl
no_refusal false false false p q = refl
no_refusal longer true heavy p q = absurd (false≢true (sym p))
no_refusal longer false true p q = absurd (false≢true (sym q))

why : (most : ℕ) (old new : Size) (cause : Cause) → refusal most old new ≡ None → MayRefuse most old new cause → cause ≡ Memory
why most old new Memory none may = refl
why most old new Weight none may = let wrong : None ≡ Some Weight = sym none ∙ may in cc
why most old new Length none may = let wrong : None ≡ Some Length = sym none ∙ may in cc

abbrev Order : Type 0 → Type 0
Order V = order.Row (ℕ × V)

module _ {V : Type 0} where
  abbrev heaviness : List (Order V) → ℕ
  heaviness rows = order.weight_of rows

  -- a shorter list of a shard is one, too
  shard_before : (rows more : List (Order V)) (most : ℕ) → IsShard (shard (rows ++ more) most) → IsShard (shard rows most)
  shard_before rows more most h = record {
    keys = λ k. omega (arith, h.keys k, times-append k rows more);
    light = omega (arith, h.light, sum_by-append (λ (r : Order V). r.weight) rows more);
    short = omega (arith, h.short, length-append rows more);
  }

  -- nothing stands against one row more
  allowed : (rows : List (Order V)) (r : Order V) (most : ℕ) → IsShard (shard (rows ++ r ∷ []) most) → refusal most (size_of rows) (size_of (rows ++ r ∷ [])) ≡ None
  allowed rows r most h =
      let long : length (rows ++ r ∷ []) ≡ length rows + 1 = length-append rows (r ∷ []) in
      let room : nat_le (most_rows most) (length rows) ≡ false = lt-leb (most_rows most) (length rows) (omega (arith, h.short, long)) in
      let light : nat_lt most (heaviness (rows ++ r ∷ [])) ≡ false = le-ltb most (heaviness (rows ++ r ∷ [])) h.light in
      no_refusal (nat_lt (length rows) (length (rows ++ r ∷ []))) (nat_le (most_rows most) (length rows)) (nat_lt most (heaviness (rows ++ r ∷ []))) room light

  -- a key that stands behind a list once does not stand in it
  not_held : (rows : List (Order V)) (r : Order V) (most : ℕ) → IsShard (shard (rows ++ r ∷ []) most) → order.is_held rows r.key ≡ false
  not_held rows r most h =
      let itself : eqb r.key r.key ≡ true = eq-eqb r.key r.key refl in
      let one = times-cons r.key r [] in
      let one_so : (b : Bool) → ℕ = λ (b : Bool). cond b 1 0 in
      let counted : one_so (eqb r.key r.key) ≡ one_so true = ap one_so itself in
      ap is_some (row_of_absent r.key rows (omega (arith, h.keys r.key, times-append r.key rows (r ∷ []), one, counted)))

  -- A shard has these rows now, and the others are as they were.
  record Stands (s : ℕ) (rows : List (Order V)) (old new : Core (ℕ × V)) : Type 0 where
    pub here : list_at new s ≡ rows
    pub others : (t : ℕ) → t ≢ s → list_at new t ≡ list_at old t
    pub count : length new.lists ≡ length old.lists

  put_one : (old new : Core (ℕ × V)) (row : Row ℕ V) (answer : Result Bool (Refused (ℕ × V))) (s : ℕ) → s < length old.lists → row.key % length old.lists ≡ s
      → IsShard (shard (list_at old s ++ order_row row ∷ []) (cap_of (length old.lists))) → PutsRow old row answer new
      → MatchResult answer (λ added. Stands s (list_at old s ++ order_row row ∷ []) old new) (λ refused. refused.cause ≡ Memory)
  put_one old new row answer s inside home good puts =
      let acts = subst (λ t. ActsOn old t new (λ a b. InsertsTail a row.key (row.key, row.data) row.weight answer b)) home puts in
      one_of answer acts
    where
      tail : tailed (list_at old s) row.key (row.key, row.data) row.weight ≡ list_at old s ++ order_row row ∷ []
      tail = ap (λ (b : Bool). if b then list_at old s else (list_at old s ++ order_row row ∷ [])) (not_held (list_at old s) (order_row row) (cap_of (length old.lists)) good)

      one_of : (r : Result Bool (Refused (ℕ × V))) → ActsOn old s new (λ a b. InsertsTail a row.key (row.key, row.data) row.weight r b)
          → MatchResult r (λ added. Stands s (list_at old s ++ order_row row ∷ []) old new) (λ refused. refused.cause ≡ Memory)
      one_of (Ok added) acts =
          let rows : acts.rows ≡ list_at old s ++ order_row row ∷ [] = ap (λ (x : Shard (ℕ × V)). x.rows) acts.acts.1.left ∙ tail in
          record {
            here = ap (λ (c : Core (ℕ × V)). list_at c s) acts.left ∙ get_or-set_same old.lists s acts.rows [] inside ∙ rows;
            others = λ t other. ap (λ (c : Core (ℕ × V)). list_at c t) acts.left ∙ get_or-set_other old.lists s t acts.rows [] other;
            count = ap (λ (c : Core (ℕ × V)). length c.lists) acts.left ∙ length-set old.lists s acts.rows;
          }
      one_of (Err refused) acts =
          why (cap_of (length old.lists)) (size_of (list_at old s)) (size_of (list_at old s ++ order_row row ∷ [])) refused.cause (allowed (list_at old s) (order_row row) (cap_of (length old.lists)) good)
          (subst (λ rows. MayRefuse (cap_of (length old.lists)) (size_of (list_at old s)) (size_of rows) refused.cause) tail acts.acts.declines.may)

  put_each : (rows : List (Row ℕ V)) (old new : Core (ℕ × V)) (answer : Result (Unit {0}) (Refused (ℕ × V))) (s : ℕ) → s < length old.lists
      → AllByRecursion (λ row. row.key % length old.lists ≡ s) rows → IsShard (shard (list_at old s ++ map order_row rows) (cap_of (length old.lists))) → PutsEach old rows answer new
      → MatchResult answer (λ done. Stands s (list_at old s ++ map order_row rows) old new) (λ refused. refused.cause ≡ Memory)
  put_each [] old new answer s inside homes good puts =
      subst (λ r. MatchResult r (λ done. Stands s (list_at old s ++ []) old new) (λ refused. refused.cause ≡ Memory)) (sym puts.0) (record {
        here = ap (λ (c : Core (ℕ × V)). list_at c s) puts.1 ∙ sym (append-nil (list_at old s));
        others = λ t other. ap (λ (c : Core (ℕ × V)). list_at c t) puts.1;
        count = ap (λ (c : Core (ℕ × V)). length c.lists) puts.1;
      })
  put_each (row ∷ rows) old new answer s inside homes good (inl put) =
      let mid = put.0 in
      let apart = append_assoc (list_at old s) (order_row row ∷ []) (map order_row rows) in
      let whole = subst (λ list. IsShard (shard list (cap_of (length old.lists)))) (sym apart) good in
      let one = put_one old mid row (Ok put.1.0) s inside homes.0 (shard_before (list_at old s ++ order_row row ∷ []) (map order_row rows) (cap_of (length old.lists)) whole) put.1.1.0 in
      let more = put_each rows mid new answer s (omega (arith, one.count, inside)) (subst (λ m. AllByRecursion (λ r. r.key % m ≡ s) rows) (sym one.count) homes.1)
      (subst (λ m. IsShard (shard (list_at mid s ++ map order_row rows) (cap_of m))) (sym one.count)
      (subst (λ list. IsShard (shard (list ++ map order_row rows) (cap_of (length old.lists)))) (sym one.here) whole)) put.1.1.1 in
      onward answer mid one more
    where
      onward : (r : Result (Unit {0}) (Refused (ℕ × V))) (mid : Core (ℕ × V)) → Stands s (list_at old s ++ order_row row ∷ []) old mid
          → MatchResult r (λ done. Stands s (list_at mid s ++ map order_row rows) mid new) (λ refused. refused.cause ≡ Memory)
          → MatchResult r (λ done. Stands s (list_at old s ++ map order_row (row ∷ rows)) old new) (λ refused. refused.cause ≡ Memory)
      onward (Ok done) mid one more = record {
        here = more.here ∙ ap (λ list. list ++ map order_row rows) one.here ∙ append_assoc (list_at old s) (order_row row ∷ []) (map order_row rows);
        others = λ t other. more.others t other ∙ one.others t other;
        count = more.count ∙ one.count;
      }
      onward (Err refused) mid one more = more
  put_each (row ∷ rows) old new answer s inside homes good (inr stop) =
      let apart = append_assoc (list_at old s) (order_row row ∷ []) (map order_row rows) in
      let whole = subst (λ list. IsShard (shard list (cap_of (length old.lists)))) (sym apart) good in
      let cause = put_one old new row (Err stop.0) s inside homes.0 (shard_before (list_at old s ++ order_row row ∷ []) (map order_row rows) (cap_of (length old.lists)) whole) stop.1.1 in
      subst (λ r. MatchResult r (λ done. Stands s (list_at old s ++ map order_row (row ∷ rows)) old new) (λ refused. refused.cause ≡ Memory)) (sym stop.1.0) cause

  -- rows of each shard from one on: their keys are its own, and a shard may have them
  abbrev AreOwn : ℕ → ℕ → List (Vec (Row ℕ V) Global) → Type 0
  AreOwn n s [] = Unit {0}
  AreOwn n s (rows ∷ shards) = (AllByRecursion (λ row. row.key % n ≡ s) rows.items × IsShard (shard (map order_row rows.items) (cap_of n))) × AreOwn n (suc s) shards

  -- The shards from one on have these rows, and those before it are as they were.
  record Placed (s : ℕ) (shards : List (Vec (Row ℕ V) Global)) (old new : Core (ℕ × V)) : Type 0 where
    pub before : (t : ℕ) → t < s → list_at new t ≡ list_at old t
    pub placed : ArePlaced s shards new
    pub count : length new.lists ≡ length old.lists

  put_shards : (shards : List (Vec (Row ℕ V) Global)) (old new : Core (ℕ × V)) (answer : Result (Unit {0}) (Refused (ℕ × V))) (s : ℕ) → s + length shards ≡ length old.lists
      → ((t : ℕ) → s ≤ t → list_at old t ≡ []) → AreOwn (length old.lists) s shards → PutsShards old shards answer new
      → MatchResult answer (λ done. Placed s shards old new) (λ refused. refused.cause ≡ Memory)
  put_shards [] old new answer s count none own puts =
      subst (λ r. MatchResult r (λ done. Placed s [] old new) (λ refused. refused.cause ≡ Memory)) (sym puts.0) (record {
        before = λ t lt. ap (λ (c : Core (ℕ × V)). list_at c t) puts.1;
        placed = tt;
        count = ap (λ (c : Core (ℕ × V)). length c.lists) puts.1;
      })
  put_shards (rows ∷ shards) old new answer s count none own (inl put) =
      let mid = put.0 in
      let empty = none s (omega arith) in
      let good = subst (λ list. IsShard (shard (list ++ map order_row rows.items) (cap_of (length old.lists)))) (sym empty) own.0.1 in
      let one = put_each rows.items old mid (Ok tt) s (omega (arith, count)) own.0.0 good put.1.0 in
      let more = put_shards shards mid new answer (suc s) (omega (arith, count, one.count))
      (λ t le. one.others t (λ e. omega (arith, le, e)) ∙ none t (omega (arith, le))) (subst (λ m. AreOwn m (suc s) shards) (sym one.count) own.1) put.1.1 in
      onward answer mid one more
    where
      onward : (r : Result (Unit {0}) (Refused (ℕ × V))) (mid : Core (ℕ × V)) → Stands s (list_at old s ++ map order_row rows.items) old mid
          → MatchResult r (λ done. Placed (suc s) shards mid new) (λ refused. refused.cause ≡ Memory) → MatchResult r (λ done. Placed s (rows ∷ shards) old new) (λ refused. refused.cause ≡ Memory)
      onward (Ok done) mid one more = record {
        before = λ t lt. more.before t (omega arith) ∙ one.others t (λ e. omega (arith, lt, e));
        placed = (more.before s (omega arith) ∙ one.here ∙ ap (λ list. list ++ map order_row rows.items) (none s (omega arith)), more.placed);
        count = more.count ∙ one.count;
      }
      onward (Err refused) mid one more = more
  put_shards (rows ∷ shards) old new answer s count none own (inr stop) =
      let empty = none s (omega arith) in
      let good = subst (λ list. IsShard (shard (list ++ map order_row rows.items) (cap_of (length old.lists)))) (sym empty) own.0.1 in
      let cause = put_each rows.items old new (Err stop.0) s (omega (arith, count)) own.0.0 good stop.1.1 in
      subst (λ r. MatchResult r (λ done. Placed s (rows ∷ shards) old new) (λ refused. refused.cause ≡ Memory)) (sym stop.1.0) cause

  -- the keys of a list are those of one shard
  all_at_home : (n s : ℕ) (list : List (Order V)) → ((k : ℕ) → 0 < order.times k list → k % n ≡ s) → AllByRecursion (λ (r : Order V). r.key % n ≡ s) list
  all_at_home n s [] h = tt
  all_at_home n s (r ∷ list) h =
      let itself : eqb r.key r.key ≡ true = eq-eqb r.key r.key refl in
      let one_so : (b : Bool) → ℕ = λ (b : Bool). cond b 1 0 in
      let counted : one_so (eqb r.key r.key) ≡ one_so true = ap one_so itself in
      (h r.key (omega (arith, times-cons r.key r list, counted)), all_at_home n s list (λ k some. h k (omega (arith, some, times-cons k r list))))

  module _ (IsClone : V → V → Type 0) where
    -- copies of rows that tell their keys have the keys and weights of those
    record AreAlike (n s : ℕ) (list : List (Order V)) (rows : List (Row ℕ V)) : Type 0 where
      pub homes : AllByRecursion (λ row. row.key % n ≡ s) rows
      pub keys : (k : ℕ) → order.times k (map order_row rows) ≡ order.times k list
      pub weight : heaviness (map order_row rows) ≡ heaviness list
      pub many : length (map order_row rows) ≡ length list

    copies_alike : (n s : ℕ) (list : List (Order V)) (rows : List (Row ℕ V)) → AllByRecursion (λ (r : Order V). r.key % n ≡ s) list → AllByRecursion (λ (r : Order V). r.value.0 ≡ r.key) list
        → AreCopies IsClone list rows → AreAlike n s list rows
    copies_alike n s [] [] homes tell h = record { homes = tt; keys = λ k. refl; weight = refl; many = refl }
    copies_alike n s [] (row ∷ rows) homes tell h = absurd h
    copies_alike n s (r ∷ list) [] homes tell h = absurd h
    copies_alike n s (r ∷ list) (row ∷ rows) homes tell h =
        let more = copies_alike n s list rows homes.1 tell.1 h.1 in
        let key : row.key ≡ r.key = h.0.0 ∙ tell.0 in
        let one_so : (b : Bool) → ℕ = λ (b : Bool). cond b 1 0 in
        record {
          homes = (ap (λ k. k % n) key ∙ homes.0, more.homes);
          keys = λ k.
              times-cons k (order_row row) (map order_row rows) ∙ ap (λ j. one_so (eqb j k) + order.times k (map order_row rows)) key
              ∙ ap (λ m. one_so (eqb r.key k) + m) (more.keys k) ∙ sym (times-cons k r list);
          weight = omega (arith, h.0.1.1, more.weight, sum_by-cons (λ (x : Order V). x.weight) (order_row row) (map order_row rows), sum_by-cons (λ (x : Order V). x.weight) r list);
          many = ap suc more.many;
        }

    -- what holds of the rows of each shard from one on
    abbrev AreGood : ℕ → ℕ → List (List (Order V)) → Type 0
    AreGood n s [] = Unit {0}
    AreGood n s (list ∷ lists) = (IsShard (shard list (cap_of n)) × AllByRecursion (λ (r : Order V). r.key % n ≡ s) list) × AreGood n (suc s) lists

    all_own : (n s : ℕ) (lists : List (List (Order V))) (shards : List (Vec (Row ℕ V) Global)) → AreGood n s lists → AllByRecursion (AllByRecursion (λ (r : Order V). r.value.0 ≡ r.key)) lists
        → AreEach (λ list rows. AreCopies IsClone list rows.items) lists shards → AreOwn n s shards × (length shards ≡ length lists)
    all_own n s [] [] good tell copies = (tt, refl)
    all_own n s [] (rows ∷ shards) good tell copies = absurd copies
    all_own n s (list ∷ lists) [] good tell copies = absurd copies
    all_own n s (list ∷ lists) (rows ∷ shards) good tell copies =
        let like = copies_alike n s list rows.items good.0.1 tell.0 copies.0 in
        let more = all_own n (suc s) lists shards good.1 tell.1 copies.1 in
        let is_shard = good.0.0 in (
          (
            (
              like.homes,
              record {
                keys = λ k. omega (arith, like.keys k, is_shard.keys k);
                light = omega (arith, like.weight, is_shard.light);
                short = omega (arith, like.many, is_shard.short);
              },
            ),
            more.0,
          ),
          ap suc more.1,
        )

    all_good : (n s : ℕ) (lists : List (List (Order V))) → ((i : ℕ) → i < length lists → IsShard (shard (get_or lists i []) (cap_of n)))
        → ((i k : ℕ) → 0 < order.times k (get_or lists i []) → k % n ≡ s + i) → AreGood n s lists
    all_good n s [] valid homes = tt
    all_good n s (list ∷ lists) valid homes =
        let here : s + 0 ≡ s = omega arith in (
          (valid 0 (omega arith), all_at_home n s list (λ k some. homes 0 k some ∙ here)),
          all_good n (suc s) lists (λ i lt. valid (suc i) (omega arith)) (λ i k some. let e : s + suc i ≡ suc s + i = omega arith in homes (suc i) k some ∙ e),
        )

    -- what was captured of a core, and put into an empty one
    pub comes_back : (n : ℕ) (core old new : Core (ℕ × V)) (shards : List (Vec (Row ℕ V) Global)) (answer : Result (Unit {0}) (Refused (ℕ × V))) → IsCore n core
        → AllByRecursion (AllByRecursion (λ (r : Order V). r.value.0 ≡ r.key)) core.lists → length old.lists ≡ n → ((s : ℕ) → list_at old s ≡ [])
        → AreEach (λ list rows. AreCopies IsClone list rows.items) core.lists shards → PutsShards old shards answer new
        → MatchResult answer (λ done. ArePlaced 0 shards new) (λ refused. refused.cause ≡ Memory)
    comes_back n core old new shards answer is_core tell count none copies puts =
        let good = all_good n 0 core.lists (λ i lt. is_core.valid i [] lt) (λ i k some. let e : i ≡ 0 + i = omega arith in is_core.homes i k some ∙ e) in
        let own = all_own n 0 core.lists shards good tell copies in
        one_of answer (put_shards shards old new answer 0 (omega (arith, own.1, count, is_core.count)) (λ t le. none t) (subst (λ m. AreOwn m 0 shards) (sym count) own.0) puts)
      where
        one_of : (r : Result (Unit {0}) (Refused (ℕ × V))) → MatchResult r (λ done. Placed 0 shards old new) (λ refused. refused.cause ≡ Memory)
            → MatchResult r (λ done. ArePlaced 0 shards new) (λ refused. refused.cause ≡ Memory)
        one_of (Ok done) h = h.placed
        one_of (Err refused) h = h
