-- A shard without a share, seen as rows in one order.
use Rattle.std.proofs.Common.{◌≡◌, ℕ, ◌+◌, ◌-◌, cond, not, List, [], ◌∷◌, ◌++◌, length, map, take, Some, None, Ok, Err, refl, sym, ap, ◌∙◌, subst, arith}
use Rattle.std.specs.Prelude.{Option, Result, Bool, nat_eq, is_some, option_map}
use Rattle.std.specs.Option.{option_map_or}
use Rattle.std.proofs.lemmas.Bool.{eqb-true, false≢true}
use Rattle.std.proofs.lemmas.List.{length-map, length_push, map-append, get_or_push}
use Rattle.std.proofs.lemmas.List.Sums.{sum_by-cons}
use Rattle.std.proofs.lemmas.Option.{slice_get-get_or}
use Rattle.lru_owned_cache.specs.declared.entry.Entry.{Entry}
use Rattle.lru_owned_cache.specs.Entries.{entry, weight_of as entries_weigh}
use Rattle.lru_owned_cache.proofs.Rows.{some_of, by_bool}
use Rattle.lru_owned_cache.specs.Cache.{Cached, entry_of, without as entries_without, used, with_entries}
use Rattle.lru_shard.specs.declared.unit.Refused.{Refused}
use Rattle.lru_shard.specs.Row.{Row, row, weight_of, row_of, is_held, without, with_first, last_row, without_last, pair_of as pair_of_row}
use Rattle.lru_shard.specs.Shard.{size_of, refusal, MayRefuse, shard}
use Rattle.lru_shard.specs.Unit.{accessed, weight_at as row_weight_at, Admits as ShardAdmits}
use Rattle.lru_segmented.specs.Segmented.{Segmented, entries, plain, removed, Uses}
use Rattle.lru_segmented.proofs.Lists.{without_absent, without-append}
use Rattle.lru_segmented.proofs.Plain.{upper_none, balanced, plain_uses, plain_removes, plain_pops}
use Rattle.lru_segmented.specs.SegmentedUnit.{pair_of, sized, sized_with, weight_at, IsUnit, Admitted, Admits, Evicts}
use Rattle.lru_segmented.specs.UnitLaws.{as_row, rows_of, shard_of, IsPlain}

before : {A : Type 0} (xs ys : List A) → take (length xs) (xs ++ ys) ≡ xs
before [] ys = refl
before (x ∷ xs) ys = ap (λ zs. x ∷ zs) (before xs ys)

module _ {T : Type 0} where
  abbrev as_rows : List (Entry ℕ T) → List (Row T)
  as_rows es = map as_row es

  -- ---- lists
  of_key : (es : List (Entry ℕ T)) (k : ℕ) → row_of (as_rows es) k ≡ option_map as_row (entry_of nat_eq es k)
  of_key [] k = refl
  of_key (e ∷ es) k =
      let rest = of_key es k in
      by_bool (nat_eq e.key k)
      (λ yes. ap (λ b. cond b (Some (as_row e)) (row_of (as_rows es) k)) yes ∙ sym (ap (λ b. option_map as_row (cond b (Some e) (entry_of nat_eq es k))) yes))
      (λ no. ap (λ b. cond b (Some (as_row e)) (row_of (as_rows es) k)) no ∙ rest ∙ sym (ap (λ b. option_map as_row (cond b (Some e) (entry_of nat_eq es k))) no))

  without_key : (es : List (Entry ℕ T)) (k : ℕ) → without (as_rows es) k ≡ as_rows (entries_without nat_eq es k)
  without_key [] k = refl
  without_key (e ∷ es) k =
      let rest = without_key es k in
      by_bool (nat_eq e.key k)
      (λ yes.
      ap (λ b. cond (not b) (as_row e ∷ without (as_rows es) k) (without (as_rows es) k)) yes ∙ rest
      ∙ sym (ap (λ b. as_rows (cond (not b) (e ∷ entries_without nat_eq es k) (entries_without nat_eq es k))) yes))
      (λ no.
      ap (λ b. cond (not b) (as_row e ∷ without (as_rows es) k) (without (as_rows es) k)) no ∙ ap (λ rs. as_row e ∷ rs) rest
      ∙ sym (ap (λ b. as_rows (cond (not b) (e ∷ entries_without nat_eq es k) (entries_without nat_eq es k))) no))

  as_heavy : (es : List (Entry ℕ T)) → weight_of (as_rows es) ≡ entries_weigh es
  as_heavy [] = refl
  as_heavy (e ∷ es) = sum_by-cons (λ (r : Row T). r.weight) (as_row e) (as_rows es) ∙ ap (λ n. e.weight + n) (as_heavy es) ∙ sym (sum_by-cons (λ (x : Entry ℕ T). x.weight) e es)

  as_long : (es : List (Entry ℕ T)) → length (as_rows es) ≡ length es
  as_long es = length-map es as_row

  size_is : (es : List (Entry ℕ T)) → size_of (as_rows es) ≡ sized es
  size_is es = ap (λ n. record { len = n; weight = weight_of (as_rows es) }) (as_long es) ∙ ap (λ n. record { len = length es; weight = n }) (as_heavy es)

  size_first : (es : List (Entry ℕ T)) (k : ℕ) (d : T) (w : ℕ) → size_of (with_first (as_rows es) (row k d w)) ≡ sized_with es k w
  size_first es k d w =
      ap (λ rs. size_of (row k d w ∷ rs)) (without_key es k)
      ∙ ap (λ n. record { len = n; weight = weight_of (row k d w ∷ as_rows (entries_without nat_eq es k)) }) (omega (arith, as_long (entries_without nat_eq es k)))
      ∙ ap (λ n. record { len = length (entries_without nat_eq es k) + 1; weight = n })
      (omega (arith, sum_by-cons (λ (r : Row T). r.weight) (row k d w) (as_rows (entries_without nat_eq es k)), as_heavy (entries_without nat_eq es k)))

  -- an entry that is found has the key
  found_key : (es : List (Entry ℕ T)) (k : ℕ) (e : Entry ℕ T) → entry_of nat_eq es k ≡ Some e → e.key ≡ k
  found_key [] k e found = absurd (false≢true (ap is_some found))
  found_key (x ∷ xs) k e found =
      by_bool (nat_eq x.key k)
      (λ yes. ap (λ (y : Entry ℕ T). y.key) (some_of e x (sym found ∙ ap (λ b. cond b (Some x) (entry_of nat_eq xs k)) yes)) ∙ eqb-true x.key k yes)
      (λ no. found_key xs k e (sym (ap (λ b. cond b (Some x) (entry_of nat_eq xs k)) no) ∙ found))

  -- ---- the end of a list
  last_is : (front : List (Row T)) (r : Row T) → last_row (front ++ r ∷ []) ≡ Some r
  last_is front r =
      slice_get-get_or (front ++ r ∷ []) (length (front ++ r ∷ []) - 1) r (omega (arith, length_push front r))
      ∙ ap (λ y. Some y) (get_or_push front r r (length (front ++ r ∷ []) - 1) (omega (arith, length_push front r)))

  front_is : (front : List (Row T)) (r : Row T) → without_last (front ++ r ∷ []) ≡ front
  front_is front r = ap (λ n. take n (front ++ r ∷ [])) (omega (arith, length_push front r)) ∙ before front (r ∷ [])

  -- ---- calls
  module _ {S : Type 0} (old new : Segmented ℕ T S) (u : IsUnit old) (share : old.most_protected ≡ 0) where
    upper_is : old.upper ≡ []
    upper_is = upper_none nat_eq old new u.valid share

    -- what a cache in one order is left with
    left : (es : List (Entry ℕ T)) → plain new ≡ with_entries (plain old) es → shard_of new ≡ shard (as_rows es) old.most_weight
    left es is =
        ap (λ (c : Cached ℕ T S). shard (as_rows c.entries) c.most_weight) is

    held_is : (k : ℕ) → is_held (rows_of old) k ≡ is_some (entry_of nat_eq (entries old) k)
    held_is k = ap is_some (of_key (entries old) k) ∙ from (entry_of nat_eq (entries old) k)
      where
        from : (o : Option (Entry ℕ T)) → is_some (option_map as_row o) ≡ is_some o
        from None = refl
        from (Some e) = refl

    accessed_is : (k : ℕ) → as_rows (used nat_eq (entries old) k) ≡ accessed (rows_of old) k
    accessed_is k = from (entry_of nat_eq (entries old) k) refl
      where
        from : (o : Option (Entry ℕ T)) → entry_of nat_eq (entries old) k ≡ o → as_rows (used nat_eq (entries old) k) ≡ accessed (rows_of old) k
        from None is =
            ap (λ o. as_rows (option_map_or (λ e. e ∷ entries_without nat_eq (entries old) k) o (entries old))) is
            ∙ sym (ap (λ o. option_map_or (λ r. with_first (rows_of old) r) o (rows_of old)) (of_key (entries old) k ∙ ap (option_map as_row) is))
        from (Some e) is =
            ap (λ o. as_rows (option_map_or (λ x. x ∷ entries_without nat_eq (entries old) k) o (entries old))) is
            ∙ ap (λ rs. as_row e ∷ rs) (sym (without_key (entries old) k) ∙ ap (without (rows_of old)) (sym (found_key (entries old) k e is)))
            ∙ sym (ap (λ o. option_map_or (λ r. with_first (rows_of old) r) o (rows_of old)) (of_key (entries old) k ∙ ap (option_map as_row) is))

    accesses : (k : ℕ) (answer : Bool) → Uses nat_eq old k answer new → (new.upper ≡ []) × ((answer ≡ is_held (rows_of old) k) × (shard_of new ≡ shard (accessed (rows_of old) k) old.most_weight))
    accesses k answer uses =
        let p = plain_uses nat_eq old new u.valid share k answer uses in
        (p.0, (p.1.0 ∙ sym (held_is k), left (used nat_eq (entries old) k) p.1.1 ∙ ap (λ rs. shard rs old.most_weight) (accessed_is k)))

    pair_in : (o : Option (Entry ℕ T)) → option_map pair_of o ≡ option_map pair_of_row (option_map as_row o)
    pair_in None = refl
    pair_in (Some e) = refl

    removes : (k : ℕ) (answer : Option (T × ℕ)) → answer ≡ option_map pair_of (entry_of nat_eq (entries old) k) → new ≡ removed nat_eq old k →
        (new.upper ≡ []) × ((answer ≡ option_map pair_of_row (row_of (rows_of old) k)) × (shard_of new ≡ shard (without (rows_of old) k) old.most_weight))
    removes k answer answer_is is =
        let p = plain_removes nat_eq old new u.valid share k is in (
          p.0,
          (
            answer_is ∙ pair_in (entry_of nat_eq (entries old) k) ∙ ap (option_map pair_of_row) (sym (of_key (entries old) k)),
            left (entries_without nat_eq (entries old) k) p.1 ∙ ap (λ rs. shard rs old.most_weight) (sym (without_key (entries old) k)),
          ),
        )

    evicts : (answer : Option (T × ℕ)) → Evicts old answer new → (new.upper ≡ []) × ((answer ≡ option_map pair_of_row (last_row (rows_of old))) × (shard_of new ≡ shard (without_last (rows_of old)) old.most_weight))
    evicts None pops =
        let p = plain_pops nat_eq old new u.valid share None pops in
        let none : rows_of old ≡ [] = ap as_rows p.1.0 in (
          p.0,
          (
            sym (ap (λ rs. option_map pair_of_row (last_row rs)) none),
            ap (λ (c : Cached ℕ T S). shard (as_rows c.entries) c.most_weight) p.1.1 ∙ ap (λ rs. shard rs old.most_weight) (none ∙ sym (ap without_last none)),
          ),
        )
    evicts (Some pair) (k, pops) =
        let p = plain_pops nat_eq old new u.valid share (Some (entry k pair.0 pair.1)) pops in
        let front = p.1.0 in
        let parts : rows_of old ≡ as_rows front ++ row k pair.0 pair.1 ∷ [] = ap as_rows p.1.1.0 ∙ map-append as_row front (entry k pair.0 pair.1 ∷ []) in (
          p.0,
          (
            sym (ap (λ rs. option_map pair_of_row (last_row rs)) parts ∙ ap (option_map pair_of_row) (last_is (as_rows front) (row k pair.0 pair.1))),
            left front p.1.1.1 ∙ ap (λ rs. shard rs old.most_weight) (sym (ap without_last parts ∙ front_is (as_rows front) (row k pair.0 pair.1))),
          ),
        )

    -- ---- admits
    weight_is : (k : ℕ) → weight_at (entries old) k ≡ row_weight_at (rows_of old) k
    weight_is k = from (entry_of nat_eq (entries old) k) ∙ ap (λ o. option_map_or (λ (r : Row T). r.weight) o 0) (sym (of_key (entries old) k))
      where
        from : (o : Option (Entry ℕ T)) → option_map_or (λ (e : Entry ℕ T). e.weight) o 0 ≡ option_map_or (λ (r : Row T). r.weight) (option_map as_row o) 0
        from None = refl
        from (Some e) = refl

    -- the entries that an admitted row leaves
    admitted : (k : ℕ) (d : T) (w : ℕ) (o : Option (Entry ℕ T)) → entry_of nat_eq (entries old) k ≡ o → Admitted old k d w o new → (new.upper ≡ []) × ((entries new ≡ entry k d w ∷ entries_without nat_eq (entries old) k) × (new.most_weight ≡ old.most_weight))
    admitted k d w None none is = (
      ap (λ (c : Segmented ℕ T S). c.upper) is ∙ upper_is,
      (
        ap (λ (c : Segmented ℕ T S). entries c) is ∙ ap (λ us. us ++ entry k d w ∷ old.lower) upper_is ∙ ap (λ us. entry k d w ∷ us ++ old.lower) (sym upper_is)
            ∙ ap (λ es. entry k d w ∷ es) (sym (without_absent nat_eq k (entries old) none)),
        ap (λ (c : Segmented ℕ T S). c.most_weight) is,
      ),
    )
    admitted k d w (Some was) found (us, (ls, (b, is))) =
        let both = balanced (removed nat_eq old k) share (entry k d w ∷ entries_without nat_eq old.upper k) (entries_without nat_eq old.lower k) us ls b in (
          ap (λ (c : Segmented ℕ T S). c.upper) is ∙ both.0,
          (
            ap (λ (c : Segmented ℕ T S). entries c) is ∙ ap (λ zs. zs ++ ls) both.0 ∙ both.1 ∙ ap (λ es. entry k d w ∷ es) (sym (without-append nat_eq k old.upper old.lower)),
            ap (λ (c : Segmented ℕ T S). c.most_weight) is,
          ),
        )

    admits : (k : ℕ) (d : T) (w : ℕ) (answer : Result ℕ (Refused T)) → Admits old k d w answer new → (new.upper ≡ []) × ShardAdmits (shard_of old) k d w answer (shard_of new)
    admits k d w (Ok was) (allowed, (was_is, put)) =
        let a = admitted k d w (entry_of nat_eq (entries old) k) refl put in (
          a.0,
          (
            was_is ∙ weight_is k,
            record {
              allowed =
                  ap (λ size. refusal old.most_weight size (size_of (with_first (rows_of old) (row k d w)))) (size_is (entries old))
                  ∙ ap (refusal old.most_weight (sized (entries old))) (size_first (entries old) k d w) ∙ allowed;
              left =
                  ap (λ es. shard (as_rows es) new.most_weight) a.1.0 ∙ ap (λ rs. shard (row k d w ∷ rs) new.most_weight) (sym (without_key (entries old) k))
                  ∙ ap (shard (with_first (rows_of old) (row k d w))) a.1.1;
            },
          ),
        )
    admits k d w (Err r) (may, (held, is)) = (
      ap (λ (c : Segmented ℕ T S). c.upper) is ∙ upper_is,
      record {
        declines = record {
          may =
              subst (λ size. MayRefuse old.most_weight size (size_of (with_first (rows_of old) (row k d w))) r.cause) (sym (size_is (entries old)))
              (subst (λ size. MayRefuse old.most_weight (sized (entries old)) size r.cause) (sym (size_first (entries old) k d w)) may);
          left = ap (λ (c : Segmented ℕ T S). shard_of c) is;
        };
        held = held;
      },
    )

    pub is_plain : IsPlain old new
    is_plain = record { none = upper_is; admits = admits; accesses = accesses; removes = removes; evicts = evicts }
