use Rattle.std.proofs.Common.{◌≡◌, ◌<◌, ◌≤◌, [], true, false, eqb, length, take, get_or, refl, sym, ap, ◌∙◌, subst, arith}
use Rattle.std.specs.Prelude.{map}
use Rattle.std.specs.List.{list_any}
use Rattle.std.proofs.lemmas.List.{append-nil}
use Rattle.std.proofs.lemmas.Bool.{ltb-true, ltb-false, not-true, not-false}
use Rattle.pingora_lru.specs.Row.{HasDistinctKeys, times, is_held}
use Rattle.pingora_lru.specs.Core.{list_at, home}
use Rattle.lru_shard_files.specs.SnapshotLoads.{row_of_pair}
use Rattle.lru_shard_files.proofs.SnapshotJoins.{home_at, held_already, stands_twice, keys_more, seen_more, all_join, times_not_held}
use Rattle.lru_shard_files.proofs.snapshot.are_new.Goals as goal

-- a yes that is false goes with what does not hold
no : {P : Type 0} → (P → ⊥) → ((false ≡ true → P) × (P → false ≡ true))
no h = (λ e. absurd (let f : false ≡ true = e in (cc)), λ p. absurd (h p))

pub loop-data-init : goal.loop-data-init
loop-data-init g c =
    let valid = c.requires.valid in
    let there : c.args.shard < length c.args.core.now.lists = omega (arith, valid.count, c.requires.shard) in record {
      keys = subst (λ rs. HasDistinctKeys rs) (sym (append-nil (list_at c.args.core.now c.args.shard))) (valid.valid c.args.shard [] there).keys;
      seen = λ k. ap (λ ks. list_any (eqb k) ks) c.in_ok-seen.ensures.empty;
    }

pub returns-then-peek : goal.returns-then-peek
returns-then-peek g c =
    no (held_already c.args.core.now c.args.shard c.args.pairs.now c.loop-data.data-index (record { key = 0; value = 0 }, 0) c.loop-data-test.true
    (home_at c.args.core.now c.args.shard c.args.pairs.now c.loop-data.data-index _ c.loop-data-test.true c.requires.homes) c.if-peek.ensures)

pub returns-then-not-branch : goal.returns-then-not-branch
returns-then-not-branch g c =
    let key = (get_or c.args.pairs.now c.loop-data.data-index (record { key = 0; value = 0 }, 0)).0.key in
    no (stands_twice c.args.core.now c.args.shard c.args.pairs.now c.loop-data.data-index (record { key = 0; value = 0 }, 0) c.loop-data-test.true
    (ltb-true _ _ (sym (c.loop-data.invariant.seen key) ∙ not-false _ (sym c.in_ok-insert.ensures.added ∙ c.if-not-branch.true))))

pub loop-data-preserved : goal.loop-data-preserved
loop-data-preserved g c =
    let key = (get_or c.args.pairs.now c.loop-data.data-index (record { key = 0; value = 0 }, 0)).0.key in
    let here : home c.args.core.now key ≡ c.args.shard = home_at c.args.core.now c.args.shard c.args.pairs.now c.loop-data.data-index _ c.loop-data-test.true c.requires.homes in
    let held : times key (list_at c.args.core.now c.args.shard) ≡ 0 = times_not_held (list_at c.args.core.now c.args.shard) key (c.if-peek.ensures ∙ ap (λ q. is_held (list_at c.args.core.now q) key) here) in
    let few : times key (map row_of_pair (take c.loop-data.data-index c.args.pairs.now)) ≤ 0 = ltb-false _ _ (sym (c.loop-data.invariant.seen key) ∙ not-true _ (sym c.in_ok-insert.ensures.added ∙ c.if-not-branch.false)) in
    let new : times key (map row_of_pair (take c.loop-data.data-index c.args.pairs.now)) ≡ 0 = omega arith in record {
      keys = keys_more (list_at c.args.core.now c.args.shard) c.args.pairs.now c.loop-data.data-index _ c.loop-data-test.true held new c.loop-data.invariant.keys;
      seen = λ k. seen_more c.args.pairs.now c.loop-data.data-index _ c.loop-data-test.true k _ _ (c.in_ok-insert.ensures.updates.0 k) (c.loop-data.invariant.seen k);
    }

pub returns : goal.returns
returns g c = (λ e. all_join c.args.core.now c.args.shard c.args.pairs.now c.loop-data.data-index c.loop-data-test.false c.requires.homes c.loop-data.invariant.keys, λ j. refl)
