use Rattle.std.proofs.Common.{◌≡◌, ◌⊎◌, ◌+◌, [], ◌∷◌, ◌++◌, length, vec_len, map, List, ℕ, Some, rules, arith, sym, ap, ◌∙◌, subst, ⊎_elim}
use Rattle.std.specs.Prelude.{slice_get}
use Rattle.lru_shard.specs.Limits.{cap_of}
use Rattle.lru_shard.specs.Shards.{IsOwn}
use Rattle.lru_recording.specs.declared.entry.Entry.{Entry}
use Rattle.lru_recording.specs.Stamps.{TurnsRise}
use Rattle.lru_recording.proofs.Lists.{get_snoc}
use Rattle.lru_recording.specs.Plain.{forget}
use Rattle.lru_recording.specs.Histories.{lists_of, left_by, replies, answers, home, homes_from, shards_from}
use Rattle.lru_short_locks.proofs.Hands.{map_snoc}
use Rattle.lru_recording.proofs.Records.{homes_snoc, shards_snoc, length_of_map}
use Rattle.lru_recording.proofs.gathered.Gathered.add.Goals as goal

pub invariant_of-self : goal.invariant_of-self
invariant_of-self g c =
    let old = c.args.self.now in
    let k = c.args.kept in
    let n = g.row.N in
    let h = k.history.items in
    let hs : List (List Entry) = lists_of old.histories.items in
    let lists : lists_of c.push_reserved-2.new.self.items ≡ hs ++ h ∷ [] = ap lists_of c.push_reserved-2.ensures.items ∙ map_snoc _ _ _ in
    let units : map (λ u. forget u.rows) c.push_reserved.new.self.items ≡ map (λ u. forget u.rows) old.units.items ++ forget k.unit.rows ∷ [] = ap (map (λ u. forget u.rows)) c.push_reserved.ensures.items ∙ map_snoc _ _ _ in
    let number : k.number ≡ vec_len old.histories = c.requires.number in
    let len : vec_len old.histories ≡ length old.histories.items = search rules in
    let long : vec_len old.units ≡ length old.units.items = search rules in
    let here : k.number ≡ 0 + length hs = let m = length_of_map (λ v. v.items) old.histories.items in omega (arith, number, len, m) in
    record {
      ends = units ∙ (λ i. old.ends i ++ k.ends i ∷ []) ∙ sym (map_snoc (left_by (cap_of n) []) hs h) ∙ ap (map (left_by (cap_of n) [])) (sym lists);
      right = ap (map replies) lists ∙ map_snoc replies hs h ∙ (λ i. old.right i ++ k.right i ∷ []) ∙ sym (map_snoc (answers (cap_of n) []) hs h) ∙ ap (map (answers (cap_of n) [])) (sym lists);
      homes = ap (homes_from n 0) lists ∙ homes_snoc n 0 hs h ∙ (λ i. old.homes i ++ (ap (λ (m : ℕ). map (λ (e : Entry). home n m e.call) h) (sym here) ∙ k.homes ∙ ap (λ (m : ℕ). map (λ (_ : Entry). m) h) here) i ∷ []) ∙ sym (shards_snoc 0 hs h) ∙ ap (shards_from 0) (sym lists);
      rising = λ s x e. ⊎_elim
          (λ (a : slice_get hs s ≡ Some x). old.rising s x a)
          (λ (b : (s ≡ length hs) × (h ≡ x)). subst TurnsRise b.1 k.rising)
          (get_snoc hs h s x (sym (ap (λ l. slice_get l s) lists) ∙ e));
      own = λ s u e. ⊎_elim
          (λ (a : slice_get old.units.items s ≡ Some u). old.own s u a)
          (λ (b : (s ≡ length old.units.items) × (k.unit ≡ u)). let at : k.number ≡ s = omega (arith, number, old.same_count, b.0, long) in subst (λ (m : ℕ). IsOwn n m u) at (subst (IsOwn n k.number) b.1 k.own))
          (get_snoc old.units.items k.unit s u (sym (ap (λ l. slice_get l s) c.push_reserved.ensures.items) ∙ e));
      same_count = search rules;
    }
