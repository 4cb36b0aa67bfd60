use Rattle.std.proofs.Common.{◌≡◌, ℕ, ◌%◌, ◌≤◌, max, false, ◌||◌, List, [], ◌∷◌, ◌++◌, map, length, take, drop, set, get_or, Some, None, Ok, Err, refl, sym, ap, ◌∙◌, arith, subst, inl, inr}
use Rattle.std.specs.Prelude.{Bool, Option, All, filter, sum_by, nat_lt, IsFalse}
use Rattle.std.proofs.lemmas.Bool.{cases_lt, false≢true, ltb-false, le-ltb, or_parts, or_from}
use Rattle.std.proofs.lemmas.List.{map-append, take-append-drop, take-append-le, length-set, get_or-set_same}
use Rattle.std.proofs.lemmas.List.Elements.{filter-append}
use Rattle.std.proofs.lemmas.List.Prefix.{front_fits}
use Rattle.lru_cores.specs.declared.calls.Call.{Call}
use Rattle.lru_cores.specs.declared.calls.Call.TheVariants.{Admit, SetWeight, Remove, EvictToLimit}
use Rattle.lru_cores.specs.declared.calls.Reply.{Reply}
use Rattle.lru_cores.specs.declared.calls.Reply.TheVariants.{Shard, Was, Left, Evicted}
use Rattle.lru_shard.specs.Row.{Row, row, weight_of, with_first, without, with_weight}
use Rattle.lru_cores.specs.Core.{Core, list_at, with_list, home}
use Rattle.rand_core.specs.Stream.{Stream}
use Rattle.lru_shard.specs.Limits.{is_above}
use Rattle.lru_cores.specs.Eviction.{is_over, EvictionRun, KeepsLongestFront}
use Rattle.lru_cores.specs.Calls.{Gives, Run}
use Rattle.lru_cores.specs.Inclusion.{IsFrontOf, IsNoHigher, IsInclusionCall, IsGranted}
use Rattle.lru_cores.proofs.EvictionRuns.{take_take, run_long, longest_front}
use Rattle.lru_cores.proofs.CallLaws.{all_first, all_rest}
use Rattle.lru_cores.proofs.inclusion.inclusion_law.Goals as goal

-- the edits of a list keep a front
front-cons : {X : Type 0} (x : X) (xs ys : List X) → IsFrontOf xs ys → IsFrontOf (x ∷ xs) (x ∷ ys)
front-cons x xs ys h = (h.0, ap (λ zs. x ∷ zs) h.1)

front-filter : {X : Type 0} (p : X → Bool) (xs ys : List X) → IsFrontOf xs ys → IsFrontOf (filter p xs) (filter p ys)
front-filter p xs ys h = (filter p h.0, sym (filter-append p xs h.0) ∙ ap (filter p) h.1)

front-map : {X : Type 0} (f : X → X) (xs ys : List X) → IsFrontOf xs ys → IsFrontOf (map f xs) (map f ys)
front-map f xs ys h = (map f h.0, sym (map-append f xs h.0) ∙ ap (map f) h.1)

-- of two fronts of one list the shorter is a front of the longer
front-take : {X : Type 0} (m n : ℕ) (xs : List X) → m ≤ n → IsFrontOf (take m xs) (take n xs)
front-take m n xs le = (drop m (take n xs), ap (λ zs. zs ++ drop m (take n xs)) (sym (take_take m n xs le)) ∙ take-append-drop m (take n xs))

-- what lists of one item are, also after a write
one_item : {X : Type 0} (d : X) (xs : List X) → length xs ≡ 1 → xs ≡ get_or xs 0 d ∷ []
one_item d [] h = absurd (omega arith)
one_item d (x ∷ []) h = refl
one_item d (x ∷ y ∷ xs) h = absurd (omega arith)

one_set : {X : Type 0} (xs : List X) (y : X) → length xs ≡ 1 → set xs 0 y ≡ y ∷ []
one_set [] y h = absurd (omega arith)
one_set (x ∷ []) y h = refl
one_set (x ∷ z ∷ xs) y h = absurd (omega arith)

not_above : (n : ℕ) (watermark higher : Option ℕ) → IsNoHigher watermark higher → is_above n watermark ≡ false → is_above n higher ≡ false
not_above n watermark None h e = refl
not_above n None (Some most) h e = absurd h
not_above n (Some least) (Some most) h e = le-ltb most n (omega (arith, h, ltb-false least n e))

module _ {T : Type 0} where
  -- whether one shard of these rows is over
  abbrev are_over : ℕ → Option ℕ → List (Row T) → Bool
  are_over limit watermark rows = nat_lt limit (sum_by weight_of (rows ∷ [])) || is_above (sum_by (λ (r : List (Row T)). length r) (rows ∷ [])) watermark

  over_with : (c : Core T) (rows : List (Row T)) → length c.lists ≡ 1 → is_over (with_list c 0 rows) ≡ are_over c.weight_limit c.watermark rows
  over_with c rows one = ap (λ ls. is_over (record c { lists = ls })) (one_set c.lists rows one)

  over_now : (c : Core T) → length c.lists ≡ 1 → is_over c ≡ are_over c.weight_limit c.watermark (list_at c 0)
  over_now c one = ap (λ ls. is_over (record c { lists = ls })) (one_item [] c.lists one)

  -- rows within limits are within greater ones
  within_greater : (limit greater : ℕ) (watermark higher : Option ℕ) (rows : List (Row T)) → limit ≤ greater → IsNoHigher watermark higher → are_over limit watermark rows ≡ false → are_over greater higher rows ≡ false
  within_greater limit greater watermark higher rows le h e =
      let weight = sum_by weight_of (rows ∷ []) in
      let len = sum_by (λ (r : List (Row T)). length r) (rows ∷ []) in
      let parts = or_parts (nat_lt limit weight) (is_above len watermark) e in
      or_from (nat_lt greater weight) (is_above len higher) (le-ltb greater weight (omega (arith, le, ltb-false limit weight parts.0))) (not_above len watermark higher h parts.1)

  -- what a call leaves as it was
  record Keeps (old new : Core T) : Type 0 where
    long : length new.lists ≡ length old.lists
    limit : new.weight_limit ≡ old.weight_limit
    watermark : new.watermark ≡ old.watermark

  -- what a call does to the rows of the one shard
  abbrev Moves : Call T → Core T → Core T → Type 0
  Moves (Admit k d w) old new = list_at new 0 ≡ with_first (list_at old 0) (row k d (max w 1))
  Moves (SetWeight k w) old new = list_at new 0 ≡ with_weight (list_at old 0) k (max w 1)
  Moves (Remove k) old new = list_at new 0 ≡ without (list_at old 0) k
  Moves EvictToLimit old new = KeepsLongestFront old new × IsFalse (is_over new)
  Moves _ old new = Unit {0}

  home_zero : (c : Core T) (k : ℕ) → length c.lists ≡ 1 → home c k ≡ 0
  home_zero c k one = let rest : k % 1 ≡ 0 = omega arith in ap (λ n. k % n) one ∙ rest

  -- a call on a key edits the one shard
  keyed : (old : Core T) (k : ℕ) (new : Core T) (edit : List (Row T) → List (Row T)) → length old.lists ≡ 1 → new ≡ with_list old (home old k) (edit (list_at old (home old k))) → Keeps old new × (list_at new 0 ≡ edit (list_at old 0))
  keyed old k new edit one e =
      let at : new ≡ with_list old 0 (edit (list_at old 0)) = e ∙ ap (λ s. with_list old s (edit (list_at old s))) (home_zero old k one) in (
        record {
          long = ap (λ (c : Core T). length c.lists) at ∙ length-set old.lists 0 (edit (list_at old 0));
          limit = ap (λ (c : Core T). c.weight_limit) at;
          watermark = ap (λ (c : Core T). c.watermark) at;
        },
        ap (λ (c : Core T). list_at c 0) at ∙ get_or-set_same old.lists 0 (edit (list_at old 0)) [] (omega (arith, one)),
      )

  run_keeps : (old : Core T) (words : Stream) (pairs : List (T × ℕ)) (new : Core T) (rest : Stream) → EvictionRun old words pairs new rest → Keeps old new
  run_keeps old words [] new rest run = subst (λ c. Keeps old c) (sym run.0) (record { long = refl; limit = refl; watermark = refl })
  run_keeps old words (p ∷ ps) new rest run =
      let after = run_keeps run.0 _ ps new rest run.1.1 in
      let left = run.1.0.left in
      record {
        long = run_long old words (p ∷ ps) new rest run;
        limit = after.limit ∙ ap (λ (c : Core T). c.weight_limit) left;
        watermark = after.watermark ∙ ap (λ (c : Core T). c.watermark) left;
      }

  moves : (old : Core T) (words : Stream) (call : Call T) (reply : Reply T) (new : Core T) (rest : Stream) → length old.lists ≡ 1 → IsInclusionCall call → IsGranted reply → Gives old words call reply new rest → Keeps old new × Moves call old new
  moves old words (Admit k d w) (Shard (Ok s)) new rest one is granted h =
      let acts = h.0.1.1 in
      keyed old k new (λ rows. with_first rows (row k d (max w 1))) one (acts.left ∙ ap (λ z. with_list old (home old k) z.rows) acts.acts.1.left)
  moves old words (Admit k d w) (Shard (Err r)) new rest one is granted h = absurd (false≢true granted)
  moves old words (Admit k d w) _ new rest one is granted h = absurd h.0
  moves old words (SetWeight k w) (Was (Ok was)) new rest one is granted h =
      keyed old k new (λ rows. with_weight rows k (max w 1)) one (h.0.left ∙ ap (λ z. with_list old (home old k) z.rows) h.0.acts.1.left)
  moves old words (SetWeight k w) (Was (Err cause)) new rest one is granted h = absurd (false≢true granted)
  moves old words (SetWeight k w) _ new rest one is granted h = absurd h.0
  moves old words (Remove k) (Left answer) new rest one is granted h = keyed old k new (λ rows. without rows k) one h.0.1
  moves old words (Remove k) _ new rest one is granted h = absurd h.0
  moves old words EvictToLimit (Evicted (Ok pairs)) new rest one is granted h =
      (run_keeps old words pairs.items new rest h.run, (longest_front old words pairs.items new rest one h.run, h.within))
  moves old words EvictToLimit (Evicted (Err stopped)) new rest one is granted h = absurd (false≢true granted)
  moves old words EvictToLimit _ new rest one is granted h = absurd h
  moves old words _ _ new rest one is granted h = absurd is

  -- two cores of one shard: the limits of the first are no greater, and its rows are a front of the second's
  record Includes (a b : Core T) : Type 0 where
    one_a : length a.lists ≡ 1
    one_b : length b.lists ≡ 1
    limit : a.weight_limit ≤ b.weight_limit
    watermark : IsNoHigher a.watermark b.watermark
    front : IsFrontOf (list_at a 0) (list_at b 0)

  -- where a's rows are evicted to c's and b's to d's: c's are within b's limits too, so the longest front of b's within them is no shorter
  evict_front : (a b c d : Core T) → Includes a b → Keeps a c → KeepsLongestFront a c → is_over c ≡ false → KeepsLongestFront b d → IsFrontOf (list_at c 0) (list_at d 0)
  evict_front a b c d i k s under l =
      let xs = list_at a 0 in
      let ys = list_at b 0 in
      let fits : length xs ≤ length ys = front_fits ys xs i.front.0 (sym i.front.1) in
      let same : take s.kept ys ≡ list_at c 0 = ap (take s.kept) (sym i.front.1) ∙ take-append-le s.kept xs i.front.0 s.within ∙ sym s.rows in
      let small : are_over a.weight_limit a.watermark (list_at c 0) ≡ false =
      ap (λ n. are_over n a.watermark (list_at c 0)) (sym k.limit) ∙ ap (λ m. are_over c.weight_limit m (list_at c 0)) (sym k.watermark) ∙ sym (over_now c (k.long ∙ i.one_a)) ∙ under in
      let large : is_over (with_list b 0 (take s.kept ys)) ≡ false =
      over_with b (take s.kept ys) i.one_b ∙ ap (are_over b.weight_limit b.watermark) same
      ∙ within_greater a.weight_limit b.weight_limit a.watermark b.watermark (list_at c 0) i.limit i.watermark small in
      elim (cases_lt l.kept s.kept) [
        | inl lt ↦ absurd (false≢true (sym large ∙ l.longest s.kept lt (omega (arith, fits, s.within))))
        | inr le ↦ subst (λ zs. IsFrontOf zs (list_at d 0)) same (subst (λ zs. IsFrontOf (take s.kept ys) zs) (sym l.rows) (front-take s.kept l.kept ys le))
      ]

  moved_front : (call : Call T) (a b c d : Core T) → IsInclusionCall call → Includes a b → Keeps a c → Moves call a c → Moves call b d → IsFrontOf (list_at c 0) (list_at d 0)
  moved_front (Admit k v w) a b c d is i keeps m n =
      subst (λ xs. IsFrontOf xs (list_at d 0)) (sym m) (subst (λ ys. IsFrontOf (with_first (list_at a 0) (row k v (max w 1))) ys) (sym n)
      (front-cons _ _ _ (front-filter _ _ _ i.front)))
  moved_front (SetWeight k w) a b c d is i keeps m n =
      subst (λ xs. IsFrontOf xs (list_at d 0)) (sym m) (subst (λ ys. IsFrontOf (with_weight (list_at a 0) k (max w 1)) ys) (sym n) (front-map _ _ _ i.front))
  moved_front (Remove k) a b c d is i keeps m n =
      subst (λ xs. IsFrontOf xs (list_at d 0)) (sym m) (subst (λ ys. IsFrontOf (without (list_at a 0) k) ys) (sym n) (front-filter _ _ _ i.front))
  moved_front EvictToLimit a b c d is i keeps m n = evict_front a b c d i keeps m.0 m.1 n.0
  moved_front _ a b c d is i keeps m n = absurd is

  -- one call of both
  includes_more : (call : Call T) (r s : Reply T) (u v x y : Stream) (a b c d : Core T) → IsInclusionCall call → IsGranted r → IsGranted s → Gives a u call r c x → Gives b v call s d y → Includes a b → Includes c d
  includes_more call r s u v x y a b c d is granted_r granted_s gives_r gives_s i =
      let m = moves a u call r c x i.one_a is granted_r gives_r in
      let n = moves b v call s d y i.one_b is granted_s gives_s in
      record {
        one_a = m.0.long ∙ i.one_a;
        one_b = n.0.long ∙ i.one_b;
        limit = omega (arith, m.0.limit, n.0.limit, i.limit);
        watermark = subst (λ l. IsNoHigher l d.watermark) (sym m.0.watermark) (subst (λ h. IsNoHigher a.watermark h) (sym n.0.watermark) i.watermark);
        front = moved_front call a b c d is i m.0 m.1 n.1;
      }

  includes_all : (calls : List (Call T)) (rs ss : List (Reply T)) (u v x y : Stream) (a b c d : Core T) → All IsInclusionCall calls → All IsGranted rs → All IsGranted ss → Run a u calls rs c x → Run b v calls ss d y → Includes a b → Includes c d
  includes_all [] [] [] u v x y a b c d is granted_r granted_s run_r run_s i = subst (λ z. Includes z d) (sym run_r.0) (subst (λ z. Includes a z) (sym run_s.0) i)
  includes_all [] (r ∷ rs) ss u v x y a b c d is granted_r granted_s run_r run_s i = absurd run_r
  includes_all [] [] (s ∷ ss) u v x y a b c d is granted_r granted_s run_r run_s i = absurd run_s
  includes_all (call ∷ calls) [] ss u v x y a b c d is granted_r granted_s run_r run_s i = absurd run_r
  includes_all (call ∷ calls) (r ∷ rs) [] u v x y a b c d is granted_r granted_s run_r run_s i = absurd run_s
  includes_all (call ∷ calls) (r ∷ rs) (s ∷ ss) u v x y a b c d is granted_r granted_s run_r run_s i =
      includes_all calls rs ss run_r.1.0 run_s.1.0 x y run_r.0 run_s.0 c d
      (all_rest IsInclusionCall call calls is) (all_rest IsGranted r rs granted_r) (all_rest IsGranted s ss granted_s) run_r.1.1.1 run_s.1.1.1
      (includes_more call r s u v run_r.1.0 run_s.1.0 a b run_r.0 run_s.0
      (all_first IsInclusionCall call calls is) (all_first IsGranted r rs granted_r) (all_first IsGranted s ss granted_s) run_r.1.1.0 run_s.1.1.0 i)

pub returns : goal.returns
returns g c calls limit greater watermark higher small large is le no_higher a b =
    (includes_all calls a.replies b.replies a.words b.words a.rest b.rest _ _ small large is a.granted b.granted a.run b.run
    (record { one_a = refl; one_b = refl; limit = omega arith; watermark = no_higher; front = ([], refl) })).front
