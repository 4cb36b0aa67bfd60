-- Once all books are in one hand, and each seat's slips were compared with it, the receipts are tied to the entries.
use Rattle.std.proofs.Common.{◌≡◌, ◌⊎◌, ℕ, zero, suc, ◌+◌, ◌<◌, List, [], ◌∷◌, length, map, Some, None, refl, sym, ap, ◌∙◌, subst, inl, inr, ⊎_elim, arith}
use Rattle.std.specs.Prelude.{slice_get}
use Rattle.lru_recording.specs.declared.entry.Stamp.{Stamp}
use Rattle.lru_recording.specs.declared.entry.Entry.{Entry}
use Rattle.lru_recording.specs.declared.entry.Receipt.{Receipt}
use Rattle.lru_short_locks.specs.Hands.{up, Among}
use Rattle.lru_recording.specs.Ties.{hand, Shows}
use Rattle.lru_recording.specs.Stamps.{entry, receipt, stamp, slip, stamps_in, slips_in, TurnsRise}
use Rattle.lru_recording.specs.Tied.{AreKept, AreHeld, PlacesRise, AreTied, IsBook}
use Rattle.lru_short_locks.proofs.Hands.{some_same, none_some, up_get, up_some}
use Rattle.lru_recording.proofs.Lists.{find_stamp, find_slip, at_stamp, at_slip}

module _ {A B : Type 0} where
  pub map_get : (f : A → B) (l : List A) (i : ℕ) (b : B) → slice_get (map f l) i ≡ Some b → (a : A) × ((slice_get l i ≡ Some a) × (f a ≡ b))
  map_get f [] i b e = absurd (none_some b e)
  map_get f (x ∷ xs) zero b e = (x, (refl, some_same (f x) b e))
  map_get f (x ∷ xs) (suc i) b e = map_get f xs i b e

  pub get_map : (f : A → B) (l : List A) (i : ℕ) (a : A) → slice_get l i ≡ Some a → slice_get (map f l) i ≡ Some (f a)
  get_map f [] i a e = absurd (none_some a e)
  get_map f (x ∷ xs) zero a e = ap (λ (y : A). Some (f y)) (some_same x a e)
  get_map f (x ∷ xs) (suc i) a e = get_map f xs i a e

module _ {S : Type 0} (number : S → ℕ) (own : S → List Receipt) (n m : ℕ) (shards : List ℕ) (book : List Stamp) (hs : List (List Entry)) (ss : List S)
    (numbers : map number ss ≡ up 0 m)
    (shows : (k : ℕ) (s : S) → slice_get ss k ≡ Some s → Shows n m (hand shards (number s ∷ []) book (slips_in (number s) 0 (own s))))
    (all : Shows n m (hand shards [] book []))
    (books : IsBook n hs shards book)
    (rising : (s : ℕ) (h : List Entry) → slice_get hs s ≡ Some h → TurnsRise h) where
  -- a seat's number is its place
  in_order : (k : ℕ) (s : S) → slice_get ss k ≡ Some s → number s ≡ k
  in_order k s e = let z = up_get 0 m k (number s) (sym (ap (λ l. slice_get l k) numbers) ∙ get_map number ss k s e) in omega (arith, z)

  at_seat : (i : ℕ) (rs : List Receipt) → slice_get (map own ss) i ≡ Some rs → Shows n m (hand shards (i ∷ []) book (slips_in i 0 rs))
  at_seat i rs e =
      let r = map_get own ss i rs e in
      subst (λ (l : List Receipt). Shows n m (hand shards (i ∷ []) book (slips_in i 0 l))) r.1.1
      (subst (λ (k : ℕ). Shows n m (hand shards (k ∷ []) book (slips_in k 0 (own r.0)))) (in_order i r.0 r.1.0) (shows i r.0 r.1.0))

  pub are_kept : AreKept hs (map own ss)
  are_kept i t rs r p q =
      let x : Stamp = slip i t r in
      let mine : Among x (slips_in i 0 rs) = subst (λ (k : ℕ). Among (slip i k r) (slips_in i 0 rs)) (let z : 0 + t ≡ t = omega arith in z) (at_slip i 0 rs t r q) in
      let shown = at_seat i rs p in
      let b = books.to x (shown.book x mine (books.named r.shard (shown.of_shard x mine))) in
      let f = find_stamp x b.0 0 b.1.0 b.1.1.1 in
      let e = f.1 in
      let same = f.3 in
      let shard : b.0 ≡ r.shard = sym (ap (λ (y : Stamp). y.shard) same) in
      let place : f.0 ≡ r.place = let a : r.place ≡ 0 + f.0 = ap (λ (y : Stamp). y.place) same in omega (arith, a) in
      let seat : e.seat ≡ i = sym (ap (λ (y : Stamp). y.seat) same) in
      let turn : e.turn ≡ t = sym (ap (λ (y : Stamp). y.turn) same) in
      let call : e.call ≡ r.call = sym (ap (λ (y : Stamp). y.call) same) in
      let reply : e.reply ≡ r.reply = sym (ap (λ (y : Stamp). y.reply) same) in
      (b.1.0, (ap (slice_get hs) (sym shard) ∙ b.1.1.0, ap (slice_get b.1.0) (sym place) ∙ f.2 ∙ (λ j. Some (entry (seat j) (turn j) (call j) (reply j)))))

  has_seat : (i : ℕ) → i < m → (rs : List Receipt) × (slice_get (map own ss) i ≡ Some rs)
  has_seat i h = let r = map_get number ss i (0 + i) (ap (λ l. slice_get l i) numbers ∙ up_some 0 m i h) in (own r.0, get_map own ss i r.0 r.1.0)

  pub are_held : AreHeld hs (map own ss)
  are_held s p h e a b =
      let x : Stamp = stamp s p e in
      let booked : Among x book = books.from x s h a (subst (λ (k : ℕ). Among (stamp s k e) (stamps_in s 0 h)) (let z : 0 + p ≡ p = omega arith in z) (at_stamp s 0 h p e b)) in
      let r = has_seat e.seat (all.of_seat x booked) in
      let f = find_slip x e.seat 0 r.0 ((at_seat e.seat r.0 r.1).slips x booked (inl refl)) in
      let q = f.1 in
      let same = f.3 in
      let turn : f.0 ≡ e.turn = let z : e.turn ≡ 0 + f.0 = ap (λ (y : Stamp). y.turn) same in omega (arith, z) in
      let shard : q.shard ≡ s = sym (ap (λ (y : Stamp). y.shard) same) in
      let place : q.place ≡ p = sym (ap (λ (y : Stamp). y.place) same) in
      let call : q.call ≡ e.call = sym (ap (λ (y : Stamp). y.call) same) in
      let reply : q.reply ≡ e.reply = sym (ap (λ (y : Stamp). y.reply) same) in
      (r.0, (r.1, ap (slice_get r.0) (sym turn) ∙ f.2 ∙ (λ j. Some (receipt (shard j) (place j) (call j) (reply j)))))

  -- of two receipts for one shard the later one has the later place, since the turns rise in that shard's history
  pub places_rise : PlacesRise (map own ss)
  places_rise i t u rs r q at less at_t at_u same =
      let a = are_kept i t rs r at at_t in
      let b = are_kept i u rs q at at_u in
      let one : b.0 ≡ a.0 = some_same b.0 a.0 (sym b.1.0 ∙ ap (slice_get hs) (sym same) ∙ a.1.0) in
      let later : slice_get a.0 q.place ≡ Some (entry i u q.call q.reply) = ap (λ l. slice_get l q.place) (sym one) ∙ b.1.1 in
      let rise = rising r.shard a.0 a.1.0 in
      by_place (compare_places r.place q.place)
      (λ (k : q.place < r.place). let z : u < t = rise q.place r.place (entry i u q.call q.reply) (entry i t r.call r.reply) k later a.1.1 refl in absurd (omega (arith, less, z)))
      (λ (k : q.place ≡ r.place). let z : entry i u q.call q.reply ≡ entry i t r.call r.reply = some_same _ _ (sym later ∙ ap (slice_get a.0) k ∙ a.1.1) in let y : u ≡ t = ap (λ (e : Entry). e.turn) z in absurd (omega (arith, less, y)))
    where
      compare_places : (x y : ℕ) → (x < y) ⊎ ((y < x) ⊎ (y ≡ x))
      compare_places zero zero = inr (inr refl)
      compare_places zero (suc y) = inl (omega arith)
      compare_places (suc x) zero = inr (inl (omega arith))
      compare_places (suc x) (suc y) = ⊎_elim (λ (h : x < y). inl (omega (arith, h))) (λ (h : (y < x) ⊎ (y ≡ x)). inr (⊎_elim (λ (k : y < x). inl (omega (arith, k))) (λ (k : y ≡ x). inr (ap suc k)) h)) (compare_places x y)

      by_place : {x y : ℕ} → (x < y) ⊎ ((y < x) ⊎ (y ≡ x)) → ((y < x) → x < y) → ((y ≡ x) → x < y) → x < y
      by_place (inl h) f g = h
      by_place (inr (inl h)) f g = f h
      by_place (inr (inr h)) f g = g h

  pub are_tied : AreTied hs (map own ss)
  are_tied = record { kept = are_kept; held = are_held; rise = places_rise }
