-- What is left of a list between two of its places, and a step from either end.
use Rattle.std.proofs.Common.{◌≡◌, ℕ, ◌<◌, ◌≤◌, List, [], ◌∷◌, ◌++◌, length, take, drop, map, suc, zero, Some, refl, sym, ap, ◌∙◌, subst, arith, append_assoc}
use Rattle.std.specs.Prelude.{slice_get}
use Rattle.std.proofs.lemmas.List.{take_at, length-append, map-append, length-map}
use Rattle.lru_list.specs.declared.linked_list.Node.{Node}
use Rattle.lru_list.specs.Linked.{times}
use Rattle.lru_list.specs.Representation.Nodes.{pairs, at, nexts, prevs, items, path, order_of, stack_of, rest_of, pairs_of, Chain, IsList, IsSpan}
use Rattle.lru_list.proofs.Chains.{times-cons, times-append, times_here, length-path, chain_split}
use Rattle.lru_list.proofs.Splices.{last_split, live_range}
use Rattle.lru_list.proofs.NodePairs.{pairs-append, pairs_first, indices-pairs}
use Rattle.lru_list.proofs.LinkedStates.{length-nexts, length-items, length-order}

-- ---- parts of a chain
chain_rest : (ns ps : List ℕ) (x : ℕ) (xs : List ℕ) → Chain ns ps (x ∷ xs) → Chain ns ps xs
chain_rest ns ps x [] c = tt
chain_rest ns ps x (y ∷ ys) c = c.2

chain_front : (ns ps : List ℕ) (xs : List ℕ) (y : ℕ) → Chain ns ps (xs ++ y ∷ []) → Chain ns ps xs
chain_front ns ps [] y c = tt
chain_front ns ps (x ∷ xs) y c =
    let s = last_split x xs in
    subst (Chain ns ps) (sym s.2) (chain_split ns ps s.0 s.1 (y ∷ []) (subst (Chain ns ps) (ap (λ zs. zs ++ y ∷ []) s.2 ∙ append_assoc s.0 (s.1 ∷ []) (y ∷ [])) c)).0

-- a shorter path is the front of a longer one
path-take : (links : List ℕ) (n i : ℕ) → path links n i ≡ take n (path links (suc n) i)
path-take links zero i = refl
path-take links (suc n) i = ap (λ zs. i ∷ zs) (path-take links n (at links i))

module _ {K : Type 0} (ns : List (Node K)) where
  -- the items at these places
  items_at : List ℕ → List K
  items_at places = map (λ (p : ℕ × K). p.1) (pairs (items ns) places)

  length-items_at : (places : List ℕ) → ((j : ℕ) → 1 ≤ times j places → j < length ns) → length (map (λ (p : ℕ × K). p.1) (pairs (items ns) places)) ≡ length places
  length-items_at places within =
      let is = indices-pairs (items ns) places (λ j l. omega (arith, within j l, length-items ns)) in
      length-map (pairs (items ns) places) (λ (p : ℕ × K). p.1) ∙ sym (length-map (pairs (items ns) places) (λ (p : ℕ × K). p.0)) ∙ ap length is

  pub length-rest : (head tail len : ℕ) → IsSpan ns head tail len → length (rest_of ns head len) ≡ len
  length-rest head tail len h = length-items_at (path (nexts ns) len head) h.within ∙ length-path (nexts ns) len head

  -- ---- a step from the front
  pub first_within : (head tail n : ℕ) → IsSpan ns head tail (suc n) → head < length ns
  first_within head tail n h = h.within head (omega (arith, times_here head (path (nexts ns) n (at (nexts ns) head))))

  pub first_step : (head tail n : ℕ) → IsSpan ns head tail (suc n) → IsSpan ns (at (nexts ns) head) tail n
  first_step head tail n h =
      let rest = path (nexts ns) n (at (nexts ns) head) in
      record {
        chain = chain_rest (nexts ns) (prevs ns) head rest h.chain;
        within = λ j l. h.within j (omega (arith, l, times-cons j head rest));
        last = λ some. let l = h.last (omega arith) in last_of rest l.0 (omega (arith, some, length-path (nexts ns) n (at (nexts ns) head))) l.1;
      }
    where
      last_of : (rest front : List ℕ) → 0 < length rest → head ∷ rest ≡ front ++ tail ∷ [] → (front' : List ℕ) × (rest ≡ front' ++ tail ∷ [])
      last_of rest [] some e = absurd (omega (arith, some, ap length e))
      last_of rest (f ∷ fs) some e = (fs, ap (drop 1) e)

  pub first_item : (head n : ℕ) (x : K) → slice_get (items ns) head ≡ Some x → rest_of ns head (suc n) ≡ x ∷ rest_of ns (at (nexts ns) head) n
  first_item head n x e = ap (map (λ (p : ℕ × K). p.1)) (pairs_first (items ns) head x (path (nexts ns) n (at (nexts ns) head)) e)

  pub first_pair : (head n : ℕ) (x : K) → slice_get (items ns) head ≡ Some x → pairs_of ns head (suc n) ≡ (head, x) ∷ pairs_of ns (at (nexts ns) head) n
  first_pair head n x e = pairs_first (items ns) head x (path (nexts ns) n (at (nexts ns) head)) e

  pub length-pairs_of : (head tail len : ℕ) → IsSpan ns head tail len → length (pairs_of ns head len) ≡ len
  length-pairs_of head tail len h = sym (length-map (pairs_of ns head len) (λ (p : ℕ × K). p.1)) ∙ length-rest head tail len h

  -- ---- a step from the back
  module _ (head tail n : ℕ) (h : IsSpan ns head tail (suc n)) where
    front : List ℕ
    front = (h.last (omega arith)).0

    whole : path (nexts ns) (suc n) head ≡ (h.last (omega arith)).0 ++ tail ∷ []
    whole = (h.last (omega arith)).1

    length-front : length (h.last (omega arith)).0 ≡ n
    length-front =
        let f = (h.last (omega arith)).0 in
        omega (arith, length-path (nexts ns) (suc n) head, ap length whole, length-append f (tail ∷ []))

    shorter : path (nexts ns) n head ≡ (h.last (omega arith)).0
    shorter =
        let f = (h.last (omega arith)).0 in
        path-take (nexts ns) n head ∙ ap (take n) whole ∙ take_at f (tail ∷ []) n length-front

    front_chain : Chain (nexts ns) (prevs ns) ((h.last (omega arith)).0 ++ tail ∷ [])
    front_chain = subst (Chain (nexts ns) (prevs ns)) whole h.chain

    pub last_within : tail < length ns
    last_within =
        let f = (h.last (omega arith)).0 in
        h.within tail (omega (arith, ap (times tail) whole, times-append tail f (tail ∷ []), times_here tail []))

    before : (fs : List ℕ) → 0 < length fs → Chain (nexts ns) (prevs ns) (fs ++ tail ∷ []) → (front' : List ℕ) × (fs ≡ front' ++ at (prevs ns) tail ∷ [])
    before [] some c = absurd (omega (arith, some))
    before (f ∷ fs) some c =
        let s = last_split f fs in
        let two = chain_split (nexts ns) (prevs ns) s.0 s.1 (tail ∷ []) (subst (Chain (nexts ns) (prevs ns)) (ap (λ zs. zs ++ tail ∷ []) s.2 ∙ append_assoc s.0 (s.1 ∷ []) (tail ∷ [])) c) in
        (s.0, s.2 ∙ ap (λ z. s.0 ++ z ∷ []) (sym two.1.1))

    pub last_step : IsSpan ns head (at (prevs ns) tail) n
    last_step =
        let f = (h.last (omega arith)).0 in
        record {
          chain = subst (Chain (nexts ns) (prevs ns)) (sym shorter) (chain_front (nexts ns) (prevs ns) f tail front_chain);
          within = λ j l. h.within j (omega (arith, l, ap (times j) shorter, ap (times j) whole, times-append j f (tail ∷ [])));
          last = λ some. let b = before f (omega (arith, some, length-front)) front_chain in (b.0, shorter ∙ b.1);
        }

    pub last_place : path (nexts ns) (suc n) head ≡ path (nexts ns) n head ++ tail ∷ []
    last_place = whole ∙ ap (λ ps. ps ++ tail ∷ []) (sym shorter)

    pub last_item : (x : K) → slice_get (items ns) tail ≡ Some x → rest_of ns head (suc n) ≡ rest_of ns head n ++ x ∷ []
    last_item x e =
        let f = (h.last (omega arith)).0 in
        let value = λ (p : ℕ × K). p.1 in
        ap (λ ps. map value (pairs (items ns) ps)) whole ∙ ap (map value) (pairs-append (items ns) f (tail ∷ []))
        ∙ map-append value (pairs (items ns) f) (pairs (items ns) (tail ∷ []))
        ∙ ap (λ zs. map value (pairs (items ns) f) ++ map value zs) (pairs_first (items ns) tail x [] e)
        ∙ ap (λ ps. map value (pairs (items ns) ps) ++ x ∷ []) (sym shorter)

    pub last_pair : (x : K) → slice_get (items ns) tail ≡ Some x → pairs_of ns head (suc n) ≡ pairs_of ns head n ++ (tail, x) ∷ []
    last_pair x e =
        ap (pairs (items ns)) last_place ∙ pairs-append (items ns) (path (nexts ns) n head) (tail ∷ [])
        ∙ ap (λ zs. pairs_of ns head n ++ zs) (pairs_first (items ns) tail x [] e)

  -- ---- a whole list
  pub whole_span : (top len : ℕ) → IsList ns top len → IsSpan ns (at (nexts ns) 0) (at (prevs ns) 1) len
  whole_span top len h =
      let order = order_of ns len in
      let c = chain_rest (nexts ns) (prevs ns) 0 (order ++ 1 ∷ []) h.linked.chain in
      record {
        chain = chain_front (nexts ns) (prevs ns) order 1 c;
        within = λ j l. omega (arith, (live_range (nexts ns) (prevs ns) (stack_of ns top len) order h.linked j l).1, length-nexts ns);
        last = λ some. ends_at order (omega (arith, some, length-order ns top len h)) c;
      }
    where
      ends_at : (os : List ℕ) → 0 < length os → Chain (nexts ns) (prevs ns) (os ++ 1 ∷ []) → (front : List ℕ) × (os ≡ front ++ at (prevs ns) 1 ∷ [])
      ends_at [] some c = absurd (omega (arith, some))
      ends_at (o ∷ os) some c =
          let s = last_split o os in
          let two = chain_split (nexts ns) (prevs ns) s.0 s.1 (1 ∷ []) (subst (Chain (nexts ns) (prevs ns)) (ap (λ zs. zs ++ 1 ∷ []) s.2 ∙ append_assoc s.0 (s.1 ∷ []) (1 ∷ [])) c) in
          (s.0, s.2 ∙ ap (λ z. s.0 ++ z ∷ []) (sym two.1.1))
