-- Laws of counts, of chains with a place spliced in or out, and of paths along links.
use Rattle.std.proofs.Common.{◌≡◌, ◌≢◌, ℕ, ◌+◌, ◌<◌, ◌≤◌, cond, eqb, List, [], ◌∷◌, ◌++◌, length, set, suc, zero, refl, sym, ap, ◌∙◌, subst, arith, append_assoc, inl, inr}
use Rattle.std.specs.Prelude.{reverse}
use Rattle.std.proofs.lemmas.List.{get_or-set_same, get_or-set_other, length-set, reverse-append}
use Rattle.std.proofs.lemmas.List.Sums.{sum_by-cons, sum_by-append}
use Rattle.std.proofs.lemmas.Bool.{eq-eqb, ne_eqb, cases_eq}
use Rattle.lru_list.specs.Linked.{times}
use Rattle.lru_list.specs.Representation.Nodes.{at, path, Follow, Chain, IsStack}

-- ---- counts
pub times-cons : (i x : ℕ) (xs : List ℕ) → times i (x ∷ xs) ≡ cond (eqb x i) 1 0 + times i xs
times-cons i x xs = sum_by-cons (λ y. cond (eqb y i) 1 0) x xs

pub times-append : (i : ℕ) (xs ys : List ℕ) → times i (xs ++ ys) ≡ times i xs + times i ys
times-append i xs ys = sum_by-append (λ y. cond (eqb y i) 1 0) xs ys

pub times_here : (i : ℕ) (xs : List ℕ) → times i (i ∷ xs) ≡ 1 + times i xs
times_here i xs = times-cons i i xs ∙ ap (λ b. cond {A = ℕ} b 1 0 + times i xs) (eq-eqb i i refl)

pub times_other : (i x : ℕ) (xs : List ℕ) → x ≢ i → times i (x ∷ xs) ≡ times i xs
times_other i x xs ne = omega (arith, times-cons i x xs, ap (λ b. cond {A = ℕ} b 1 0) (ne_eqb x i ne))

pub times_middle : (i : ℕ) (xs : List ℕ) (x : ℕ) (ys : List ℕ) → times i (xs ++ x ∷ ys) ≡ times i (x ∷ []) + times i (xs ++ ys)
times_middle i xs x ys = omega (arith, times-append i xs (x ∷ ys), times-append i xs ys, times-cons i x ys, times-cons i x [])

-- an absent number isn't the first, nor among the others
pub absent_head : (i x : ℕ) (xs : List ℕ) → times i (x ∷ xs) ≡ 0 → x ≢ i
absent_head i x xs h e =
    omega (arith, times-cons i x xs, ap (λ b. cond {A = ℕ} b 1 0) (eq-eqb x i e))

pub absent_tail : (i x : ℕ) (xs : List ℕ) → times i (x ∷ xs) ≡ 0 → times i xs ≡ 0
absent_tail i x xs h = omega (arith, times-cons i x xs)

-- a number that is there stands at a first place
pub record Found (i : ℕ) (xs : List ℕ) : Type 0 where
  pub front : List ℕ
  pub back : List ℕ
  pub is : xs ≡ front ++ i ∷ back
  pub first : times i front ≡ 0

pub found : (i : ℕ) (xs : List ℕ) → 1 ≤ times i xs → Found i xs
found i [] h = absurd (omega (arith, h))
found i (x ∷ xs) h =
    elim (cases_eq x i) [
      | inl e ↦ record { front = []; back = xs; is = ap (λ y. y ∷ xs) e; first = refl }
      | inr ne ↦
          let rest = found i xs (omega (arith, h, times_other i x xs ne)) in
          record { front = x ∷ rest.front; back = rest.back; is = ap (λ ys. x ∷ ys) rest.is; first = times_other i x rest.front ne ∙ rest.first }
    ]

-- ---- a write at a place that is read nowhere
pub keeps_link : (links : List ℕ) (c v a : ℕ) → a ≢ c → at (set links c v) a ≡ at links a
keeps_link links c v a ne = get_or-set_other links c a v 4294967295 ne

pub has_link : (links : List ℕ) (c v : ℕ) → c < length links → at (set links c v) c ≡ v
has_link links c v within = get_or-set_same links c v 4294967295 within

follow_next : (ns ps : List ℕ) (a c v : ℕ) (xs : List ℕ) (b : ℕ) → times c (a ∷ xs) ≡ 0 → Follow ns ps a (xs ++ b ∷ []) → Follow (set ns c v) ps a (xs ++ b ∷ [])
follow_next ns ps a c v [] b h f = (keeps_link ns c v a (absent_head c a [] h) ∙ f.0, f.1, tt)
follow_next ns ps a c v (x ∷ xs) b h f =
    (keeps_link ns c v a (absent_head c a (x ∷ xs) h) ∙ f.0, f.1, follow_next ns ps x c v xs b (absent_tail c a (x ∷ xs) h) f.2)

follow_prev : (ns ps : List ℕ) (a d v : ℕ) (xs : List ℕ) → times d xs ≡ 0 → Follow ns ps a xs → Follow ns (set ps d v) a xs
follow_prev ns ps a d v [] h f = tt
follow_prev ns ps a d v (x ∷ xs) h f =
    (f.0, keeps_link ps d v x (absent_head d x xs h) ∙ f.1, follow_prev ns ps x d v xs (absent_tail d x xs h) f.2)

follow_next_all : (ns ps : List ℕ) (a c v : ℕ) (xs : List ℕ) → times c (a ∷ xs) ≡ 0 → Follow ns ps a xs → Follow (set ns c v) ps a xs
follow_next_all ns ps a c v [] h f = tt
follow_next_all ns ps a c v (x ∷ xs) h f =
    (keeps_link ns c v a (absent_head c a (x ∷ xs) h) ∙ f.0, f.1, follow_next_all ns ps x c v xs (absent_tail c a (x ∷ xs) h) f.2)

-- the next link of the last place may be written
pub chain_next : (ns ps : List ℕ) (c v : ℕ) (xs : List ℕ) (b : ℕ) → times c xs ≡ 0 → Chain ns ps (xs ++ b ∷ []) → Chain (set ns c v) ps (xs ++ b ∷ [])
chain_next ns ps c v [] b h f = tt
chain_next ns ps c v (x ∷ xs) b h f = follow_next ns ps x c v xs b h f

pub chain_next_all : (ns ps : List ℕ) (c v : ℕ) (xs : List ℕ) → times c xs ≡ 0 → Chain ns ps xs → Chain (set ns c v) ps xs
chain_next_all ns ps c v [] h f = tt
chain_next_all ns ps c v (x ∷ xs) h f = follow_next_all ns ps x c v xs h f

pub chain_prev : (ns ps : List ℕ) (d v : ℕ) (xs : List ℕ) → times d xs ≡ 0 → Chain ns ps xs → Chain ns (set ps d v) xs
chain_prev ns ps d v [] h f = tt
chain_prev ns ps d v (x ∷ xs) h f = follow_prev ns ps x d v xs (absent_tail d x xs h) f

-- ---- two chains that meet
follow_split : (ns ps : List ℕ) (a : ℕ) (xs : List ℕ) (b : ℕ) (ys : List ℕ) → Follow ns ps a (xs ++ b ∷ ys) → Follow ns ps a (xs ++ b ∷ []) × Follow ns ps b ys
follow_split ns ps a [] b ys f = ((f.0, f.1, tt), f.2)
follow_split ns ps a (x ∷ xs) b ys f = let r = follow_split ns ps x xs b ys f.2 in ((f.0, f.1, r.0), r.1)

follow_join : (ns ps : List ℕ) (a : ℕ) (xs : List ℕ) (b : ℕ) (ys : List ℕ) → Follow ns ps a (xs ++ b ∷ []) → Follow ns ps b ys → Follow ns ps a (xs ++ b ∷ ys)
follow_join ns ps a [] b ys f g = (f.0, f.1, g)
follow_join ns ps a (x ∷ xs) b ys f g = (f.0, f.1, follow_join ns ps x xs b ys f.2 g)

pub chain_split : (ns ps : List ℕ) (xs : List ℕ) (b : ℕ) (ys : List ℕ) → Chain ns ps (xs ++ b ∷ ys) → Chain ns ps (xs ++ b ∷ []) × Chain ns ps (b ∷ ys)
chain_split ns ps [] b ys f = (tt, f)
chain_split ns ps (x ∷ xs) b ys f = follow_split ns ps x xs b ys f

pub chain_join : (ns ps : List ℕ) (xs : List ℕ) (b : ℕ) (ys : List ℕ) → Chain ns ps (xs ++ b ∷ []) → Chain ns ps (b ∷ ys) → Chain ns ps (xs ++ b ∷ ys)
chain_join ns ps [] b ys f g = g
chain_join ns ps (x ∷ xs) b ys f g = follow_join ns ps x xs b ys f g

-- p is followed by q, by a write to both
pub linked_pair : (ns ps : List ℕ) (xs : List ℕ) (p q : ℕ) (ys : List ℕ) →
    ((i : ℕ) → times i (xs ++ p ∷ q ∷ ys) ≤ 1) → p < length ns → q < length ps →
    Chain ns ps (xs ++ p ∷ []) → Chain ns ps (q ∷ ys) → Chain (set ns p q) (set ps q p) (xs ++ p ∷ q ∷ ys)
linked_pair ns ps xs p q ys once in_p in_q front back =
    let at_p = times-append p xs (p ∷ q ∷ ys) in
    let at_q = times-append q xs (p ∷ q ∷ ys) in
    chain_join (set ns p q) (set ps q p) xs p (q ∷ ys)
    (chain_next ns (set ps q p) p q xs p (omega (arith, once p, at_p, times_here p (q ∷ ys)))
    (chain_prev ns ps q p (xs ++ p ∷ []) (omega (arith, once q, at_q, times-append q xs (p ∷ []), times-cons q p (q ∷ ys), times-cons q p [], times_here q ys)) front)) (
      has_link ns p q in_p,
      has_link ps q p in_q,
      follow_next_all ns (set ps q p) q p q ys (omega (arith, once p, at_p, times_here p (q ∷ ys)))
          (follow_prev ns ps q q p ys (omega (arith, once q, at_q, times-cons q p (q ∷ ys), times_here q ys)) back),
    )

-- a place taken out from between p and q
pub splice_out : (ns ps : List ℕ) (xs : List ℕ) (p i q : ℕ) (ys : List ℕ) →
    ((j : ℕ) → times j (xs ++ p ∷ i ∷ q ∷ ys) ≤ 1) → p < length ns → q < length ps →
    Chain ns ps (xs ++ p ∷ i ∷ q ∷ ys) → Chain (set ns p q) (set ps q p) (xs ++ p ∷ q ∷ ys)
splice_out ns ps xs p i q ys once in_p in_q f =
    let two = chain_split ns ps xs p (i ∷ q ∷ ys) f in
    linked_pair ns ps xs p q ys
    (λ j. omega (arith, once j, times-append j xs (p ∷ i ∷ q ∷ ys), times-append j xs (p ∷ q ∷ ys), times-cons j p (i ∷ q ∷ ys), times-cons j i (q ∷ ys), times-cons j p (q ∷ ys)))
    in_p in_q two.0 two.1.2.2

-- a place put in between p and q
pub splice_in : (ns ps : List ℕ) (xs : List ℕ) (p i q : ℕ) (ys : List ℕ) →
    ((j : ℕ) → times j (xs ++ p ∷ i ∷ q ∷ ys) ≤ 1) → p < length ns → q < length ps → i < length ns → i < length ps →
    Chain ns ps (xs ++ p ∷ q ∷ ys) → Chain (set (set ns p i) i q) (set (set ps i p) q i) (xs ++ p ∷ i ∷ q ∷ ys)
splice_in ns ps xs p i q ys once in_p in_q in_i in_i' f =
    let two = chain_split ns ps xs p (q ∷ ys) f in
    let whole : xs ++ p ∷ [] ++ (i ∷ q ∷ ys) ≡ xs ++ p ∷ i ∷ q ∷ ys = append_assoc xs (p ∷ []) (i ∷ q ∷ ys) in
    let front = linked_pair ns ps xs p i []
    (λ j. omega (arith, once j, times-append j xs (p ∷ i ∷ q ∷ ys), times-append j xs (p ∷ i ∷ []), times-cons j p (i ∷ q ∷ ys), times-cons j i (q ∷ ys), times-cons j p (i ∷ []), times-cons j i []))
    in_p in_i' two.0 tt in
    subst (Chain (set (set ns p i) i q) (set (set ps i p) q i)) whole
    (linked_pair (set ns p i) (set ps i p) (xs ++ p ∷ []) i q ys
    (λ j. omega (arith, once j, ap (times j) whole))
    (omega (arith, in_i, length-set ns p i)) (omega (arith, in_q, length-set ps i p))
    (subst (Chain (set ns p i) (set ps i p)) (sym (append_assoc xs (p ∷ []) (i ∷ []))) front)
    (follow_next_all ns (set ps i p) q p i ys (omega (arith, once p, times-append p xs (p ∷ i ∷ q ∷ ys), times_here p (i ∷ q ∷ ys), times-cons p i (q ∷ ys)))
    (follow_prev ns ps q i p ys (omega (arith, once i, times-append i xs (p ∷ i ∷ q ∷ ys), times-cons i p (i ∷ q ∷ ys), times_here i (q ∷ ys), times-cons i q ys)) two.1.2)))

-- links that read alike join the same places
pub chain_same : (ns ps ns' ps' : List ℕ) → ((j : ℕ) → at ns' j ≡ at ns j) → ((j : ℕ) → at ps' j ≡ at ps j) → (a : ℕ) (xs : List ℕ) → Follow ns ps a xs → Follow ns' ps' a xs
chain_same ns ps ns' ps' n p a [] f = tt
chain_same ns ps ns' ps' n p a (x ∷ xs) f = (n a ∙ f.0, p x ∙ f.1, chain_same ns ps ns' ps' n p x xs f.2)

-- ---- paths
pub length-path : (links : List ℕ) (n i : ℕ) → length (path links n i) ≡ n
length-path links zero i = refl
length-path links (suc n) i = ap suc (length-path links n (at links i))

pub path_along : (ns ps : List ℕ) (a : ℕ) (xs ys : List ℕ) → Follow ns ps a (xs ++ ys) → path ns (length xs) (at ns a) ≡ xs
path_along ns ps a [] ys f = refl
path_along ns ps a (x ∷ xs) ys f =
    ap (λ y. y ∷ path ns (length xs) (at ns y)) f.0 ∙ ap (λ zs. x ∷ zs) (path_along ns ps x xs ys f.2)

pub path_stack : (ps : List ℕ) (top : ℕ) (free : List ℕ) → IsStack ps top free → path ps (length free) top ≡ free
path_stack ps top [] s = refl
path_stack ps top (i ∷ is) s =
    ap (λ y. y ∷ path ps (length is) (at ps y)) s.0 ∙ ap (λ zs. i ∷ zs) (path_stack ps (at ps i) is s.1)

-- ---- stacks
pub stack_elsewhere : (ps : List ℕ) (c v top : ℕ) (free : List ℕ) → times c free ≡ 0 → IsStack ps top free → IsStack (set ps c v) top free
stack_elsewhere ps c v top [] none s = s
stack_elsewhere ps c v top (i ∷ is) none s = (
  s.0,
  subst (λ t. IsStack (set ps c v) t is) (sym (keeps_link ps c v i (absent_head c i is none)))
      (stack_elsewhere ps c v (at ps i) is (absent_tail c i is none) s.1),
)

-- a place with a link to the top goes on top
pub stack_on : (ps : List ℕ) (i top : ℕ) (free : List ℕ) → i < length ps → times i free ≡ 0 → IsStack ps top free → IsStack (set ps i top) i (i ∷ free)
stack_on ps i top free within none s =
    (refl, subst (λ t. IsStack (set ps i top) t free) (sym (has_link ps i top within)) (stack_elsewhere ps i top top free none s))

-- a top that leads somewhere stands on top
pub stack_cons : (ps : List ℕ) (top : ℕ) (free : List ℕ) → top ≢ 4294967295 → IsStack ps top free → (rest : List ℕ) × (free ≡ top ∷ rest) × IsStack ps (at ps top) rest
stack_cons ps top [] ne s = absurd (ne s)
stack_cons ps top (i ∷ is) ne s = (is, ap (λ z. z ∷ is) (sym s.0), subst (λ t. IsStack ps (at ps t) is) (sym s.0) s.1)

-- a top that leads nowhere has nothing below
pub stack_none : (ps : List ℕ) (top : ℕ) (free : List ℕ) → top ≡ 4294967295 → ((j : ℕ) → 1 ≤ times j free → j < 4294967295) → IsStack ps top free → free ≡ []
stack_none ps top [] e within s = refl
stack_none ps top (i ∷ is) e within s = absurd (omega (arith, within i (omega (arith, times_here i is)), s.0, e))

pub times-reverse : (i : ℕ) (xs : List ℕ) → times i (reverse xs) ≡ times i xs
times-reverse i [] = refl
times-reverse i (x ∷ xs) =
    ap (times i) (reverse-append (x ∷ []) xs)
    ∙ omega (arith, times-append i (reverse xs) (x ∷ []), times-reverse i xs, times-cons i x xs, times-cons i x [])
