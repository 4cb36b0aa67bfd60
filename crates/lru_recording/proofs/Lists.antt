-- Lists of stamps.
use Rattle.std.proofs.Common.{◌≡◌, ◌⊎◌, ℕ, zero, suc, ◌+◌, ◌<◌, List, [], ◌∷◌, ◌++◌, length, sym, refl, ap, ◌∙◌, subst, inl, inr, ⊎_elim, arith, Some, None}
use Rattle.std.specs.Prelude.{slice_get}
use Rattle.lru_recording.specs.declared.entry.Stamp.{Stamp}
use Rattle.lru_recording.specs.declared.entry.Entry.{Entry}
use Rattle.lru_recording.specs.declared.entry.Receipt.{Receipt}
use Rattle.lru_short_locks.specs.Hands.{Among}
use Rattle.lru_short_locks.proofs.Hands.{some_same, none_some}
use Rattle.lru_recording.specs.Stamps.{stamp, slip, stamps_in, slips_in, TurnsRise}

pub stamps_snoc : (s p : ℕ) (es : List Entry) (e : Entry) → stamps_in s p (es ++ e ∷ []) ≡ stamps_in s p es ++ stamp s (p + length es) e ∷ []
stamps_snoc s p [] e = let n : p ≡ p + 0 = omega arith in λ i. stamp s (n i) e ∷ []
stamps_snoc s p (x ∷ es) e = let n : suc p + length es ≡ p + suc (length es) = omega arith in λ i. stamp s p x ∷ (stamps_snoc s (suc p) es e ∙ ap (λ k. stamps_in s (suc p) es ++ stamp s k e ∷ []) n) i

pub slips_snoc : (a t : ℕ) (rs : List Receipt) (r : Receipt) → slips_in a t (rs ++ r ∷ []) ≡ slips_in a t rs ++ slip a (t + length rs) r ∷ []
slips_snoc a t [] r = let n : t ≡ t + 0 = omega arith in λ i. slip a (n i) r ∷ []
slips_snoc a t (x ∷ rs) r = let n : suc t + length rs ≡ t + suc (length rs) = omega arith in λ i. slip a t x ∷ (slips_snoc a (suc t) rs r ∙ ap (λ k. slips_in a (suc t) rs ++ slip a k r ∷ []) n) i

-- from stamps to places
pub find_stamp : (x : Stamp) (s p : ℕ) (es : List Entry) → Among x (stamps_in s p es) → (k : ℕ) × (e : Entry) × (slice_get es k ≡ Some e) × (x ≡ stamp s (p + k) e)
find_stamp x s p [] a = absurd a
find_stamp x s p (e ∷ es) (inl h) = (0, e, refl, h ∙ (let n : p ≡ p + 0 = omega arith in ap (λ k. stamp s k e) n))
find_stamp x s p (e ∷ es) (inr a) = let r = find_stamp x s (suc p) es a in (suc r.0, r.1, r.2, r.3 ∙ (let n : suc p + r.0 ≡ p + suc r.0 = omega arith in ap (λ k. stamp s k r.1) n))

pub find_slip : (x : Stamp) (i t : ℕ) (rs : List Receipt) → Among x (slips_in i t rs) → (k : ℕ) × (r : Receipt) × (slice_get rs k ≡ Some r) × (x ≡ slip i (t + k) r)
find_slip x i t [] a = absurd a
find_slip x i t (e ∷ es) (inl h) = (0, e, refl, h ∙ (let n : t ≡ t + 0 = omega arith in ap (λ k. slip i k e) n))
find_slip x i t (e ∷ es) (inr a) = let r = find_slip x i (suc t) es a in (suc r.0, r.1, r.2, r.3 ∙ (let n : suc t + r.0 ≡ t + suc r.0 = omega arith in ap (λ k. slip i k r.1) n))

-- from places to stamps
pub at_stamp : (s p : ℕ) (es : List Entry) (k : ℕ) (e : Entry) → slice_get es k ≡ Some e → Among (stamp s (p + k) e) (stamps_in s p es)
at_stamp s p [] k e h = absurd (none_some e h)
at_stamp s p (x ∷ es) zero e h = inl (let n : p + 0 ≡ p = omega arith in λ i. stamp s (n i) (sym (some_same x e h) i))
at_stamp s p (x ∷ es) (suc k) e h = inr (subst (λ n. Among (stamp s n e) (stamps_in s (suc p) es)) (let n : suc p + k ≡ p + suc k = omega arith in n) (at_stamp s (suc p) es k e h))

pub at_slip : (i t : ℕ) (rs : List Receipt) (k : ℕ) (r : Receipt) → slice_get rs k ≡ Some r → Among (slip i (t + k) r) (slips_in i t rs)
at_slip i t [] k r h = absurd (none_some r h)
at_slip i t (x ∷ rs) zero r h = inl (let n : t + 0 ≡ t = omega arith in λ j. slip i (n j) (sym (some_same x r h) j))
at_slip i t (x ∷ rs) (suc k) r h = inr (subst (λ n. Among (slip i n r) (slips_in i (suc t) rs)) (let n : suc t + k ≡ t + suc k = omega arith in n) (at_slip i (suc t) rs k r h))

pub get_below : {A : Type 0} (xs : List A) (k : ℕ) (x : A) → slice_get xs k ≡ Some x → k < length xs
get_below [] k x e = absurd (none_some x e)
get_below (y ∷ ys) zero x e = omega arith
get_below (y ∷ ys) (suc k) x e = let ih = get_below ys k x e in omega (arith, ih)

-- at a place of the list with one more at its end: a place before, or the end
pub get_snoc : {A : Type 0} (xs : List A) (z : A) (k : ℕ) (x : A) → slice_get (xs ++ z ∷ []) k ≡ Some x → (slice_get xs k ≡ Some x) ⊎ ((k ≡ length xs) × (z ≡ x))
get_snoc [] z zero x e = inr (refl, some_same z x e)
get_snoc [] z (suc k) x e = absurd (none_some x e)
get_snoc (y ∷ ys) z zero x e = inl e
get_snoc (y ∷ ys) z (suc k) x e = ⊎_elim (λ a. inl a) (λ (b : (k ≡ length ys) × (z ≡ x)). inr (ap suc b.0, b.1)) (get_snoc ys z k x e)

-- one entry more, later than all of its seat
pub rises_on : (es : List Entry) (z : Entry) → TurnsRise es → ((p : ℕ) (d : Entry) → slice_get es p ≡ Some d → d.seat ≡ z.seat → d.turn < z.turn) → TurnsRise (es ++ z ∷ [])
rises_on es z rise later p q d e less at_p at_q same = ⊎_elim
    (λ (b : slice_get es q ≡ Some e). ⊎_elim
    (λ (a : slice_get es p ≡ Some d). rise p q d e less a b same)
    (λ (a : (p ≡ length es) × (z ≡ d)). absurd (omega (arith, less, a.0, get_below es q e b)))
    (get_snoc es z p d at_p))
    (λ (b : (q ≡ length es) × (z ≡ e)). ⊎_elim
    (λ (a : slice_get es p ≡ Some d). subst (λ (y : Entry). d.turn < y.turn) b.1 (later p d a (same ∙ ap (λ (y : Entry). y.seat) (sym b.1))))
    (λ (a : (p ≡ length es) × (z ≡ d)). absurd (omega (arith, less, a.0, b.0)))
    (get_snoc es z p d at_p))
    (get_snoc es z q e at_q)

-- what the book has of this seat is among its slips, so it came before
pub came_before : (s i p : ℕ) (es : List Entry) (rs : List Receipt) (d : Entry) → ((x : Stamp) → Among x (stamps_in s 0 es) → x.seat ≡ i → Among x (slips_in i 0 rs)) → slice_get es p ≡ Some d → d.seat ≡ i → d.turn < length rs
came_before s i p es rs d known at same =
    let r = find_slip (stamp s p d) i 0 rs (known (stamp s p d) (subst (λ n. Among (stamp s n d) (stamps_in s 0 es)) (let n : 0 + p ≡ p = omega arith in n) (at_stamp s 0 es p d at)) same) in
    let turn : d.turn ≡ 0 + r.0 = ap (λ (x : Stamp). x.turn) r.3 in
    omega (arith, turn, get_below rs r.0 r.1 r.2)
