-- Laws of the requests of a trace: where a key is asked for last, and which requests are the last for their keys.
use Rattle.std.proofs.Common.{◌≡◌, zero, suc, ℕ, ◌+◌, ◌<◌, Bool, true, false, cond, not, eqb, ◌||◌, List, [], ◌∷◌, ◌++◌, length, drop, Some, None, refl, sym, ap, ◌∙◌, arith, subst, inl, inr}
use Rattle.std.specs.Prelude.{Option, IfSome, is_some, nat_lt}
use Rattle.std.proofs.lemmas.Bool.{eqb-true, eqb-false, eq-eqb, ne_eqb, cases_lt, lt-ltb, le-ltb, or_left}
use Rattle.trace_player_inside.specs.declared.player.Request.{Request}
use Rattle.trace_player_inside.specs.Representation.Windows.{is_asked, last_ones, last_place, moved_on, after, with_request}

asked_push : (k : ℕ) (qs : List Request) (q : Request) → is_asked k (qs ++ q ∷ []) ≡ (eqb q.key k || is_asked k qs)
asked_push k [] q = refl
asked_push k (x ∷ qs) q = ap (λ b. eqb x.key k || b) (asked_push k qs q) ∙ swapped (eqb x.key k) (eqb q.key k) (is_asked k qs)
  where
    swapped : (a b c : Bool) → (a || (b || c)) ≡ (b || (a || c))
    swapped true true c = refl
    swapped true false c = refl
    swapped false b c = refl

some_moved : (o : Option ℕ) (b : Bool) → is_some (moved_on o b) ≡ (b || is_some o)
some_moved (Some p) true = refl
some_moved (Some p) false = refl
some_moved None true = refl
some_moved None false = refl

-- a key has a last request where it is asked for
asked_some : (k : ℕ) (qs : List Request) → is_some (last_place k qs) ≡ is_asked k qs
asked_some k [] = refl
asked_some k (q ∷ qs) = some_moved (last_place k qs) (eqb q.key k) ∙ ap (λ b. eqb q.key k || b) (asked_some k qs)

pub place_push : (k : ℕ) (qs : List Request) (q : Request) → last_place k (qs ++ q ∷ []) ≡ cond (eqb q.key k) (Some (length qs)) (last_place k qs)
place_push k [] q = refl
place_push k (x ∷ qs) q = ap (λ o. moved_on o (eqb x.key k)) (place_push k qs q) ∙ moved (eqb q.key k)
  where
    moved : (b : Bool) → moved_on (cond b (Some (length qs)) (last_place k qs)) (eqb x.key k) ≡ cond b (Some (length (x ∷ qs))) (moved_on (last_place k qs) (eqb x.key k))
    moved true = refl
    moved false = refl

pub length-last_ones : (qs : List Request) → length (last_ones qs) ≡ length qs
length-last_ones [] = refl
length-last_ones (q ∷ qs) = ap suc (length-last_ones qs)

moved_below : (o : Option ℕ) (b : Bool) (n p : ℕ) → ((j : ℕ) → o ≡ Some j → j < n) → moved_on o b ≡ Some p → p < suc n
moved_below (Some j) b n p h e = let same : suc j ≡ p = cc in omega (arith, h j refl, same)
moved_below None true n p h e = let same : 0 ≡ p = cc in omega (arith, same)
moved_below None false n p h e = cc

pub place_below : (k : ℕ) (qs : List Request) (p : ℕ) → last_place k qs ≡ Some p → p < length qs
place_below k [] p e = cc
place_below k (q ∷ qs) p e = moved_below (last_place k qs) (eqb q.key k) (length qs) p (place_below k qs) e

-- which requests are the last ones, with one request more
pub last_push : (qs : List Request) (q : Request) → last_ones (qs ++ q ∷ []) ≡ with_request (last_place q.key qs) (last_ones qs)
last_push [] q = refl
last_push (x ∷ qs) q = step (last_push qs q) (last_place q.key qs) refl (eqb x.key q.key) refl
  where
    head_is : (b : Bool) → (eqb q.key x.key || is_asked x.key qs) ≡ b → last_ones ((x ∷ qs) ++ q ∷ []) ≡ not b ∷ last_ones (qs ++ q ∷ [])
    head_is b e = ap (λ c. not c ∷ last_ones (qs ++ q ∷ [])) (asked_push x.key qs q ∙ e)

    -- where the keys differ, the head stays as it is
    other : eqb x.key q.key ≡ false → (eqb q.key x.key || is_asked x.key qs) ≡ is_asked x.key qs
    other e = ap (λ b. b || is_asked x.key qs) (ne_eqb q.key x.key (λ s. eqb-false x.key q.key e (sym s)))

    asked_again : eqb x.key q.key ≡ true → is_asked q.key qs ≡ true → is_asked x.key qs ≡ true
    asked_again e h = ap (λ k. is_asked k qs) (eqb-true x.key q.key e) ∙ h

    step : last_ones (qs ++ q ∷ []) ≡ with_request (last_place q.key qs) (last_ones qs) → (o : Option ℕ) → last_place q.key qs ≡ o → (b : Bool) → eqb x.key q.key ≡ b → last_ones ((x ∷ qs) ++ q ∷ []) ≡ with_request (moved_on (last_place q.key qs) (eqb x.key q.key)) (not (is_asked x.key qs) ∷ last_ones qs)
    step rest (Some p) at true same =
        let there : is_asked q.key qs ≡ true = sym (asked_some q.key qs) ∙ ap is_some at in
        head_is true (or_left _ _ (eq-eqb _ _ (sym (eqb-true _ _ same))))
        ∙ ap (λ c. not c ∷ last_ones (qs ++ q ∷ [])) (sym (asked_again same there))
        ∙ ap (λ bs. not (is_asked x.key qs) ∷ bs) (rest ∙ ap (λ o. with_request o (last_ones qs)) at)
        ∙ sym (ap (λ o. with_request (moved_on o (eqb x.key q.key)) (not (is_asked x.key qs) ∷ last_ones qs)) at)
    step rest (Some p) at false apart =
        head_is (is_asked x.key qs) (other apart)
        ∙ ap (λ bs. not (is_asked x.key qs) ∷ bs) (rest ∙ ap (λ o. with_request o (last_ones qs)) at)
        ∙ sym (ap (λ o. with_request (moved_on o (eqb x.key q.key)) (not (is_asked x.key qs) ∷ last_ones qs)) at)
    step rest None at true same =
        head_is true (or_left _ _ (eq-eqb _ _ (sym (eqb-true _ _ same))))
        ∙ ap (λ bs. false ∷ bs) (rest ∙ ap (λ o. with_request o (last_ones qs)) at)
        ∙ sym (ap (λ o. with_request (moved_on o (eqb x.key q.key)) (not (is_asked x.key qs) ∷ last_ones qs)) at ∙ ap (λ b. with_request (moved_on None b) (not (is_asked x.key qs) ∷ last_ones qs)) same)
    step rest None at false apart =
        head_is (is_asked x.key qs) (other apart)
        ∙ ap (λ bs. not (is_asked x.key qs) ∷ bs) (rest ∙ ap (λ o. with_request o (last_ones qs)) at)
        ∙ sym (ap (λ o. with_request (moved_on o (eqb x.key q.key)) (not (is_asked x.key qs) ∷ last_ones qs)) at ∙ ap (λ b. with_request (moved_on None b) (not (is_asked x.key qs) ∷ last_ones qs)) apart)

-- what is known of a trace: where each key is asked for last, and which requests are the last for their keys
pub record Noted (find : ℕ → Option ℕ) (flags : List Bool) (qs : List Request) : Type 0 where
  pub places : (k : ℕ) → find k ≡ last_place k qs
  pub flags_are : flags ≡ last_ones qs

pub noted_more : (find find' : ℕ → Option ℕ) (flags flags' : List Bool) (qs : List Request) (q : Request) → Noted find flags qs
    → ((k : ℕ) → find' k ≡ cond (eqb q.key k) (Some (length flags)) (find k)) → flags' ≡ with_request (find q.key) flags → Noted find' flags' (qs ++ q ∷ [])
noted_more find find' flags flags' qs q noted puts writes = record {
  places = λ k. puts k
      ∙ ap (λ o. cond (eqb q.key k) (Some (length flags)) o) (noted.places k)
      ∙ ap (λ n. cond (eqb q.key k) (Some n) (last_place k qs)) (ap length noted.flags_are ∙ length-last_ones qs)
      ∙ sym (place_push k qs q);
  flags_are = writes ∙ ap (λ o. with_request o flags) (noted.places q.key) ∙ ap (with_request (last_place q.key qs)) noted.flags_are ∙ sym (last_push qs q);
}

pub noted_below : (find : ℕ → Option ℕ) (flags : List Bool) (qs : List Request) → Noted find flags qs → (k : ℕ) → IfSome (find k) (λ p. p < length flags)
noted_below find flags qs noted k = subst (λ o. IfSome o (λ p. p < length flags)) (sym (noted.places k)) (go (last_place k qs) refl)
  where
    go : (o : Option ℕ) → last_place k qs ≡ o → IfSome o (λ p. p < length flags)
    go None e = tt
    go (Some p) e = omega (arith, place_below k qs p e, ap length noted.flags_are, length-last_ones qs)

pub drop-last_ones : (n : ℕ) (qs : List Request) → drop n (last_ones qs) ≡ last_ones (drop n qs)
drop-last_ones zero qs = refl
drop-last_ones (suc n) [] = refl
drop-last_ones (suc n) (q ∷ qs) = drop-last_ones n qs

-- A key is asked for from a place on where the place behind its last request is past that place.

after_some : (o : Option ℕ) → nat_lt 0 (after o) ≡ is_some o
after_some (Some p) = lt-ltb 0 (p + 1) (omega arith)
after_some None = refl

after_moved : (n : ℕ) (o : Option ℕ) (b : Bool) → nat_lt (suc n) (after (moved_on o b)) ≡ nat_lt n (after o)
after_moved n (Some p) b =
    elim (cases_lt n (p + 1)) [
      | inl h ↦ lt-ltb (suc n) (suc p + 1) (omega (arith, h)) ∙ sym (lt-ltb n (p + 1) h)
      | inr h ↦ le-ltb (suc n) (suc p + 1) (omega (arith, h)) ∙ sym (le-ltb n (p + 1) h)
    ]
after_moved n None true = le-ltb (suc n) 1 (omega arith) ∙ sym (le-ltb n 0 (omega arith))
after_moved n None false = le-ltb (suc n) 0 (omega arith) ∙ sym (le-ltb n 0 (omega arith))

pub asked_after : (n k : ℕ) (qs : List Request) → nat_lt n (after (last_place k qs)) ≡ is_asked k (drop n qs)
asked_after zero k qs = after_some (last_place k qs) ∙ asked_some k qs
asked_after (suc n) k [] = le-ltb (suc n) 0 (omega arith)
asked_after (suc n) k (q ∷ qs) = after_moved n (last_place k qs) (eqb q.key k) ∙ asked_after n k qs
