-- Histories of several shards, one more at the end.
use Rattle.std.proofs.Common.{◌≡◌, ℕ, zero, suc, ◌+◌, List, [], ◌∷◌, ◌++◌, length, map, refl, sym, ap, ◌∙◌, subst, arith, Some}
use Rattle.std.specs.Prelude.{slice_get}
use Rattle.lru_shard.specs.Limits.{cap_of}
use Rattle.lru_recording.specs.declared.entry.Entry.{Entry}
use Rattle.lru_recording.specs.declared.entry.Reply.{Reply}
use Rattle.lru_short_locks.proofs.Hands.{some_same, none_some}
use Rattle.lru_recording.specs.Histories.{replies, answers, home, homes_from, shards_from, IsLegal, AreLegal}

pub homes_snoc : (n s : ℕ) (hs : List (List Entry)) (h : List Entry) → homes_from n s (hs ++ h ∷ []) ≡ homes_from n s hs ++ map (λ (e : Entry). home n (s + length hs) e.call) h ∷ []
homes_snoc n s [] h = let k : s ≡ s + 0 = omega arith in λ i. map (λ (e : Entry). home n (k i) e.call) h ∷ []
homes_snoc n s (x ∷ hs) h = let k : suc s + length hs ≡ s + suc (length hs) = omega arith in
    λ i. map (λ (e : Entry). home n s e.call) x ∷ (homes_snoc n (suc s) hs h ∙ ap (λ m. homes_from n (suc s) hs ++ map (λ (e : Entry). home n m e.call) h ∷ []) k) i

pub shards_snoc : (s : ℕ) (hs : List (List Entry)) (h : List Entry) → shards_from s (hs ++ h ∷ []) ≡ shards_from s hs ++ map (λ (_ : Entry). s + length hs) h ∷ []
shards_snoc s [] h = let k : s ≡ s + 0 = omega arith in λ i. map (λ (_ : Entry). k i) h ∷ []
shards_snoc s (x ∷ hs) h = let k : suc s + length hs ≡ s + suc (length hs) = omega arith in
    λ i. map (λ (_ : Entry). s) x ∷ (shards_snoc (suc s) hs h ∙ ap (λ m. shards_from (suc s) hs ++ map (λ (_ : Entry). m) h ∷ []) k) i

pub length_of_map : {A B : Type 0} (f : A → B) (xs : List A) → length (map f xs) ≡ length xs
length_of_map f [] = refl
length_of_map f (y ∷ ys) = ap suc (length_of_map f ys)

head_same : {A : Type 0} (x y : A) (xs ys : List A) → x ∷ xs ≡ y ∷ ys → x ≡ y
head_same x y xs ys e = cc

tail_same : {A : Type 0} (x y : A) (xs ys : List A) → x ∷ xs ≡ y ∷ ys → xs ≡ ys
tail_same x y xs ys e = cc

legal_from : (n s : ℕ) (hs : List (List Entry)) → map replies hs ≡ map (answers (cap_of n) []) hs → homes_from n s hs ≡ shards_from s hs → (i : ℕ) (h : List Entry) → slice_get hs i ≡ Some h → IsLegal n (s + i) h
legal_from n s [] right homes i h e = absurd (none_some h e)
legal_from n s (x ∷ hs) right homes zero h e =
    let k : s ≡ s + 0 = omega arith in
    subst (λ (m : ℕ). IsLegal n m h) k (subst (λ (y : List Entry). IsLegal n s y) (some_same x h e) record {
      right = head_same _ _ _ _ right;
      homes = head_same _ _ _ _ homes;
    })
legal_from n s (x ∷ hs) right homes (suc i) h e =
    let k : suc s + i ≡ s + suc i = omega arith in
    subst (λ (m : ℕ). IsLegal n m h) k (legal_from n (suc s) hs (tail_same _ _ _ _ right) (tail_same _ _ _ _ homes) i h e)

pub legal_all : (n : ℕ) (hs : List (List Entry)) → map replies hs ≡ map (answers (cap_of n) []) hs → homes_from n 0 hs ≡ shards_from 0 hs → AreLegal n hs
legal_all n hs right homes i h e = let k : 0 + i ≡ i = omega arith in subst (λ (m : ℕ). IsLegal n m h) k (legal_from n 0 hs right homes i h e)
