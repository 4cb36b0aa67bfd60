-- The calls of a mailbox keep it and its log together.
use Rattle.std.proofs.Common.{◌≡◌, ℕ, zero, suc, ◌+◌, ◌<◌, ◌≤◌, ◌^◌, false, List, [], ◌∷◌, ◌++◌, length, take, drop, sym, refl, ap, ◌∙◌, subst, arith}
use Rattle.std.proofs.lemmas.List.{length-append, map-append}
use Rattle.std.proofs.Math.Nat.{mod-eq_of_lt}
use Rattle.atomic_table.specs.Table.{Me}
use Rattle.std.proofs.Common.{map}
use Rattle.std.proofs.lemmas.Bool.{cond-false}
use Rattle.lru_mailbox.specs.Mail.{Post, served, counted, posted, posted_or_lost}
use Rattle.lru_actors.specs.declared.message.LruMsg.{LruMsg}
use Rattle.lru_actors.specs.declared.letter.Letter.{Letter}
use Rattle.lru_inbox.specs.declared.hand.Log.{Log}
use Rattle.lru_inbox.specs.declared.hand.Front.{Front}
use Rattle.lru_inbox.specs.declared.hand.LogHand.{LogHand}
use Rattle.lru_inbox.specs.Logs.{of_log, log_of, accepted, put_in, taken_from, front, hand, of_fronts, of_taker, begun, joined, seen_of, Shows}
use Rattle.lru_inbox.proofs.Moves.{put_whole, take_same}
use Rattle.lru_inbox.specs.Inboxes.{messages_of, IsInbox, Sends}
use Rattle.lru_inbox.proofs.Lists.{seen_begins, seen_first}

module _ {K T : Type 0} where
  -- the first letters have the first messages, and the others the others
  first_messages : (n : ℕ) (letters : List (Letter K T)) → messages_of (take n letters) ≡ take (length (take n letters)) (messages_of letters)
  first_messages zero letters = refl
  first_messages (suc n) [] = refl
  first_messages (suc n) (l ∷ ls) = ap (λ ms. l.message ∷ ms) (first_messages n ls)

  other_messages : (n : ℕ) (letters : List (Letter K T)) → messages_of (drop n letters) ≡ drop (length (take n letters)) (messages_of letters)
  other_messages zero letters = refl
  other_messages (suc n) [] = refl
  other_messages (suc n) (l ∷ ls) = other_messages n ls

  -- what is taken is what comes next in the log
  pub next_messages : (n : ℕ) (letters : List (Letter K T)) (ms : List (LruMsg K)) → (0 < length (messages_of letters) → messages_of letters ≡ ms)
      → messages_of (take n letters) ≡ take (length (take n letters)) ms
  next_messages zero letters ms h = refl
  next_messages (suc n) [] ms h = refl
  next_messages (suc n) (l ∷ ls) ms h = first_messages (suc n) (l ∷ ls) ∙ ap (take (length (take (suc n) (l ∷ ls)))) (h (omega arith))

  pub inbox_served : (shard max count : ℕ) (p : Post (Letter K T)) (me me' : Me (Unit {0}) (LogHand (LruMsg K))) → IsInbox shard p me → p.pushed < 2 ^ 64 → count ≡ length (take max p.waiting)
      → me' ≡ (of_log (taken_from (log_of me.0) count), []) → IsInbox shard (served max p) me'
  inbox_served shard max count p me me' kept fits is after = subst (λ (m : Me (Unit {0}) (LogHand (LruMsg K))). IsInbox shard (served max p) m) (sym after) (record {
    speaks = refl;
    shard_is = kept.shard_is;
    waits = λ o. other_messages max p.waiting ∙ ap (λ n. drop n (messages_of p.waiting)) (sym is) ∙ ap (drop count) (kept.waits o);
    first_waits = λ some. other_messages max p.waiting ∙ ap (λ n. drop n (messages_of p.waiting)) (sym is) ∙ ap (drop count) (kept.first_waits (not_less max p.waiting some));
    put = kept.put ∙ ap length (sym (take_same (log_of me.0) count));
    took = took;
  })
    where
      not_less : (n : ℕ) (letters : List (Letter K T)) → 0 < length (messages_of (drop n letters)) → 0 < length (messages_of letters)
      not_less zero letters h = h
      not_less (suc n) [] h = h
      not_less (suc n) (l ∷ ls) h = omega arith

      l : Log (LruMsg K)
      l = log_of me.0

      took : counted (p.taken + length (take max p.waiting)) ≡ length (l.taken ++ take count l.left)
      took =
          let a = length-append l.taken (take count l.left) in
          let b = length-append l.taken l.left in
          let c = length_take count l.left in
          let d : length (take max p.waiting) ≡ length (take count l.left) = sym (map_length (take max p.waiting)) ∙ ap length (next_messages max p.waiting l.left kept.first_waits) ∙ ap (λ n. length (take n l.left)) (sym is) in
          let e : p.taken + length (take max p.waiting) < 2 ^ 64 = omega (arith, a, b, c, d, kept.took, kept.put, fits) in
          mod-eq_of_lt e ∙ (let f : p.taken + length (take max p.waiting) ≡ length (l.taken ++ take count l.left) = omega (arith, a, d, kept.took) in f)
        where
          length_take : {A : Type 0} (n : ℕ) (xs : List A) → length (take n xs) ≤ length xs
          length_take zero xs = omega arith
          length_take (suc n) [] = omega arith
          length_take (suc n) (x ∷ xs) = let ih = length_take n xs in omega (arith, ih)

          map_length : (letters : List (Letter K T)) → length (messages_of letters) ≡ length letters
          map_length [] = refl
          map_length (x ∷ xs) = let ih = map_length xs in omega (arith, ih)

  -- a letter more, in an open mailbox
  pub inbox_put : (shard : ℕ) (p p' : Post (Letter K T)) (letter : Letter K T) (me me' : Me (Unit {0}) (LogHand (LruMsg K))) → IsInbox shard p me → p.closed ≡ false → p.pushed + 1 < 2 ^ 64
      → p'.waiting ≡ p.waiting ++ letter ∷ [] → p'.pushed ≡ counted (p.pushed + 1) → p'.taken ≡ p.taken
      → me' ≡ (of_log (put_in (log_of me.0) (letter.message ∷ [])), []) → IsInbox shard p' me'
  inbox_put shard p p' letter me me' kept is_open fits waiting pushed taken after = subst (λ (m : Me (Unit {0}) (LogHand (LruMsg K))). IsInbox shard p' m) (sym after) (record {
    speaks = refl;
    shard_is = kept.shard_is;
    waits = λ _. more;
    first_waits = λ _. more;
    put = pushed ∙ mod-eq_of_lt fits ∙ (let a = length-append (accepted (log_of me.0)) (letter.message ∷ []) in let b = ap length (put_whole (log_of me.0) (letter.message ∷ [])) in let c : p.pushed + 1 ≡ length (accepted (put_in (log_of me.0) (letter.message ∷ []))) = omega (arith, a, b, kept.put) in c);
    took = taken ∙ kept.took;
  })
    where
      more : messages_of p'.waiting ≡ (log_of me.0).left ++ letter.message ∷ []
      more = ap messages_of waiting ∙ map-append (λ (x : Letter K T). x.message) p.waiting (letter ∷ []) ∙ ap (λ ms. ms ++ letter.message ∷ []) (kept.waits is_open)

-- what was told is seen beside what was seen before
pub learned : {E : Type 0} (n m : ℕ) (xs : List E) (fs : List (Front E)) (told before after : Me (Unit {0}) (LogHand E)) → told ≡ (of_fronts (front m xs ∷ []), []) → before ≡ (of_fronts fs, []) → m ≡ n
    → after ≡ (joined told.0 before.0, []) → after ≡ (of_fronts (front n xs ∷ fs), [])
learned n m xs fs told before after of_told of_before same both = both ∙ (λ i. (joined (of_told i).0 (of_before i).0, [])) ∙ (λ i. (of_fronts (front (same i) xs ∷ fs), []))

-- who puts a message has seen the log up to and with it
pub sends : {K : Type 0} (shard : ℕ) (m m' : LruMsg K) (l : Log (LruMsg K)) (fs new : List (Front (LruMsg K))) → l.shard ≡ shard → m' ≡ m → Shows (hand (l ∷ []) [] fs)
    → new ≡ front l.shard (accepted l ++ m' ∷ []) ∷ fs → Sends shard m fs new
sends shard m m' l fs new its same shows is = (accepted l, seen_begins l shard fs its shows, is ∙ (λ i. front (its i) (accepted l ++ same i ∷ []) ∷ fs))

-- the first so many that one who takes had, as they are shown
pub shown_is : {E : Type 0} (shard count : ℕ) (xs : List E) (me r : Me (Unit {0}) (LogHand E)) → me ≡ (of_taker shard xs, []) → r ≡ (of_fronts (map (begun count) me.0.takers), []) → r ≡ (of_fronts (front shard (take count xs) ∷ []), [])
shown_is shard count xs me r of_me of_r = of_r ∙ (λ i. (of_fronts (map (begun count) (of_me i).0.takers), []))

pub length_take : {A : Type 0} (n : ℕ) (xs : List A) → n ≤ length xs → length (take n xs) ≡ n
length_take zero xs h = refl
length_take (suc n) [] h = absurd (omega (arith, h))
length_take (suc n) (x ∷ xs) h = ap suc (length_take n xs (omega (arith, h)))

-- an open mailbox loses nothing
pub put_open : {M : Type 0} (p : Post M) (m : M) → p.closed ≡ false → posted_or_lost p m ≡ posted p m
put_open p m e = cond-false p.closed _ _ e

-- the number of a message that was put is how much of the log was seen then
pub numbered : {K : Type 0} (shard pushed : ℕ) (m : LruMsg K) (l : Log (LruMsg K)) (fs new : List (Front (LruMsg K))) → l.shard ≡ shard → new ≡ front l.shard (accepted l ++ m ∷ []) ∷ fs → pushed ≡ length (accepted (put_in l (m ∷ []))) → length (seen_of shard new) ≡ pushed
numbered shard pushed m l fs new its is put =
    ap (λ ns. length (seen_of shard ns)) (is ∙ (λ i. front (its i) (accepted l ++ m ∷ []) ∷ fs)) ∙ ap length (seen_first shard (accepted l ++ m ∷ []) fs) ∙ sym (ap length (put_whole l (m ∷ []))) ∙ sym put
