-- Replies of a batch, and what its messages leave.
use Rattle.std.proofs.Common.{◌≡◌, ℕ, zero, suc, ◌+◌, ◌-◌, ◌%◌, ◌^◌, ◌<◌, List, [], ◌∷◌, ◌++◌, length, map, take, drop, Some, None, refl, sym, ap, ◌∙◌, subst, arith}
use Rattle.std.specs.Prelude.{Bool, Option, slice_get, option_map, is_some, true, false}
use Rattle.std.specs.Option.{ForSome}
use Rattle.std.proofs.Math.Logic.{∥∥₁_map}
use Rattle.std.proofs.Math.Nat.{mod-eq_of_lt, add-mod_right}
use Rattle.std.proofs.lemmas.List.{map-append, length-append, length-map}
use Rattle.lru_short_locks.proofs.Hands.{some_same, none_some}
use Rattle.lru_shard.specs.Row.{Row}
use Rattle.lru_actors.specs.declared.message.LruMsg.{LruMsg}
use Rattle.lru_actors.specs.declared.effect.Effect.{Effect}
use Rattle.lru_actors.specs.declared.effect.Reply.{Reply}
use Rattle.lru_actors.specs.Messages.{State}
use Rattle.lru_actors.specs.declared.letter.Letter.{Letter}
use Rattle.lru_inbox.specs.declared.voice.Voice.{Voice}
use Rattle.lru_inbox.specs.declared.tie.Archive.{Ghosts}
use Rattle.lru_inbox.specs.Logs.{taken_by}
use Rattle.lru_inbox.specs.Inboxes.{messages_of, taken_in}
use Rattle.lru_inbox.specs.Replies.{IsLeft, IsReply, refused_in}
use Rattle.lru_inbox.proofs.Steps.{by_turns, left_all, reply_at, turns_by}
use Rattle.lru_inbox.proofs.Counting.{refusals_are, refusals_both, refusals_few, refused_both}
use Rattle.lru_mailbox.specs.declared.slip.Slip.{Slip}
use Rattle.lru_workers.specs.Accounts.{IsKept}
use Rattle.lru_workers.proofs.Accounts.{kept_more}
use Rattle.lru_actors.specs.Turns.{Turn, refusals}
use Rattle.lru_actors.specs.World.{PutsPair, IsSameQueue, itself, AtAnyTime}
use Rattle.lru_workers.specs.declared.bench.AskedLetter.{AskedLetter}
use Rattle.lru_workers.specs.Batch.{answers, fewer, replied, AddsSlips, StepsFrom}
use Rattle.lru_workers.proofs.Evicted.{as_many}
use Rattle.lru_workers.specs.Replying.{AreReplies, Gains, TookPast}

-- lists
get_left : {A : Type 0} (xs ys : List A) (i : ℕ) (x : A) → slice_get xs i ≡ Some x → slice_get (xs ++ ys) i ≡ Some x
get_left [] ys i x e = absurd (none_some x e)
get_left (z ∷ xs) ys zero x e = e
get_left (z ∷ xs) ys (suc i) x e = get_left xs ys i x e

get_last : {A : Type 0} (xs : List A) (x : A) → slice_get (xs ++ x ∷ []) (length xs) ≡ Some x
get_last [] x = refl
get_last (z ∷ xs) x = get_last xs x

get_mapped : {A B : Type 0} (f : A → B) (xs : List A) (i : ℕ) (y : B) → slice_get (map f xs) i ≡ Some y → (x : A) × (slice_get xs i ≡ Some x) × (f x ≡ y)
get_mapped f [] i y e = absurd (none_some y e)
get_mapped f (x ∷ xs) zero y e = (x, refl, some_same (f x) y e)
get_mapped f (x ∷ xs) (suc i) y e = get_mapped f xs i y e

-- of which effect an answer is
first_answer : {A : Type 0} (o : Option A) (m : ℕ) (r : A) (n : ℕ) → option_map {U = A × ℕ} (λ x. (x, m)) o ≡ Some (r, n) → (o ≡ Some r) × (n ≡ m)
first_answer None m r n at = absurd (none_some (r, n) at)
first_answer (Some q) m r n at = let s = some_same (q, m) (r, n) at in (ap (λ p. Some p.0) s, sym (ap (λ p. p.1) s))

get_answer : {K : Type 0} (total : ℕ) (es : List (Effect K)) (i : ℕ) (r : Reply K) (n : ℕ) → slice_get (answers total es) i ≡ Some (Some (r, n))
    → (e : Effect K) × (slice_get es i ≡ Some e) × (e.reply ≡ Some r) × (n ≡ fewer total (refused_in (drop (suc i) es)))
get_answer total [] i r n at = absurd (none_some (Some (r, n)) at)
get_answer {K} total (e ∷ es) zero r n at =
    let m = fewer total (refused_in es) in
    let f = first_answer e.reply m r n (some_same (option_map {U = Reply K × ℕ} (λ x. (x, m)) e.reply) (Some (r, n)) at) in
    (e, refl, f.0, f.1)
get_answer total (e ∷ es) (suc i) r n at = get_answer total es i r n at

-- how many were refused up to one message, by how many were in all
count_at : (upto rest total n : ℕ) → upto + rest < 2 ^ 64 → total ≡ (upto + rest) % 2 ^ 64 → n ≡ fewer total rest → upto ≡ n
count_at upto rest total n fits is e =
    let t : total ≡ upto + rest = is ∙ mod-eq_of_lt fits in
    let z : upto + rest + (2 ^ 64 - rest) ≡ upto + 2 ^ 64 = omega (arith, fits) in
    let f : upto < 2 ^ 64 = omega (arith, fits) in
    sym (e ∙ ap (λ k. (k + (2 ^ 64 - rest)) % 2 ^ 64) t ∙ ap (λ k. k % 2 ^ 64) z ∙ add-mod_right upto (2 ^ 64) ∙ mod-eq_of_lt f)

take_past : {A : Type 0} (xs ys : List A) (n : ℕ) → take (length xs + n) (xs ++ ys) ≡ xs ++ take n ys
take_past [] ys n = ap (λ k. take k ys) (let z : 0 + n ≡ n = omega arith in z)
take_past (x ∷ xs) ys n = ap (λ k. take k (x ∷ (xs ++ ys))) (let z : suc (length xs) + n ≡ suc (length xs + n) = omega arith in z) ∙ ap (λ l. x ∷ l) (take_past xs ys n)

-- its number
pub number_is : {A : Type 0} (before len most : ℕ) (taken : List A) → len < most → TookPast before most taken → ((before + len) % 2 ^ 64 + 1) % 2 ^ 64 ≡ before + suc len
number_is before len most taken few room =
    let a : before + len < 2 ^ 64 = omega (arith, room.0, room.1, few) in
    let b : before + len + 1 < 2 ^ 64 = omega (arith, room.0, room.1, few) in
    ap (λ n. (n + 1) % 2 ^ 64) (mod-eq_of_lt a) ∙ mod-eq_of_lt b ∙ (let c : before + len + 1 ≡ before + suc len = omega arith in c)

module _ {K T : Type 0} (IsClone : K → K → Type 0) (cap : ℕ) where
  -- one reply is given, and the others are left
  pub replies_fewer : (taken : List (LruMsg K)) (before : ℕ) (left : List (AskedLetter K T)) (a : AskedLetter K T) (all : List (AskedLetter K T)) → all ≡ left ++ a ∷ [] → AreReplies IsClone cap taken before (map (λ (x : AskedLetter K T). x.reply) all)
      → AreReplies IsClone cap taken before (map (λ (x : AskedLetter K T). x.reply) left)
  replies_fewer taken before left a all is h = λ i r n at.
      h i r n (ap (λ l. slice_get (map (λ (x : AskedLetter K T). x.reply) l) i) is ∙ ap (λ l. slice_get l i) (map-append (λ (x : AskedLetter K T). x.reply) left (a ∷ [])) ∙ get_left (map (λ (x : AskedLetter K T). x.reply) left) (a.reply ∷ []) i (Some (r, n)) at)

  pub reply_last : (taken : List (LruMsg K)) (before count : ℕ) (left : List (AskedLetter K T)) (a : AskedLetter K T) (all : List (AskedLetter K T)) → all ≡ left ++ a ∷ [] → count ≡ before + suc (length left)
      → AreReplies IsClone cap taken before (map (λ (x : AskedLetter K T). x.reply) all) → ForSome a.reply (λ told. ∥ IsReply IsClone cap (take count taken) told.1 told.0 ∥₁)
  reply_last taken before count left a all is counted h = λ told e.
      subst (λ n. ∥ IsReply IsClone cap (take n taken) told.1 told.0 ∥₁) (sym counted)
      (h (length left) told.0 told.1 (ap (λ l. slice_get (map (λ (x : AskedLetter K T). x.reply) l) (length left)) is ∙ ap (λ l. slice_get l (length left)) (map-append (λ (x : AskedLetter K T). x.reply) left (a ∷ []))
      ∙ (let n = length_map left in ap (slice_get (map (λ (x : AskedLetter K T). x.reply) left ++ a.reply ∷ [])) (sym n)) ∙ get_last (map (λ (x : AskedLetter K T). x.reply) left) a.reply ∙ ap (λ o. Some o) e))
    where
      length_map : (xs : List (AskedLetter K T)) → length (map (λ (x : AskedLetter K T). x.reply) xs) ≡ length xs
      length_map [] = refl
      length_map (x ∷ xs) = let ih = length_map xs in omega (arith, ih)

  -- who asked has the answers
  pub replied_replies : (asked : List (AskedLetter K T)) (es : List (Option (Reply K × ℕ))) → length es ≡ length asked → map (λ (x : AskedLetter K T). x.reply) (replied asked es) ≡ es
  replied_replies [] [] h = refl
  replied_replies [] (e ∷ es) h = absurd (omega (arith, h))
  replied_replies (a ∷ later) [] h = absurd (omega (arith, h))
  replied_replies (a ∷ later) (e ∷ es) h = ap (λ l. e ∷ l) (replied_replies later es (omega (arith, h)))

  pub replied_length : (asked : List (AskedLetter K T)) (es : List (Option (Reply K × ℕ))) → length es ≡ length asked → length (replied asked es) ≡ length asked
  replied_length [] [] h = refl
  replied_length [] (e ∷ es) h = absurd (omega (arith, h))
  replied_length (a ∷ later) [] h = absurd (omega (arith, h))
  replied_length (a ∷ later) (e ∷ es) h = ap suc (replied_length later es (omega (arith, h)))

take_first : {A : Type 0} (xs ys : List A) (n : ℕ) → length xs ≡ n → take n (xs ++ ys) ≡ xs
take_first [] ys n e = ap (λ k. take k ys) (sym e)
take_first (x ∷ xs) ys n e = ap (λ k. take k (x ∷ (xs ++ ys))) (sym e) ∙ ap (λ l. x ∷ l) (take_first xs ys (length xs) refl)

pub take_all : {A : Type 0} (xs : List A) (n : ℕ) → n ≡ length xs → take n xs ≡ xs
take_all [] n e = ap (λ k. take k []) e
take_all (x ∷ xs) n e = ap (λ k. take k (x ∷ xs)) e ∙ ap (λ l. x ∷ l) (take_all xs (length xs) refl)

module _ {K : Type 0} (IsClone : K → K → Type 0) (cap : ℕ) where
  -- what a batch gains comes after what was taken before
  pub batch_gains : (o : Option (List (LruMsg K))) (before : ℕ) (gained : List (LruMsg K)) → ForSome o (λ taken. before ≡ length taken) → ForSome (option_map (λ t. t ++ gained) o) (Gains before gained)
  batch_gains None before gained b = λ x e. absurd (none_some x e)
  batch_gains (Some taken) before gained b = λ x e. subst (Gains before gained) (some_same (taken ++ gained) x e) (taken, sym (b taken refl), refl)

  -- a batch more, processed with the rows that all that was taken before leaves
  module _ (taken done gained : List (LruMsg K)) (before : ℕ) (es : List (Effect K)) (old : State K) (look : ℕ → Option ℕ) (new : State K) (look' : ℕ → Option ℕ) (met : done ≡ take before taken) (gains : Gains before gained taken)
      (left : ∥ IsLeft cap done old look ∥₁) (steps : StepsFrom IsClone old look gained es new look') where
    first_is : done ≡ gains.0
    first_is = met ∙ ap (take before) gains.2 ∙ take_first gains.0 gained before gains.1

    -- with the slips of what is evicted
    pub batch_kept : (slips slips' : Option (List Slip)) → ∥ IsKept cap done old look slips ∥₁ → AddsSlips old.shard.rows gained es slips slips' → ∥ IsKept cap taken new look' slips' ∥₁
    batch_kept slips slips' kept adds = ∥∥₁_map kept (λ was.
        subst (λ xs. IsKept cap xs new look' slips') (ap (λ xs. xs ++ gained) first_is ∙ sym gains.2) (kept_more IsClone cap done gained es old look steps.0 new look' steps.1 slips slips' was steps.2 adds))

    pub batch_replies : length taken < 2 ^ 64 → AreReplies IsClone cap taken before (answers new.refused es)
    batch_replies fits i r n at =
        let f = get_answer new.refused es i r n at in
        let is : done ++ take (suc i) gained ≡ take (before + suc i) taken
        = ap (λ xs. xs ++ take (suc i) gained) first_is ∙ sym (take_past gains.0 gained (suc i)) ∙ ap (λ n. take (n + suc i) (gains.0 ++ gained)) gains.1 ∙ ap (take (before + suc i)) (sym gains.2) in
        ∥∥₁_map left (λ was.
        subst (λ k. IsReply IsClone cap (take (before + suc i) taken) k r) (counted was i n f.3)
        (subst (λ xs. IsReply IsClone cap xs (refusals was.turns + refused_in (take (suc i) es)) r) is
        (reply_at IsClone cap done gained es old look steps.0 new look' steps.1 was.turns (by_turns cap done old look was) steps.2 i f.0 r f.1 f.2)))
      where
        counted : (was : IsLeft cap done old look) (i n : ℕ) → n ≡ fewer new.refused (refused_in (drop (suc i) es)) → refusals was.turns + refused_in (take (suc i) es) ≡ n
        counted was i n is =
            let turns = was.turns ++ turns_by gained es in
            let all = left_all IsClone cap done gained es old look steps.0 new look' steps.1 was.turns (by_turns cap done old look was) steps.2 in
            let many = as_many IsClone PutsPair IsSameQueue itself AtAnyTime gained es old look steps.0 new look' steps.1 steps.2 in
            let long = length-map turns (λ (t : Turn K). t.msg) in
            let whole = ap length (all.messages_are ∙ ap (λ xs. xs ++ gained) first_is ∙ sym gains.2) in
            let few = refusals_few turns in
            let both = refusals_both was.turns (turns_by gained es) in
            let own = refusals_are gained es many in
            let parts = refused_both es (suc i) in
            let sum : refusals turns ≡ refusals was.turns + refused_in (take (suc i) es) + refused_in (drop (suc i) es) = omega (arith, both, own, parts) in
            count_at (refusals was.turns + refused_in (take (suc i) es)) (refused_in (drop (suc i) es)) new.refused n (omega (arith, sum, few, long, whole, fits))
            (ap (λ (z : State K). z.refused) all.state ∙ ap (λ k. k % 2 ^ 64) sum) is

  pub batch_past : (o : Option (List (LruMsg K))) (before count most : ℕ) (gained : List (LruMsg K)) → ForSome o (λ taken. before ≡ length taken) → count ≡ length gained → most < 2 ^ 64
      → ForSome (option_map (λ t. t ++ gained) o) (λ taken. most ≡ length taken) → ForSome (option_map (λ t. t ++ gained) o) (λ taken. TookPast before count taken)
  batch_past None before count most gained b c fits m = λ x e. absurd (none_some x e)
  batch_past (Some taken) before count most gained b c fits m = λ x e.
      subst (TookPast before count) (some_same (taken ++ gained) x e)
      (let h = b taken refl in let l = length-append taken gained in let n = m (taken ++ gained) refl in (omega (arith, h, c, l), omega (arith, n, fits)))

module _ {K B : Type 0} {A : Ghosts B} where
  -- how many were taken is counted
  pub counted_in : (voice : Option (Voice (LruMsg K) B A)) (count : ℕ) → ForSome voice (λ v. count ≡ length (taken_by v.token.me.0)) → ForSome (taken_in voice) (λ taken. count ≡ length taken)
  counted_in None count h = λ x e. absurd (none_some x e)
  counted_in (Some v) count h = λ x e. subst (λ xs. count ≡ length xs) (some_same (taken_by v.token.me.0) x e) (h v refl)

  -- where there is no log nothing is known
  pub none_known : (P : List (LruMsg K) → Type 0) (voice : Option (Voice (LruMsg K) B A)) → is_some voice ≡ false → ForSome (taken_in voice) P
  none_known P None h = λ x e. absurd (none_some x e)
  none_known P (Some v) h = cc

pub messages_length : {K T : Type 0} (letters : List (Letter K T)) → length (messages_of letters) ≡ length letters
messages_length [] = refl
messages_length (l ∷ ls) = ap suc (messages_length ls)

-- a seat that is no box's adds nothing
pub adds : {K : Type 0} (rows : List (Row K)) (gained : List (LruMsg K)) (es : List (Effect K)) (ledger : Bool) (slips slips' : Option (List Slip)) → is_some slips ≡ ledger → (ledger ≡ true → AddsSlips rows gained es slips slips') → (ledger ≡ false → slips' ≡ slips)
    → AddsSlips rows gained es slips slips'
adds rows gained es true slips slips' is yes_adds no_adds = yes_adds refl
adds rows gained es false None slips' is yes_adds no_adds = λ ss e. absurd (none_some ss (sym (no_adds refl) ∙ e))
adds rows gained es false (Some ss) slips' is yes_adds no_adds = cc
