-- The messages of one sender: those that it has put, in its order.
use Rattle.std.proofs.Common.{◌≡◌, ◌≢◌, ℕ, ◌&&◌, cond, eqb, Bool, true, false, List, [], ◌∷◌, ◌++◌, map, Some, None, Ok, Err, refl, sym, ap, ◌∙◌, append-nil}
use Rattle.std.specs.Prelude.{Result, filter}
use Rattle.std.specs.Option.{option_map_or}
use Rattle.std.proofs.lemmas.Bool.{eq-eqb, ne_eqb}
use Rattle.std.proofs.lemmas.List.{map-append}
use Rattle.std.proofs.lemmas.List.Elements.{filter-append}
use Rattle.std.proofs.lemmas.Grind.{flat_map-append}
use Rattle.lru_mailbox.specs.declared.mail_error.MailError.{MailError}
use Rattle.lru_actors.specs.declared.message.LruMsg.{LruMsg}
use Rattle.lru_actors.specs.Turns.{Sent, sent, messages_of}
use Rattle.lru_actors.specs.World.{Event, Send, accepted_by, put_by, all_put_by}

module _ {K : Type 0} where
  -- whether a message is of this sender
  abbrev pub is_by : ℕ → Sent K → Bool
  is_by by x = option_map_or (λ number. eqb number by) x.by false

  pub of_both : (by : ℕ) (xs ys : List (Sent K)) → messages_of by (xs ++ ys) ≡ messages_of by xs ++ messages_of by ys
  of_both by xs ys = ap (map (λ (x : Sent K). x.msg)) (filter-append (is_by by) xs ys) ∙ map-append (λ (x : Sent K). x.msg) (filter (is_by by) xs) (filter (is_by by) ys)

  -- one event more
  pub put_more : (by s : ℕ) (events : List (Event K)) (e : Event K) → all_put_by by s (events ++ e ∷ []) ≡ all_put_by by s events ++ put_by by s e
  put_more by s events e = flat_map-append (put_by by s) events (e ∷ []) ∙ ap (λ ms. all_put_by by s events ++ ms) (append-nil (put_by by s e))

  -- a message that was put is one of its sender's
  pub own_sent : (by s number : ℕ) (msg : LruMsg K) (answer : Result (Unit {0}) (MailError (Sent K))) → messages_of by (accepted_by answer (sent (Some number) msg)) ≡ put_by by s (Send number s msg answer)
  own_sent by s number msg (Ok _) = by_number (eqb number by) refl
    where
      by_number : (b : Bool) → eqb number by ≡ b → map (λ (x : Sent K). x.msg) (cond (eqb number by) (sent (Some number) msg ∷ []) []) ≡ cond (eqb number by && eqb s s) (msg ∷ []) []
      by_number true e = (λ i. map (λ (x : Sent K). x.msg) (cond (e i) (sent (Some number) msg ∷ []) [])) ∙ sym (λ i. cond (e i && eq-eqb s s refl i) (msg ∷ []) [])
      by_number false e = (λ i. map (λ (x : Sent K). x.msg) (cond (e i) (sent (Some number) msg ∷ []) [])) ∙ sym (λ i. cond (e i && eqb s s) (msg ∷ []) [])
  own_sent by s number msg (Err _) = refl

  -- a worker's is no sender's
  pub none_sent : (by : ℕ) (msg : LruMsg K) (answer : Result (Unit {0}) (MailError (Sent K))) → messages_of by (accepted_by answer (sent None msg)) ≡ []
  none_sent by msg (Ok _) = refl
  none_sent by msg (Err _) = refl

  -- a send to one shard puts nothing into another
  pub elsewhere : (by s t number : ℕ) (msg : LruMsg K) (answer : Result (Unit {0}) (MailError (Sent K))) → t ≢ s → put_by by s (Send number t msg answer) ≡ []
  elsewhere by s t number msg (Ok _) ne = (λ i. cond (eqb number by && ne_eqb t s ne i) (msg ∷ []) []) ∙ none_either (eqb number by)
    where
      none_either : (b : Bool) → cond (b && false) (msg ∷ []) [] ≡ []
      none_either true = refl
      none_either false = refl
  elsewhere by s t number msg (Err _) ne = refl
