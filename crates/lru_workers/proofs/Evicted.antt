-- What a batch evicts is what its effects tell; and who asked gets the reply of the own message.
use Rattle.std.proofs.Common.{◌≡◌, ℕ, length-append, ◌+◌, ◌-◌, ◌%◌, ◌^◌, ◌<◌, ◌≤◌, min, take, cond, suc, Bool, true, false, List, [], ◌∷◌, ◌++◌, length, map, Some, None, refl, sym, ap, ◌∙◌, arith, inl, inr}
use Rattle.std.specs.Prelude.{Option, option_map, option_to_list, sum_by}
use Rattle.std.specs.List.{zip}
use Rattle.std.proofs.Math.ListN.{set, get_or}
use Rattle.std.proofs.lemmas.Bool.{cond-true, cond-false}
use Rattle.std.proofs.lemmas.List.{length-map, take_all}
use Rattle.std.proofs.lemmas.Slice.Zip.{length-zip, get_or-zip}
use Rattle.std.proofs.Math.Nat.{mod-add-mod}
use Rattle.std.proofs.lemmas.List.Sums.{sum_by-cons, sum_by-append, sum_by_more}
use Rattle.lru_mailbox.specs.Queue.{Queue}
use Rattle.lru_shard.specs.Row.{Row, pair_of, weight_of, last_row, without_last}
use Rattle.lru_shard.proofs.LastRows.{weight-without_last, length-without_last, held_last}
use Rattle.lru_actors.specs.declared.message.LruMsg.{LruMsg}
use Rattle.lru_actors.specs.declared.message.LruMsg.TheVariants.{Admit, IncrementWeight, Promote, Remove, InsertTail, Evict, PeekLru, Snapshot, QueryWeight}
use Rattle.lru_actors.specs.declared.effect.Effect.{Effect}
use Rattle.lru_actors.specs.declared.effect.Reply.{Reply}
use Rattle.lru_actors.specs.Messages.{State, consumed, evicted_of}
use Rattle.lru_workers.proofs.Counted.{answers_length}
use Rattle.lru_actors.specs.Processing.{Processes, ProcessesAll}
use Rattle.lru_actors.specs.Turns.{sent, turn, turns_of, rows_after, leaving, evictions}
use Rattle.lru_workers.specs.declared.bench.AskedLetter.{AskedLetter}
use Rattle.lru_actors.specs.declared.letter.Letter.{Letter}
use Rattle.lru_workers.specs.Batch.{answers, is_evict, asked_by, replied, weight_taken, rows_taken, pairs_evicted}

module _ {K T : Type 0} where
  -- who is left to be answered gets the own answer
  pub replied_more : (asked : List (AskedLetter K T)) (xs : List (Option (Reply K × ℕ))) (x : Option (Reply K × ℕ)) (d : AskedLetter K T) → length xs < length asked
      → replied (set asked (length xs) (record (get_or asked (length xs) d) { reply = x })) xs ≡ replied asked (xs ++ x ∷ [])
  replied_more [] xs x d h = absurd (omega arith)
  replied_more (a ∷ later) [] x d h = refl
  replied_more (a ∷ later) (y ∷ xs) x d h = ap (λ l. record a { reply = y } ∷ l) (replied_more later xs x d (omega arith))

  -- the answer of the last effect that is left goes to its place
  pub noted : (asked : List (AskedLetter K T)) (total after : ℕ) (left : List (Effect K)) (e : Effect K) (i : ℕ) (a : AskedLetter K T) → i ≡ length left → a ≡ get_or asked i a → length left < length asked
      → answers total (left ++ e ∷ []) ≡ answers after left ++ option_map (λ r. (r, total)) e.reply ∷ []
      → replied (set asked i (record a { reply = option_map (λ r. (r, total)) e.reply })) (answers after left) ≡ replied asked (answers total (left ++ e ∷ []))
  noted asked total after left e i a is_i is_a h split =
      let n = answers_length after left in
      let at : i ≡ length (answers after left) = is_i ∙ sym n in
      let there : a ≡ get_or asked (length (answers after left)) a = is_a ∙ ap (λ j. get_or asked j a) at in
      (λ j. replied (set asked (at j) (record (there j) { reply = option_map (λ r. (r, total)) e.reply })) (answers after left))
      ∙ replied_more asked (answers after left) (option_map (λ r. (r, total)) e.reply) a (omega (arith, n, h)) ∙ ap (replied asked) (sym split)

  -- one message more
  pub sum_step : (f : AskedLetter K T × Effect K → ℕ) (asked : List (AskedLetter K T)) (es : List (Effect K)) (i : ℕ) (a : AskedLetter K T) (e : Effect K) (old new : ℕ) → i < length es → length es ≡ length asked
      → a ≡ get_or asked i a → e ≡ get_or es i e → old ≡ sum_by f (take i (zip asked es)) % 2 ^ 64 → new ≡ (old + f (a, e)) % 2 ^ 64 → new ≡ sum_by f (take (i + 1) (zip asked es)) % 2 ^ 64
  sum_step f asked es i a e old new within same is_a is_e before is =
      let s = sum_by f (take i (zip asked es)) in
      let long : length (zip asked es) ≡ min (length asked) (length es) = length-zip asked es in
      let one : f (get_or (zip asked es) i (a, e)) ≡ f (a, e) = ap f (get_or-zip asked es i (a, e) (omega arith) within) ∙ sym (λ j. f (is_a j, is_e j)) in
      is ∙ ap (λ n. (n + f (a, e)) % 2 ^ 64) before ∙ mod-add-mod s (2 ^ 64) (f (a, e)) ∙ ap (λ n. (s + n) % 2 ^ 64) (sym one) ∙ ap (λ n. n % 2 ^ 64) (sym (sum_by_more f (zip asked es) i (a, e) (omega arith)))

  pub sum_end : (f : AskedLetter K T × Effect K → ℕ) (asked : List (AskedLetter K T)) (es : List (Effect K)) (i : ℕ) (n : ℕ) → length es ≤ i → n ≡ sum_by f (take i (zip asked es)) % 2 ^ 64 → n ≡ sum_by f (zip asked es) % 2 ^ 64
  sum_end f asked es i n past is =
      let long : length (zip asked es) ≡ min (length asked) (length es) = length-zip asked es in
      is ∙ ap (λ l. sum_by f l % 2 ^ 64) (take_all i (zip asked es) (omega arith))

  abbrev pub flags : List (AskedLetter K T) → List Bool
  flags asked = map (λ (a : AskedLetter K T). a.evicts) asked

  -- the flags of those who asked are those of the messages
  pub flags_asked : (letters : List (Letter K T)) → flags (map asked_by letters) ≡ map is_evict (map (λ (l : Letter K T). l.message) letters)
  flags_asked [] = refl
  flags_asked (l ∷ letters) = ap (λ fs. is_evict l.message ∷ fs) (flags_asked letters)

  pub asked_length : (letters : List (Letter K T)) → length (map asked_by letters) ≡ length letters
  asked_length letters = length-map letters asked_by

  pub record AllTaken (rows : List (Row K)) (msgs : List (LruMsg K)) (es : List (Effect K)) (asked : List (AskedLetter K T)) : Type 0 where
    pub weight : sum_by weight_taken (zip asked es) ≡ sum_by (λ (p : K × ℕ). p.1) (pairs_evicted rows msgs es)
    pub len : sum_by rows_taken (zip asked es) ≡ length (pairs_evicted rows msgs es)

  pub length-flags : (asked : List (AskedLetter K T)) → length (flags asked) ≡ length asked
  length-flags asked = length-map asked (λ (a : AskedLetter K T). a.evicts)

module _ {K : Type 0} where
  -- what one message takes
  record Takes (rows : List (Row K)) (msg : LruMsg K) (e : Effect K) : Type 0 where
    weight : cond (is_evict msg) (e.weight_before - e.weight_after) 0 ≡ sum_by (λ (p : K × ℕ). p.1) (leaving rows (turn (sent None msg) e))
    len : cond (is_evict msg) (e.len_before - e.len_after) 0 ≡ length (leaving rows (turn (sent None msg) e))

  nothing_taken : (rows : List (Row K)) (msg : LruMsg K) (e : Effect K) → is_evict msg ≡ false → evicted_of rows msg ≡ None → Takes rows msg e
  nothing_taken rows msg e other none =
      let left : leaving rows (turn (sent None msg) e) ≡ [] = ap (λ o. cond e.refused [] (option_to_list o)) none ∙ both e.refused in
      record {
        weight = cond-false (is_evict msg) (e.weight_before - e.weight_after) 0 other ∙ sym (ap (sum_by (λ (p : K × ℕ). p.1)) left);
        len = cond-false (is_evict msg) (e.len_before - e.len_after) 0 other ∙ sym (ap length left);
      }
    where
      both : (b : Bool) → let nobody : Option (K × ℕ) = None in cond b [] (option_to_list nobody) ≡ []
      both true = refl
      both false = refl

  -- an eviction that was refused takes nothing
  refused_takes : (rows : List (Row K)) (e : Effect K) → e.refused ≡ true → e.weight_before ≡ e.weight_after → e.len_before ≡ e.len_after → Takes rows Evict e
  refused_takes rows e was w l =
      let left : leaving rows (turn (sent None Evict) e) ≡ [] = cond-true e.refused [] (option_to_list (evicted_of rows Evict)) was in
      record {
        weight = (let none : e.weight_before - e.weight_after ≡ 0 = omega arith in none) ∙ sym (ap (sum_by (λ (p : K × ℕ). p.1)) left);
        len = (let none : e.len_before - e.len_after ≡ 0 = omega arith in none) ∙ sym (ap length left);
      }

  -- the last row is taken, if there is one
  last_taken : (rows : List (Row K)) (o : Option (Row K)) → last_row rows ≡ o
      → (weight_of rows - weight_of (without_last rows) ≡ sum_by (λ (p : K × ℕ). p.1) (option_to_list (option_map pair_of o)))
      × (length rows - length (without_last rows) ≡ length (option_to_list (option_map pair_of o)))
  last_taken rows (Some r) e =
      let one : sum_by (λ (p : K × ℕ). p.1) (pair_of r ∷ []) ≡ r.weight = omega (arith, sum_by-cons (λ (p : K × ℕ). p.1) (pair_of r) []) in
      ((let w : weight_of rows - weight_of (without_last rows) ≡ r.weight = omega (arith, weight-without_last rows r e) in w) ∙ sym one, omega (arith, length-without_last rows r e))
  last_taken [] None e = (refl, refl)
  last_taken (x ∷ rows) None e = absurd (held_last (x ∷ rows) (omega arith) (sym (ap (option_map pair_of) e)))

  served_takes : (rows : List (Row K)) (e : Effect K) → e.refused ≡ false → e.weight_before ≡ weight_of rows → e.len_before ≡ length rows
      → e.weight_after ≡ weight_of (without_last rows) → e.len_after ≡ length (without_last rows) → Takes rows Evict e
  served_takes rows e was wb lb wa la =
      let left : leaving rows (turn (sent None Evict) e) ≡ option_to_list (evicted_of rows Evict) = cond-false e.refused [] (option_to_list (evicted_of rows Evict)) was in
      let t = last_taken rows (last_row rows) refl in
      record {
        weight = (λ i. wb i - wa i) ∙ t.0 ∙ sym (ap (sum_by (λ (p : K × ℕ). p.1)) left);
        len = (λ i. lb i - la i) ∙ t.1 ∙ sym (ap length left);
      }

  module _ (IsClone : K → K → Type 0) {D : Type 0} (Puts : D → ℕ → K → ℕ → D → Type 0) (IsSame : D → D → Type 0) (queue : D → Queue K) (MayRefuse : D → Type 0) where
    evict_takes : (old : State K) (look : ℕ → Option ℕ) (d : D) (e : Effect K) (new : State K) (look' : ℕ → Option ℕ) (d' : D)
        → Processes Puts IsSame queue IsClone MayRefuse old look d Evict e new look' d' → Takes old.shard.rows Evict e
    evict_takes old look d e new look' d' (inl s) =
        served_takes old.shard.rows e s.done.refused s.done.measured.weight_before s.done.measured.len_before
        (s.done.measured.weight_after ∙ ap (λ (z : State K). weight_of z.shard.rows) s.done.left)
        (s.done.measured.len_after ∙ ap (λ (z : State K). length z.shard.rows) s.done.left)
    evict_takes old look d e new look' d' (inr t) =
        refused_takes old.shard.rows e t.refused.refused
        (t.refused.measured.weight_before ∙ sym (t.refused.measured.weight_after ∙ ap (λ (z : State K). weight_of z.shard.rows) t.refused.left))
        (t.refused.measured.len_before ∙ sym (t.refused.measured.len_after ∙ ap (λ (z : State K). length z.shard.rows) t.refused.left))

    one_takes : (old : State K) (look : ℕ → Option ℕ) (d : D) (msg : LruMsg K) (e : Effect K) (new : State K) (look' : ℕ → Option ℕ) (d' : D)
        → Processes Puts IsSame queue IsClone MayRefuse old look d msg e new look' d' → Takes old.shard.rows msg e
    one_takes old look d (Admit h k w) e new look' d' p = nothing_taken old.shard.rows (Admit h k w) e refl refl
    one_takes old look d (IncrementWeight h k w m) e new look' d' p = nothing_taken old.shard.rows (IncrementWeight h k w m) e refl refl
    one_takes old look d (Promote h) e new look' d' p = nothing_taken old.shard.rows (Promote h) e refl refl
    one_takes old look d (Remove h) e new look' d' p = nothing_taken old.shard.rows (Remove h) e refl refl
    one_takes old look d (InsertTail h k w) e new look' d' p = nothing_taken old.shard.rows (InsertTail h k w) e refl refl
    one_takes old look d Evict e new look' d' p = evict_takes old look d e new look' d' p
    one_takes old look d PeekLru e new look' d' p = nothing_taken old.shard.rows PeekLru e refl refl
    one_takes old look d Snapshot e new look' d' p = nothing_taken old.shard.rows Snapshot e refl refl
    one_takes old look d QueryWeight e new look' d' p = nothing_taken old.shard.rows QueryWeight e refl refl

    -- the rows after a message are those after its turn
    next_rows : (old : State K) (look : ℕ → Option ℕ) (d : D) (msg : LruMsg K) (e : Effect K) (new : State K) (look' : ℕ → Option ℕ) (d' : D)
        → Processes Puts IsSame queue IsClone MayRefuse old look d msg e new look' d' → rows_after old.shard.rows (turn (sent None msg) e) ≡ new.shard.rows
    next_rows old look d msg e new look' d' (inl s) =
        cond-false e.refused old.shard.rows (consumed old.shard.rows msg) s.done.refused ∙ sym (ap (λ (z : State K). z.shard.rows) s.done.left)
    next_rows old look d msg e new look' d' (inr t) =
        cond-true e.refused old.shard.rows (consumed old.shard.rows msg) t.refused.refused ∙ sym (ap (λ (z : State K). z.shard.rows) t.refused.left)

    -- each message has an effect
    pub as_many : (msgs : List (LruMsg K)) (es : List (Effect K)) (old : State K) (look : ℕ → Option ℕ) (d : D) (new : State K) (look' : ℕ → Option ℕ) (d' : D)
        → ProcessesAll Puts IsSame queue IsClone MayRefuse old look d msgs es new look' d' → length es ≡ length msgs
    as_many [] [] old look d new look' d' p = refl
    as_many [] (e ∷ es) old look d new look' d' p = absurd p
    as_many (m ∷ ms) [] old look d new look' d' p = absurd p
    as_many (m ∷ ms) (e ∷ es) old look d new look' d' p = ap suc (as_many ms es p.0 p.1.0 p.1.1.0 new look' d' p.1.1.1.1)

    pub all_taken : {T : Type 0} (msgs : List (LruMsg K)) (es : List (Effect K)) (asked : List (AskedLetter K T)) (old : State K) (look : ℕ → Option ℕ) (d : D) (new : State K) (look' : ℕ → Option ℕ) (d' : D)
        → ProcessesAll Puts IsSame queue IsClone MayRefuse old look d msgs es new look' d' → flags asked ≡ map is_evict msgs → AllTaken old.shard.rows msgs es asked
    all_taken [] [] [] old look d new look' d' p f = record { weight = refl; len = refl }
    all_taken [] [] (a ∷ later) old look d new look' d' p f = absurd (cc)
    all_taken [] (e ∷ es) asked old look d new look' d' p f = absurd p
    all_taken (m ∷ ms) [] asked old look d new look' d' p f = absurd p
    all_taken (m ∷ ms) (e ∷ es) [] old look d new look' d' p f = absurd (cc)
    all_taken (m ∷ ms) (e ∷ es) (a ∷ later) old look d new look' d' p f =
        let mid = p.0 in
        let flag : a.evicts ≡ is_evict m = cc in
        let others : flags later ≡ map is_evict ms = cc in
        let one = one_takes old look d m e mid p.1.0 p.1.1.0 p.1.1.1.0 in
        let next = next_rows old look d m e mid p.1.0 p.1.1.0 p.1.1.1.0 in
        let rest = all_taken ms es later mid p.1.0 p.1.1.0 new look' d' p.1.1.1.1 others in
        let t = turn (sent None m) e in
        let left = leaving old.shard.rows t in
        let more = evictions (rows_after old.shard.rows t) (turns_of (map (λ m. sent None m) ms) es) in
        let same : more ≡ pairs_evicted mid.shard.rows ms es = ap (λ rs. pairs_evicted rs ms es) next in
        let weight : weight_taken (a, e) ≡ sum_by (λ (p : K × ℕ). p.1) left = ap (λ b. cond b (e.weight_before - e.weight_after) 0) flag ∙ one.weight in
        let len : rows_taken (a, e) ≡ length left = ap (λ b. cond b (e.len_before - e.len_after) 0) flag ∙ one.len in
        record {
          weight = sum_by-cons weight_taken (a, e) (zip later es) ∙ (λ i. weight i + rest.weight i) ∙ ap (λ ps. sum_by (λ (p : K × ℕ). p.1) left + sum_by (λ (p : K × ℕ). p.1) ps) (sym same) ∙ sym (sum_by-append (λ (p : K × ℕ). p.1) left more);
          len = sum_by-cons rows_taken (a, e) (zip later es) ∙ (λ i. len i + rest.len i) ∙ ap (λ ps. length left + length ps) (sym same) ∙ sym (length-append left more);
        }
