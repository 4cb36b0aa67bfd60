-- One probe more, and one round more.
use Rattle.std.proofs.Common.{◌≡◌, ℕ, suc, ◌+◌, ◌<◌, ◌≤◌, List, [], ◌∷◌, ◌++◌, length, Option, Some, None, is_some, true, false, refl, sym, ap, ◌∙◌, subst, arith, append-nil, append_assoc, length-append}
use Rattle.std.proofs.lemmas.List.Elements.{All-nil, All-push}
use Rattle.lru_recording.specs.declared.entry.Receipt.{Receipt}
use Rattle.lru_recording.specs.declared.entry.Call.TheVariants.{EvictToLimit}
use Rattle.lru_recording.specs.Stamps.{receipt, GetsReceipt}
use Rattle.lru_recording.specs.Replies.{paired}
use Rattle.lru_recording.specs.Probes.{IsProbe, AreEmpty, Evicts, FindsNone, IsRound, AreRounds, AreProbes, Adds}
use Rattle.lru_recording.specs.declared.entry.Reply.TheVariants.{NotFound}

-- so many probes so far, none of which found a row
abbrev pub Empties : ℕ → ℕ → List Receipt → Type 0
Empties n steps rs = (length rs ≡ steps) × AreEmpty n rs

pub no_empties : (n : ℕ) (rs : List Receipt) → Adds (Empties n 0) rs rs
no_empties n rs = ([], (sym (append-nil rs), (refl, All-nil (IsProbe n NotFound))))

-- nothing was found, or this probe was refused
pub finds_none : (n steps : ℕ) (old new new' : List Receipt) → steps ≤ n → new' ≡ new → Adds (Empties n steps) old new → Adds (FindsNone n) old new'
finds_none n steps old new new' h same a = (a.0, (same ∙ a.1.0, (let e = a.1.1.0 in omega (arith, e), a.1.1.1)))

-- this probe found no row
pub one_empty : {T : Type 0} (n s steps : ℕ) (pair : Option (T × ℕ)) (old mid new : List Receipt) → is_some pair ≡ false → s < n → Adds (Empties n steps) old mid → GetsReceipt mid s EvictToLimit (Some (paired pair)) new → Adds (Empties n (steps + 1)) old new
one_empty n s steps None old mid new e below a r =
    let probe : Receipt = receipt s r.0 EvictToLimit NotFound in
    let more : length (a.0 ++ probe ∷ []) ≡ length a.0 + 1 = length-append a.0 (probe ∷ []) in
    let len = a.1.1.0 in
    (a.0 ++ probe ∷ [], (r.1 ∙ ap (λ l. l ++ probe ∷ []) a.1.0 ∙ append_assoc old a.0 (probe ∷ []), (omega (arith, more, len), All-push (IsProbe n NotFound) a.0 probe a.1.1.1 (refl, (below, refl)))))
one_empty n s steps (Some p) old mid new e below a r = absurd (cc)

-- this probe found a row
pub one_found : {T : Type 0} (n s steps : ℕ) (pair : Option (T × ℕ)) (old mid new : List Receipt) → is_some pair ≡ true → steps < n → s < n → Adds (Empties n steps) old mid → GetsReceipt mid s EvictToLimit (Some (paired pair)) new → Adds (IsRound n pair) old new
one_found n s steps None old mid new e h below a r = absurd (cc)
one_found n s steps (Some p) old mid new e h below a r =
    let probe : Receipt = receipt s r.0 EvictToLimit (paired (Some p)) in
    let len = a.1.1.0 in (
      a.0 ++ probe ∷ [],
      (
        r.1 ∙ ap (λ l. l ++ probe ∷ []) a.1.0 ∙ append_assoc old a.0 (probe ∷ []),
        record {
          empty = a.0;
          last = probe;
          are = refl;
          few = omega (arith, len, h);
          are_empty = a.1.1.1;
          found = (refl, (below, refl));
        },
      ),
    )

pub no_rounds : (n : ℕ) (rs : List Receipt) → Adds (AreRounds n []) rs rs
no_rounds n rs = ([], (sym (append-nil rs), refl))

rounds_snoc : (n w : ℕ) (ws : List ℕ) (rs more : List Receipt) → AreRounds n ws rs → Evicts n w more → AreRounds n (ws ++ w ∷ []) (rs ++ more)
rounds_snoc n w [] rs more h e = (more, ([], (ap (λ l. l ++ more) h ∙ sym (append-nil more), (e, refl))))
rounds_snoc n w (v ∷ ws) rs more h e = (h.0, (h.1.0 ++ more, (ap (λ l. l ++ more) h.1.1.0 ∙ append_assoc h.0 h.1.0 more, (h.1.1.1.0, rounds_snoc n w ws h.1.0 more h.1.1.1.1 e))))

pub one_round : (n w : ℕ) (ws ws' : List ℕ) (old mid new : List Receipt) → ws' ≡ ws ++ w ∷ [] → Adds (AreRounds n ws) old mid → Adds (Evicts n w) mid new → Adds (AreRounds n ws') old new
one_round n w ws ws' old mid new is a b =
    (a.0 ++ b.0, (b.1.0 ∙ ap (λ l. l ++ b.0) a.1.0 ∙ append_assoc old a.0 b.0, subst (λ l. AreRounds n l (a.0 ++ b.0)) (sym is) (rounds_snoc n w ws a.0 b.0 a.1.1 b.1.1)))

-- the last round, and then none
pub last_round : (n : ℕ) (ws ws' : List ℕ) (old mid new : List Receipt) → ws' ≡ ws → Adds (AreRounds n ws) old mid → Adds (FindsNone n) mid new → Adds (AreProbes n ws') old new
last_round n ws ws' old mid new same a b = (
  a.0 ++ b.0,
  (
    b.1.0 ∙ ap (λ l. l ++ b.0) a.1.0 ∙ append_assoc old a.0 b.0,
    record {
      rounds = a.0;
      rest = b.0;
      are = refl;
      evict = subst (λ l. AreRounds n l a.0) (sym same) a.1.1;
      none = b.1.1;
    },
  ),
)

pub nothing_more : (n : ℕ) (rs : List Receipt) → Adds (FindsNone n) rs rs
nothing_more n rs = ([], (sym (append-nil rs), (omega arith, All-nil (IsProbe n NotFound))))
