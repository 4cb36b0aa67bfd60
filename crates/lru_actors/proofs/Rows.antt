-- What the calls of a unit say of the messages that they serve.
use Rattle.std.proofs.Common.{◌≡◌, ℕ, not, max, arith, true, false, List, [], ◌∷◌, ◌++◌, Some, None, Ok, Err, refl, sym, ap, ◌∙◌, subst, inl, inr}
use Rattle.std.specs.Prelude.{Option, Bool, option_map, ◌⊎◌, if◌then◌else◌}
use Rattle.std.specs.Option.{option_map_or}
use Rattle.lru_shard.specs.declared.unit.Cause.{Cause}
use Rattle.lru_shard.specs.declared.unit.RefusedUpdate.{RefusedUpdate}
use Rattle.lru_shard.specs.Row.{Row, row, row_of, with_first, last_row, without_last, pair_of, with_value, HasDistinctKeys}
use Rattle.lru_shard.specs.Shard.{Shard, shard, size_of, MayRefuse, Accepts}
use Rattle.lru_shard.specs.Unit.{UpdatesRow, UpdatesOrAdmits, IncrementsRow, IncrementsWeight, raised, started}
use Rattle.lru_actors.specs.Messages.{AreClones}
use Rattle.lru_shard.proofs.LastRows.{held_last}
use Rattle.lru_shard.proofs.Edits.{at_row, with_value-at}

module _ {K : Type 0} where
  -- the row of an `Admit`, where the hash has this row or none
  abbrev pub admitted : ℕ → Option (Row K) → K → ℕ → Row K
  admitted h o key w = row h (option_map_or (λ (r : Row K). r.value) o key) (max w 1)

  abbrev pub incremented : ℕ → Option (Row K) → K → ℕ → Option ℕ → Row K
  incremented h o key delta most = row h (option_map_or (λ (r : Row K). r.value) o key) (option_map_or (λ (r : Row K). raised r.weight delta most) o (started delta most))

  same_value : (rows : List (Row K)) (k : ℕ) (r : Row K) → HasDistinctKeys rows → row_of rows k ≡ Some r → with_value rows k r.value ≡ rows
  same_value rows k r d e = let a = at_row rows k r d e in with_value-at rows k r a r.value ∙ sym a.whole

  module _ (Changes : K → ℕ → ℕ → K → Type 0) (Makes : K × ℕ → Type 0) (old new : Shard K) (h : ℕ) (key : K) (w : ℕ)
      (change : (d : K) (x g : ℕ) (d' : K) → Changes d x g d' → (g ≡ w) × (d' ≡ d)) (make : (m : K × ℕ) → Makes m → m ≡ (key, w)) where
    admits_by : (o : Option (Row K)) (answer : Option ℕ × ℕ) → UpdatesRow Changes Makes old h o (Ok answer) new
        → (answer.1 ≡ max w 1) × Accepts old new (with_first old.rows (admitted h o key w))
    admits_by (Some r) answer x =
        let c = change r.value r.weight x.1.0 x.0 x.1.1.0 in (
          x.1.1.1.0.1 ∙ ap (λ g. max g 1) c.0,
          subst (λ g. Accepts old new (with_first old.rows (row h r.value (max g 1)))) c.0 (subst (λ d. Accepts old new (with_first old.rows (row h d (max x.1.0 1)))) c.1 x.1.1.1.1),
        )
    admits_by None answer x =
        let m = make x.0 x.1.0 in (
          x.1.1.0.1 ∙ ap (λ (p : K × ℕ). max p.1 1) m,
          subst (λ (p : K × ℕ). Accepts old new (with_first old.rows (row h p.0 (max p.1 1)))) m x.1.1.1,
        )

    pub admits : (answer : Option ℕ × ℕ) → UpdatesOrAdmits Changes Makes old h (Ok answer) new → (answer.1 ≡ max w 1) × Accepts old new (with_first old.rows (admitted h (row_of old.rows h) key w))
    admits answer x = admits_by (row_of old.rows h) answer x

    refuses_by : (o : Option (Row K)) (refused : RefusedUpdate K) → row_of old.rows h ≡ o → HasDistinctKeys old.rows → UpdatesRow Changes Makes old h o (Err refused) new
        → (new ≡ old) × ((o ≡ None) ⊎ ((cause : Cause) × MayRefuse old.cap (size_of old.rows) (size_of (with_first old.rows (admitted h o key w))) cause))
    refuses_by (Some r) refused e d x =
        let c = change r.value r.weight x.1.0 x.0 x.1.1.0 in (
          x.1.1.1.1.1 ∙ ap (λ v. shard (with_value old.rows h v) old.cap) c.1 ∙ ap (λ rows. shard rows old.cap) (same_value old.rows h r d e),
          inr (
            refused.cause,
            subst (λ g. MayRefuse old.cap (size_of old.rows) (size_of (with_first old.rows (row h r.value (max g 1)))) refused.cause) c.0
                (subst (λ v. MayRefuse old.cap (size_of old.rows) (size_of (with_first old.rows (row h v (max x.1.0 1)))) refused.cause) c.1 x.1.1.1.0),
          ),
        )
    refuses_by None refused e d x = (x.1, inl refl)

    pub refuses : (refused : RefusedUpdate K) → HasDistinctKeys old.rows → UpdatesOrAdmits Changes Makes old h (Err refused) new
        → (new ≡ old) × ((row_of old.rows h ≡ None) ⊎ ((cause : Cause) × MayRefuse old.cap (size_of old.rows) (size_of (with_first old.rows (admitted h (row_of old.rows h) key w))) cause))
    refuses refused d x = refuses_by (row_of old.rows h) refused refl d x

  module _ (Makes : K → Type 0) (old new : Shard K) (h : ℕ) (key : K) (delta : ℕ) (most : Option ℕ) (make : (m : K) → Makes m → m ≡ key) where
    increments_by : (o : Option (Row K)) (answer : ℕ × ℕ × Bool) → IncrementsRow Makes old h delta most o (Ok answer) new
        → (answer.1 ≡ (incremented h o key delta most).weight) × Accepts old new (with_first old.rows (incremented h o key delta most))
    increments_by (Some r) answer x = (x.0.1.0, x.1)
    increments_by None answer x = (x.0.1.0, subst (λ k. Accepts old new (with_first old.rows (row h k (started delta most)))) (make x.1.0 x.1.1.0) x.1.1.1)

    pub increments : (answer : ℕ × ℕ × Bool) → IncrementsWeight Makes old h delta most (Ok answer) new
        → (answer.1 ≡ (incremented h (row_of old.rows h) key delta most).weight) × Accepts old new (with_first old.rows (incremented h (row_of old.rows h) key delta most))
    increments answer x = increments_by (row_of old.rows h) answer x

    stops_by : (o : Option (Row K)) (cause : Cause) → IncrementsRow Makes old h delta most o (Err cause) new
        → (new ≡ old) × ((o ≡ None) ⊎ ((c : Cause) × MayRefuse old.cap (size_of old.rows) (size_of (with_first old.rows (incremented h o key delta most))) c))
    stops_by (Some r) cause x = (x.left, inr (cause, x.may))
    stops_by None cause x = (x.1, inl refl)

    pub stops : (cause : Cause) → IncrementsWeight Makes old h delta most (Err cause) new
        → (new ≡ old) × ((row_of old.rows h ≡ None) ⊎ ((c : Cause) × MayRefuse old.cap (size_of old.rows) (size_of (with_first old.rows (incremented h (row_of old.rows h) key delta most))) c))
    stops cause x = stops_by (row_of old.rows h) cause x

  -- whether a row was there, by what was answered of it
  pub there : (h : ℕ) (o : Option (Row K)) (p : K × ℕ) → Some p ≡ option_map pair_of o → Some h ≡ option_map (λ _. h) o
  there h None p e = cc
  there h (Some r) p e = refl

  pub absent : (h : ℕ) (o : Option (Row K)) → None ≡ option_map pair_of o → None ≡ option_map (λ _. h) o
  absent h None e = refl
  absent h (Some r) e = cc

  keyless : (o : Option (Row K)) → None ≡ option_map (λ (r : Row K). r.key) o → None ≡ option_map pair_of o
  keyless None e = refl
  keyless (Some r) e = cc

  -- no row is last: there is none
  pub no_last : (rows : List (Row K)) → None ≡ option_map (λ (r : Row K). r.key) (last_row rows) → (without_last rows ≡ rows) × (last_row rows ≡ None)
  no_last [] e = (refl, refl)
  no_last (x ∷ xs) e = absurd (held_last (x ∷ xs) (omega arith) (keyless (last_row (x ∷ xs)) e))

-- a hash is put at the end exactly where it was not there
pub tail_put : (b held : Bool) (h w : ℕ) → b ≡ not held → b ≡ true → ◌≡◌ {A = Option (ℕ × ℕ)} (Some (h, w)) (if held then None else Some (h, w))
tail_put b true h w e t = cc
tail_put b false h w e t = refl

pub tail_none : (b held : Bool) (h w : ℕ) → b ≡ not held → b ≡ false → ◌≡◌ {A = Option (ℕ × ℕ)} None (if held then None else Some (h, w))
tail_none b true h w e t = refl
tail_none b false h w e t = cc

module _ {K : Type 0} (IsClone : K → K → Type 0) where
  -- one clone more
  pub clones_more : (ps qs : List (K × ℕ)) (p q : K × ℕ) → AreClones IsClone ps qs → IsClone p.0 q.0 → q.1 ≡ p.1 → AreClones IsClone (ps ++ p ∷ []) (qs ++ q ∷ [])
  clones_more [] [] p q h c w = ((c, w), tt)
  clones_more [] (y ∷ ys) p q h c w = absurd h
  clones_more (x ∷ xs) [] p q h c w = absurd h
  clones_more (x ∷ xs) (y ∷ ys) p q h c w = (h.0, clones_more xs ys p q h.1 c w)
