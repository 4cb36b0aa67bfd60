-- No row of a shard weighs more than the shard may.
use Rattle.std.proofs.Common.{◌≡◌, ℕ, ◌≤◌, Some, None, refl, sym, ap, subst, arith}
use Rattle.std.specs.Prelude.{Option, option_map, IfSome, IfOk, OnOk, Result, Ok, Err, Bool}
use Rattle.lru_shard.specs.declared.unit.Refused.{Refused}
use Rattle.lru_shard.specs.declared.unit.Cause.{Cause}
use Rattle.lru_shard.specs.Row.{Row, row, row_of, pair_of, last_row, weight_of, with_first, without}
use Rattle.lru_shard.specs.Shard.{Shard, shard, IsShard}
use Rattle.lru_shard.specs.Unit.{Admits, IncrementsRow, raised, started}
use Rattle.lru_shard.specs.ShardCalls.{IncrementsTo}
use Rattle.lru_shard.proofs.Rows.{weight-cons}
use Rattle.lru_shard.proofs.Edits.{at_row, weight-without}
use Rattle.lru_shard.proofs.LastRows.{weight-without_last}

module _ {T : Type 0} where
  light_pair : (cap : ℕ) (o : Option (Row T)) → ((r : Row T) → o ≡ Some r → r.weight ≤ cap) → IfSome (option_map pair_of o) (λ pair. pair.1 ≤ cap)
  light_pair cap None h = tt
  light_pair cap (Some r) h = h r refl

  light_weight : (cap : ℕ) (o : Option (Row T)) → ((r : Row T) → o ≡ Some r → r.weight ≤ cap) → IfSome (option_map (λ (r : Row T). r.weight) o) (λ weight. weight ≤ cap)
  light_weight cap None h = tt
  light_weight cap (Some r) h = h r refl

  light_row : (s : Shard T) (k : ℕ) (r : Row T) → IsShard s → row_of s.rows k ≡ Some r → r.weight ≤ s.cap
  light_row s k r valid found = omega (arith, valid.light, weight-without s.rows k r (at_row s.rows k r valid.keys found))

  light_last : (s : Shard T) (r : Row T) → IsShard s → last_row s.rows ≡ Some r → r.weight ≤ s.cap
  light_last s r valid found = omega (arith, valid.light, weight-without_last s.rows r found)

  pub row_weight_light : (s : Shard T) (k : ℕ) → IsShard s → IfSome (option_map (λ (r : Row T). r.weight) (row_of s.rows k)) (λ weight. weight ≤ s.cap)
  row_weight_light s k valid = light_weight s.cap (row_of s.rows k) (λ r found. light_row s k r valid found)

  pub removed_light : (s : Shard T) (k : ℕ) → IsShard s → IfSome (option_map pair_of (row_of s.rows k)) (λ pair. pair.1 ≤ s.cap)
  removed_light s k valid = light_pair s.cap (row_of s.rows k) (λ r found. light_row s k r valid found)

  pub last_light : (s : Shard T) → IsShard s → IfSome (option_map pair_of (last_row s.rows)) (λ pair. pair.1 ≤ s.cap)
  last_light s valid = light_pair s.cap (last_row s.rows) (λ r found. light_last s r valid found)

  pub shown_light : (s : Shard T) (o : Option (T × ℕ)) → IsShard s → o ≡ option_map pair_of (last_row s.rows) → IfSome o (λ pair. pair.1 ≤ s.cap)
  shown_light s o valid is = subst (λ p. IfSome p (λ pair. pair.1 ≤ s.cap)) (sym is) (last_light s valid)

  -- a row that was put first
  light_first : (a b : Shard T) (r : Row T) → b ≡ shard (with_first a.rows r) a.cap → IsShard b → r.weight ≤ b.cap
  light_first a b r is valid = omega (arith, valid.light, ap (λ (s : Shard T). weight_of s.rows) is, weight-cons r (without a.rows r.key))

  pub admit_light : (a : Shard T) (k : ℕ) (d : T) (w : ℕ) (answer : Result ℕ (Refused T)) (b : Shard T) → Admits a k d w answer b → IsShard b → OnOk answer (w ≤ b.cap)
  admit_light a k d w (Ok was) b h valid = light_first a b (row k d w) h.1.left valid
  admit_light a k d w (Err r) b h valid = tt

  light_raised : (Makes : T → Type 0) (a : Shard T) (k delta : ℕ) (most : Option ℕ) (o : Option (Row T)) (answer : ℕ × ℕ × Bool) (b : Shard T) → IncrementsRow Makes a k delta most o (Ok answer) b → IsShard b → answer.1 ≤ b.cap
  light_raised Makes a k delta most (Some r) answer b h valid = omega (arith, h.0.1.0, light_first a b (row k r.value (raised r.weight delta most)) h.1.left valid)
  light_raised Makes a k delta most None answer b h valid = omega (arith, h.0.1.0, light_first a b (row k h.1.0 (started delta most)) h.1.1.1.left valid)

  pub increment_light : (Makes : T → Type 0) (a : Shard T) (k delta : ℕ) (most : Option ℕ) (answer : Result ℕ Cause) (b : Shard T) → IncrementsTo Makes a k delta most answer b → IsShard b → IfOk answer (λ w. w ≤ b.cap)
  increment_light Makes a k delta most (Ok w) b h valid = light_raised Makes a k delta most (row_of a.rows k) (h.0, w, h.1.0) b h.1.1 valid
  increment_light Makes a k delta most (Err cause) b h valid = tt
