-- What is past a limit with more taken away is past it with less.
use Rattle.std.proofs.Common.{◌≡◌, ℕ, ◌-◌, ◌*◌, ◌<◌, ◌≤◌, List, length, true, Some, None, arith, inl, inr}
use Rattle.std.proofs.Math.Nat.{mul-le-mul_left}
use Rattle.std.specs.Prelude.{Option, All, sum, nat_lt}
use Rattle.std.proofs.lemmas.Bool.{ltb-true, lt-ltb, or_cases, or_left, or_right}
use Rattle.std.proofs.lemmas.List.Sums.{sum_by-le}
use Rattle.lru_shard.specs.Limits.{is_past, is_above}

lt_more : (limit w w' : ℕ) → w ≤ w' → nat_lt limit w ≡ true → nat_lt limit w' ≡ true
lt_more limit w w' le h = lt-ltb limit w' (let lt : limit < w = ltb-true limit w h in omega arith)

above_more : (mark : Option ℕ) (l l' : ℕ) → l ≤ l' → is_above l mark ≡ true → is_above l' mark ≡ true
above_more None l l' le h = h
above_more (Some most) l l' le h = lt_more most l l' le h

past_more : (limit : ℕ) (mark : Option ℕ) (w l w' l' : ℕ) → w ≤ w' → l ≤ l' → is_past limit mark w l ≡ true → is_past limit mark w' l' ≡ true
past_more limit mark w l w' l' weight len h =
    elim (or_cases (nat_lt limit w) (is_above l mark) h) [
      | inl heavy ↦ or_left (nat_lt limit w') (is_above l' mark) (lt_more limit w w' weight heavy)
      | inr long ↦ or_right (nat_lt limit w') (is_above l' mark) (above_more mark l l' len long)
    ]

-- past a limit with so many of the heaviest rows gone, so with any rows that are no more and no heavier
pub past_whatever_goes : (limit : ℕ) (mark : Option ℕ) (weight len heaviest pending : ℕ) → is_past limit mark (weight - pending * heaviest) (len - pending) ≡ true
    → (gone : List ℕ) → length gone ≤ pending → All (λ w. w ≤ heaviest) gone → is_past limit mark (weight - sum gone) (len - length gone) ≡ true
past_whatever_goes limit mark weight len heaviest pending h gone few light =
    let sum_few : sum gone ≤ length gone * heaviest = sum_by-le (λ w. w) heaviest gone light in
    let most : length gone * heaviest ≤ pending * heaviest = omega (arith, mul-le-mul_left heaviest few) in
    past_more limit mark (weight - pending * heaviest) (len - pending) (weight - sum gone) (len - length gone) (omega arith) (omega arith) h
