-- A sketch's bytes and uses after one more use.
use Rattle.std.proofs.Common.{◌≡◌, ℕ, ◌+◌, ◌*◌, ◌/◌, ◌<◌, min, max, List, ◌∷◌, false, true, length, map, replicate, zero, suc, refl, sym, ap, ◌∙◌, arith}
use Rattle.std.specs.Prelude.{◌==◌}
use Rattle.std.specs.List.{All}
use Rattle.std.proofs.lemmas.Bool.{ne_eqb, eq-eqb}
use Rattle.lru_admission.specs.Sketch.{Counted, IsSketch, mixed, counter_by, least_of, lifted, raised, counted, fresh}
use Rattle.lru_admission.specs.Representation.{counts_in, counted_in, IsKept}
use Rattle.lru_admission.proofs.Packed.{length-counts}
use Rattle.lru_admission.proofs.Estimates.{length-raised}

-- how many entries the counters are for after a use
same_entries : (bytes : List ℕ) (hash : ℕ) → length (raised (counts_in bytes) hash) / 2 ≡ length bytes
same_entries bytes hash = omega (arith, length-raised (counts_in bytes) hash, length-counts bytes)

-- four counters lifted one after another
pub raised-steps : (counts one two three four : List ℕ) (hash bits level n a b c d : ℕ) → n ≡ length counts → bits ≡ mixed hash → level ≡ min (least_of counts hash + 1) 15 →
    a ≡ counter_by n bits 0 → b ≡ counter_by n bits 1 → c ≡ counter_by n bits 2 → d ≡ counter_by n bits 3 →
    one ≡ lifted counts a level → two ≡ lifted one b level → three ≡ lifted two c level → four ≡ lifted three d level → four ≡ raised counts hash
unfolding raised
raised-steps counts one two three four hash bits level n a b c d en eb el ea e1 e2 e3 p q r s =
    let e : level ≡ min 15 (least_of counts hash + 1) = omega arith in
    cc

pub counted-kept : (bytes grown : List ℕ) (uses hash : ℕ) → counts_in grown ≡ raised (counts_in bytes) hash → (uses + 1 ≡ 10 * length bytes → ⊥) → counted_in grown (uses + 1) ≡ counted (counted_in bytes uses) hash
counted-kept bytes grown uses hash e ne =
    let t : (uses + 1 == 10 * (length (raised (counts_in bytes) hash) / 2)) ≡ false = ne_eqb _ _ (λ h. ne (h ∙ ap (λ n. 10 * n) (same_entries bytes hash))) in
    rw t cc

pub counted-halved : (bytes grown halves : List ℕ) (uses hash : ℕ) → counts_in grown ≡ raised (counts_in bytes) hash → counts_in halves ≡ map (λ count. count / 2) (counts_in grown) → uses + 1 ≡ 10 * length bytes → counted_in halves 0 ≡ counted (counted_in bytes uses) hash
counted-halved bytes grown halves uses hash e h is =
    let t : (uses + 1 == 10 * (length (raised (counts_in bytes) hash) / 2)) ≡ true = eq-eqb _ _ (is ∙ ap (λ n. 10 * n) (sym (same_entries bytes hash))) in
    rw t cc

-- zeros
counts-zeros : (n : ℕ) → counts_in (replicate n 0) ≡ replicate (n + n) 0
counts-zeros zero = refl
counts-zeros (suc n) = ap (λ cs. 0 ∷ 0 ∷ cs) (counts-zeros n) ∙ ap (λ k. replicate k 0) (twice n)
  where
    twice : (n : ℕ) → suc (suc (n + n)) ≡ suc n + suc n
    twice n = omega arith

double : (n : ℕ) → n + n ≡ 2 * n
double n = omega arith

pub fresh-is : (n : ℕ) → counted_in (replicate (max 1 n) 0) 0 ≡ fresh n
fresh-is n = ap (λ cs. record_of cs) (counts-zeros (max 1 n) ∙ ap (λ k. replicate k 0) (double (max 1 n)))
  where
    record_of : List ℕ → Counted
    record_of cs = record { counts = cs; uses = 0 }

pub is_sketch : (bytes : List ℕ) (uses : ℕ) → All (λ count. count < 16) (counts_in bytes) → IsKept bytes uses → IsSketch (counted_in bytes uses)
is_sketch bytes uses small kept =
    let long = length-counts bytes in
    record { even = omega arith; some = omega (arith, kept.some); small = small; young = omega (arith, kept.young) }
