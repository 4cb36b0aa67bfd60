-- Laws of the bytes of rows.
use Rattle.std.proofs.Common.{◌≡◌, ℕ, ◌*◌, ◌/◌, ◌<◌, ◌^◌, List, [], ◌∷◌, ◌++◌, length, take, refl, sym, ap, ◌∙◌, arith, append_assoc, length-append}
use Rattle.std.specs.Prelude.{map}
use Rattle.std.specs.Simd.{first_chunks}
use Rattle.std.proofs.lemmas.Nat.{from_le_bytes-to_le_bytes_8}
use Rattle.lru_shard_files.specs.declared.snapshot.Keyed.{Keyed}
use Rattle.lru_shard_files.specs.Snapshot.{pair_bytes, bytes_of, pair_in, pairs_of}

-- each number of the row has 64 bits
pub record IsNarrow (p : Keyed × ℕ) : Type 0 where
  pub key : p.0.key < 2 ^ 64
  pub value : p.0.value < 2 ^ 64
  pub weight : p.1 < 2 ^ 64

abbrev pub AreNarrow : List (Keyed × ℕ) → Type 0
AreNarrow [] = Unit {0}
AreNarrow (p ∷ ps) = IsNarrow p × AreNarrow ps

pub narrow-last : (ps : List (Keyed × ℕ)) (p : Keyed × ℕ) → AreNarrow ps → IsNarrow p → AreNarrow (ps ++ p ∷ [])
narrow-last [] p h n = (n, tt)
narrow-last (q ∷ ps) p h n = (h.0, narrow-last ps p h.1 n)

pub bytes_of-append : (ps qs : List (Keyed × ℕ)) → bytes_of (ps ++ qs) ≡ bytes_of ps ++ bytes_of qs
bytes_of-append [] qs = refl
bytes_of-append (p ∷ ps) qs = ap (λ bs. pair_bytes p ++ bs) (bytes_of-append ps qs) ∙ sym (append_assoc (pair_bytes p) (bytes_of ps) (bytes_of qs))

-- one row more
pub bytes_of-last : (ps : List (Keyed × ℕ)) (p : Keyed × ℕ) → bytes_of (ps ++ p ∷ []) ≡ bytes_of ps ++ pair_bytes p
bytes_of-last ps p = bytes_of-append ps (p ∷ [])

abbrev pair : ℕ → ℕ → ℕ → Keyed × ℕ
pair k v w = (record { key = k; value = v }, w)

same_pair : (a b c x y z : ℕ) → a ≡ x → b ≡ y → c ≡ z → pair a b c ≡ pair x y z
same_pair a b c x y z e f g = ap (λ n. pair n b c) e ∙ ap (λ n. pair x n c) f ∙ ap (λ n. pair x y n) g

-- the first 24 bytes are the first row
pair_back : (p : Keyed × ℕ) (rest : List ℕ) → IsNarrow p → pair_in (take 24 (pair_bytes p ++ rest)) ≡ p
pair_back p rest h = same_pair _ _ _ p.0.key p.0.value p.1 (from_le_bytes-to_le_bytes_8 p.0.key h.key) (from_le_bytes-to_le_bytes_8 p.0.value h.value) (from_le_bytes-to_le_bytes_8 p.1 h.weight)

pieces_back : (ps : List (Keyed × ℕ)) → AreNarrow ps → map pair_in (first_chunks 24 (length ps) (bytes_of ps)) ≡ ps
pieces_back [] h = refl
pieces_back (p ∷ ps) h =
    ap (λ q. q ∷ map pair_in (first_chunks 24 (length ps) (bytes_of ps))) (pair_back p (bytes_of ps) h.0) ∙ ap (λ qs. p ∷ qs) (pieces_back ps h.1)

pub length-bytes_of : (ps : List (Keyed × ℕ)) → length (bytes_of ps) ≡ 24 * length ps
length-bytes_of [] = refl
length-bytes_of (p ∷ ps) = omega (arith, length-append (pair_bytes p) (bytes_of ps), length-bytes_of ps)

-- the rows of the bytes of a list are that list
pub pairs_of-bytes_of : (ps : List (Keyed × ℕ)) → AreNarrow ps → pairs_of (bytes_of ps) ≡ ps
pairs_of-bytes_of ps h =
    let count : length (bytes_of ps) / 24 ≡ length ps = omega (arith, length-bytes_of ps) in
    ap (λ n. map pair_in (first_chunks 24 n (bytes_of ps))) count ∙ pieces_back ps h
