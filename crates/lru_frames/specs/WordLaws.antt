-- Numbers and counted bytes tell where they end.
use Rattle.std.specs.Prelude.{◌≡◌, ℕ, ◌<◌, ◌^◌, Bool, true, false, List, [], ◌++◌, length, take, drop}
use Rattle.std.specs.Int.{w64, from_le_bytes}
use Rattle.std.proofs.Common.{refl, sym, ap, ◌∙◌, append_assoc, arith}
use Rattle.std.proofs.lemmas.List.{take_at, drop_at, length-append}
use Rattle.std.proofs.lemmas.Nat.{from_le_bytes-to_le_bytes_8}
use Rattle.lru_frames.specs.Words.{word, counted, truth}

-- two lists whose first parts are of one length
pub same_parts : (a b x y : List ℕ) → length a ≡ length b → a ++ x ≡ b ++ y → (a ≡ b) × (x ≡ y)
same_parts a b x y e h = (
  sym (take_at a x (length a) refl) ∙ ap (take (length a)) h ∙ take_at b y (length a) (sym e),
  sym (drop_at a x (length a) refl) ∙ ap (drop (length a)) h ∙ drop_at b y (length a) (sym e),
)

pub length-word : (n : ℕ) → length (word n) ≡ 8
unfolding word
length-word n = refl

pub one_number : (m n : ℕ) → m < 2 ^ 64 → n < 2 ^ 64 → word m ≡ word n → m ≡ n
unfolding word
one_number m n p q h = sym (from_le_bytes-to_le_bytes_8 m p) ∙ ap (from_le_bytes w64) h ∙ from_le_bytes-to_le_bytes_8 n q

-- a number tells where it ends
pub one_word : (m n : ℕ) (x y : List ℕ) → m < 2 ^ 64 → n < 2 ^ 64 → word m ++ x ≡ word n ++ y → (m ≡ n) × (x ≡ y)
one_word m n x y p q h =
    let parts = same_parts (word m) (word n) x y (length-word m ∙ sym (length-word n)) h in
    (one_number m n p q parts.0, parts.1)

-- and so do numbers of fewer bits
pub one_byte : (m n : ℕ) (x y : List ℕ) → m < 2 ^ 8 → n < 2 ^ 8 → word m ++ x ≡ word n ++ y → (m ≡ n) × (x ≡ y)
one_byte m n x y p q h = one_word m n x y (omega arith) (omega arith) h

pub one_quarter : (m n : ℕ) (x y : List ℕ) → m < 2 ^ 16 → n < 2 ^ 16 → word m ++ x ≡ word n ++ y → (m ≡ n) × (x ≡ y)
one_quarter m n x y p q h = one_word m n x y (omega arith) (omega arith) h

pub one_half : (m n : ℕ) (x y : List ℕ) → m < 2 ^ 32 → n < 2 ^ 32 → word m ++ x ≡ word n ++ y → (m ≡ n) × (x ≡ y)
one_half m n x y p q h = one_word m n x y (omega arith) (omega arith) h

pub truth_small : (b : Bool) → truth b < 2 ^ 64
truth_small true = omega arith
truth_small false = omega arith

pub truth_least : (b : Bool) → truth b < 2
truth_least true = omega arith
truth_least false = omega arith

same_truth : (a b : Bool) → truth a ≡ truth b → a ≡ b
same_truth true true h = refl
same_truth false false h = refl
same_truth true false h = absurd (omega arith)
same_truth false true h = absurd (omega arith)

pub one_truth : (a b : Bool) (x y : List ℕ) → Unit {0} → Unit {0} → word (truth a) ++ x ≡ word (truth b) ++ y → (a ≡ b) × (x ≡ y)
one_truth a b x y p q h = let parts = one_word (truth a) (truth b) x y (truth_small a) (truth_small b) h in (same_truth a b parts.0, parts.1)

-- a number that begins the bytes is the one that stands there
pub read_word : (bytes x y : List ℕ) (m n : ℕ) → m < 2 ^ 64 → n < 2 ^ 64 → bytes ≡ word m ++ x → bytes ≡ word n ++ y → (m ≡ n) × (x ≡ y)
read_word bytes x y m n p q h k = one_word m n x y p q (sym h ∙ k)

-- counted bytes tell where they end
pub one_counted : (a b : List ℕ) (x y : List ℕ) → length a < 2 ^ 64 → length b < 2 ^ 64 → counted a ++ x ≡ counted b ++ y → (a ≡ b) × (x ≡ y)
one_counted a b x y p q h =
    let first = one_word (length a) (length b) (a ++ x) (b ++ y) p q (sym (append_assoc (word (length a)) a x) ∙ h ∙ append_assoc (word (length b)) b y) in
    same_parts a b x y first.0 first.1

-- nothing ends where it begins
pub one_nothing : (a b : Unit {0}) (x y : List ℕ) → Unit {0} → Unit {0} → [] ++ x ≡ [] ++ y → (a ≡ b) × (x ≡ y)
one_nothing a b x y p q h = (refl, h)

-- fewer than 8 bytes begin with no number
pub no_word : (bytes rest : List ℕ) (n : ℕ) → length bytes < 8 → bytes ≡ word n ++ rest → ⊥
no_word bytes rest n short h = omega (arith, short, ap length h, length-append (word n) rest, length-word n)

module _ {A B : Type 0} (a_bytes : A → List ℕ) (IsA : A → Type 0) (IsSameA : A → A → Type 0) (b_bytes : B → List ℕ) (IsB : B → Type 0) (IsSameB : B → B → Type 0) where
  -- two values one behind the other tell where they end, where each of them does
  pub one_pair : ((a b : A) (x y : List ℕ) → IsA a → IsA b → a_bytes a ++ x ≡ a_bytes b ++ y → IsSameA a b × (x ≡ y))
      → ((a b : B) (x y : List ℕ) → IsB a → IsB b → b_bytes a ++ x ≡ b_bytes b ++ y → IsSameB a b × (x ≡ y))
      → (p q : A × B) (x y : List ℕ) → IsA p.0 × IsB p.1 → IsA q.0 × IsB q.1 → (a_bytes p.0 ++ b_bytes p.1) ++ x ≡ (a_bytes q.0 ++ b_bytes q.1) ++ y → (IsSameA p.0 q.0 × IsSameB p.1 q.1) × (x ≡ y)
  one_pair first second p q x y is_p is_q h =
      let one = first p.0 q.0 (b_bytes p.1 ++ x) (b_bytes q.1 ++ y) is_p.0 is_q.0 (sym (append_assoc (a_bytes p.0) (b_bytes p.1) x) ∙ h ∙ append_assoc (a_bytes q.0) (b_bytes q.1) y) in
      let two = second p.1 q.1 x y is_p.1 is_q.1 one.1 in
      ((one.0, two.0), two.1)
