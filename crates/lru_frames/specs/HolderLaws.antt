-- What may be there tells where it ends, where what is there does.
use Rattle.std.specs.Prelude.{◌≡◌, ℕ, ◌<◌, ◌^◌, List, ◌++◌, length, Option, None, Some}
use Rattle.std.proofs.Common.{sym, ◌∙◌, append_assoc, arith}
use Rattle.lru_frames.specs.Words.{word}
use Rattle.lru_frames.specs.WordLaws.{no_word, one_word}
use Rattle.lru_frames.specs.Holders.{option_bytes, IsOption, IsSameOption}

module _ {T : Type 0} (bytes_of : T → List ℕ) (IsValue : T → Type 0) (IsSame : T → T → Type 0) where
  pub one_option : ((a b : T) (x y : List ℕ) → IsValue a → IsValue b → bytes_of a ++ x ≡ bytes_of b ++ y → IsSame a b × (x ≡ y))
      → (a b : Option T) (x y : List ℕ) → IsOption IsValue a → IsOption IsValue b → option_bytes bytes_of a ++ x ≡ option_bytes bytes_of b ++ y → IsSameOption IsSame a b × (x ≡ y)
  one_option one None None x y p q h = (tt, (one_word 0 0 x y (omega arith) (omega arith) h).1)
  one_option one None (Some b) x y p q h =
      let first = (one_word 0 1 x (bytes_of b ++ y) (omega arith) (omega arith) (h ∙ append_assoc (word 1) (bytes_of b) y)).0 in absurd (omega arith)
  one_option one (Some a) None x y p q h =
      let first = (one_word 1 0 (bytes_of a ++ x) y (omega arith) (omega arith) (sym (append_assoc (word 1) (bytes_of a) x) ∙ h)).0 in absurd (omega arith)
  one_option one (Some a) (Some b) x y p q h =
      one a b x y p q (one_word 1 1 (bytes_of a ++ x) (bytes_of b ++ y) (omega arith) (omega arith) (sym (append_assoc (word 1) (bytes_of a) x) ∙ h ∙ append_assoc (word 1) (bytes_of b) y)).1

module _ {T : Type 0} (bytes_of : T → List ℕ) where
  -- fewer than 8 bytes begin with nothing of the kind
  pub no_option : (value : Option T) (bytes rest : List ℕ) → length bytes < 8 → bytes ≡ option_bytes bytes_of value ++ rest → ⊥
  no_option None bytes rest short h = no_word bytes rest 0 short h
  no_option (Some value) bytes rest short h = no_word bytes (bytes_of value ++ rest) 1 short (h ∙ append_assoc (word 1) (bytes_of value) rest)

  -- nor do bytes that begin with a number above 1
  pub other_option : (value : Option T) (bytes x rest : List ℕ) (number : ℕ) → 1 < number → number < 2 ^ 64 → bytes ≡ word number ++ x → bytes ≡ option_bytes bytes_of value ++ rest → ⊥
  other_option None bytes x rest number more small k h = let first = (one_word number 0 x rest small (omega arith) (sym k ∙ h)).0 in omega arith
  other_option (Some value) bytes x rest number more small k h =
      let first = (one_word number 1 x (bytes_of value ++ rest) small (omega arith) (sym k ∙ h ∙ append_assoc (word 1) (bytes_of value) rest)).0 in omega arith

  -- where bytes begin with 1, something is there, and stands behind it
  pub behind_one : (IsValue : T → Type 0) (value : Option T) (bytes x rest : List ℕ) (number : ℕ) → number ≡ 1 → bytes ≡ word number ++ x → IsOption IsValue value → bytes ≡ option_bytes bytes_of value ++ rest
      → (held : T) × (IsValue held × (x ≡ bytes_of held ++ rest))
  behind_one IsValue None bytes x rest number one k is h =
      let first = (one_word number 0 x rest (omega arith) (omega arith) (sym k ∙ h)).0 in absurd (omega arith)
  behind_one IsValue (Some value) bytes x rest number one k is h =
      (value, (is, (one_word number 1 x (bytes_of value ++ rest) (omega arith) (omega arith) (sym k ∙ h ∙ append_assoc (word 1) (bytes_of value) rest)).1))
