-- What stands around the content of a file: a magic, a version and the length before it, a check behind it.
use Rattle.std.specs.Prelude.{◌≡◌, ◌≢◌, ℕ, ◌+◌, ◌<◌, ◌≤◌, List, ◌++◌, length}
use Rattle.std.specs.List.{AllByRecursion}
use Rattle.lru_frames.specs.Crc.{crc_of}
use Rattle.lru_frames.specs.Words.{word}

-- the bytes of the text LRUFRAME as a number
abbrev pub magic : ℕ
magic = 4993719383446868556

abbrev pub version : ℕ
version = 2

-- the bytes that stand around a content: those of four numbers
abbrev pub around : ℕ
around = 32

-- what stands before a content, in a file of this length
abbrev pub head_of : ℕ → List ℕ
head_of told = word magic ++ (word version ++ word told)

-- all but the check
abbrev pub front_of : List ℕ → List ℕ
front_of content = head_of (length content + around) ++ content

-- bytes, and then their check
abbrev pub with_check : List ℕ → List ℕ
with_check front = front ++ word (crc_of front)

-- the whole file
unfoldable pub sealed : List ℕ → List ℕ
sealed content = with_check (front_of content)

-- New is old with other bytes in place of at most 8 that stand side by side, wherever they begin.
pub record ChangesWithinEight (old new : List ℕ) : Type 0 where
  pub front : List ℕ
  pub was : List ℕ
  pub is : List ℕ
  pub back : List ℕ
  pub old_bytes : old ≡ front ++ (was ++ back)
  pub new_bytes : new ≡ front ++ (is ++ back)
  pub lengths : length is ≡ length was
  pub within : length was ≤ 8
  pub was_bytes : AllByRecursion (λ byte. byte < 256) was
  pub is_bytes : AllByRecursion (λ byte. byte < 256) is
  pub other : is ≢ was
