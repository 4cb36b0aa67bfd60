-- What a folder holds: the bytes of each path, and what a call makes of them.
use Rattle.std.specs.Prelude.{◌≡◌, ◌⊎◌, ℕ, List, [], ◌++◌, take, Option, Some, None, unwrap_or}
use Rattle.std.specs.Ordering.{nat_cmp}
use Rattle.std.specs.Cmp.Lexicographic.{slice_cmp}
use Rattle.std.specs.FinMap.{FinMap, get, insert, remove}

-- the bytes of each path, the paths in byte order
abbrev pub Files : Type 0
Files = FinMap (slice_cmp nat_cmp) (List ℕ)

-- the bytes of a path, none where it is not there
abbrev pub bytes_at : Files → List ℕ → List ℕ
bytes_at files path = unwrap_or (get files path) []

-- after the whole of a call
abbrev pub created : List ℕ → Files → Files
created path files = insert files path []

abbrev pub appended : List ℕ → List ℕ → Files → Files
appended path piece files = insert files path (bytes_at files path ++ piece)

abbrev pub moved : List ℕ → Option (List ℕ) → List ℕ → Files → Files
moved from None to files = files
moved from (Some bytes) to files = insert (remove files from) to bytes

abbrev pub renamed : List ℕ → List ℕ → Files → Files
renamed from to files = moved from (get files from) to files

abbrev pub removed : List ℕ → Files → Files
removed path files = remove files path

-- what a stop or a fault inside a call may leave: all of it or none,
abbrev pub AllOrNone : (Files → Files) → Files → Files → Type 0
AllOrNone whole old new = (new ≡ old) ⊎ (new ≡ whole old)

-- any front of a piece,
abbrev pub SomeFront : List ℕ → List ℕ → Files → Files → Type 0
SomeFront path piece old new = (new ≡ old) ⊎ ((n : ℕ) × (new ≡ appended path (take n piece) old))

-- or nothing changed
abbrev pub Same : Files → Files → Type 0
Same old new = new ≡ old
