-- A content tells its header and its rows.
use Rattle.std.proofs.Common.{◌≡◌, ℕ, ◌^◌, ◌<◌, List, [], ◌++◌, length, refl, sym, ap, ◌∙◌, append_assoc, append-nil, arith}
use Rattle.std.proofs.Common.{Result, Ok, Err}
use Rattle.std.specs.Prelude.{IfOk, IfErr, MatchResult}
use Rattle.std.specs.List.{flat_map}
use Rattle.std.proofs.lemmas.List.{length-append}
use Rattle.lru_frames.specs.declared.frame.Header.{Header}
use Rattle.lru_frames.specs.declared.frame.Frame.{Frame}
use Rattle.lru_frames.specs.declared.errors.Part.{Part}
use Rattle.lru_frames.specs.declared.errors.Part.TheVariants.{Length}
use Rattle.lru_frames.specs.declared.errors.FrameError.{FrameError}
use Rattle.lru_frames.specs.declared.errors.FrameError.TheVariants.{Damaged, Memory}
use Rattle.lru_frames.specs.declared.row.Row.{Row}
use Rattle.lru_frames.specs.Words.{word}
use Rattle.lru_frames.specs.WordLaws.{length-word, one_word}
use Rattle.lru_frames.specs.Rows.{row_bytes, IsRow, IsSameRow, AreSame}
use Rattle.lru_frames.specs.RowLaws.{one_row}
use Rattle.lru_frames.proofs.RowsLaws.{same_values}
use Rattle.lru_frames.specs.Frame.{header_bytes, content_of, Fits, IsDamaged, IsHeader}

-- numbers of 8 bytes each
pub record AreNarrow (header : Header) (count : ℕ) : Type 0 where
  pub shards : header.shards < 2 ^ 64
  pub shard : header.shard < 2 ^ 64
  pub generation : header.generation < 2 ^ 64
  pub rows : count < 2 ^ 64

-- the numbers of a header before more bytes
header_parts : (header : Header) (count : ℕ) (x : List ℕ)
    → header_bytes header count ++ x ≡ word header.shards ++ (word header.shard ++ (word header.generation ++ (word count ++ x)))
header_parts header count x =
    append_assoc (word header.shards) (word header.shard ++ (word header.generation ++ word count)) x
    ∙ ap (λ (y : List ℕ). word header.shards ++ y) (append_assoc (word header.shard) (word header.generation ++ word count) x
    ∙ ap (λ (y : List ℕ). word header.shard ++ y) (append_assoc (word header.generation) (word count) x))

pub length-header : (header : Header) (count : ℕ) → length (header_bytes header count) ≡ 32
length-header header count =
    let second = word header.shard ++ (word header.generation ++ word count) in
    omega (
      arith,
      length-append (word header.shards) second,
      length-append (word header.shard) (word header.generation ++ word count),
      length-append (word header.generation) (word count),
      length-word header.shards,
      length-word header.shard,
      length-word header.generation,
      length-word count,
    )

abbrev header_of : ℕ → ℕ → ℕ → Header
header_of shards shard generation = record { shards = shards; shard = shard; generation = generation }

-- a header tells where it ends
pub one_header : (a b : Header) (m n : ℕ) (x y : List ℕ) → AreNarrow a m → AreNarrow b n → header_bytes a m ++ x ≡ header_bytes b n ++ y → (a ≡ b) × (m ≡ n) × (x ≡ y)
one_header a b m n x y p q h =
    let shards = one_word a.shards b.shards _ _ p.shards q.shards (sym (header_parts a m x) ∙ h ∙ header_parts b n y) in
    let shard = one_word a.shard b.shard _ _ p.shard q.shard shards.1 in
    let generation = one_word a.generation b.generation _ _ p.generation q.generation shard.1 in
    let count = one_word m n x y p.rows q.rows generation.1 in (
      ap (λ s. header_of s a.shard a.generation) shards.0 ∙ ap (λ s. header_of b.shards s a.generation) shard.0 ∙ ap (header_of b.shards b.shard) generation.0,
      count.0,
      count.1,
    )

pub no_header : (bytes rest : List ℕ) (header : Header) (count : ℕ) → length bytes < 32 → bytes ≡ header_bytes header count ++ rest → ⊥
no_header bytes rest header count short h = omega (arith, short, ap length h, length-append (header_bytes header count) rest, length-header header count)

pub header_narrow : (header : Header) (count : ℕ) → IsHeader header → count < 2 ^ 64 → AreNarrow header count
header_narrow header count is_header small = record { shards = is_header.shards; shard = omega (arith, is_header.shard, is_header.shards); generation = is_header.generation; rows = small }

module _ {K V : Type 0} (key_bytes : K → List ℕ) (data_bytes : V → List ℕ) (IsKey : K → Type 0) (IsData : V → Type 0) where
  pub fits_narrow : (header : Header) (rows : List (Row K V)) → Fits IsKey IsData header rows → AreNarrow header (length rows)
  fits_narrow header rows fits = header_narrow header (length rows) fits.numbers fits.count

  -- what was read at the front of a content
  pub content_parts : (bytes rest : List ℕ) (read header : Header) (count : ℕ) (rows : List (Row K V)) → AreNarrow read count → Fits IsKey IsData header rows
      → bytes ≡ header_bytes read count ++ rest → bytes ≡ content_of key_bytes data_bytes header rows
      → (read ≡ header) × (count ≡ length rows) × (rest ≡ flat_map (row_bytes key_bytes data_bytes) rows)
  content_parts bytes rest read header count rows narrow fits h k =
      one_header read header count (length rows) rest (flat_map (row_bytes key_bytes data_bytes) rows) narrow (fits_narrow header rows fits) (sym h ∙ k)

  -- a content has a header at least
  pub long_content : (bytes : List ℕ) (header : Header) (rows : List (Row K V)) → length bytes < 32 → bytes ≡ content_of key_bytes data_bytes header rows → ⊥
  long_content bytes header rows short h =
      omega (arith, short, ap length h, length-append (header_bytes header (length rows)) (flat_map (row_bytes key_bytes data_bytes) rows), length-header header (length rows))

module _ {K V : Type 0} (key_bytes : K → List ℕ) (IsKey : K → Type 0) (IsSameKey : K → K → Type 0) (data_bytes : V → List ℕ) (IsData : V → Type 0) (IsSameData : V → V → Type 0)
    (one_key : (a b : K) (x y : List ℕ) → IsKey a → IsKey b → key_bytes a ++ x ≡ key_bytes b ++ y → IsSameKey a b × (x ≡ y))
    (one_data : (a b : V) (x y : List ℕ) → IsData a → IsData b → data_bytes a ++ x ≡ data_bytes b ++ y → IsSameData a b × (x ≡ y)) where
  -- a content is of one header and of one list of rows
  pub one_frame : (read header : Header) (found rows : List (Row K V)) → Fits IsKey IsData read found → Fits IsKey IsData header rows
      → content_of key_bytes data_bytes read found ≡ content_of key_bytes data_bytes header rows → (read ≡ header) × AreSame (IsSameRow IsSameKey IsSameData) found rows
  one_frame read header found rows p q h =
      let parts = content_parts key_bytes data_bytes IsKey IsData (content_of key_bytes data_bytes read found) (flat_map (row_bytes key_bytes data_bytes) found) read header (length found) rows
      (fits_narrow key_bytes data_bytes IsKey IsData read found p) q refl h in
      let same = same_values (row_bytes key_bytes data_bytes) (IsRow IsKey IsData) (IsSameRow IsSameKey IsSameData) (one_row key_bytes IsKey IsSameKey data_bytes IsData IsSameData one_key one_data)
      found rows [] [] p.each q.each parts.1 (append-nil _ ∙ parts.2 ∙ sym (append-nil _)) in
      (parts.0, same.0)

  -- what is read of a content that was written
  pub read_again : (r : Result (Frame K V) FrameError) (content : List ℕ) (header : Header) (rows : List (Row K V)) → Fits IsKey IsData header rows
      → IfOk r (λ frame. Fits IsKey IsData frame.header frame.rows.items)
      → IfOk r (λ frame. content ≡ content_of key_bytes data_bytes frame.header frame.rows.items)
      → IfErr r (λ error. IsDamaged error → (h : Header) (rs : List (Row K V)) → Fits IsKey IsData h rs → content ≡ content_of key_bytes data_bytes h rs → ⊥)
      → content ≡ content_of key_bytes data_bytes header rows
      → MatchResult r (λ frame. (frame.header ≡ header) × AreSame (IsSameRow IsSameKey IsSameData) frame.rows.items rows) (λ error. error ≡ Memory)
  read_again (Ok frame) content header rows fits read_fits read refused h = one_frame frame.header header frame.rows.items rows read_fits fits (sym read ∙ h)
  read_again (Err (Damaged part)) content header rows fits read_fits read refused h = absurd (refused (part, refl) header rows fits h)
  read_again (Err Memory) content header rows fits read_fits read refused h = refl

pub same_error : {X Y : Type 0} (part other : Part) → ◌≡◌ {A = Result X Part} (Err part) (Err other) → ◌≡◌ {A = Result Y Part} (Err part) (Err other)
same_error part other h = let same : part ≡ other = cc in ap (λ (p : Part). Err p) same

-- the part that an error tells
pub told_length : {X Y : Type 0} (part : Part) → ◌≡◌ {A = Result X Part} (Err part) (Err Length) → ◌≡◌ {A = Result Y FrameError} (Err (Damaged part)) (Err (Damaged Length))
told_length part h = let same : part ≡ Length = cc in ap (λ (p : Part). Err (Damaged p)) same

pub no_error : {X : Type 0} (x : X) → ◌≡◌ {A = Result X Part} (Ok x) (Err Length) → ⊥
no_error x h = cc
