-- What the bytes of a manifest tell.
use Rattle.std.proofs.Common.{◌≡◌, ◌≢◌, inl, inr, ℕ, suc, ◌+◌, ◌^◌, ◌<◌, eqb, Bool, true, false, Option, Some, None, List, [], ◌∷◌, length, Result, Ok, Err, refl, sym, ap, subst, ◌∙◌, arith}
use Rattle.std.specs.Prelude.{not, map, MatchResult, IfOk, IfErr}
use Rattle.std.specs.Option.{SomeIff, option_eq}
use Rattle.std.specs.List.{flat_map, AllByRecursion}
use Rattle.std.proofs.lemmas.Bool.{eqb-true}
use Rattle.std.proofs.lemmas.List.{length-map}
use Rattle.lru_frames.specs.declared.errors.Part.TheVariants as part
use Rattle.lru_frames.specs.declared.errors.FrameError.{FrameError}
use Rattle.lru_frames.specs.declared.errors.FrameError.TheVariants.{Damaged, Memory}
use Rattle.lru_frames.specs.declared.frame.Header.{Header}
use Rattle.lru_frames.specs.declared.frame.Frame.{Frame}
use Rattle.lru_frames.specs.declared.mark.Mark.{Mark}
use Rattle.lru_frames.specs.declared.row.Row.{Row}
use Rattle.lru_frames.specs.Envelope.{sealed}
use Rattle.lru_frames.specs.Frame.{content_of, frame_of, Fits}
use Rattle.lru_frames.specs.Rows.{row_bytes, IsRow, IsSameRow, AreSame}
use Rattle.lru_frames.specs.Causes.{IsWrong}
use Rattle.lru_frames.specs.Words.{word}
use Rattle.lru_frames.specs.WordLaws.{one_word}
use Rattle.lru_frames.proofs.EnvelopeLaws.{one_content}
use Rattle.lru_frames.proofs.FrameLaws.{fits_narrow, one_frame, one_header}
use Rattle.lru_generations.specs.declared.manifest.Manifest.{Manifest}
use Rattle.lru_generations.specs.Manifests.{IsFrameOf, IsNumber, IsRefused, IsManifest, IsMark, IsWrongManifest, HasOtherContent, part_header, mark_row, row_mark, manifest_content, manifest_bytes}

abbrev pub IsSameNumber : ℕ → ℕ → Type 0
IsSameNumber a b = a ≡ b

marks_again : (marks : List Mark) → map row_mark (map mark_row marks) ≡ marks
marks_again [] = refl
marks_again (mark ∷ marks) = ap (λ (ms : List Mark). mark ∷ ms) (marks_again marks)

pub rows_again : (rows : List (Row ℕ ℕ)) → map mark_row (map row_mark rows) ≡ rows
rows_again [] = refl
rows_again (row ∷ rows) = ap (λ (rs : List (Row ℕ ℕ)). row ∷ rs) (rows_again rows)

one_list : (marks others : List Mark) → map mark_row marks ≡ map mark_row others → marks ≡ others
one_list marks others h = sym (marks_again marks) ∙ ap (map row_mark) h ∙ marks_again others

abbrev row_with : ℕ → ℕ → ℕ → Row ℕ ℕ
row_with key value weight = record { key = key; «data» = value; weight = weight }

same_row : (a b : Row ℕ ℕ) → IsSameRow IsSameNumber IsSameNumber a b → a ≡ b
same_row a b same = ap (λ k. row_with k a.data a.weight) same.0 ∙ ap (λ d. row_with b.key d a.weight) same.1 ∙ ap (row_with b.key b.data) same.2

same_rows : (rows others : List (Row ℕ ℕ)) → AreSame (IsSameRow IsSameNumber IsSameNumber) rows others → rows ≡ others
same_rows [] [] same = refl
same_rows [] (y ∷ ys) same = absurd same
same_rows (x ∷ xs) [] same = absurd same
same_rows (x ∷ xs) (y ∷ ys) same =
    let first : x ≡ y = same_row x y same.0 in
    let rest : xs ≡ ys = same_rows xs ys same.1 in cc

rows_fit : (marks : List Mark) → AllByRecursion IsMark marks → AllByRecursion (IsRow IsNumber IsNumber) (map mark_row marks)
rows_fit [] all = tt
rows_fit (mark ∷ marks) all = ((all.0.rows, all.0.check, all.0.length), rows_fit marks all.1)

marks_fit : (marks : List Mark) → AllByRecursion (IsRow IsNumber IsNumber) (map mark_row marks) → AllByRecursion IsMark marks
marks_fit [] all = tt
marks_fit (mark ∷ marks) all = (record { rows = all.0.0; length = all.0.2; check = all.0.1 }, marks_fit marks all.1)

-- the header and the rows of a manifest
abbrev pub header_of : ℕ → List Mark → Header
header_of generation marks = part_header generation (length marks) (length marks)

pub manifest_fits : (generation : ℕ) (marks : List Mark) → IsManifest generation marks → Fits IsNumber IsNumber (header_of generation marks) (map mark_row marks)
manifest_fits generation marks is = record {
  numbers = record { shards = is.shards; shard = omega arith; generation = is.generation };
  each = rows_fit marks is.each;
  count = omega (arith, is.shards, length-map marks mark_row);
}

pub is_manifest : (generation : ℕ) (marks : List Mark) → Fits IsNumber IsNumber (header_of generation marks) (map mark_row marks) → IsManifest generation marks
is_manifest generation marks fits = record { shards = fits.numbers.shards; generation = fits.numbers.generation; each = marks_fit marks fits.each }

pub one_manifest : (generation other : ℕ) (marks others : List Mark) → IsManifest generation marks → IsManifest other others
    → manifest_bytes generation marks ≡ manifest_bytes other others → (generation ≡ other) × (marks ≡ others)
one_manifest generation other marks others is those h =
    let same = one_frame {K = ℕ} {V = ℕ} word IsNumber IsSameNumber word IsNumber IsSameNumber one_word one_word (header_of generation marks) (header_of other others) (map mark_row marks) (map mark_row others)
    (manifest_fits generation marks is) (manifest_fits other others those) (one_content (manifest_content generation marks) (manifest_content other others) h) in
    (ap (λ (header : Header). header.generation) same.0, one_list marks others (same_rows (map mark_row marks) (map mark_row others) same.1))

module _ {K V : Type 0} (key_bytes : K → List ℕ) (data_bytes : V → List ℕ) (IsKey : K → Type 0) (IsData : V → Type 0) where
  pub no_frame_is_a_manifest : (header : Header) (rows : List (Row K V)) (generation : ℕ) (marks : List Mark) → Fits IsKey IsData header rows → IsManifest generation marks
      → suc header.shard < header.shards → frame_of key_bytes data_bytes header rows ≢ manifest_bytes generation marks
  no_frame_is_a_manifest header rows generation marks fits is below same =
      let content = one_content (content_of key_bytes data_bytes header rows) (manifest_content generation marks) same in
      let one = one_header header (header_of generation marks) (length rows) (length (map mark_row marks)) (flat_map (row_bytes key_bytes data_bytes) rows) (flat_map (row_bytes word word) (map mark_row marks))
      (fits_narrow key_bytes data_bytes IsKey IsData header rows fits) (fits_narrow word word IsNumber IsNumber (header_of generation marks) (map mark_row marks) (manifest_fits generation marks is)) content in
      absurd (omega (arith, below, ap (λ (h : Header). h.shards) one.0, ap (λ (h : Header). h.shard) one.0))

-- what a decoder of frames promises of what was written
abbrev pub ReadsFrames : Result (Frame ℕ ℕ) FrameError → List ℕ → Type 0
ReadsFrames r bytes = (header : Header) (rows : List (Row ℕ ℕ)) → Fits IsNumber IsNumber header rows → bytes ≡ frame_of word word header rows
    → MatchResult r (λ frame. (frame.header ≡ header) × AreSame (IsSameRow IsSameNumber IsSameNumber) frame.rows.items rows) (λ error. error ≡ Memory)

-- bytes that are refused are no manifest's
pub refused : (error : FrameError) (bytes : List ℕ) → ReadsFrames (Err error) bytes
    → (generation : ℕ) (marks : List Mark) → IsManifest generation marks → bytes ≡ manifest_bytes generation marks → error ≡ Memory
refused error bytes reads generation marks is same = reads (header_of generation marks) (map mark_row marks) (manifest_fits generation marks is) same

-- what is wrong with what is refused
pub wrong_so : (error : FrameError) (bytes : List ℕ) → ReadsFrames (Err error) bytes → IsWrong {K = ℕ} {V = ℕ} word IsNumber word IsNumber error bytes → IsWrongManifest error bytes
wrong_so Memory bytes reads h = tt
wrong_so (Damaged part.Length) bytes reads h = h
wrong_so (Damaged part.Magic) bytes reads h = h
wrong_so (Damaged part.Version) bytes reads h = h
wrong_so (Damaged part.Check) bytes reads h = h
wrong_so (Damaged part.Header) bytes reads h = (
  (h.0, (h.1, λ generation marks is same. let e = refused (Damaged part.Header) bytes reads generation marks is (h.1 ∙ ap sealed same) in let f : ⊥ = cc in f)),
  (h.0, (h.1, inl h.2)),
)
wrong_so (Damaged part.Rows) bytes reads h = (
  (h.0, (h.1, λ generation marks is same. let e = refused (Damaged part.Rows) bytes reads generation marks is (h.1 ∙ ap sealed same) in let f : ⊥ = cc in f)),
  (h.0, (h.1, inl h.2)),
)

-- the header of a manifest is that of the last part, and it has one row for each shard
last_part : (header : Header) (rows : List (Row ℕ ℕ)) (generation : ℕ) (marks : List Mark) → IsFrameOf header rows generation marks → suc header.shard ≡ header.shards
last_part header rows generation marks is = ap (λ (h : Header). suc h.shard) is.0 ∙ ap (λ (h : Header). h.shards) (sym is.0)

row_each : (header : Header) (rows : List (Row ℕ ℕ)) (generation : ℕ) (marks : List Mark) → IsFrameOf header rows generation marks → length rows ≡ header.shard
row_each header rows generation marks is = ap length is.1 ∙ length-map marks mark_row ∙ ap (λ (h : Header). h.shard) (sym is.0)

module _ (frame : Frame ℕ ℕ) (bytes : List ℕ) (reads : ReadsFrames (Ok frame) bytes) (found : bytes ≡ frame_of word word frame.header frame.rows.items) where
  -- the frame of a manifest's bytes
  read_so : (generation : ℕ) (marks : List Mark) → IsManifest generation marks → bytes ≡ manifest_bytes generation marks → IsFrameOf frame.header frame.rows.items generation marks
  read_so generation marks is same =
      let read = reads (header_of generation marks) (map mark_row marks) (manifest_fits generation marks is) same in
      (read.0, same_rows frame.rows.items (map mark_row marks) read.1)

  other_content : ((generation : ℕ) (marks : List Mark) → IsFrameOf frame.header frame.rows.items generation marks → ⊥) → HasOtherContent bytes
  other_content other = (
    content_of word word frame.header frame.rows.items,
    (found, λ generation marks is same. other generation marks (read_so generation marks is (found ∙ ap sealed same))),
  )

  pub wrong_frame : (error : FrameError) → IsRefused error frame.header frame.rows.items → IsWrongManifest error bytes
  wrong_frame Memory h = tt
  wrong_frame (Damaged part.Length) h = absurd h
  wrong_frame (Damaged part.Magic) h = absurd h
  wrong_frame (Damaged part.Version) h = absurd h
  wrong_frame (Damaged part.Check) h = absurd h
  wrong_frame (Damaged part.Header) h = (
    other_content (λ generation marks is. h (last_part frame.header frame.rows.items generation marks is)),
    (content_of word word frame.header frame.rows.items, (found, inr (frame.header, (frame.rows.items, (refl, h))))),
  )
  wrong_frame (Damaged part.Rows) h = (
    other_content (λ generation marks is. h.1 (row_each frame.header frame.rows.items generation marks is)),
    (content_of word word frame.header frame.rows.items, (found, inr (frame.header, (frame.rows.items, (refl, h))))),
  )

  refused_frame : (error : FrameError) → IsRefused error frame.header frame.rows.items → (generation : ℕ) (marks : List Mark) → IsFrameOf frame.header frame.rows.items generation marks → error ≡ Memory
  refused_frame Memory h generation marks is = refl
  refused_frame (Damaged part.Length) h generation marks is = absurd h
  refused_frame (Damaged part.Magic) h generation marks is = absurd h
  refused_frame (Damaged part.Version) h generation marks is = absurd h
  refused_frame (Damaged part.Check) h generation marks is = absurd h
  refused_frame (Damaged part.Header) h generation marks is = absurd (h (last_part frame.header frame.rows.items generation marks is))
  refused_frame (Damaged part.Rows) h generation marks is = absurd (h.1 (row_each frame.header frame.rows.items generation marks is))

  -- what is read of a manifest's bytes
  pub written_so : (r : Result Manifest FrameError) → IfOk r (λ manifest. IsFrameOf frame.header frame.rows.items manifest.generation manifest.frames.items)
      → IfErr r (λ error. IsRefused error frame.header frame.rows.items)
      → (generation : ℕ) (marks : List Mark) → IsManifest generation marks → bytes ≡ manifest_bytes generation marks
      → MatchResult r (λ manifest. (manifest.generation ≡ generation) × (manifest.frames.items ≡ marks)) (λ error. error ≡ Memory)
  written_so (Ok manifest) is wrong generation marks numbers same =
      let read = read_so generation marks numbers same in
      (ap (λ (header : Header). header.generation) (sym is.0 ∙ read.0), one_list manifest.frames.items marks (sym is.1 ∙ read.1))
  written_so (Err error) is wrong generation marks numbers same = refused_frame error wrong generation marks (read_so generation marks numbers same)

  found_marks : Fits IsNumber IsNumber frame.header frame.rows.items → (generation : ℕ) (marks : List Mark) → IsFrameOf frame.header frame.rows.items generation marks
      → IsManifest generation marks × (bytes ≡ manifest_bytes generation marks)
  found_marks fits generation marks is = (
    is_manifest generation marks (subst (λ (rows : List (Row ℕ ℕ)). Fits IsNumber IsNumber (header_of generation marks) rows) is.1
        (subst (λ (header : Header). Fits IsNumber IsNumber header frame.rows.items) is.0 fits)),
    found ∙ ap (λ (header : Header). frame_of word word header frame.rows.items) is.0 ∙ ap (frame_of word word (header_of generation marks)) is.1,
  )

  pub found_so : Fits IsNumber IsNumber frame.header frame.rows.items → (r : Result Manifest FrameError)
      → IfOk r (λ manifest. IsFrameOf frame.header frame.rows.items manifest.generation manifest.frames.items)
      → IfOk r (λ manifest. IsManifest manifest.generation manifest.frames.items × (bytes ≡ manifest_bytes manifest.generation manifest.frames.items))
  found_so fits (Ok manifest) is = found_marks fits manifest.generation manifest.frames.items is
  found_so fits (Err error) is = tt

  pub wrong_result : (r : Result Manifest FrameError) → IfErr r (λ error. IsRefused error frame.header frame.rows.items) → IfErr r (λ error. IsWrongManifest error bytes)
  wrong_result (Ok manifest) h = tt
  wrong_result (Err error) h = wrong_frame error h

-- the frame of a manifest, from the number of its rows
pub frame_so : (header : Header) (rows : List (Row ℕ ℕ)) → suc header.shard ≡ header.shards → length rows ≡ header.shard → IsFrameOf header rows header.generation (map row_mark rows)
frame_so header rows last count =
    let shards : length (map row_mark rows) ≡ header.shard = omega (arith, length-map rows row_mark, count) in (
      ap (λ n. record { shards = n; shard = header.shard; generation = header.generation }) (sym last) ∙ ap (λ n. part_header header.generation n n) (sym shards),
      sym (rows_again rows),
    )

-- a number, and the one after it, as it is compared
pub last_so : (next : Option ℕ) (shard shards : ℕ) → false ≡ not (option_eq eqb next (Some shards)) → SomeIff next (shard + 1 < 2 ^ 64) (shard + 1) → suc shard ≡ shards
last_so (Some n) shard shards same is =
    let test : eqb n shards ≡ true = elim (eqb n shards) as (λ (b : Bool). false ≡ not b → b ≡ true) [ true ↦ λ h. refl | false ↦ λ h. h ] same in
    omega (arith, eqb-true n shards test, is.1)
last_so None shard shards same is = let f : ⊥ = cc in absurd f

-- what is written fits
pub fits_so : {T E : Type 0} (r : Result T E) (header : Header) (rows : List (Row ℕ ℕ)) (generation : ℕ) (marks : List Mark) → IfOk r (λ _. Fits IsNumber IsNumber header rows)
    → header ≡ header_of generation marks → rows ≡ map mark_row marks → IfOk r (λ _. IsManifest generation marks)
fits_so (Ok bytes) header rows generation marks fits h k =
    is_manifest generation marks (subst (λ (rs : List (Row ℕ ℕ)). Fits IsNumber IsNumber (header_of generation marks) rs) k
    (subst (λ (he : Header). Fits IsNumber IsNumber he rows) h fits))
fits_so (Err error) header rows generation marks fits h k = tt
