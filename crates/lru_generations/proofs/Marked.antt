-- Frames and the marks that a manifest keeps of them.
use Rattle.std.proofs.Common.{◌≡◌, ℕ, ◌+◌, ◌*◌, List, [], ◌∷◌, ◌++◌, length, Some, refl, sym, ◌∙◌, ap, subst, arith, length-append}
use Rattle.std.specs.Prelude.{map}
use Rattle.lru_frames.specs.Words.{word}
use Rattle.lru_frames.specs.WordLaws.{length-word}
use Rattle.lru_generations.specs.Manifests.{mark_row, manifest_bytes, part_header}
use Rattle.lru_frames.specs.declared.frame.Header.{Header}
use Rattle.lru_frames.specs.declared.mark.Mark.{Mark}
use Rattle.lru_frames.specs.declared.row.Row.{Row}
use Rattle.lru_frames.specs.Envelope.{sealed}
use Rattle.lru_frames.specs.Frame.{frame_of, content_of, header_bytes, Fits}
use Rattle.lru_frames.specs.Marks.{mark_in, mark_of}
use Rattle.lru_frames.specs.Rows.{row_bytes}
use Rattle.std.specs.List.{flat_map}
use Rattle.lru_frames.proofs.EnvelopeLaws.{one_content, length-sealed}
use Rattle.lru_frames.proofs.FrameLaws.{AreNarrow, one_header, fits_narrow}
use Rattle.lru_folder.specs.Files.{Files}
use Rattle.lru_generations.specs.Checkpoints.{Shards, HasCheckpoint, IsWhole, IsWholeFrame}
use Rattle.lru_generations.proofs.Lists.{get-below, get-there}

-- a whole frame is as long as its mark tells
pub whole_length : (header : Header) (mark : Mark) (bytes : List ℕ) → IsWholeFrame header mark bytes → length bytes ≡ mark.length
whole_length header mark bytes h =
    let content = header_bytes header mark.rows ++ h.0 in
    ap length h.1.0 ∙ length-sealed content ∙ sym (ap (λ (m : Mark). m.length) h.1.1)

-- bytes that are a frame under one header with one mark are none under another
pub whole_alike : (it header : Header) (found mark : Mark) (bytes rest : List ℕ) → AreNarrow it found.rows → AreNarrow header mark.rows
    → bytes ≡ sealed (header_bytes it found.rows ++ rest) → found ≡ mark_in found.rows (header_bytes it found.rows ++ rest) → IsWholeFrame header mark bytes → (it ≡ header) × (found ≡ mark)
whole_alike it header found mark bytes rest narrow other is marked h =
    let contents = one_content (header_bytes it found.rows ++ rest) (header_bytes header mark.rows ++ h.0) (sym is ∙ h.1.0) in
    let parts = one_header it header found.rows mark.rows rest h.0 narrow other contents in
    (parts.0, marked ∙ ap (mark_in found.rows) contents ∙ ap (λ (n : ℕ). mark_in n (header_bytes header mark.rows ++ h.0)) parts.1 ∙ sym h.1.1)

module _ {K V : Type 0} (key_bytes : K → List ℕ) (IsKey : K → Type 0) (data_bytes : V → List ℕ) (IsData : V → Type 0) where
  -- so is the frame of rows,
  pub frame_length : (header : Header) (rows : List (Row K V)) (mark : Mark) → mark ≡ mark_of key_bytes data_bytes header rows → length (frame_of key_bytes data_bytes header rows) ≡ mark.length
  frame_length header rows mark marked = length-sealed (content_of key_bytes data_bytes header rows) ∙ sym (ap (λ (m : Mark). m.length) marked)

  -- which is under one header and with one mark
  pub frame_alike : (told header : Header) (rows others : List (Row K V)) → Fits IsKey IsData told rows → Fits IsKey IsData header others
      → frame_of key_bytes data_bytes told rows ≡ frame_of key_bytes data_bytes header others → (told ≡ header) × (mark_of key_bytes data_bytes told rows ≡ mark_of key_bytes data_bytes header others)
  frame_alike told header rows others fits others_fit same =
      let contents = one_content (content_of key_bytes data_bytes told rows) (content_of key_bytes data_bytes header others) same in
      let parts = one_header told header (length rows) (length others) (flat_map (row_bytes key_bytes data_bytes) rows) (flat_map (row_bytes key_bytes data_bytes) others)
      (fits_narrow key_bytes data_bytes IsKey IsData told rows fits) (fits_narrow key_bytes data_bytes IsKey IsData header others others_fit) contents in
      (parts.0, ap (mark_in (length rows)) contents ∙ ap (λ (n : ℕ). mark_in n (content_of key_bytes data_bytes header others)) parts.1)

  -- and a whole one by its check
  pub frame_whole : (header : Header) (rows : List (Row K V)) → IsWholeFrame header (mark_of key_bytes data_bytes header rows) (frame_of key_bytes data_bytes header rows)
  frame_whole header rows = (flat_map (row_bytes key_bytes data_bytes) rows, (refl, refl))

  -- so a checkpoint that can be read is whole, and its manifest tells of these marks
  pub checkpoint_whole : (dir file_name : List ℕ) (generation : ℕ) (shards : Shards K V) (files : Files) (h : HasCheckpoint key_bytes IsKey data_bytes IsData dir file_name generation shards files)
      → IsWhole dir file_name generation h.marks files
  checkpoint_whole dir file_name generation shards files h = record {
    numbers = h.numbers;
    few = h.few;
    manifest = h.manifest;
    frames = λ shard mark at.
        let header = part_header generation (length h.marks) shard in
        let rows = get-there shards shard (omega (arith, get-below h.marks shard mark at, h.marked.number)) in
        let some : Some mark ≡ Some (mark_of key_bytes data_bytes header rows.0) = sym at ∙ h.marked.each shard rows.0 rows.1 in
        let same : mark ≡ mark_of key_bytes data_bytes header rows.0 = cc in
        let frame = frame_of key_bytes data_bytes header rows.0 in
        (frame, (h.frames shard rows.0 rows.1, subst (λ (x : Mark). IsWholeFrame header x frame) (sym same) (frame_whole header rows.0)));
  }

-- a manifest has 64 bytes, and 24 for each shard
length-rows : (marks : List Mark) → length (flat_map (row_bytes word word) (map mark_row marks)) ≡ 24 * length marks
length-rows [] = refl
length-rows (m ∷ ms) =
    let row = row_bytes word word (mark_row m) in
    omega (
      arith,
      length-append row (flat_map (row_bytes word word) (map mark_row ms)),
      length-append (word m.rows) (word m.check ++ word m.length),
      length-append (word m.check) (word m.length),
      length-word m.rows,
      length-word m.check,
      length-word m.length,
      length-rows ms,
    )

length-header : (header : Header) (count : ℕ) → length (header_bytes header count) ≡ 32
length-header h n = omega (
  arith,
  length-append (word h.shards) (word h.shard ++ (word h.generation ++ word n)),
  length-append (word h.shard) (word h.generation ++ word n),
  length-append (word h.generation) (word n),
  length-word h.shards,
  length-word h.shard,
  length-word h.generation,
  length-word n,
)

pub manifest_length : (generation : ℕ) (marks : List Mark) → length (manifest_bytes generation marks) ≡ 64 + 24 * length marks
manifest_length generation marks =
    let header = part_header generation (length marks) (length marks) in
    let rows = map mark_row marks in
    omega (arith, length-sealed (content_of word word header rows), length-append (header_bytes header (length rows)) (flat_map (row_bytes word word) rows), length-header header (length rows), length-rows marks)
