-- What was loaded of a checkpoint.
use Rattle.std.proofs.Common.{◌≡◌, ℕ, ◌<◌, List, ◌++◌, length, Option, Some, None, sym, ◌∙◌, ap, subst}
use Rattle.std.specs.FinMap.{get}
use Rattle.lru_folder.specs.Files.{Files}
use Rattle.lru_folder.specs.Meaning.{Meaning}
use Rattle.lru_frames.specs.declared.errors.Part.{Part}
use Rattle.lru_frames.specs.declared.frame.Header.{Header}
use Rattle.lru_frames.specs.declared.mark.Mark.{Mark}
use Rattle.lru_frames.specs.declared.row.Row.{Row}
use Rattle.lru_frames.specs.Frame.{frame_of, content_of, Fits}
use Rattle.lru_frames.specs.Rows.{AreSame, IsSameRow}
use Rattle.lru_frames.proofs.EnvelopeLaws.{one_content}
use Rattle.lru_frames.proofs.FrameLaws.{one_frame}
use Rattle.lru_generations.specs.Manifests.{part_header}
use Rattle.lru_generations.specs.Names.{frame_path}
use Rattle.std.specs.Prelude.{Vec}
use Rattle.std.specs.declared.alloc.Global.{Global}
use Rattle.lru_generations.specs.declared.file_reading.Found.{Found}
use Rattle.lru_generations.specs.declared.file_reading.Found.TheVariants.{Bytes, TooLong}
use Rattle.lru_generations.specs.Reading.{IsFound}
use Rattle.lru_generations.specs.Touching.{HasReason}
use Rattle.lru_frames.specs.declared.errors.FrameError.{FrameError}
use Rattle.lru_frames.specs.declared.errors.FrameError.TheVariants as frame
use Rattle.lru_generations.specs.declared.errors.CheckpointFile.{CheckpointFile}
use Rattle.lru_generations.specs.declared.errors.CheckpointError.{CheckpointError}
use Rattle.lru_generations.specs.declared.errors.CheckpointError.TheVariants.{Memory, Folder, Missing, Damaged, Other, LastGeneration, InUse}
use Rattle.lru_generations.specs.Checkpoints.{Shards, AreMarked, FitsEach, HasFrames}
use Rattle.lru_generations.specs.Loads.{AreSameShards, IsFault, IsRefusedShard, refused}

-- a frame that was read is that of the rows that were written
module _ {K V : Type 0} (key_bytes : K → List ℕ) (IsKey : K → Type 0) (IsSameKey : K → K → Type 0) (data_bytes : V → List ℕ) (IsData : V → Type 0) (IsSameData : V → V → Type 0)
    (one_key : (a b : K) (x y : List ℕ) → IsKey a → IsKey b → key_bytes a ++ x ≡ key_bytes b ++ y → IsSameKey a b × (x ≡ y))
    (one_data : (a b : V) (x y : List ℕ) → IsData a → IsData b → data_bytes a ++ x ≡ data_bytes b ++ y → IsSameData a b × (x ≡ y)) where
  pub same_rows : (header : Header) (rows others : List (Row K V)) → Fits IsKey IsData header rows → Fits IsKey IsData header others
      → ◌≡◌ {A = Option (List ℕ)} (Some (frame_of key_bytes data_bytes header rows)) (Some (frame_of key_bytes data_bytes header others)) → AreSame (IsSameRow IsSameKey IsSameData) rows others
  same_rows header rows others fits others_fit same =
      let frames : frame_of key_bytes data_bytes header rows ≡ frame_of key_bytes data_bytes header others = cc in
      (one_frame key_bytes IsKey IsSameKey data_bytes IsData IsSameData one_key one_data header header rows others fits others_fit
      (one_content (content_of key_bytes data_bytes header rows) (content_of key_bytes data_bytes header others) frames)).1

  -- so are the shards of one manifest whose frames stand in the same files
  pub same_shards : (dir file_name : List ℕ) (generation count : ℕ) (marks : List Mark) (files : Files) (found written : Shards K V)
      → AreMarked key_bytes data_bytes generation count found marks → AreMarked key_bytes data_bytes generation count written marks
      → FitsEach IsKey IsData generation count found → FitsEach IsKey IsData generation count written → HasFrames key_bytes data_bytes dir file_name generation count found files
      → HasFrames key_bytes data_bytes dir file_name generation count written files → AreSameShards IsSameKey IsSameData found written
  same_shards dir file_name generation count marks files found written marked others_marked fits others_fit frames others = record {
    count = sym marked.number ∙ others_marked.number;
    each = λ shard rows those at there. same_rows (part_header generation count shard) rows those (fits shard rows at) (others_fit shard those there)
        (sym (frames shard rows at) ∙ others shard those there);
  }

-- a refusal, told from an earlier folder with the same files and no fault since
module _ {F : Type 0} (meaning : Meaning F) (IsDamage : Part → List ℕ → Type 0) (IsOther : List ℕ → Type 0)
    (dir file_name : List ℕ) (generation shard : ℕ) (start mid new : F) (files : meaning.files mid ≡ meaning.files start) (faults : meaning.faults mid ≡ meaning.faults start) where
  abbrev Refused : F → CheckpointError → Type 0
  Refused old error = IsRefusedShard meaning IsDamage IsOther dir file_name generation shard old new error

  there : (b : Option (List ℕ)) → get (meaning.files mid) (frame_path dir file_name generation shard) ≡ b → get (meaning.files start) (frame_path dir file_name generation shard) ≡ b
  there b h = ap (λ (f : Files). get f (frame_path dir file_name generation shard)) (sym files) ∙ h

  pub refused_from : (error : CheckpointError) → Refused mid error → Refused start error
  refused_from Memory h = h ∙ faults
  refused_from (Folder at fault) h = (h.0, (h.1.0, subst (λ n. HasReason ⊥ n (meaning.faults new) fault.source) faults h.1.1))
  refused_from (Missing at) h = (h.0, there None h.1)
  refused_from (Damaged at part) h = (h.0, (h.1.0, (there (Some h.1.0) h.1.1.0, h.1.1.1)))
  refused_from (Other at) h = (h.0, (h.1.0, (there (Some h.1.0) h.1.1.0, h.1.1.1)))
  refused_from LastGeneration h = h
  refused_from InUse h = h

-- bytes are refused without blame where memory ran out alone
pub fault_so : (at : CheckpointFile) (error : FrameError) (e : CheckpointError) → e ≡ refused at error → error ≡ frame.Memory → IsFault e
fault_so at error e is memory = subst IsFault (sym (is ∙ ap (refused at) memory)) tt

-- what was found at a path is what stands there
pub held : (most : ℕ) (found : Found) (bytes : Vec ℕ Global) (p path : List ℕ) (files : Files) → found ≡ Bytes bytes → IsFound most found (get files p) → p ≡ path → get files path ≡ Some bytes.items
held most found bytes p path files is h at = ap (get files) (sym at) ∙ (subst (λ (f : Found). IsFound most f (get files p)) is h).0

pub too_long : (most : ℕ) (found : Found) (p path : List ℕ) (files : Files) → found ≡ TooLong → IsFound most found (get files p) → p ≡ path → (bytes : List ℕ) × ((get files path ≡ Some bytes) × (most < length bytes))
too_long most found p path files is h at =
    let there = subst (λ (f : Found). IsFound most f (get files p)) is h in
    (there.0, (ap (get files) (sym at) ∙ there.1.0, there.1.1))

-- one path has one file
pub one_file : (a b : List ℕ) (file : Option (List ℕ)) → file ≡ Some a → file ≡ Some b → a ≡ b
one_file a b file p q = let same : ◌≡◌ {A = Option (List ℕ)} (Some a) (Some b) = sym p ∙ q in cc

-- the bytes that were read at a path are those that stand there
pub bytes_so : (shown bytes p path other : List ℕ) (files : Files) → shown ≡ bytes → get files p ≡ Some bytes → p ≡ path → get files path ≡ Some other → shown ≡ other
bytes_so shown bytes p path other files is found at there =
    let one : Some bytes ≡ Some other = sym found ∙ ap (get files) at ∙ there in
    let same : bytes ≡ other = cc in
    is ∙ same
