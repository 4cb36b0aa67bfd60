-- What a save of a checkpoint leaves.
use Rattle.std.proofs.Common.{◌≡◌, ◌≢◌, inl, inr, ⊎_elim, ℕ, ◌<◌, ◌≤◌, ◌^◌, List, ◌++◌, length, codes, refl, sym, ◌∙◌, ap, subst, arith, length-append}
use Rattle.lru_folder.specs.Files.{Files}
use Rattle.lru_folder.specs.Folder.{LeavesOnly}
use Rattle.lru_folder.specs.Losses.{IsFromStart, LosesOnly}
use Rattle.lru_folder.specs.Meaning.{Meaning}
use Rattle.lru_folder.proofs.LossLemmas.{then_loses}
use Rattle.lru_folder.proofs.Moments.{then_run}
use Rattle.lru_folder.proofs.NamesLemmas.{path_text-injective}
use Rattle.lru_folder.specs.Names.{shard_text}
use Rattle.lru_frames.specs.declared.mark.Mark.{Mark}
use Rattle.lru_frames.specs.declared.row.Row.{Row}
use Rattle.lru_generations.specs.declared.names.PartName.{PartName}
use Rattle.lru_generations.specs.declared.names.PartName.TheVariants.{Frame, Manifest, Temp}
use Rattle.lru_generations.specs.Manifests.{IsManifest, manifest_bytes}
use Rattle.lru_generations.specs.Names.{IsPart, part_path, frame_path, manifest_path, manifest_temp_path}
use Rattle.lru_generations.proofs.NameLaws.{one_path}
use Rattle.lru_generations.specs.Touching.{IsSameBut, TouchesOnly}
use Rattle.lru_generations.specs.Replacing.{IsReplaced, IsOldOrReplaced, Replaces}
use Rattle.lru_generations.specs.Checkpoints.{Shards, IsFrame, IsPartOf, AreFirm, AreMarked, AreHandedOut, FitsEach, HasFrames, HasCheckpoint, IsOldOrNew, IsWhole, SavesCheckpoint, most_shards}
use Rattle.lru_generations.proofs.Lists.{get-below}
use Rattle.lru_generations.proofs.Marked.{checkpoint_whole}

-- parts of one name that share a path are one part
pub one_part : (dir file_name : List ℕ) (one other : PartName) → IsPart one → IsPart other → part_path dir file_name one ≡ part_path dir file_name other → one ≡ other
one_part dir file_name one other p q e = (one_path dir file_name file_name one other p q e).1

pub frame-apart-manifest : (dir file_name : List ℕ) (g h shard : ℕ) → g < 2 ^ 64 → h < 2 ^ 64 → shard < 2 ^ 64 → frame_path dir file_name g shard ≢ manifest_path dir file_name h
frame-apart-manifest dir file_name g h shard low high small e = let same = one_part dir file_name (Frame g shard) (Manifest h) (low, small) high e in cc

pub frame-apart-temp : (dir file_name : List ℕ) (g h shard : ℕ) → g < 2 ^ 64 → h < 2 ^ 64 → shard < 2 ^ 64 → frame_path dir file_name g shard ≢ manifest_temp_path dir file_name h
frame-apart-temp dir file_name g h shard low high small e = let same = one_part dir file_name (Frame g shard) (Temp h) (low, small) high e in cc

pub temp-apart-manifest : (dir file_name : List ℕ) (g : ℕ) → manifest_temp_path dir file_name g ≢ manifest_path dir file_name g
temp-apart-manifest dir file_name g e =
    let front = shard_text file_name g in
    let names = path_text-injective dir (front ++ codes ".manifest.tmp") (front ++ codes ".manifest") e in
    absurd (omega (arith, ap length names, length-append front (codes ".manifest.tmp"), length-append front (codes ".manifest")))

pub one_frame_path : (dir file_name : List ℕ) (g h shard other : ℕ) → g < 2 ^ 64 → h < 2 ^ 64 → shard < 2 ^ 64 → other < 2 ^ 64 → frame_path dir file_name g shard ≡ frame_path dir file_name h other → (g ≡ h) × (shard ≡ other)
one_frame_path dir file_name g h shard other low high small smaller e = let same = one_part dir file_name (Frame g shard) (Frame h other) (low, small) (high, smaller) e in (cc, cc)

-- what a stop may leave, told with less
pub leaves_more : {F : Type 0} (meaning : Meaning F) (P Q : Files → Type 0) → ((m : Files) → P m → Q m) → (old new : F) → LeavesOnly meaning P old new → LeavesOnly meaning Q old new
leaves_more meaning P Q more old new h = record {
  later = h.later;
  each = λ m s. more m (h.each m s);
  now = more (meaning.files new) h.now;
  before = λ t m le s. ⊎_elim inl (λ p. inr (more m p)) (h.before t m le s);
}

-- and what a loss may leave
module _ {F : Type 0} (meaning : Meaning F) (P Q : Files → Files → Type 0) (more : (was m : Files) → P was m → Q was m) (old new : F) where
  from_more : (m : Files) → IsFromStart meaning P old m → IsFromStart meaning Q old m
  from_more m h = (h.0, (h.1.0, more h.0 m h.1.1))

  pub loses_more : LosesOnly meaning P old new → LosesOnly meaning Q old new
  loses_more h = record {
    later = h.later;
    each = λ m s. from_more m (h.each m s);
    now = λ m s. from_more m (h.now m s);
    before = λ t m le s. ⊎_elim inl (λ from. inr (from_more m from)) (h.before t m le s);
  }

module _ {K V : Type 0} (key_bytes : K → List ℕ) (IsKey : K → Type 0) (data_bytes : V → List ℕ) (IsData : V → Type 0) (dir file_name : List ℕ)
    (HandsOut : ℕ → List (Row K V) → Type 0) (count generation : ℕ) (few : count ≤ most_shards) (low : generation < 2 ^ 64) where
  abbrev R : Files → Files → Type 0
  R = IsOldOrNew key_bytes IsKey data_bytes IsData dir file_name HandsOut count generation

  abbrev Frames : List ℕ → Type 0
  Frames = IsFrame dir file_name generation

  abbrev Replaced : List Mark → Files → (List ℕ → Type 0) → Files → Files → Type 0
  Replaced marks = IsOldOrReplaced (manifest_temp_path dir file_name generation) (manifest_path dir file_name generation) (manifest_bytes generation marks)

  no_frame : ¬ Frames (manifest_path dir file_name generation)
  no_frame h = frame-apart-manifest dir file_name generation generation h.0 low low h.1.0 (sym h.1.1)

  frame_is_part : (q : List ℕ) → Frames q → IsPartOf dir file_name generation q
  frame_is_part q h = (Frame generation h.0, ((low, h.1.0), (refl, h.1.1)))

  manifest_is_part : (q : List ℕ) → q ≡ manifest_path dir file_name generation → IsPartOf dir file_name generation q
  manifest_is_part q e = (Manifest generation, (low, (refl, e)))

  temp_is_part : (q : List ℕ) → q ≡ manifest_temp_path dir file_name generation → IsPartOf dir file_name generation q
  temp_is_part q e = (Temp generation, (low, (refl, e)))

  -- so long as the frames alone have changed
  frames_only : (was m : Files) → IsSameBut Frames was m → R was m
  frames_only was m h = record { checkpoint = inl (h (manifest_path dir file_name generation) no_frame); others = λ q other. h q (λ f. other (frame_is_part q f)) }

  -- once they stand, and no loss of power changes them
  module _ (shards : Shards K V) (marks : List Mark) (handed : AreHandedOut HandsOut count shards)
      (marked : AreMarked key_bytes data_bytes generation count shards marks) (fits : FitsEach IsKey IsData generation count shards) (numbers : IsManifest generation marks)
      (held : Files) (loose : List ℕ → Type 0) (frames : HasFrames key_bytes data_bytes dir file_name generation count shards held) (firm : AreFirm dir file_name generation count loose) where
    all : length marks ≡ count
    all = marked.number ∙ handed.number

    pub new_checkpoint : (old m : Files)
        → IsReplaced (manifest_temp_path dir file_name generation) (manifest_path dir file_name generation) (manifest_bytes generation marks) held loose old m
        → HasCheckpoint key_bytes IsKey data_bytes IsData dir file_name generation shards m
    new_checkpoint old m r = record {
      marks = marks;
      numbers = numbers;
      few = omega (arith, all, few);
      manifest = r.file;
      marked = subst (λ (n : ℕ). AreMarked key_bytes data_bytes generation n shards marks) (sym all) marked;
      fits = subst (λ (n : ℕ). FitsEach IsKey IsData generation n shards) (sym all) fits;
      frames = subst (λ (n : ℕ). HasFrames key_bytes data_bytes dir file_name generation n shards m) (sym all)
          (λ shard rows at.
          let below : shard < length shards = get-below shards shard rows at in
          let inside : shard < count = omega (arith, below, handed.number) in
          let small : shard < 2 ^ 64 = omega (arith, inside, few) in
          let path = frame_path dir file_name generation shard in
          r.firm path (frame-apart-temp dir file_name generation generation shard low low small) (frame-apart-manifest dir file_name generation generation shard low low small) (firm shard inside)
          ∙ frames shard rows at);
    }

    -- it is whole, with these marks
    pub new_whole : (old m : Files)
        → IsReplaced (manifest_temp_path dir file_name generation) (manifest_path dir file_name generation) (manifest_bytes generation marks) held loose old m
        → IsWhole dir file_name generation marks m
    unfolding new_checkpoint
    new_whole old m r = checkpoint_whole key_bytes IsKey data_bytes IsData dir file_name generation shards m (new_checkpoint old m r)

    then_replaced : (was then m : Files) → IsSameBut Frames was then → Replaced marks held loose then m → R was m
    then_replaced was then m h (inl same) = record {
      checkpoint = inl (same (manifest_path dir file_name generation) (λ e. temp-apart-manifest dir file_name generation (sym e)) ∙ h (manifest_path dir file_name generation) no_frame);
      others = λ q other. same q (λ e. other (temp_is_part q e)) ∙ h q (λ f. other (frame_is_part q f));
    }
    then_replaced was then m h (inr r) = record {
      checkpoint = inr (shards, (handed, new_checkpoint then m r));
      others = λ q other. r.others q (λ e. ⊎_elim (λ t. other (temp_is_part q t)) (λ p. other (manifest_is_part q p)) e) ∙ h q (λ f. other (frame_is_part q f));
    }

  module _ {F : Type 0} (meaning : Meaning F) (start : F) where
    abbrev Saves : F → Type 0
    Saves = SavesCheckpoint key_bytes IsKey data_bytes IsData dir file_name HandsOut count meaning generation start

    pub saves_frames : (mid : F) → TouchesOnly meaning Frames start mid → Saves mid
    saves_frames mid h = record {
      any_moment = leaves_more meaning (IsSameBut Frames (meaning.files start)) (R (meaning.files start)) (frames_only (meaning.files start)) start mid h.any_moment;
      any_loss = loses_more meaning (IsSameBut Frames) R frames_only start mid h.any_loss;
      loosens = λ q l. ⊎_elim (λ f. inl (frame_is_part q f)) inr (h.loosens q l);
    }

    pub saves_all : (shards : Shards K V) (marks : List Mark) → AreHandedOut HandsOut count shards
        → AreMarked key_bytes data_bytes generation count shards marks → FitsEach IsKey IsData generation count shards → IsManifest generation marks → (mid new : F)
        → TouchesOnly meaning Frames start mid → HasFrames key_bytes data_bytes dir file_name generation count shards (meaning.files mid) → AreFirm dir file_name generation count (meaning.loose mid)
        → Replaces meaning (manifest_temp_path dir file_name generation) (manifest_path dir file_name generation) (manifest_bytes generation marks) mid new → Saves new
    saves_all shards marks handed marked fits numbers mid new first frames firm second = record {
      any_moment = then_run meaning (IsSameBut Frames (meaning.files start)) (Replaced marks (meaning.files mid) (meaning.loose mid) (meaning.files mid)) (R (meaning.files start)) start mid new
          first.any_moment second.any_moment (frames_only (meaning.files start))
          (λ m r. then_replaced shards marks handed marked fits numbers (meaning.files mid) (meaning.loose mid) frames firm (meaning.files start) (meaning.files mid) m first.any_moment.now r);
      any_loss = then_loses meaning (IsSameBut Frames) (Replaced marks (meaning.files mid) (meaning.loose mid)) R start mid new first.any_loss second.any_loss
          frames_only (then_replaced shards marks handed marked fits numbers (meaning.files mid) (meaning.loose mid) frames firm);
      loosens = λ q l. ⊎_elim (λ t. inl (temp_is_part q t)) (λ before. ⊎_elim (λ f. inl (frame_is_part q f)) inr (first.loosens q before)) (second.loosens q l);
    }
