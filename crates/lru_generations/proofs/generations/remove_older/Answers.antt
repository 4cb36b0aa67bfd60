use Rattle.std.proofs.Common.{rules, ◌≡◌, ℕ, ◌<◌, List, Option, None, sym, subst}
use Rattle.std.specs.Prelude.{◌↔◌, Contains}
use Rattle.std.specs.FinMap.{get}
use Rattle.lru_folder.specs.Files.{Files}
use Rattle.lru_folder.specs.Meaning.{Meaning}
use Rattle.lru_folder.proofs.Moments.{then_run}
use Rattle.lru_generations.specs.declared.names.PartName.{PartName}
use Rattle.lru_generations.specs.declared.names.PartName.TheVariants.{Manifest}
use Rattle.lru_generations.specs.Listing.{IsAnyManifest}
use Rattle.lru_generations.specs.Names.{IsPart, generation_of, manifest_path}
use Rattle.lru_generations.specs.Touching.{IsSameBut}
use Rattle.lru_generations.proofs.Touched.{touches_started, touches_then, touches_more}
use Rattle.lru_generations.proofs.Lists.{on_ok}
use Rattle.lru_generations.proofs.Saved.{leaves_more}
use Rattle.lru_generations.specs.Newest.{HasManifest}
use Rattle.lru_generations.specs.Removing.{IsPathOf}
use Rattle.lru_generations.specs.Saving.{IsOld, IsOlder, KeepsFrames}
use Rattle.lru_generations.proofs.KeptFrames.{all_gone, frames_stay, names_older, on_err, others_gone, small_number}
use Rattle.lru_generations.proofs.Refusals.{failed_from}
use Rattle.lru_generations.proofs.generations.remove_older.Goals as goal

pub returns-in_default-clause-touches : goal.returns-in_default-clause-touches
returns-in_default-clause-touches g c k fits = touches_started g.F.Folder.meaning _ c.args.folder.now k

pub returns-in_err-older-clause-touches : goal.returns-in_err-older-clause-touches
returns-in_err-older-clause-touches g c k fits = touches_started g.F.Folder.meaning _ c.args.folder.now k

pub returns-in_err-manifests-clause-touches : goal.returns-in_err-manifests-clause-touches
returns-in_err-manifests-clause-touches g c k fits = touches_started g.F.Folder.meaning _ c.args.folder.now k

pub returns-in_err-remove_parts-clause-touches : goal.returns-in_err-remove_parts-clause-touches
returns-in_err-remove_parts-clause-touches g c k fits =
    let m : Meaning _ = g.F.Folder.meaning in
    let is_older = subst (λ (xs : List PartName). (part : PartName) → Contains xs part ↔ (Contains c.args.parts.now part × (generation_of part < c.in-Some.newest))) (sym c.deref.ensures.value) c.in_ok-older.ensures in
    let is_manifest = subst (λ (xs : List PartName). (part : PartName) → Contains xs part ↔ (Contains c.deref.result.now part × IsAnyManifest part)) (sym c.deref-2.ensures.value) c.in_ok-manifests.ensures.manifests in
    touches_more m (IsPathOf c.args.dir.now c.args.file_name.now c.deref-2.result.now) (IsOld c.args.dir.now c.args.file_name.now c.args.kept)
    (λ q h. let is = (is_older h.0).0 ((is_manifest h.0).0 h.1.0).0 in (h.0, ((fits h.0 is.0, subst (λ (o : Option ℕ). IsOlder o h.0) (sym c.in-Some.is) is.1), h.1.1)))
    c.args.folder.now c.remove_parts.new.folder (c.remove_parts.ensures.touches k)

pub returns-in_err-remove_parts-clause-frames : goal.returns-in_err-remove_parts-clause-frames
returns-in_err-remove_parts-clause-frames g c k fits listed =
    let m : Meaning _ = g.F.Folder.meaning in
    let dir = c.args.dir.now in
    let file_name = c.args.file_name.now in
    let start = c.args.folder.now in
    let is_older = subst (λ (xs : List PartName). (part : PartName) → Contains xs part ↔ (Contains c.args.parts.now part × (generation_of part < c.in-Some.newest))) (sym c.deref.ensures.value) c.in_ok-older.ensures in
    let is_manifest = subst (λ (xs : List PartName). (part : PartName) → Contains xs part ↔ (Contains c.deref.result.now part × IsAnyManifest part)) (sym c.deref-2.ensures.value) c.in_ok-manifests.ensures.manifests in
    let manifests = c.deref-2.result.now in
    leaves_more m (IsSameBut (IsPathOf dir file_name manifests) (m.files start)) (KeepsFrames dir file_name (m.files start))
    (λ f same n s low small had has. frames_stay dir file_name (m.files start) manifests (λ part h. let is = (is_manifest part).0 h in (fits part ((is_older part).0 is.0).0, is.1)) f same n s low small)
    start c.remove_parts.new.folder (c.remove_parts.ensures.touches k).any_moment

pub returns-in_err-remove_parts-clause-named : goal.returns-in_err-remove_parts-clause-named
returns-in_err-remove_parts-clause-named g c =
    let is_older = subst (λ (xs : List PartName). (part : PartName) → Contains xs part ↔ (Contains c.args.parts.now part × (generation_of part < c.in-Some.newest))) (sym c.deref.ensures.value) c.in_ok-older.ensures in
    let is_manifest = subst (λ (xs : List PartName). (part : PartName) → Contains xs part ↔ (Contains c.deref.result.now part × IsAnyManifest part)) (sym c.deref-2.ensures.value) c.in_ok-manifests.ensures.manifests in
    let named = names_older c.args.kept c.in-Some.newest c.in-Some.is c.deref-2.result.now (λ part there. ((is_older part).0 ((is_manifest part).0 there).0).1) _ c.in_err-remove_parts.ensures.named in
    search (rules, named)

pub returns-clause-named : goal.returns-clause-named
returns-clause-named g c =
    let is_older = subst (λ (xs : List PartName). (part : PartName) → Contains xs part ↔ (Contains c.args.parts.now part × (generation_of part < c.in-Some.newest))) (sym c.deref.ensures.value) c.in_ok-older.ensures in
    let is_other = subst (λ (xs : List PartName). (part : PartName) → Contains xs part ↔ (Contains c.deref.result.now part × (¬ IsAnyManifest part))) (sym c.deref-3.ensures.value) c.in_ok-manifests.ensures.others in
    on_err c.remove_parts-2.result _ _
    (λ error h. names_older c.args.kept c.in-Some.newest c.in-Some.is c.deref-3.result.now (λ part there. ((is_older part).0 ((is_other part).0 there).0).1) error h) c.remove_parts-2.ensures.named

pub returns-clause-reason : goal.returns-clause-reason
returns-clause-reason g c k =
    let m : Meaning _ = g.F.Folder.meaning in
    let done = c.in_ok-remove_parts.ensures {u = tt} in
    on_err c.remove_parts-2.result _ _ (λ error h. failed_from m c.args.dir.now c.args.file_name.now c.args.folder.now c.remove_parts.new.folder c.remove_parts-2.new.folder (done.faults k) error h)
    (c.remove_parts-2.ensures.reason (c.remove_parts.ensures.kept.0 k))

pub returns-clause-gone : goal.returns-clause-gone
returns-clause-gone g c k =
    let m : Meaning _ = g.F.Folder.meaning in
    let dir = c.args.dir.now in
    let file_name = c.args.file_name.now in
    let k-1 = c.remove_parts.ensures.kept.0 k in
    let done = c.in_ok-remove_parts.ensures {u = tt} in
    let is_older = subst (λ (xs : List PartName). (part : PartName) → Contains xs part ↔ (Contains c.args.parts.now part × (generation_of part < c.in-Some.newest))) (sym c.deref.ensures.value) c.in_ok-older.ensures in
    let is_manifest = subst (λ (xs : List PartName). (part : PartName) → Contains xs part ↔ (Contains c.deref.result.now part × IsAnyManifest part)) (sym c.deref-2.ensures.value) c.in_ok-manifests.ensures.manifests in
    let is_other = subst (λ (xs : List PartName). (part : PartName) → Contains xs part ↔ (Contains c.deref.result.now part × (¬ IsAnyManifest part))) (sym c.deref-3.ensures.value) c.in_ok-manifests.ensures.others in
    let same = (c.remove_parts-2.ensures.touches k-1).any_moment.now in
    on_ok c.remove_parts-2.result _ _
    (λ all part there older. all_gone dir file_name (m.files c.remove_parts.new.folder) (m.files c.remove_parts-2.new.folder) c.deref.result.now c.deref-2.result.now c.deref-3.result.now
    is_manifest is_other (done.gone k) same all part ((is_older part).1 (there, subst (λ (o : Option ℕ). IsOlder o part) c.in-Some.is older)))
    (c.remove_parts-2.ensures.gone k-1)

pub returns-clause-touches : goal.returns-clause-touches
returns-clause-touches g c k fits =
    let m : Meaning _ = g.F.Folder.meaning in
    let dir = c.args.dir.now in
    let file_name = c.args.file_name.now in
    let start = c.args.folder.now in
    let mid = c.remove_parts.new.folder in
    let new = c.remove_parts-2.new.folder in
    let k-1 = c.remove_parts.ensures.kept.0 k in
    let old = IsOld dir file_name c.args.kept in
    let is_older = subst (λ (xs : List PartName). (part : PartName) → Contains xs part ↔ (Contains c.args.parts.now part × (generation_of part < c.in-Some.newest))) (sym c.deref.ensures.value) c.in_ok-older.ensures in
    let is_manifest = subst (λ (xs : List PartName). (part : PartName) → Contains xs part ↔ (Contains c.deref.result.now part × IsAnyManifest part)) (sym c.deref-2.ensures.value) c.in_ok-manifests.ensures.manifests in
    let is_other = subst (λ (xs : List PartName). (part : PartName) → Contains xs part ↔ (Contains c.deref.result.now part × (¬ IsAnyManifest part))) (sym c.deref-3.ensures.value) c.in_ok-manifests.ensures.others in
    touches_then m old start mid new
    (touches_more m (IsPathOf dir file_name c.deref-2.result.now) old
    (λ q h. let is = (is_older h.0).0 ((is_manifest h.0).0 h.1.0).0 in (h.0, ((fits h.0 is.0, subst (λ (o : Option ℕ). IsOlder o h.0) (sym c.in-Some.is) is.1), h.1.1)))
    start mid (c.remove_parts.ensures.touches k))
    (touches_more m (IsPathOf dir file_name c.deref-3.result.now) old
    (λ q h. let is = (is_older h.0).0 ((is_other h.0).0 h.1.0).0 in (h.0, ((fits h.0 is.0, subst (λ (o : Option ℕ). IsOlder o h.0) (sym c.in-Some.is) is.1), h.1.1)))
    mid new (c.remove_parts-2.ensures.touches k-1))

pub returns-clause-frames : goal.returns-clause-frames
returns-clause-frames g c k fits listed =
    let m : Meaning _ = g.F.Folder.meaning in
    let dir = c.args.dir.now in
    let file_name = c.args.file_name.now in
    let start = c.args.folder.now in
    let mid = c.remove_parts.new.folder in
    let new = c.remove_parts-2.new.folder in
    let k-1 = c.remove_parts.ensures.kept.0 k in
    let done = c.in_ok-remove_parts.ensures {u = tt} in
    let first = c.remove_parts.ensures.touches k in
    let second = c.remove_parts-2.ensures.touches k-1 in
    let manifests = c.deref-2.result.now in
    let others = c.deref-3.result.now in
    let P : Files → Type 0 = KeepsFrames dir file_name (m.files start) in
    let is_older = subst (λ (xs : List PartName). (part : PartName) → Contains xs part ↔ (Contains c.args.parts.now part × (generation_of part < c.in-Some.newest))) (sym c.deref.ensures.value) c.in_ok-older.ensures in
    let is_manifest = subst (λ (xs : List PartName). (part : PartName) → Contains xs part ↔ (Contains c.deref.result.now part × IsAnyManifest part)) (sym c.deref-2.ensures.value) c.in_ok-manifests.ensures.manifests in
    let is_other = subst (λ (xs : List PartName). (part : PartName) → Contains xs part ↔ (Contains c.deref.result.now part × (¬ IsAnyManifest part))) (sym c.deref-3.ensures.value) c.in_ok-manifests.ensures.others in
    let are_manifests : (part : PartName) → Contains manifests part → IsPart part × IsAnyManifest part = λ part h. let is = (is_manifest part).0 h in (fits part ((is_older part).0 is.0).0, is.1) in
    let are_others : (part : PartName) → Contains others part → IsPart part × (¬ IsAnyManifest part) = λ part h. let is = (is_other part).0 h in (fits part ((is_older part).0 is.0).0, is.1) in
    let gone : (part : PartName) → Contains others part → HasManifest dir file_name (m.files start) (generation_of part) → get (m.files mid) (manifest_path dir file_name (generation_of part)) ≡ None = λ part h had.
    let is = (is_older part).0 ((is_other part).0 h).0 in
    let there = listed (generation_of part) (small_number part (fits part is.0)) had (subst (λ (o : Option ℕ). IsOlder o (Manifest (generation_of part))) (sym c.in-Some.is) is.1) in
    done.gone k (Manifest (generation_of part)) ((is_manifest (Manifest (generation_of part))).1 ((is_older (Manifest (generation_of part))).1 (there, is.1), tt)) in
    then_run m P P P start mid new
    (leaves_more m (IsSameBut (IsPathOf dir file_name manifests) (m.files start)) P
    (λ f same n s low small had has. frames_stay dir file_name (m.files start) manifests are_manifests f same n s low small) start mid first.any_moment)
    (leaves_more m (IsSameBut (IsPathOf dir file_name others) (m.files mid)) P
    (λ f same. others_gone dir file_name (m.files start) (m.files mid) others are_others (frames_stay dir file_name (m.files start) manifests are_manifests (m.files mid) first.any_moment.now) gone f same) mid new second.any_moment)
    (λ f h. h) (λ f h. h)
