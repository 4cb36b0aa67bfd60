use Rattle.std.proofs.Common.{◌≡◌, ℕ, ◌<◌, ◌^◌, List, refl, sym, subst}
use Rattle.std.specs.Prelude.{Contains, option_copied}
use Rattle.lru_folder.specs.Meaning.{Meaning}
use Rattle.lru_generations.specs.declared.manifest.Manifest as told
use Rattle.lru_generations.specs.declared.names.PartName.{PartName}
use Rattle.lru_generations.specs.declared.names.PartName.TheVariants.{Manifest}
use Rattle.std.specs.FinMap.{get}
use Rattle.lru_folder.specs.Files.{Files}
use Rattle.lru_folder.specs.Folder.{LeavesOnly}
use Rattle.lru_generations.specs.Checkpoints.{IsOldOrNew, IsPartOf, IsWhole}
use Rattle.lru_generations.proofs.Saved.{leaves_more}
use Rattle.lru_generations.specs.Newest.{HasManifest}
use Rattle.lru_generations.proofs.KeptFrames.{among_three, kept_all, kept_left, kept_saved, older_apart}
use Rattle.lru_generations.specs.Names.{IsPart}
use Rattle.lru_generations.specs.Touching.{TouchesOnly}
use Rattle.lru_generations.proofs.Lists.{on_ok}
use Rattle.lru_generations.specs.Saving.{IsLeft, IsOlder}
use Rattle.lru_generations.proofs.SavedNext.{next_nothing, next_left, next_saved, next_all, still_good, unused, whole_kept}
use Rattle.lru_generations.proofs.generations.save_claimed.Goals as goal

pub returns-in_err-found-clause-saves : goal.returns-in_err-found-clause-saves
returns-in_err-found-clause-saves g c k = next_nothing g.K.Stored.bytes_of g.K.Stored.is_value g.V.Stored.bytes_of g.V.Stored.is_value c.args.dir.now c.args.file_name.now (g.S.Source.hands_out c.args.source.now) (g.S.Source.count c.args.source.now) c.requires.name (option_copied c.args.known) g.F.Folder.meaning c.args.folder.now c.survey.new.folder (c.survey.ensures.touches k)

pub returns-in_err-remove_leftovers-clause-saves : goal.returns-in_err-remove_leftovers-clause-saves
returns-in_err-remove_leftovers-clause-saves g c k =
    let m : Meaning _ = g.F.Folder.meaning in
    let start = c.args.folder.now in
    let one = c.survey.new.folder in
    let two = c.remove_leftovers.new.folder in
    let k-1 = c.survey.ensures.kept.0 k in
    let k-2 = c.remove_leftovers.ensures.kept.0 k-1 in
    let seen = c.in_ok-found.found in
    let parts = seen.parts.items in
    let survey = c.in_ok-found.ensures.found k in
    let removed = subst (λ (xs : List PartName). TouchesOnly m (IsLeft c.args.dir.now c.args.file_name.now xs) one two) c.deref.ensures.value (c.remove_leftovers.ensures.touches k-1) in
    next_left g.K.Stored.bytes_of g.K.Stored.is_value g.V.Stored.bytes_of g.V.Stored.is_value c.args.dir.now c.args.file_name.now (g.S.Source.hands_out c.args.source.now) (g.S.Source.count c.args.source.now) c.requires.name (option_copied c.args.known) (m.files start) parts seen.newest.generation seen.generation c.in_ok-found.ensures.fits survey m start one refl (c.survey.ensures.touches k) (c.in_ok-found.ensures.named k) two removed

pub returns-in_err-manifest-clause-saves : goal.returns-in_err-manifest-clause-saves
returns-in_err-manifest-clause-saves g c k =
    let m : Meaning _ = g.F.Folder.meaning in
    let start = c.args.folder.now in
    let one = c.survey.new.folder in
    let two = c.remove_leftovers.new.folder in
    let k-1 = c.survey.ensures.kept.0 k in
    let k-2 = c.remove_leftovers.ensures.kept.0 k-1 in
    let seen = c.in_ok-found.found in
    let parts = seen.parts.items in
    let survey = c.in_ok-found.ensures.found k in
    let removed = subst (λ (xs : List PartName). TouchesOnly m (IsLeft c.args.dir.now c.args.file_name.now xs) one two) c.deref.ensures.value (c.remove_leftovers.ensures.touches k-1) in
    next_saved g.K.Stored.bytes_of g.K.Stored.is_value g.V.Stored.bytes_of g.V.Stored.is_value c.args.dir.now c.args.file_name.now (g.S.Source.hands_out c.args.source.now) (g.S.Source.count c.args.source.now) c.requires.name (option_copied c.args.known) (m.files start) parts seen.newest.generation seen.generation c.in_ok-found.ensures.fits survey m start one refl (c.survey.ensures.touches k) (c.in_ok-found.ensures.named k) two removed c.save_for_good.new.folder (c.save_for_good.ensures.saves k-2)

pub returns-clause-saves : goal.returns-clause-saves
returns-clause-saves g c k =
    let m : Meaning _ = g.F.Folder.meaning in
    let start = c.args.folder.now in
    let one = c.survey.new.folder in
    let two = c.remove_leftovers.new.folder in
    let k-1 = c.survey.ensures.kept.0 k in
    let k-2 = c.remove_leftovers.ensures.kept.0 k-1 in
    let seen = c.in_ok-found.found in
    let parts = seen.parts.items in
    let survey = c.in_ok-found.ensures.found k in
    let removed = subst (λ (xs : List PartName). TouchesOnly m (IsLeft c.args.dir.now c.args.file_name.now xs) one two) c.deref.ensures.value (c.remove_leftovers.ensures.touches k-1) in
    let three = c.save_for_good.new.folder in
    let new = c.remove_older-removed.new.folder in
    let k-3 = c.save_for_good.ensures.kept.0 k-2 in
    let saved = c.in_ok-manifest.ensures.saved k-2 in
    let fits : (part : PartName) → Contains c.deref-2.result.now part → IsPart part = λ part among. survey.listed.fits part (subst (λ (xs : List PartName). Contains xs part) c.deref-2.ensures.value among) in
    let last = c.remove_older-removed.ensures.touches k-3 fits in
    next_all g.K.Stored.bytes_of g.K.Stored.is_value g.V.Stored.bytes_of g.V.Stored.is_value c.args.dir.now c.args.file_name.now (g.S.Source.hands_out c.args.source.now) (g.S.Source.count c.args.source.now) c.requires.name (option_copied c.args.known) (m.files start) parts seen.newest.generation seen.generation c.in_ok-found.ensures.fits survey m start one refl (c.survey.ensures.touches k) (c.in_ok-found.ensures.named k) two removed three (c.save_for_good.ensures.saves k-2) new saved.0 saved.1.0 saved.1.1.0 saved.1.1.1 last

pub returns-clause-for_good : goal.returns-clause-for_good
returns-clause-for_good g c k =
    let m : Meaning _ = g.F.Folder.meaning in
    let start = c.args.folder.now in
    let one = c.survey.new.folder in
    let two = c.remove_leftovers.new.folder in
    let k-1 = c.survey.ensures.kept.0 k in
    let k-2 = c.remove_leftovers.ensures.kept.0 k-1 in
    let seen = c.in_ok-found.found in
    let parts = seen.parts.items in
    let survey = c.in_ok-found.ensures.found k in
    let removed = subst (λ (xs : List PartName). TouchesOnly m (IsLeft c.args.dir.now c.args.file_name.now xs) one two) c.deref.ensures.value (c.remove_leftovers.ensures.touches k-1) in
    let three = c.save_for_good.new.folder in
    let new = c.remove_older-removed.new.folder in
    let k-3 = c.save_for_good.ensures.kept.0 k-2 in
    let saved = c.in_ok-manifest.ensures.saved k-2 in
    let fits : (part : PartName) → Contains c.deref-2.result.now part → IsPart part = λ part among. survey.listed.fits part (subst (λ (xs : List PartName). Contains xs part) c.deref-2.ensures.value among) in
    let last = c.remove_older-removed.ensures.touches k-3 fits in
    (saved.0, (saved.1.0, still_good g.K.Stored.bytes_of g.K.Stored.is_value g.V.Stored.bytes_of g.V.Stored.is_value c.args.dir.now c.args.file_name.now (g.S.Source.hands_out c.args.source.now) (g.S.Source.count c.args.source.now) c.requires.name (option_copied c.args.known) (m.files start) parts seen.newest.generation seen.generation c.in_ok-found.ensures.fits survey m start one refl (c.survey.ensures.touches k) (c.in_ok-found.ensures.named k) two removed three (c.save_for_good.ensures.saves k-2) new saved.0 saved.1.0 saved.1.1.0 saved.1.1.1 last))

pub returns-clause-next : goal.returns-clause-next
returns-clause-next g c k =
    let m : Meaning _ = g.F.Folder.meaning in
    let start = c.args.folder.now in
    let one = c.survey.new.folder in
    let two = c.remove_leftovers.new.folder in
    let k-1 = c.survey.ensures.kept.0 k in
    let k-2 = c.remove_leftovers.ensures.kept.0 k-1 in
    let seen = c.in_ok-found.found in
    let parts = seen.parts.items in
    let survey = c.in_ok-found.ensures.found k in
    let removed = subst (λ (xs : List PartName). TouchesOnly m (IsLeft c.args.dir.now c.args.file_name.now xs) one two) c.deref.ensures.value (c.remove_leftovers.ensures.touches k-1) in
    unused g.K.Stored.bytes_of g.K.Stored.is_value g.V.Stored.bytes_of g.V.Stored.is_value c.args.dir.now c.args.file_name.now (g.S.Source.hands_out c.args.source.now) (g.S.Source.count c.args.source.now) c.requires.name (option_copied c.args.known) (m.files start) parts seen.newest.generation seen.generation c.in_ok-found.ensures.fits survey

pub returns-clause-gone : goal.returns-clause-gone
returns-clause-gone g c k =
    let m : Meaning _ = g.F.Folder.meaning in
    let start = c.args.folder.now in
    let one = c.survey.new.folder in
    let two = c.remove_leftovers.new.folder in
    let k-1 = c.survey.ensures.kept.0 k in
    let k-2 = c.remove_leftovers.ensures.kept.0 k-1 in
    let seen = c.in_ok-found.found in
    let parts = seen.parts.items in
    let survey = c.in_ok-found.ensures.found k in
    let removed = subst (λ (xs : List PartName). TouchesOnly m (IsLeft c.args.dir.now c.args.file_name.now xs) one two) c.deref.ensures.value (c.remove_leftovers.ensures.touches k-1) in
    let k-3 = c.save_for_good.ensures.kept.0 k-2 in
    on_ok c.remove_older-removed.result _ _
    (λ all part bytes is older there. all part (subst (λ (xs : List PartName). Contains xs part) (sym c.deref-2.ensures.value) ((survey.listed.there part is).1 (bytes, there))) older)
    (c.remove_older-removed.ensures.gone k-3)

pub returns-in_err-remove_leftovers-clause-frames : goal.returns-in_err-remove_leftovers-clause-frames
returns-in_err-remove_leftovers-clause-frames g c k =
    let m : Meaning _ = g.F.Folder.meaning in
    let dir = c.args.dir.now in
    let file_name = c.args.file_name.now in
    let start = c.args.folder.now in
    let one = c.survey.new.folder in
    let two = c.remove_leftovers.new.folder in
    let k-1 = c.survey.ensures.kept.0 k in
    let k-2 = c.remove_leftovers.ensures.kept.0 k-1 in
    let seen = c.in_ok-found.found in
    let parts = seen.parts.items in
    let newest = seen.newest.generation in
    let survey = c.in_ok-found.ensures.found k in
    let looked = c.survey.ensures.touches k in
    let removed = subst (λ (xs : List PartName). TouchesOnly m (IsLeft dir file_name xs) one two) c.deref.ensures.value (c.remove_leftovers.ensures.touches k-1) in
    kept_left m dir file_name start one looked (option_copied c.args.known) parts newest seen.generation survey two removed

pub returns-in_err-manifest-clause-frames : goal.returns-in_err-manifest-clause-frames
returns-in_err-manifest-clause-frames g c k =
    let m : Meaning _ = g.F.Folder.meaning in
    let dir = c.args.dir.now in
    let file_name = c.args.file_name.now in
    let start = c.args.folder.now in
    let one = c.survey.new.folder in
    let two = c.remove_leftovers.new.folder in
    let k-1 = c.survey.ensures.kept.0 k in
    let k-2 = c.remove_leftovers.ensures.kept.0 k-1 in
    let seen = c.in_ok-found.found in
    let parts = seen.parts.items in
    let newest = seen.newest.generation in
    let survey = c.in_ok-found.ensures.found k in
    let looked = c.survey.ensures.touches k in
    let removed = subst (λ (xs : List PartName). TouchesOnly m (IsLeft dir file_name xs) one two) c.deref.ensures.value (c.remove_leftovers.ensures.touches k-1) in
    let three = c.save_for_good.new.folder in
    let Beside : Files → Type 0 = λ f. (q : List ℕ) → ¬ IsPartOf dir file_name seen.generation q → get f q ≡ get (m.files two) q in
    let saves : LeavesOnly m Beside two three = leaves_more m (IsOldOrNew g.K.Stored.bytes_of g.K.Stored.is_value g.V.Stored.bytes_of g.V.Stored.is_value dir file_name (g.S.Source.hands_out c.args.source.now) (g.S.Source.count c.args.source.now) seen.generation (m.files two)) Beside
    (λ f h. h.others) two three (c.save_for_good.ensures.saves k-2).any_moment in
    kept_saved m dir file_name start one looked (option_copied c.args.known) parts newest seen.generation survey two removed three saves

pub returns-clause-frames : goal.returns-clause-frames
returns-clause-frames g c k =
    let m : Meaning _ = g.F.Folder.meaning in
    let dir = c.args.dir.now in
    let file_name = c.args.file_name.now in
    let start = c.args.folder.now in
    let one = c.survey.new.folder in
    let two = c.remove_leftovers.new.folder in
    let k-1 = c.survey.ensures.kept.0 k in
    let k-2 = c.remove_leftovers.ensures.kept.0 k-1 in
    let seen = c.in_ok-found.found in
    let parts = seen.parts.items in
    let newest = seen.newest.generation in
    let survey = c.in_ok-found.ensures.found k in
    let looked = c.survey.ensures.touches k in
    let removed = subst (λ (xs : List PartName). TouchesOnly m (IsLeft dir file_name xs) one two) c.deref.ensures.value (c.remove_leftovers.ensures.touches k-1) in
    let three = c.save_for_good.new.folder in
    let Beside : Files → Type 0 = λ f. (q : List ℕ) → ¬ IsPartOf dir file_name seen.generation q → get f q ≡ get (m.files two) q in
    let saves : LeavesOnly m Beside two three = leaves_more m (IsOldOrNew g.K.Stored.bytes_of g.K.Stored.is_value g.V.Stored.bytes_of g.V.Stored.is_value dir file_name (g.S.Source.hands_out c.args.source.now) (g.S.Source.count c.args.source.now) seen.generation (m.files two)) Beside
    (λ f h. h.others) two three (c.save_for_good.ensures.saves k-2).any_moment in
    let k-3 = c.save_for_good.ensures.kept.0 k-2 in
    let new = c.remove_older-removed.new.folder in
    let fits : (part : PartName) → Contains c.deref-2.result.now part → IsPart part = λ part among. survey.listed.fits part (subst (λ (xs : List PartName). Contains xs part) c.deref-2.ensures.value among) in
    let listed : (n : ℕ) → n < 2 ^ 64 → HasManifest dir file_name (m.files three) n → IsOlder newest (Manifest n) → Contains c.deref-2.result.now (Manifest n) = λ n small has older.
    subst (λ (xs : List PartName). Contains xs (Manifest n)) (sym c.deref-2.ensures.value)
    (among_three m dir file_name start one looked (option_copied c.args.known) parts newest seen.generation survey two removed three saves n small
    (older_apart m dir file_name start one looked (option_copied c.args.known) parts newest seen.generation survey n older) has) in
    kept_all m dir file_name start one looked (option_copied c.args.known) parts newest seen.generation survey two removed three saves new (c.remove_older-removed.ensures.frames k-3 fits listed)

pub returns-clause-told : goal.returns-clause-told
returns-clause-told g c k =
    let m : Meaning _ = g.F.Folder.meaning in
    let k-1 = c.survey.ensures.kept.0 k in
    let k-2 = c.remove_leftovers.ensures.kept.0 k-1 in
    let k-3 = c.save_for_good.ensures.kept.0 k-2 in
    let seen = c.in_ok-found.found in
    let survey = c.in_ok-found.ensures.found k in
    let fits : (part : PartName) → Contains c.deref-2.result.now part → IsPart part = λ part among. survey.listed.fits part (subst (λ (xs : List PartName). Contains xs part) c.deref-2.ensures.value among) in
    let last = c.remove_older-removed.ensures.touches k-3 fits in
    let manifest = c.in_ok-manifest.manifest in
    let is = c.in_ok-manifest.ensures.told k-2 in
    let stood = whole_kept g.K.Stored.bytes_of g.K.Stored.is_value g.V.Stored.bytes_of g.V.Stored.is_value c.args.dir.now c.args.file_name.now (g.S.Source.hands_out c.args.source.now) (g.S.Source.count c.args.source.now) c.requires.name (option_copied c.args.known) (m.files c.args.folder.now) seen.parts.items seen.newest.generation seen.generation c.in_ok-found.ensures.fits survey
    manifest.frames.items (m.files c.save_for_good.new.folder) (m.files c.remove_older-removed.new.folder) last.any_moment.now is.1 in
    subst (λ (x : told.Manifest). (x.generation ≡ seen.generation) × IsWhole c.args.dir.now c.args.file_name.now x.generation x.frames.items (m.files c.remove_older-removed.new.folder)) (sym c.new.ensures)
    (is.0, subst (λ (n : ℕ). IsWhole c.args.dir.now c.args.file_name.now n manifest.frames.items (m.files c.remove_older-removed.new.folder)) (sym is.0) stood)
