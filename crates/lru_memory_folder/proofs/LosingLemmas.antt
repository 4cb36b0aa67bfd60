-- What one call more does to what a loss of power may leave.
use Rattle.std.proofs.Common.{◌≡◌, ◌⊎◌, inl, inr, ⊎_elim, ◌≤◌, ℕ, zero, suc, List, [], ◌∷◌, ◌++◌, length, Option, Some, None, subst, arith}
use Rattle.std.specs.FinMap.{get}
use Rattle.lru_folder.specs.Files.{Files, created, appended, renamed, removed}
use Rattle.lru_folder.specs.Losses.{IsSpread, Loss, loosened, firmed, handed_on}
use Rattle.lru_folder.proofs.LossLemmas.{spread-more}
use Rattle.lru_memory_folder.specs.declared.calls.End.{End}
use Rattle.lru_memory_folder.specs.declared.calls.End.TheVariants.{Done, NotFound, Failed}
use Rattle.lru_memory_folder.specs.Calls.{Deed, Creates, Writes, Renames, Removes, Syncs, SyncsNames, Looks, Noted}
use Rattle.lru_memory_folder.specs.Losing.{step_of, loose_moved, loose_after, maps_after, loss_after, loss_left, LostSince}
use Rattle.lru_memory_folder.specs.LosingLaws.{CountsOwn, own_after}

-- what a loss now could leave is what is left
pub LostSince-only : (cs : List Noted) (loss : Loss) (m : Files) → LostSince cs (length cs) loss m → (loss_left cs loss).maps m
LostSince-only [] loss m s = s
LostSince-only (c ∷ cs) loss m s = LostSince-only cs (loss_after c loss) m s

-- one call more
pub left-push : (cs : List Noted) (c : Noted) (loss : Loss) (m : Files) → (loss_left (cs ++ c ∷ []) loss).maps m → (loss_after c (loss_left cs loss)).maps m
left-push [] c loss m h = h
left-push (d ∷ cs) c loss m h = left-push cs c (loss_after d loss) m h

pub loose-push : (cs : List Noted) (c : Noted) (loss : Loss) (q : List ℕ) → (loss_left (cs ++ c ∷ []) loss).loose q → (loss_after c (loss_left cs loss)).loose q
loose-push [] c loss q h = h
loose-push (d ∷ cs) c loss q h = loose-push cs c (loss_after d loss) q h

split_done : (deed : Deed) (loss : Loss) → CountsOwn loss → (m : Files) → maps_after deed Done loss m → loss.maps m ⊎ (step_of deed).maps loss m
split_done (Creates path) loss own m h = h
split_done (Writes path piece) loss own m h = h
split_done (Renames from to) loss own m h = h
split_done (Removes path) loss own m h = h
split_done (Syncs path) loss own m h = inl (own m (spread-more (firmed path loss.loose) loss.loose loss.files m (λ q l. l.1) h))
split_done (SyncsNames dir) loss own m h = inl h.0
split_done Looks loss own m h = h

-- a call adds its step
pub split : (deed : Deed) (end : End) (loss : Loss) → CountsOwn loss → (m : Files) → maps_after deed end loss m → loss.maps m ⊎ (step_of deed).maps loss m
split deed Done loss own m h = split_done deed loss own m h
split deed NotFound loss own m h = h
split deed (Failed part) loss own m h = h

moved_loosens : (from to : List ℕ) (there : Option (List ℕ)) (loose : List ℕ → Type 0) (q : List ℕ) → loose_moved there from to loose q → loose q ⊎ handed_on from to loose q
moved_loosens from to None loose q h = inl h
moved_loosens from to (Some bytes) loose q h = inr h

loosens_done : (deed : Deed) (loss : Loss) (q : List ℕ) → loose_after deed Done loss.files loss.loose q → (step_of deed).loose loss q
loosens_done (Creates path) loss q h = h
loosens_done (Writes path piece) loss q h = h
loosens_done (Renames from to) loss q h = moved_loosens from to (get loss.files from) loss.loose q h
loosens_done (Removes path) loss q h = h.1
loosens_done (Syncs path) loss q h = h.1
loosens_done (SyncsNames dir) loss q h = h
loosens_done Looks loss q h = h

loosens_failed : (deed : Deed) (loss : Loss) (q : List ℕ) → loose_after deed NotFound loss.files loss.loose q → (step_of deed).loose loss q
loosens_failed (Creates path) loss q h = h
loosens_failed (Writes path piece) loss q h = h
loosens_failed (Renames from to) loss q h = inl h
loosens_failed (Removes path) loss q h = h
loosens_failed (Syncs path) loss q h = h
loosens_failed (SyncsNames dir) loss q h = h
loosens_failed Looks loss q h = h

pub loosens : (deed : Deed) (end : End) (loss : Loss) (q : List ℕ) → loose_after deed end loss.files loss.loose q → (step_of deed).loose loss q
loosens deed Done loss q h = loosens_done deed loss q h
loosens deed NotFound loss q h = loosens_failed deed loss q h
loosens deed (Failed part) loss q h = loosens_failed deed loss q h

pub LostSince-stays : (cs : List Noted) (c : Noted) (t : ℕ) (loss : Loss) (m : Files) → t ≤ length cs → LostSince cs t loss m → LostSince (cs ++ c ∷ []) t loss m
LostSince-stays [] c zero loss m le s = inl s
LostSince-stays [] c (suc t) loss m le s = absurd (omega arith)
LostSince-stays (d ∷ cs) c zero loss m le (inl s) = inl s
LostSince-stays (d ∷ cs) c zero loss m le (inr s) = inr (LostSince-stays cs c zero (loss_after d loss) m (omega arith) s)
LostSince-stays (d ∷ cs) c (suc t) loss m le s = LostSince-stays cs c t (loss_after d loss) m (omega arith) s

pub LostSince-push : (cs : List Noted) (c : Noted) (t : ℕ) (loss : Loss) (m : Files) → CountsOwn loss → t ≤ length cs → LostSince (cs ++ c ∷ []) t loss m
    → LostSince cs t loss m ⊎ (step_of c.deed).maps (loss_left cs loss) m
LostSince-push [] c zero loss m own le (inl s) = inl s
LostSince-push [] c zero loss m own le (inr s) = split c.deed c.end loss own m s
LostSince-push [] c (suc t) loss m own le s = absurd (omega arith)
LostSince-push (d ∷ cs) c zero loss m own le (inl s) = inl (inl s)
LostSince-push (d ∷ cs) c zero loss m own le (inr s) =
    ⊎_elim (λ r. inl (inr r)) (λ p. inr p) (LostSince-push cs c zero (loss_after d loss) m (own_after d.deed d.end loss own) (omega arith) s)
LostSince-push (d ∷ cs) c (suc t) loss m own le s = LostSince-push cs c t (loss_after d loss) m (own_after d.deed d.end loss own) (omega arith) s

-- a step counts the files, and more maps make more
pub step-carry : (deed : Deed) (files other : Files) (loose : List ℕ → Type 0) (maps more : Files → Type 0) (m : Files) → files ≡ other → ((f : Files) → maps f → more f)
    → (step_of deed).maps (record { files = files; loose = loose; maps = maps }) m → (step_of deed).maps (record { files = other; loose = loose; maps = more }) m
step-carry (Creates path) files other loose maps more m is up (inl h) = inl (h.0, (up h.0 h.1.0, h.1.1))
step-carry (Creates path) files other loose maps more m is up (inr h) = inr (subst (λ f. IsSpread (loosened path loose) (created path f) m) is h)
step-carry (Writes path piece) files other loose maps more m is up (inl h) = inl (h.0, (up h.0 h.1.0, h.1.1))
step-carry (Writes path piece) files other loose maps more m is up (inr h) = inr (subst (λ f. IsSpread (loosened path loose) (appended path piece f) m) is h)
step-carry (Renames from to) files other loose maps more m is up h = subst (λ f. IsSpread (handed_on from to loose) (renamed from to f) m) is h
step-carry (Removes path) files other loose maps more m is up h = subst (λ f. IsSpread (firmed path loose) (removed path f) m) is h
step-carry (Syncs path) files other loose maps more m is up h = h
step-carry (SyncsNames dir) files other loose maps more m is up h = h
step-carry Looks files other loose maps more m is up h = h

-- and do not change which paths it makes loose
pub step-loose : (deed : Deed) (files other : Files) (loose : List ℕ → Type 0) (maps more : Files → Type 0) (q : List ℕ)
    → (step_of deed).loose (record { files = files; loose = loose; maps = maps }) q → (step_of deed).loose (record { files = other; loose = loose; maps = more }) q
step-loose (Creates path) files other loose maps more q h = h
step-loose (Writes path piece) files other loose maps more q h = h
step-loose (Renames from to) files other loose maps more q h = h
step-loose (Removes path) files other loose maps more q h = h
step-loose (Syncs path) files other loose maps more q h = h
step-loose (SyncsNames dir) files other loose maps more q h = h
step-loose Looks files other loose maps more q h = h

-- a loose path may stay so
pub still_loose : (deed : Deed) (loss : Loss) (q : List ℕ) → loss.loose q → (step_of deed).loose loss q
still_loose (Creates path) loss q h = inr h
still_loose (Writes path piece) loss q h = inr h
still_loose (Renames from to) loss q h = inl h
still_loose (Removes path) loss q h = h
still_loose (Syncs path) loss q h = h
still_loose (SyncsNames dir) loss q h = h
still_loose Looks loss q h = h
