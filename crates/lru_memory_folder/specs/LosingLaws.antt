-- The spread of the map now is among what a loss of power may leave.
use Rattle.std.proofs.Common.{◌≡◌, ◌⊎◌, inl, inr, ⊎_elim, ◌≤◌, ℕ, zero, suc, List, [], ◌∷◌, length, take, Option, Some, None, is_some, refl, sym, ◌∙◌, ap, subst, arith}
use Rattle.std.specs.FinMap.{get}
use Rattle.lru_folder.specs.Files.{Files, moved}
use Rattle.lru_folder.specs.Losses.{IsSpread, IsOverwritten, Loss, loosened, handed_on}
use Rattle.lru_folder.proofs.FilesLemmas.{decide, alike}
use Rattle.lru_folder.proofs.LossLemmas.{put_back, get-put_back_same, get-put_back_other, spread-back, spread-appended}
use Rattle.lru_memory_folder.specs.declared.calls.End.{End}
use Rattle.lru_memory_folder.specs.declared.calls.End.TheVariants.{Done, NotFound, Failed}
use Rattle.lru_memory_folder.specs.Calls.{Deed, Creates, Writes, Renames, Removes, Syncs, SyncsNames, Looks, Noted, after}
use Rattle.lru_memory_folder.specs.Losing.{loose_moved, loss_after, loss_left, LostSince}

-- at its opening a folder loses nothing
pub opened_own : (files m : Files) → IsSpread (λ q. ⊥) files m → m ≡ files
opened_own files m h = alike m files (λ q. h.others q (λ l. l))

-- the spread of the map is among the maps
abbrev pub CountsOwn : Loss → Type 0
CountsOwn loss = (m : Files) → IsSpread loss.loose loss.files m → loss.maps m

-- where one path more is loose, a map is one that was there, with other bytes at that path
overwritten : (path : List ℕ) (loss : Loss) → CountsOwn loss → (m : Files) → IsSpread (loosened path loss.loose) loss.files m → IsOverwritten path loss.maps m
overwritten path loss own m h =
    let files = loss.files in
    let was = put_back path (get files path) m in (
      was,
      (
        own was (spread-back path (loosened path loss.loose) loss.loose files files m (λ q ne. refl) (λ q ne l. ⊎_elim (λ e. absurd (ne e)) (λ o. o) l) h),
        record {
          there = λ q. elim (decide q path) [
            | inl e ↦ subst (λ p. is_some (get m p) ≡ is_some (get was p)) (sym e) (h.there path ∙ ap is_some (sym (get-put_back_same path (get files path) m)))
            | inr ne ↦ ap is_some (sym (get-put_back_other path (get files path) m q ne))
          ];
          others = λ q ne. sym (get-put_back_other path (get files path) m q ne);
        },
      ),
    )

-- a rename of a path that is there spreads its map, and another adds nothing
own_moved : (from to : List ℕ) (there : Option (List ℕ)) (loss : Loss) → CountsOwn loss → (m : Files) → IsSpread (loose_moved there from to loss.loose) (moved from there to loss.files) m
    → loss.maps m ⊎ IsSpread (handed_on from to loss.loose) (moved from there to loss.files) m
own_moved from to None loss own m h = inl (own m h)
own_moved from to (Some bytes) loss own m h = inr h

own_done : (deed : Deed) (loss : Loss) → CountsOwn loss → CountsOwn (loss_after (record { deed = deed; end = Done }) loss)
own_done (Creates path) loss own m h = inr (inr h)
own_done (Writes path piece) loss own m h = inr (inr h)
own_done (Renames from to) loss own m h = own_moved from to (get loss.files from) loss own m h
own_done (Removes path) loss own m h = inr h
own_done (Syncs path) loss own m h = h
own_done (SyncsNames dir) loss own m h = (own m h, λ q here. (h.there q, h.others q))
own_done Looks loss own m h = inl (own m h)

own_none : (deed : Deed) (loss : Loss) → CountsOwn loss → CountsOwn (loss_after (record { deed = deed; end = NotFound }) loss)
own_none (Creates path) loss own m h = inr (inl (overwritten path loss own m h))
own_none (Writes path piece) loss own m h = inr (inl (overwritten path loss own m h))
own_none (Renames from to) loss own m h = inl (own m h)
own_none (Removes path) loss own m h = inl (own m h)
own_none (Syncs path) loss own m h = inl (own m h)
own_none (SyncsNames dir) loss own m h = inl (own m h)
own_none Looks loss own m h = inl (own m h)

own_failed : (deed : Deed) (part : ℕ) (loss : Loss) → CountsOwn loss → CountsOwn (loss_after (record { deed = deed; end = Failed part }) loss)
own_failed (Creates path) part loss own m h = inr (inl (overwritten path loss own m h))
own_failed (Writes path piece) part loss own m h = inr (inr (spread-appended path (take part piece) piece loss.loose loss.files m h))
own_failed (Renames from to) part loss own m h = inl (own m h)
own_failed (Removes path) part loss own m h = inl (own m h)
own_failed (Syncs path) part loss own m h = inl (own m h)
own_failed (SyncsNames dir) part loss own m h = inl (own m h)
own_failed Looks part loss own m h = inl (own m h)

pub own_after : (deed : Deed) (end : End) (loss : Loss) → CountsOwn loss → CountsOwn (loss_after (record { deed = deed; end = end }) loss)
own_after deed Done loss own = own_done deed loss own
own_after deed NotFound loss own = own_none deed loss own
own_after deed (Failed part) loss own = own_failed deed part loss own

pub own_left : (cs : List Noted) (loss : Loss) → CountsOwn loss → CountsOwn (loss_left cs loss)
own_left [] loss own = own
own_left (c ∷ cs) loss own = own_left cs (loss_after c loss) (own_after c.deed c.end loss own)

pub left-files : (cs : List Noted) (loss : Loss) → (loss_left cs loss).files ≡ after cs loss.files
left-files [] loss = refl
left-files (c ∷ cs) loss = left-files cs (loss_after c loss)

-- what is left could be left since any moment
pub LostSince-now : (cs : List Noted) (t : ℕ) (loss : Loss) (m : Files) → t ≤ length cs → (loss_left cs loss).maps m → LostSince cs t loss m
LostSince-now [] t loss m le h = h
LostSince-now (c ∷ cs) zero loss m le h = inr (LostSince-now cs zero (loss_after c loss) m (omega arith) h)
LostSince-now (c ∷ cs) (suc t) loss m le h = LostSince-now cs t (loss_after c loss) m (omega arith) h
