-- Which calls a loss keeps, one call more.
use Rattle.std.proofs.Common.{◌≡◌, inl, ◌||◌, ℕ, zero, suc, Bool, true, false, cond, List, [], ◌∷◌, ◌++◌, length, Option, Some, None, is_some, refl, sym, ◌∙◌, ap, subst, arith}
use Rattle.std.specs.Prelude.{IsSome, MatchOption}
use Rattle.std.specs.List.{list_any}
use Rattle.std.specs.FinMap.{from_entries, get}
use Rattle.std.proofs.Math.Bool.{or-true}
use Rattle.std.proofs.lemmas.Bool.{cond-true, cond-false}
use Rattle.std.proofs.lemmas.List.{append_assoc, append-nil}
use Rattle.std.proofs.lemmas.List.Folds.{list_any-append}
use Rattle.lru_folder.specs.Files.{Files}
use Rattle.lru_folder.specs.Losses.{Loss, at_opening}
use Rattle.lru_memory_folder.specs.declared.calls.End.{End}
use Rattle.lru_memory_folder.specs.declared.calls.End.TheVariants.{Done, NotFound, Failed}
use Rattle.lru_memory_folder.specs.Calls.{Deed, Creates, Writes, Renames, Removes, Syncs, SyncsNames, Looks, Noted}
use Rattle.lru_memory_folder.specs.History.{History, with_call}
use Rattle.lru_memory_folder.specs.Kept.{IsMarked, changes_names, is_synced, within, kept}
use Rattle.lru_memory_folder.specs.Losing.{maps_after, loss_after, loss_left}
use Rattle.lru_memory_folder.specs.LosingLaws.{own_left, opened_own, LostSince-now}
use Rattle.lru_memory_folder.specs.Memory.{Memory, clock_of, lost_since_of, loss_kept}
use Rattle.lru_memory_folder.specs.ReplayInside.{loss_in, kept_of, kept_then, KeepsAll, HasChosen, Counts}

first_none : (a b : Bool) → (a || b) ≡ false → a ≡ false
first_none true b e = e
first_none false b e = refl

rest_none : (a b : Bool) → (a || b) ≡ false → b ≡ false
rest_none true b e = absurd (let f : ⊥ = cc in f)
rest_none false b e = e

-- up to a sync all calls are kept
kept-more : (names : ℕ) (cs ds : List Noted) → list_any is_synced ds ≡ true → kept names (cs ++ ds) ≡ cs ++ kept names ds
kept-more names [] ds h = refl
kept-more names (c ∷ cs) ds h =
    cond-true _ _ _ (list_any-append is_synced (c ∷ cs) ds ∙ ap (λ b. list_any is_synced (c ∷ cs) || b) h ∙ or-true (list_any is_synced (c ∷ cs)))
    ∙ ap (λ l. c ∷ l) (kept-more names cs ds h)

kept-sync : (names : ℕ) (c : Noted) (ds : List Noted) → is_synced c ≡ true → kept names (c ∷ ds) ≡ c ∷ kept names ds
kept-sync names c ds e = cond-true _ _ _ (ap (λ b. b || list_any is_synced ds) e)

kept-none : (names : ℕ) (ds : List Noted) → list_any is_synced ds ≡ false → kept names ds ≡ within names ds
kept-none names [] e = refl
kept-none names (d ∷ ds) e = cond-false _ _ _ e

-- after a sync, and at the start
kept_then-all : (names : ℕ) (ds : List Noted) → kept_then names names ds ≡ kept names ds
kept_then-all names ds = elim (list_any is_synced ds) as (λ b. list_any is_synced ds ≡ b → cond b (kept names ds) (within names ds) ≡ kept names ds) [
  | true ↦ λ e. refl
  | false ↦ λ e. sym (kept-none names ds e)
] refl

chosen_once : (s b : Bool) (x y z : List Noted) → s ≡ false → cond (s || b) (cond (s || b) x y) z ≡ cond b x z
chosen_once true b x y z e = absurd (let f : ⊥ = cc in f)
chosen_once false true x y z e = refl
chosen_once false false x y z e = refl

-- a call that is no sync, and is kept
kept_then-more : (names left after : ℕ) (c : Noted) (ds : List Noted) → is_synced c ≡ false → within left (c ∷ ds) ≡ c ∷ within after ds
    → kept_then left names (c ∷ ds) ≡ c ∷ kept_then after names ds
kept_then-more names left after c ds none more =
    chosen_once (is_synced c) (list_any is_synced ds) (c ∷ kept names ds) (within names (c ∷ ds)) (within left (c ∷ ds)) none
    ∙ ap (λ l. cond (list_any is_synced ds) (c ∷ kept names ds) l) more
    ∙ (elim (list_any is_synced ds) as (λ b. cond b (c ∷ kept names ds) (c ∷ within after ds) ≡ c ∷ cond b (kept names ds) (within after ds)) [ true ↦ refl | false ↦ refl ])

within-names : (n : ℕ) (c : Noted) (ds : List Noted) → changes_names c ≡ true → within (suc n) (c ∷ ds) ≡ c ∷ within n ds
within-names n c ds e = ap (λ l. c ∷ l) (cond-true _ _ _ e)

within-end : (c : Noted) (ds : List Noted) → changes_names c ≡ true → within zero (c ∷ ds) ≡ []
within-end c ds e = cond-true _ _ _ e

within-others : (n : ℕ) (c : Noted) (ds : List Noted) → changes_names c ≡ false → within n (c ∷ ds) ≡ c ∷ within n ds
within-others zero c ds e = cond-false _ _ _ e
within-others (suc n) c ds e = ap (λ l. c ∷ l) (cond-false _ _ _ e)

-- all calls so far are kept, and one more is
keeps_on : (names left after : ℕ) (cs : List Noted) (c : Noted) → KeepsAll names cs left → is_synced c ≡ false
    → ((ds : List Noted) → within left (c ∷ ds) ≡ c ∷ within after ds) → KeepsAll names (cs ++ c ∷ []) after
keeps_on names left after cs c all none more = λ ds.
    ap (kept names) (append_assoc cs (c ∷ []) ds) ∙ all (c ∷ ds) ∙ ap (λ l. cs ++ l) (kept_then-more names left after c ds none (more ds))
    ∙ sym (append_assoc cs (c ∷ []) (kept_then after names ds))

keeps_synced : (names : ℕ) (cs : List Noted) (c : Noted) → is_synced c ≡ true → KeepsAll names (cs ++ c ∷ []) names
keeps_synced names cs c e = λ ds.
    ap (kept names) (append_assoc cs (c ∷ []) ds) ∙ kept-more names cs (c ∷ ds) (ap (λ b. b || list_any is_synced ds) e)
    ∙ ap (λ l. cs ++ l) (kept-sync names c ds e ∙ ap (λ l. c ∷ l) (sym (kept_then-all names ds)))
    ∙ sym (append_assoc cs (c ∷ []) (kept_then names names ds))

pub keeps_start : (names : ℕ) → KeepsAll names [] names
keeps_start names = λ ds. sym (kept_then-all names ds)

-- the first change of names that is not kept
chooses : (names byte : ℕ) (h : History) (c : Noted) (lost : Files) → KeepsAll names h.calls zero → is_synced c ≡ false → changes_names c ≡ true
    → IsMarked byte (loss_in h) lost → HasChosen names byte (with_call h c.deed c.end) lost
chooses names byte h c lost all none names_change mark = record {
  calls = h.calls;
  stay = λ ds rest.
      ap (kept names) (append_assoc h.calls (c ∷ []) ds) ∙ all (c ∷ ds)
      ∙ ap (λ l. h.calls ++ l) (cond-false _ _ _ (ap (λ b. b || list_any is_synced ds) none ∙ rest) ∙ within-end c ds names_change)
      ∙ append-nil h.calls;
  left = mark;
}

chosen_stays : (names byte : ℕ) (h : History) (c : Noted) (files : Files) → is_synced c ≡ false → HasChosen names byte h files → HasChosen names byte (with_call h c.deed c.end) files
chosen_stays names byte h c files none chosen = record {
  calls = chosen.calls;
  stay = λ ds rest. ap (kept names) (append_assoc h.calls (c ∷ []) ds) ∙ chosen.stay (c ∷ ds) (ap (λ b. b || list_any is_synced ds) none ∙ rest);
  left = chosen.left;
}

-- in the end
pub marked_start : (byte : ℕ) (files lost : Files) → lost ≡ files → IsMarked byte (at_opening files) lost
marked_start byte files lost same = record {
  spread = record { there = λ q. ap (λ m. is_some (get m q)) same; others = λ q firm. ap (λ m. get m q) same };
  marked = λ q bytes l here. absurd l;
}

pub marked_chosen : (names byte : ℕ) (h : History) (files : Files) → HasChosen names byte h files → IsMarked byte (loss_in (kept_of names h)) files
marked_chosen names byte h files chosen =
    subst (λ (cs : List Noted). IsMarked byte (loss_left cs (at_opening (from_entries h.begun))) files) (sym (chosen.stay [] refl) ∙ ap (kept names) (append-nil h.calls)) chosen.left

pub marked_all : (names byte left : ℕ) (h : History) (files : Files) → KeepsAll names h.calls left → IsMarked byte (loss_in h) files → IsMarked byte (loss_in (kept_of names h)) files
marked_all names byte left h files all mark =
    subst (λ (cs : List Noted). IsMarked byte (loss_left cs (at_opening (from_entries h.begun))) files)
    (sym (append-nil h.calls) ∙ sym (all []) ∙ ap (kept names) (append-nil h.calls)) mark

-- What may be lost of the calls that are kept may be lost of all.
still_done : (deed : Deed) (loss : Loss) (m : Files) → is_synced (record { deed = deed; end = Done }) ≡ false → loss.maps m → maps_after deed Done loss m
still_done (Creates path) loss m none h = inl h
still_done (Writes path piece) loss m none h = inl h
still_done (Renames from to) loss m none h = inl h
still_done (Removes path) loss m none h = inl h
still_done (Syncs path) loss m none h = absurd (let f : ⊥ = cc in f)
still_done (SyncsNames dir) loss m none h = absurd (let f : ⊥ = cc in f)
still_done Looks loss m none h = inl h

still_lost : (deed : Deed) (end : End) (loss : Loss) (m : Files) → is_synced (record { deed = deed; end = end }) ≡ false → loss.maps m → maps_after deed end loss m
still_lost deed Done loss m none h = still_done deed loss m none h
still_lost deed NotFound loss m none h = inl h
still_lost deed (Failed part) loss m none h = inl h

stays_lost : (cs : List Noted) (loss : Loss) (m : Files) → list_any is_synced cs ≡ false → loss.maps m → (loss_left cs loss).maps m
stays_lost [] loss m none h = h
stays_lost (c ∷ cs) loss m none h =
    stays_lost cs (loss_after c loss) m (rest_none (is_synced c) (list_any is_synced cs) none) (still_lost c.deed c.end loss m (first_none (is_synced c) (list_any is_synced cs) none) h)

within_lost : (n : ℕ) (cs : List Noted) (loss : Loss) (m : Files) → list_any is_synced cs ≡ false → (loss_left (within n cs) loss).maps m → (loss_left cs loss).maps m
within_lost n [] loss m none h = h
within_lost zero (c ∷ cs) loss m none h =
    (elim (changes_names c) as (λ b. (loss_left (cond b [] (c ∷ within zero cs)) loss).maps m → (loss_left (c ∷ cs) loss).maps m) [
      | true ↦ λ k. stays_lost (c ∷ cs) loss m none k
      | false ↦ λ k. within_lost zero cs (loss_after c loss) m (rest_none (is_synced c) (list_any is_synced cs) none) k
    ]) h
within_lost (suc n) (c ∷ cs) loss m none h =
    (elim (changes_names c) as (λ b. (loss_left (c ∷ cond b (within n cs) (within (suc n) cs)) loss).maps m → (loss_left (c ∷ cs) loss).maps m) [
      | true ↦ λ k. within_lost n cs (loss_after c loss) m (rest_none (is_synced c) (list_any is_synced cs) none) k
      | false ↦ λ k. within_lost (suc n) cs (loss_after c loss) m (rest_none (is_synced c) (list_any is_synced cs) none) k
    ]) h

kept_lost : (names : ℕ) (cs : List Noted) (loss : Loss) (m : Files) → (loss_left (kept names cs) loss).maps m → (loss_left cs loss).maps m
kept_lost names [] loss m h = h
kept_lost names (c ∷ cs) loss m h =
    (elim (list_any is_synced (c ∷ cs)) as (λ b. list_any is_synced (c ∷ cs) ≡ b → (loss_left (cond b (c ∷ kept names cs) (within names (c ∷ cs))) loss).maps m → (loss_left (c ∷ cs) loss).maps m) [
      | true ↦ λ e k. kept_lost names cs (loss_after c loss) m k
      | false ↦ λ e k. within_lost names (c ∷ cs) loss m e k
    ]) refl h

pub marked_lost : (names byte : ℕ) (m : Memory) (files : Files) → IsMarked byte (loss_kept names m) files → lost_since_of m (clock_of m) files
marked_lost names byte m files mark =
    let start = at_opening (from_entries m.begun) in
    LostSince-now m.calls (length m.calls) start files (omega arith)
    (kept_lost names m.calls start files (own_left (kept names m.calls) start (opened_own (from_entries m.begun)) files mark.spread))

-- one call more, which is no sync
module _ {A : Type 0} (names byte : ℕ) (h : History) (c : Noted) (files : A → Files) (lost : Files) (mark : IsMarked byte (loss_in h) lost) (none : is_synced c ≡ false) where
  abbrev Chosen : Option A → ℕ → Type 0
  Chosen o left = MatchOption o (KeepsAll names (h.calls ++ c ∷ []) left) (λ f. HasChosen names byte (with_call h c.deed c.end) (files f))

  counted : (e : changes_names c ≡ true) (had left : ℕ) (new : Option A) → Counts new files had lost left → KeepsAll names h.calls had → Chosen new left
  counted e zero left None count all = absurd count
  counted e zero left (Some f) count all = subst (λ (m : Files). HasChosen names byte (with_call h c.deed c.end) m) (sym count) (chooses names byte h c lost all none e mark)
  counted e (suc n) left new count all =
      subst (λ (o : Option A). Chosen o left) (sym count.0)
      (subst (λ (l : ℕ). KeepsAll names (h.calls ++ c ∷ []) l) (sym count.1) (keeps_on names (suc n) n h.calls c all none (λ ds. within-names n c ds e)))

  not_synced : (had left : ℕ) (old new : Option A) → (IsSome old → new ≡ old) → (changes_names c ≡ false → (new ≡ old) × (left ≡ had))
      → (changes_names c ≡ true → old ≡ None → Counts new files had lost left)
      → MatchOption old (KeepsAll names h.calls had) (λ f. HasChosen names byte h (files f)) → Chosen new left
  not_synced had left None new stays others counts before =
      (elim (changes_names c) as (λ b. changes_names c ≡ b → Chosen new left) [
        | true ↦ λ e. counted e had left new (counts e refl) before
        | false ↦ λ e.
            subst (λ (o : Option A). Chosen o left) (sym (others e).0)
            (subst (λ (l : ℕ). KeepsAll names (h.calls ++ c ∷ []) l) (sym (others e).1) (keeps_on names had had h.calls c before none (λ ds. within-others had c ds e)))
      ]) refl
  not_synced had left (Some f) new stays others counts before =
      subst (λ (o : Option A). Chosen o left) (sym (stays refl)) (chosen_stays names byte h c (files f) none before)

-- one call more
pub replay_chosen : {A : Type 0} (names byte : ℕ) (h : History) (c : Noted) (files : A → Files) (lost : Files) (old new : Option A) (had left : ℕ)
    → IsMarked byte (loss_in h) lost
    → (is_synced c ≡ true → (new ≡ None) × (left ≡ names))
    → (is_synced c ≡ false → IsSome old → new ≡ old)
    → (is_synced c ≡ false → changes_names c ≡ false → (new ≡ old) × (left ≡ had))
    → (is_synced c ≡ false → changes_names c ≡ true → old ≡ None → Counts new files had lost left)
    → MatchOption old (KeepsAll names h.calls had) (λ f. HasChosen names byte h (files f))
    → MatchOption new (KeepsAll names (h.calls ++ c ∷ []) left) (λ f. HasChosen names byte (with_call h c.deed c.end) (files f))
replay_chosen {A} names byte h c files lost old new had left mark sync stays others counts before =
    (elim (is_synced c) as (λ s. is_synced c ≡ s → MatchOption new (KeepsAll names (h.calls ++ c ∷ []) left) (λ f. HasChosen names byte (with_call h c.deed c.end) (files f))) [
      | true ↦ λ e.
          subst (λ (o : Option A). MatchOption o (KeepsAll names (h.calls ++ c ∷ []) left) (λ f. HasChosen names byte (with_call h c.deed c.end) (files f))) (sym (sync e).0)
          (subst (λ (l : ℕ). KeepsAll names (h.calls ++ c ∷ []) l) (sym (sync e).1) (keeps_synced names h.calls c e))
      | false ↦ λ e. not_synced names byte h c files lost mark e had left old new (stays e) (others e) (counts e) before
    ]) refl
