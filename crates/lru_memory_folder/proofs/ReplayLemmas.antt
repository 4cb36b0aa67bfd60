-- One call more, made again.
use Rattle.std.proofs.Common.{◌≡◌, ◌≢◌, inl, inr, ℕ, true, false, List, [], ◌∷◌, ◌++◌, take, Option, Some, None, is_some, refl, sym, ◌∙◌, ap, subst}
use Rattle.std.specs.Prelude.{option_map}
use Rattle.std.specs.FinMap.{get, insert, remove}
use Rattle.lru_folder.specs.Files.{Files, bytes_at, created, appended, moved, renamed, removed}
use Rattle.lru_folder.specs.Losses.{IsSpread, Loss, loosened, firmed, handed_on}
use Rattle.lru_folder.proofs.FilesLemmas.{decide, get-insert_same, get-insert_other, get-remove_same, get-remove_other}
use Rattle.lru_memory_folder.specs.declared.calls.End.{End}
use Rattle.lru_memory_folder.specs.declared.calls.End.TheVariants.{Done, NotFound, Failed}
use Rattle.lru_memory_folder.specs.Calls.{Deed, Creates, Writes, Renames, Removes, Syncs, SyncsNames, Looks, Noted, ended}
use Rattle.lru_memory_folder.specs.Kept.{IsMarked}
use Rattle.lru_memory_folder.specs.Losing.{loose_moved, loose_after, loss_after, loss_left}
use Rattle.lru_memory_folder.specs.MarksInside.{put_some, marked, lost_after}

-- a map with other bytes at a path, where both have some or neither has
module _ (loose before : List ℕ → Type 0) (path : List ℕ) (was held lost : Files) (h : IsSpread before was lost)
    (same : (q : List ℕ) → q ≢ path → get held q ≡ get was q) (less : (q : List ℕ) → q ≢ path → before q → loose q) where
  elsewhere : (q : List ℕ) → q ≢ path → ¬ loose q → get lost q ≡ get held q
  elsewhere q ne firm = h.others q (λ l. firm (less q ne l)) ∙ sym (same q ne)

  -- it is not there
  kept_none : get held path ≡ None → get was path ≡ None → IsSpread loose held lost
  kept_none none gone =
      let at_path : is_some (get lost path) ≡ is_some (get held path) = h.there path ∙ ap is_some (gone ∙ sym none) in
      let lost_none : get lost path ≡ None = unsome (get lost path) (at_path ∙ ap is_some none) in
      record {
        there = λ q. elim (decide q path) [
          | inl e ↦ subst (λ p. is_some (get lost p) ≡ is_some (get held p)) (sym e) at_path
          | inr ne ↦ h.there q ∙ ap is_some (sym (same q ne))
        ];
        others = λ q firm. elim (decide q path) [
          | inl e ↦ subst (λ p. get lost p ≡ get held p) (sym e) (lost_none ∙ sym none)
          | inr ne ↦ elsewhere q ne firm
        ];
      }
    where
      unsome : (o : Option (List ℕ)) → is_some o ≡ false → o ≡ None
      unsome None e = refl
      unsome (Some b) e = absurd (let f : ⊥ = cc in f)

  -- it has these bytes, and others where it is loose
  kept_some : (bytes other : List ℕ) → get held path ≡ Some bytes → (¬ loose path → other ≡ bytes) → IsSpread loose held (insert lost path other)
  kept_some bytes other here so = record {
    there = λ q. elim (decide q path) [
      | inl e ↦ subst (λ p. is_some (get (insert lost path other) p) ≡ is_some (get held p)) (sym e) (ap is_some (get-insert_same lost path other) ∙ sym (ap is_some here))
      | inr ne ↦ ap is_some (get-insert_other lost path other q ne) ∙ h.there q ∙ ap is_some (sym (same q ne))
    ];
    others = λ q firm. elim (decide q path) [
      | inl e ↦ subst (λ p. ¬ loose p → get (insert lost path other) p ≡ get held p) (sym e) (λ f. get-insert_same lost path other ∙ ap (λ (b : List ℕ). Some b) (so f) ∙ sym here) firm
      | inr ne ↦ get-insert_other lost path other q ne ∙ elsewhere q ne firm
    ];
  }

-- a path that may hold anything
mark_spread : (loose : List ℕ → Type 0) (path : List ℕ) (byte : ℕ) (was held lost : Files) → IsSpread loose was lost → ((q : List ℕ) → q ≢ path → get held q ≡ get was q)
    → (get held path ≡ None → get was path ≡ None) → IsSpread (loosened path loose) held (marked path byte held lost)
mark_spread loose path byte was held lost h same gone =
    elim (get held path) as (λ o. get held path ≡ o → IsSpread (loosened path loose) held (put_some path (option_map (λ _. byte ∷ []) o) lost)) [
      | None ↦ λ none. kept_none (loosened path loose) loose path was held lost h same (λ q ne l. inr l) none (gone none)
      | Some bytes ↦ λ here. kept_some (loosened path loose) loose path was held lost h same (λ q ne l. inr l) bytes (byte ∷ []) here (λ firm. absurd (firm (inl refl)))
    ] refl

-- a path that has the file's bytes
restore_spread : (loose before : List ℕ → Type 0) (path : List ℕ) (was lost : Files) → IsSpread before was lost → ((q : List ℕ) → q ≢ path → before q → loose q)
    → IsSpread loose was (put_some path (get was path) lost)
restore_spread loose before path was lost h less =
    elim (get was path) as (λ o. get was path ≡ o → IsSpread loose was (put_some path o lost)) [
      | None ↦ λ none. kept_none loose before path was was lost h (λ q ne. refl) less none none
      | Some bytes ↦ λ here. kept_some loose before path was was lost h (λ q ne. refl) less bytes bytes here (λ firm. refl)
    ] refl

some_then : (o : Option (List ℕ)) (c : List ℕ) → is_some o ≡ is_some (Some c) → (b : List ℕ) × (o ≡ Some b)
some_then None c e = absurd (let f : ⊥ = cc in f)
some_then (Some b) c e = (b, refl)

none_then : (o : Option (List ℕ)) → is_some o ≡ false → o ≡ None
none_then None e = refl
none_then (Some b) e = absurd (let f : ⊥ = cc in f)

remove_spread : (loose : List ℕ → Type 0) (path : List ℕ) (was lost : Files) → IsSpread loose was lost → IsSpread (firmed path loose) (removed path was) (removed path lost)
remove_spread loose path was lost h = record {
  there = λ q. elim (decide q path) [
    | inl e ↦ subst (λ p. is_some (get (remove lost path) p) ≡ is_some (get (remove was path) p)) (sym e) (ap is_some (get-remove_same lost path) ∙ sym (ap is_some (get-remove_same was path)))
    | inr ne ↦ ap is_some (get-remove_other lost path q ne) ∙ h.there q ∙ sym (ap is_some (get-remove_other was path q ne))
  ];
  others = λ q firm. elim (decide q path) [
    | inl e ↦ subst (λ p. get (remove lost path) p ≡ get (remove was path) p) (sym e) (get-remove_same lost path ∙ sym (get-remove_same was path))
    | inr ne ↦ get-remove_other lost path q ne ∙ h.others q (λ l. firm (ne, l)) ∙ sym (get-remove_other was path q ne)
  ];
}

-- a name given away, with its bytes
give_spread : (loose : List ℕ → Type 0) (from to bytes other : List ℕ) (was lost : Files) → IsSpread loose was lost → get was from ≡ Some bytes → get lost from ≡ Some other
    → IsSpread (handed_on from to loose) (insert (remove was from) to bytes) (insert (remove lost from) to other)
give_spread loose from to bytes other was lost h here there = record {
  there = λ q. elim (decide q to) [
    | inl e ↦ subst (λ p. is_some (get (insert (remove lost from) to other) p) ≡ is_some (get (insert (remove was from) to bytes) p)) (sym e)
        (ap is_some (get-insert_same (remove lost from) to other) ∙ sym (ap is_some (get-insert_same (remove was from) to bytes)))
    | inr ne ↦ ap is_some (get-insert_other (remove lost from) to other q ne) ∙ (remove_spread loose from was lost h).there q ∙ sym (ap is_some (get-insert_other (remove was from) to bytes q ne))
  ];
  others = λ q firm. elim (decide q to) [
    | inl e ↦ subst (λ p. ¬ handed_on from to loose p → get (insert (remove lost from) to other) p ≡ get (insert (remove was from) to bytes) p) (sym e)
        (λ f. get-insert_same (remove lost from) to other ∙ sym there ∙ h.others from (λ l. f (inl (refl, l))) ∙ here ∙ sym (get-insert_same (remove was from) to bytes)) firm
    | inr ne ↦ get-insert_other (remove lost from) to other q ne ∙ (remove_spread loose from was lost h).others q (λ l. firm (inr (l.0, (ne, l.1)))) ∙ sym (get-insert_other (remove was from) to bytes q ne)
  ];
}

rename_spread : (loose : List ℕ → Type 0) (from to : List ℕ) (was lost : Files) → IsSpread loose was lost
    → IsSpread (loose_moved (get was from) from to loose) (renamed from to was) (renamed from to lost)
rename_spread loose from to was lost h =
    elim (get was from) as (λ o. get was from ≡ o → IsSpread (loose_moved o from to loose) (moved from o to was) (moved from (get lost from) to lost)) [
      | None ↦ λ none. subst (λ o. IsSpread loose was (moved from o to lost)) (sym (none_then (get lost from) (h.there from ∙ ap is_some none))) h
      | Some bytes ↦ λ here.
          let other = some_then (get lost from) bytes (h.there from ∙ ap is_some here) in
          subst (λ o. IsSpread (handed_on from to loose) (insert (remove was from) to bytes) (moved from o to lost)) (sym other.1)
          (give_spread loose from to bytes other.0 was lost h here other.1)
    ] refl

some_not : (bytes : List ℕ) (o p : Option (List ℕ)) → o ≡ Some bytes → o ≡ None → p ≡ None
some_not bytes o p here none = absurd (let f : ⊥ = cc in f)

spread_done : (deed : Deed) (byte : ℕ) (loose : List ℕ → Type 0) (was lost : Files) → IsSpread loose was lost
    → IsSpread (loose_after deed Done was loose) (ended deed Done was) (lost_after deed Done byte (ended deed Done was) lost)
spread_done (Creates path) byte loose was lost h =
    mark_spread loose path byte was (created path was) lost h (λ q ne. get-insert_other was path [] q ne) (some_not [] (get (created path was) path) (get was path) (get-insert_same was path []))
spread_done (Writes path piece) byte loose was lost h =
    mark_spread loose path byte was (appended path piece was) lost h (λ q ne. get-insert_other was path (bytes_at was path ++ piece) q ne)
    (some_not (bytes_at was path ++ piece) (get (appended path piece was) path) (get was path) (get-insert_same was path (bytes_at was path ++ piece)))
spread_done (Renames from to) byte loose was lost h = rename_spread loose from to was lost h
spread_done (Removes path) byte loose was lost h = remove_spread loose path was lost h
spread_done (Syncs path) byte loose was lost h = restore_spread (firmed path loose) loose path was lost h (λ q ne l. (ne, l))
spread_done (SyncsNames dir) byte loose was lost h = h
spread_done Looks byte loose was lost h = h

spread_none : (deed : Deed) (byte : ℕ) (loose : List ℕ → Type 0) (was lost : Files) → IsSpread loose was lost
    → IsSpread (loose_after deed NotFound was loose) was (lost_after deed NotFound byte was lost)
spread_none (Creates path) byte loose was lost h = mark_spread loose path byte was was lost h (λ q ne. refl) (λ none. none)
spread_none (Writes path piece) byte loose was lost h = mark_spread loose path byte was was lost h (λ q ne. refl) (λ none. none)
spread_none (Renames from to) byte loose was lost h = h
spread_none (Removes path) byte loose was lost h = h
spread_none (Syncs path) byte loose was lost h = h
spread_none (SyncsNames dir) byte loose was lost h = h
spread_none Looks byte loose was lost h = h

spread_failed : (deed : Deed) (part byte : ℕ) (loose : List ℕ → Type 0) (was lost : Files) → IsSpread loose was lost
    → IsSpread (loose_after deed (Failed part) was loose) (ended deed (Failed part) was) (lost_after deed (Failed part) byte (ended deed (Failed part) was) lost)
spread_failed (Creates path) part byte loose was lost h = mark_spread loose path byte was was lost h (λ q ne. refl) (λ none. none)
spread_failed (Writes path piece) part byte loose was lost h =
    mark_spread loose path byte was (appended path (take part piece) was) lost h (λ q ne. get-insert_other was path (bytes_at was path ++ take part piece) q ne)
    (some_not (bytes_at was path ++ take part piece) (get (appended path (take part piece) was) path) (get was path) (get-insert_same was path (bytes_at was path ++ take part piece)))
spread_failed (Renames from to) part byte loose was lost h = h
spread_failed (Removes path) part byte loose was lost h = h
spread_failed (Syncs path) part byte loose was lost h = h
spread_failed (SyncsNames dir) part byte loose was lost h = h
spread_failed Looks part byte loose was lost h = h

-- the marked map stays in the spread
spread_after : (deed : Deed) (end : End) (byte : ℕ) (loose : List ℕ → Type 0) (was lost : Files) → IsSpread loose was lost
    → IsSpread (loose_after deed end was loose) (ended deed end was) (lost_after deed end byte (ended deed end was) lost)
spread_after deed Done byte loose was lost h = spread_done deed byte loose was lost h
spread_after deed NotFound byte loose was lost h = spread_none deed byte loose was lost h
spread_after deed (Failed part) byte loose was lost h = spread_failed deed part byte loose was lost h

-- the one byte at a path that may hold anything
mark_marked : (loose : List ℕ → Type 0) (path : List ℕ) (byte : ℕ) (held lost : Files) → IsSpread (loosened path loose) held (marked path byte held lost)
    → ((q bytes : List ℕ) → loose q → get lost q ≡ Some bytes → bytes ≡ byte ∷ [])
    → (q bytes : List ℕ) → loosened path loose q → get (marked path byte held lost) q ≡ Some bytes → bytes ≡ byte ∷ []
mark_marked loose path byte held lost spread old =
    elim (get held path) as (λ o. get held path ≡ o → IsSpread (loosened path loose) held (put_some path (option_map (λ _. byte ∷ []) o) lost)
    → (q bytes : List ℕ) → loosened path loose q → get (put_some path (option_map (λ _. byte ∷ []) o) lost) q ≡ Some bytes → bytes ≡ byte ∷ []) [
      | None ↦ λ none s q bytes l here. elim l [
        | inl e ↦
            let gone : is_some (get held q) ≡ false = ap (λ p. is_some (get held p)) e ∙ ap is_some none in
            let there : is_some (get held q) ≡ true = sym (s.there q) ∙ ap is_some here in
            absurd (let f : ⊥ = cc in f)
        | inr o ↦ old q bytes o here
      ]
      | Some had ↦ λ is s q bytes l here. elim (decide q path) [
        | inl e ↦
            let one : get (insert lost path (byte ∷ [])) q ≡ Some (byte ∷ []) = ap (get (insert lost path (byte ∷ []))) e ∙ get-insert_same lost path (byte ∷ []) in
            cc
        | inr ne ↦ elim l [
          | inl e ↦ absurd (ne e)
          | inr o ↦ old q bytes o (sym (get-insert_other lost path (byte ∷ []) q ne) ∙ here)
        ]
      ]
    ] refl spread

-- at a path that was synced there is none
restore_marked : (loose : List ℕ → Type 0) (path : List ℕ) (byte : ℕ) (had : Option (List ℕ)) (lost : Files) → ((q bytes : List ℕ) → loose q → get lost q ≡ Some bytes → bytes ≡ byte ∷ [])
    → (q bytes : List ℕ) → firmed path loose q → get (put_some path had lost) q ≡ Some bytes → bytes ≡ byte ∷ []
restore_marked loose path byte None lost old q bytes l here = old q bytes l.1 here
restore_marked loose path byte (Some had) lost old q bytes l here = old q bytes l.1 (sym (get-insert_other lost path had q l.0) ∙ here)

give_marked : (loose : List ℕ → Type 0) (from to other : List ℕ) (byte : ℕ) (lost : Files) → get lost from ≡ Some other
    → ((q bytes : List ℕ) → loose q → get lost q ≡ Some bytes → bytes ≡ byte ∷ [])
    → (q bytes : List ℕ) → handed_on from to loose q → get (insert (remove lost from) to other) q ≡ Some bytes → bytes ≡ byte ∷ []
give_marked loose from to other byte lost there old q bytes (inl l) here =
    let one : other ≡ byte ∷ [] = old from other l.1 there in
    let at : get (insert (remove lost from) to other) q ≡ Some other = ap (get (insert (remove lost from) to other)) l.0 ∙ get-insert_same (remove lost from) to other in
    cc
give_marked loose from to other byte lost there old q bytes (inr l) here =
    old q bytes l.1.1 (sym (get-insert_other (remove lost from) to other q l.1.0 ∙ get-remove_other lost from q l.0) ∙ here)

rename_marked : (loose : List ℕ → Type 0) (from to : List ℕ) (byte : ℕ) (was lost : Files) → IsSpread loose was lost
    → ((q bytes : List ℕ) → loose q → get lost q ≡ Some bytes → bytes ≡ byte ∷ [])
    → (q bytes : List ℕ) → loose_moved (get was from) from to loose q → get (renamed from to lost) q ≡ Some bytes → bytes ≡ byte ∷ []
rename_marked loose from to byte was lost h old q bytes =
    elim (get was from) as (λ o. get was from ≡ o → loose_moved o from to loose q → get (moved from (get lost from) to lost) q ≡ Some bytes → bytes ≡ byte ∷ []) [
      | None ↦ λ none l. subst (λ o. get (moved from o to lost) q ≡ Some bytes → bytes ≡ byte ∷ []) (sym (none_then (get lost from) (h.there from ∙ ap is_some none))) (old q bytes l)
      | Some had ↦ λ is l.
          let other = some_then (get lost from) had (h.there from ∙ ap is_some is) in
          subst (λ o. get (moved from o to lost) q ≡ Some bytes → bytes ≡ byte ∷ []) (sym other.1) (give_marked loose from to other.0 byte lost other.1 old q bytes l)
    ] refl

module _ (byte : ℕ) (loose : List ℕ → Type 0) (was lost : Files) (s : IsSpread loose was lost) (old : (q bytes : List ℕ) → loose q → get lost q ≡ Some bytes → bytes ≡ byte ∷ []) where
  marked_done : (deed : Deed) (q bytes : List ℕ) → loose_after deed Done was loose q → get (lost_after deed Done byte (ended deed Done was) lost) q ≡ Some bytes → bytes ≡ byte ∷ []
  marked_done (Creates path) = mark_marked loose path byte (created path was) lost (spread_done (Creates path) byte loose was lost s) old
  marked_done (Writes path piece) = mark_marked loose path byte (appended path piece was) lost (spread_done (Writes path piece) byte loose was lost s) old
  marked_done (Renames from to) = rename_marked loose from to byte was lost s old
  marked_done (Removes path) = λ q bytes l here. old q bytes l.1 (sym (get-remove_other lost path q l.0) ∙ here)
  marked_done (Syncs path) = restore_marked loose path byte (get was path) lost old
  marked_done (SyncsNames dir) = old
  marked_done Looks = old

  marked_none : (deed : Deed) (q bytes : List ℕ) → loose_after deed NotFound was loose q → get (lost_after deed NotFound byte was lost) q ≡ Some bytes → bytes ≡ byte ∷ []
  marked_none (Creates path) = mark_marked loose path byte was lost (spread_none (Creates path) byte loose was lost s) old
  marked_none (Writes path piece) = mark_marked loose path byte was lost (spread_none (Writes path piece) byte loose was lost s) old
  marked_none (Renames from to) = old
  marked_none (Removes path) = old
  marked_none (Syncs path) = old
  marked_none (SyncsNames dir) = old
  marked_none Looks = old

  marked_failed : (part : ℕ) (deed : Deed) (q bytes : List ℕ) → loose_after deed (Failed part) was loose q
      → get (lost_after deed (Failed part) byte (ended deed (Failed part) was) lost) q ≡ Some bytes → bytes ≡ byte ∷ []
  marked_failed part (Creates path) = mark_marked loose path byte was lost (spread_failed (Creates path) part byte loose was lost s) old
  marked_failed part (Writes path piece) =
      mark_marked loose path byte (appended path (take part piece) was) lost (spread_failed (Writes path piece) part byte loose was lost s) old
  marked_failed part (Renames from to) = old
  marked_failed part (Removes path) = old
  marked_failed part (Syncs path) = old
  marked_failed part (SyncsNames dir) = old
  marked_failed part Looks = old

  marked_after : (deed : Deed) (end : End) (q bytes : List ℕ) → loose_after deed end was loose q → get (lost_after deed end byte (ended deed end was) lost) q ≡ Some bytes → bytes ≡ byte ∷ []
  marked_after deed Done = marked_done deed
  marked_after deed NotFound = marked_none deed
  marked_after deed (Failed part) = marked_failed part deed

-- the marked map stays the one of the rule
marks_after : (c : Noted) (byte : ℕ) (loss : Loss) (lost : Files) → IsMarked byte loss lost
    → IsMarked byte (loss_after c loss) (lost_after c.deed c.end byte (ended c.deed c.end loss.files) lost)
marks_after c byte loss lost h = record {
  spread = spread_after c.deed c.end byte loss.loose loss.files lost h.spread;
  marked = marked_after byte loss.loose loss.files lost h.spread h.marked c.deed c.end;
}

-- one call more, behind the others
pub files-push : (cs : List Noted) (c : Noted) (loss : Loss) → (loss_left (cs ++ c ∷ []) loss).files ≡ (loss_after c (loss_left cs loss)).files
files-push [] c loss = refl
files-push (d ∷ cs) c loss = files-push cs c (loss_after d loss)

marks-push : (cs : List Noted) (c : Noted) (byte : ℕ) (loss : Loss) (m : Files) → IsMarked byte (loss_after c (loss_left cs loss)) m → IsMarked byte (loss_left (cs ++ c ∷ []) loss) m
marks-push [] c byte loss m h = h
marks-push (d ∷ cs) c byte loss m h = marks-push cs c byte (loss_after d loss) m h

module _ (cs : List Noted) (c : Noted) (start : Loss) where
  pub replay_held : (was new : Files) → was ≡ (loss_left cs start).files → new ≡ ended c.deed c.end was → new ≡ (loss_left (cs ++ c ∷ []) start).files
  replay_held was new is done = done ∙ ap (ended c.deed c.end) is ∙ sym (files-push cs c start)

  pub replay_lost : (byte : ℕ) (was new lost left : Files) → was ≡ (loss_left cs start).files → new ≡ ended c.deed c.end was → left ≡ lost_after c.deed c.end byte new lost
      → IsMarked byte (loss_left cs start) lost → IsMarked byte (loss_left (cs ++ c ∷ []) start) left
  replay_lost byte was new lost left is done lost_is h =
      marks-push cs c byte start left
      (subst (λ (l : Files). IsMarked byte (loss_after c (loss_left cs start)) l)
      (sym (lost_is ∙ ap (λ (f : Files). lost_after c.deed c.end byte f lost) (done ∙ ap (ended c.deed c.end) is)))
      (marks_after c byte (loss_left cs start) lost h))
