-- What one call more does to the files, and to what a stop could leave.
use Rattle.std.specs.Prelude.{◌≡◌, ◌⊎◌, ◌≤◌, ℕ, zero, suc, List, [], ◌∷◌, ◌++◌, length}
use Rattle.std.proofs.Common.{inl, inr, ⊎_elim, refl, sym, ap, subst, arith}
use Rattle.std.proofs.lemmas.List.{take_all}
use Rattle.lru_folder.specs.Files.{Files, appended}
use Rattle.lru_memory_folder.specs.declared.calls.End.{End}
use Rattle.lru_memory_folder.specs.declared.calls.End.TheVariants.{Done, NotFound, Failed}
use Rattle.lru_memory_folder.specs.Calls.{Deed, Creates, Writes, Renames, Removes, Syncs, SyncsNames, Looks, Noted, whole, begun, ended, effect, PartOf, after, StoppedSince}

pub after-push : (cs : List Noted) (c : Noted) (start : Files) → after (cs ++ c ∷ []) start ≡ effect c (after cs start)
after-push [] c start = refl
after-push (d ∷ cs) c start = after-push cs c (effect d start)

whole_part : (deed : Deed) (m : Files) → PartOf deed m (whole deed m)
whole_part (Creates path) m = inr refl
whole_part (Writes path piece) m = inr (length piece, ap (λ (l : List ℕ). appended path l m) (sym (take_all (length piece) piece (omega arith))))
whole_part (Renames from to) m = inr refl
whole_part (Removes path) m = inr refl
whole_part (Syncs path) m = refl
whole_part (SyncsNames dir) m = refl
whole_part Looks m = refl

-- nothing is a part
pub no_part : (deed : Deed) (m : Files) → PartOf deed m m
no_part (Creates path) m = inl refl
no_part (Writes path piece) m = inl refl
no_part (Renames from to) m = inl refl
no_part (Removes path) m = inl refl
no_part (Syncs path) m = refl
no_part (SyncsNames dir) m = refl
no_part Looks m = refl

begun_part : (deed : Deed) (part : ℕ) (m : Files) → PartOf deed m (begun deed part m)
begun_part (Creates path) part m = inl refl
begun_part (Writes path piece) part m = inr (part, refl)
begun_part (Renames from to) part m = inl refl
begun_part (Removes path) part m = inl refl
begun_part (Syncs path) part m = refl
begun_part (SyncsNames dir) part m = refl
begun_part Looks part m = refl

-- a call leaves a part of itself
pub PartOf-ended : (deed : Deed) (end : End) (m : Files) → PartOf deed m (ended deed end m)
PartOf-ended deed Done m = whole_part deed m
PartOf-ended deed NotFound m = no_part deed m
PartOf-ended deed (Failed part) m = begun_part deed part m

pub StoppedSince-stays : (cs : List Noted) (c : Noted) (t : ℕ) (start m : Files) → t ≤ length cs → StoppedSince cs t start m → StoppedSince (cs ++ c ∷ []) t start m
StoppedSince-stays [] c zero start m le s = inl s
StoppedSince-stays [] c (suc t) start m le s = absurd (omega arith)
StoppedSince-stays (d ∷ cs) c zero start m le (inl s) = inl s
StoppedSince-stays (d ∷ cs) c zero start m le (inr (inl s)) = inr (inl s)
StoppedSince-stays (d ∷ cs) c zero start m le (inr (inr s)) = inr (inr (StoppedSince-stays cs c zero (effect d start) m (omega arith) s))
StoppedSince-stays (d ∷ cs) c (suc t) start m le s = StoppedSince-stays cs c t (effect d start) m (omega arith) s

pub StoppedSince-push : (cs : List Noted) (c : Noted) (t : ℕ) (start m : Files) → t ≤ length cs → StoppedSince (cs ++ c ∷ []) t start m
    → StoppedSince cs t start m ⊎ PartOf c.deed (after cs start) m
StoppedSince-push [] c zero start m le (inl s) = inl s
StoppedSince-push [] c zero start m le (inr (inl p)) = inr p
StoppedSince-push [] c zero start m le (inr (inr e)) = inr (subst (PartOf c.deed start) (sym e) (PartOf-ended c.deed c.end start))
StoppedSince-push [] c (suc t) start m le s = absurd (omega arith)
StoppedSince-push (d ∷ cs) c zero start m le (inl s) = inl (inl s)
StoppedSince-push (d ∷ cs) c zero start m le (inr (inl p)) = inl (inr (inl p))
StoppedSince-push (d ∷ cs) c zero start m le (inr (inr s)) = ⊎_elim (λ r. inl (inr (inr r))) (λ p. inr p) (StoppedSince-push cs c zero (effect d start) m (omega arith) s)
StoppedSince-push (d ∷ cs) c (suc t) start m le s = StoppedSince-push cs c t (effect d start) m (omega arith) s
