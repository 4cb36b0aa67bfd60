use Rattle.std.proofs.Common.{ℕ, List, [], ◌∷◌, ◌++◌, refl, sym, ap, ◌∙◌, subst, ◌≡◌, append_assoc, append-nil}
use Rattle.std.specs.Prelude.{map}
use Rattle.lru_owned_cache.specs.Cache.{parts_of}
use Rattle.lru_frames.specs.Copies.{AreEach}
use Rattle.lru_deadlines.specs.declared.deadlines.Until.{Until}
use Rattle.lru_cache_checkpoints.specs.CapturedDeadlines.{IsDeadlineCopy}
use Rattle.lru_frames.proofs.Copied.{each_more}
use Rattle.lru_cache_checkpoints.proofs.deadline_captures.capture_deadlines.Goals as goal

pub loop-key-preserved : goal.loop-key-preserved
loop-key-preserved g c =
    let inv = c.loop-key.invariant in
    let front : List (g.row.K.Denot × Until g.row.V.Denot × ℕ) = inv.0 in
    let p : g.row.K.Denot × Until g.row.V.Denot × ℕ = (c.in-Some.key.now, c.in-Some.until.now, c.in-Some.weight) in
    let P = IsDeadlineCopy g.K.Clone.is_clone g.V.Clone.is_clone in (
      front ++ p ∷ [],
      (
        append_assoc front (p ∷ []) _ ∙ sym (ap (λ z. front ++ z) c.in-Some.ensures.steps) ∙ inv.1.0,
        subst (AreEach P (front ++ p ∷ [])) (sym c.in_ok-push.ensures.items) (each_more P front _ p _ inv.1.1 (c.in_ok-key.ensures.cases, (c.in_ok-value.ensures.cases, (refl, refl)))),
      ),
    )

pub loop-key-init : goal.loop-key-init
loop-key-init g c = ([], (refl, subst (AreEach (IsDeadlineCopy g.K.Clone.is_clone g.V.Clone.is_clone) []) (sym c.in_ok-rows.ensures.items) tt))

pub returns : goal.returns
returns g c =
    let inv = c.loop-key.invariant in
    let front : List (g.row.K.Denot × Until g.row.V.Denot × ℕ) = inv.0 in
    let all : front ≡ map parts_of c.args.cache.now.entries =
    sym (append-nil front) ∙ ap (λ rest. front ++ rest) (sym c.in_default.ensures.steps.0) ∙ inv.1.0 ∙ c.iter-rest.ensures in
    subst (λ entries. AreEach (IsDeadlineCopy g.K.Clone.is_clone g.V.Clone.is_clone) entries c.loop-key.rows.items) all inv.1.1
