use Rattle.std.proofs.Common.{of_calls, ◌++◌, ◌∷◌, [], refl, sym, ap, ◌∙◌, append_assoc, append-nil, subst}
use Rattle.std.specs.Prelude.{map}
use Rattle.std.specs.List.{FoldsTo}
use Rattle.std.proofs.lemmas.List.{map-append}
use Rattle.lru_shard.specs.Unit.{shown}
use Rattle.lru_shared_order.proofs.locked.LockedUnit.visit.Goals as goal

pub loop-pair-init : goal.loop-pair-init
loop-pair-init g c = (c.requires, ([], (c.iter-rest.ensures, λ more last h. h)))

pub loop-pair-preserved : goal.loop-pair-preserved
loop-pair-preserved g c =
    let inv = c.loop-pair.invariant in
    let given = inv.1.0 in
    let pair = c.in-Some.pair in (
      search of_calls parts 8,
      (
        given ++ pair ∷ [],
        (
          ap (λ xs. xs ++ c.next.new.self) (map-append shown given (pair ∷ [])) ∙ append_assoc (map shown given) (shown pair ∷ []) c.next.new.self
              ∙ ap (λ xs. map shown given ++ xs) (sym c.in-Some.ensures.steps) ∙ inv.1.1.0,
          λ more last h. subst (λ xs. FoldsTo (λ p x q. goal.F-step g p x tt q) c.args.visit xs last) (sym (append_assoc given (pair ∷ []) more))
              (inv.1.1.1 (pair ∷ more) last (c.visit.new.self, c.visit.ensures, h)),
        ),
      ),
    )

pub returns-clause-visited : goal.returns-clause-visited
returns-clause-visited g c =
    let inv = c.loop-pair.invariant in
    let given = inv.1.0 in (
      given,
      (
        c.loop-pair.visit,
        (
          sym (append-nil (map shown given)) ∙ ap (λ xs. map shown given ++ xs) (sym c.in_default.ensures.steps.0) ∙ inv.1.1.0,
          subst (λ xs. FoldsTo (λ p x q. goal.F-step g p x tt q) c.args.visit xs c.loop-pair.visit) (append-nil given) (inv.1.1.1 [] c.loop-pair.visit refl),
        ),
      ),
    )
