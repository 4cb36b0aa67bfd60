use Rattle.std.proofs.Common.{of_calls, ◌++◌, ◌∷◌, [], refl, sym, ap, ◌∙◌, append_assoc, append-nil, subst}
use Rattle.std.specs.Prelude.{map}
use Rattle.std.specs.List.{FoldsTo}
use Rattle.std.proofs.lemmas.List.{map-append}
use Rattle.lru_shared_cache.specs.Calls.{shown}
use Rattle.lru_shared_cache.proofs.one.visit_each.Goals as goal

pub loop-entry-init : goal.loop-entry-init
loop-entry-init g c = (c.requires, ([], (c.iter-rest.ensures, λ more last h. h)))

pub loop-entry-preserved : goal.loop-entry-preserved
loop-entry-preserved g c =
    let inv = c.loop-entry.invariant in
    let given = inv.1.0 in
    let entry = c.in-Some.entry in (
      search of_calls parts 8,
      (
        given ++ entry ∷ [],
        (
          ap (λ xs. xs ++ c.next.new.self) (map-append shown given (entry ∷ [])) ∙ append_assoc (map shown given) (shown entry ∷ []) c.next.new.self
              ∙ ap (λ xs. map shown given ++ xs) (sym c.in-Some.ensures.steps) ∙ inv.1.1.0,
          λ more last h. subst (λ xs. FoldsTo (λ p x q. goal.F-step g p x tt q) c.args.visit xs last) (sym (append_assoc given (entry ∷ []) more))
              (inv.1.1.1 (entry ∷ more) last (c.visit.new.self, c.visit.ensures, h)),
        ),
      ),
    )

pub returns-clause-visits : goal.returns-clause-visits
returns-clause-visits g c =
    let inv = c.loop-entry.invariant in
    let given = inv.1.0 in (
      given,
      (
        sym (append-nil (map shown given)) ∙ ap (λ xs. map shown given ++ xs) (sym c.in_default.ensures.steps.0) ∙ inv.1.1.0,
        subst (λ xs. FoldsTo (λ p x q. goal.F-step g p x tt q) c.args.visit xs c.loop-entry.visit) (append-nil given) (inv.1.1.1 [] c.loop-entry.visit refl),
      ),
    )
