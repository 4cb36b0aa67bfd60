use Rattle.std.proofs.Common.{◌++◌, ◌∷◌, [], length, refl, sym, ap, ◌∙◌, arith, lit<, append_assoc, append-nil, subst}
use Rattle.std.specs.Prelude.{All}
use Rattle.std.proofs.lemmas.List.{nil_from_length}
use Rattle.std.specs.Vec.Iter.{into_iter_items}
use Rattle.lru_cores.specs.Calls.{IsAllowed, Run}
use Rattle.lru_cores.proofs.CallLaws.{run_on, all_first, all_rest}
use Rattle.lru_cores.proofs.calls.run.Goals as goal

pub loop-call-init : goal.loop-call-init
loop-call-init g c = (
  ([], (c.into_iter-rest.ensures.rest, subst (λ rs. Run c.args.core.now (g.R.Rng.stream c.args.rng.now) [] rs c.args.core.now (g.R.Rng.stream c.args.rng.now)) (sym c.in_ok-replies.ensures.items) (refl, refl))),
  (
    subst (All (IsAllowed g.row.N)) (sym c.into_iter-rest.ensures.rest) c.requires.allowed,
    (
      omega (arith, c.in_ok-replies.ensures.len, c.in_ok-replies.ensures.exact, c.len.ensures, ap length c.into_iter-rest.ensures.rest),
      omega (arith, c.len.ensures, ap length c.into_iter-rest.ensures.rest, c.into_iter-rest.ensures.len),
    ),
  ),
)

pub answer-requires : goal.answer-requires
answer-requires g c = (lit< tt, (c.requires.clones, all_first (IsAllowed g.row.N) c.in-Some.call (into_iter_items c.next.new.self) (subst (All (IsAllowed g.row.N)) c.in-Some.ensures.items c.loop-call.invariant.1.0)))

pub loop-call-preserved : goal.loop-call-preserved
loop-call-preserved g c =
    let inv = c.loop-call.invariant in
    let items = c.in-Some.ensures.items in (
      (
        inv.0.0 ++ c.in-Some.call ∷ [],
        (
          append_assoc inv.0.0 (c.in-Some.call ∷ []) (into_iter_items c.next.new.self) ∙ ap (λ xs. inv.0.0 ++ xs) (sym items) ∙ inv.0.1.0,
          subst (λ rs. Run c.args.core.now (g.R.Rng.stream c.args.rng.now) (inv.0.0 ++ c.in-Some.call ∷ []) rs c.answer.new.core (g.R.Rng.stream c.answer.new.rng)) (sym c.in-Ok.ensures.items)
              (run_on c.args.core.now (g.R.Rng.stream c.args.rng.now) inv.0.0 c.loop-call.replies.items c.loop-call.core (g.R.Rng.stream c.loop-call.rng) c.in-Some.call c.answer.result c.answer.new.core (g.R.Rng.stream c.answer.new.rng) inv.0.1.1 c.answer.ensures),
        ),
      ),
      (
        all_rest (IsAllowed g.row.N) c.in-Some.call (into_iter_items c.next.new.self) (subst (All (IsAllowed g.row.N)) items inv.1.0),
        (
          omega (arith, inv.1.1.0, ap length items, c.in-Ok.ensures.len, c.in-Ok.ensures.capacity),
          omega (arith, inv.1.1.1, ap length items, c.in-Some.ensures.cases.1),
        ),
      ),
    )

pub returns-clause-ok : goal.returns-clause-ok
returns-clause-ok g c =
    let inv = c.loop-call.invariant in
    subst (λ cs. Run c.args.core.now (g.R.Rng.stream c.args.rng.now) cs c.loop-call.replies.items c.loop-call.core (g.R.Rng.stream c.loop-call.rng)) (sym (append-nil inv.0.0) ∙ ap (λ xs. inv.0.0 ++ xs) (sym (nil_from_length (into_iter_items c.loop-call.rest) (omega (arith, inv.1.1.1, c.in_default.ensures.cases.0)))) ∙ inv.0.1.0) inv.0.1.1
