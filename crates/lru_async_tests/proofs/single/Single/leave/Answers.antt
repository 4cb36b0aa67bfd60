use Rattle.std.proofs.Common.{◌∙◌, ◌∷◌, [], sym, subst}
use Rattle.lru_mailbox.specs.Ledger.{IsTied}
use Rattle.lru_mailbox.proofs.TieLaws.{left_tied}
use Rattle.lru_async_tests.proofs.single.Single.leave.Goals as goal

pub invariant_of-self : goal.invariant_of-self
invariant_of-self c =
    let s = c.self.inside in (
      subst (λ b. IsTied b (s.putter.slips ∷ []) (s.taker.slips ∷ [])) (sym c.leave.ensures.left) (left_tied s.ledger.book (s.putter.slips ∷ []) (s.taker.slips ∷ []) c.self.invariant.0),
      c.leave.ensures.seats ∙ c.self.invariant.1,
    )
