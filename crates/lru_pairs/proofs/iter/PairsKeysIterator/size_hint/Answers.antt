use Rattle.std.proofs.Common.{◌≡◌, ◌≤◌, Some, sym, subst}
use Rattle.std.specs.Prelude.{IfSome}
use Rattle.std.specs.Iterator.{UpTo, at_most}
use Rattle.lru_pairs.proofs.Shown.{length-keys}
use Rattle.lru_pairs.proofs.iter.PairsKeysIterator.size_hint.Goals as goal

pub returns-clause-lower : goal.returns-clause-lower
returns-clause-lower g c =
    let i = c.self.inside in
    rw (← c.self.view_is) (subst (λ n. Unit {0} → c.size_hint.result.0 ≤ n) (sym (length-keys i.nodes c.self.invariant)) c.size_hint.ensures.lower)

pub returns-clause-upper : goal.returns-clause-upper
returns-clause-upper g c =
    let i = c.self.inside in
    rw (← c.self.view_is) (subst (λ n. IfSome c.size_hint.result.1 (UpTo (at_most n))) (sym (length-keys i.nodes c.self.invariant)) c.size_hint.ensures.upper)

pub returns-clause-exact : goal.returns-clause-exact
returns-clause-exact g c =
    let i = c.self.inside in
    rw (← c.self.view_is) (subst (λ n. c.size_hint.result ≡ (n, Some n)) (sym (length-keys i.nodes c.self.invariant)) c.size_hint.ensures.exact)
