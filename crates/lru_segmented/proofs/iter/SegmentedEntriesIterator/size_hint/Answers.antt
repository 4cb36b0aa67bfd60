use Rattle.std.proofs.Common.{◌≡◌, ◌≤◌, Some, sym, subst}
use Rattle.std.specs.Prelude.{IfSome}
use Rattle.std.specs.Iterator.{UpTo, at_most}
use Rattle.std.proofs.lemmas.List.{length-map}
use Rattle.lru_segmented.specs.Representation.{bare}
use Rattle.lru_segmented.proofs.iter.SegmentedEntriesIterator.size_hint.Goals as goal

pub returns-clause-lower : goal.returns-clause-lower
returns-clause-lower g c = rw (← c.self.view_is) (subst (λ n. Unit {0} → c.size_hint.result.0 ≤ n) (sym (length-map c.self.inside.pairs bare)) c.size_hint.ensures.lower)

pub returns-clause-upper : goal.returns-clause-upper
returns-clause-upper g c = rw (← c.self.view_is) (subst (λ n. IfSome c.size_hint.result.1 (UpTo (at_most n))) (sym (length-map c.self.inside.pairs bare)) c.size_hint.ensures.upper)

pub returns-clause-exact : goal.returns-clause-exact
returns-clause-exact g c = rw (← c.self.view_is) (subst (λ n. c.size_hint.result ≡ (n, Some n)) (sym (length-map c.self.inside.pairs bare)) c.size_hint.ensures.exact)
