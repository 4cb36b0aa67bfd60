use Rattle.std.proofs.Common.{rules, ◌≡◌, Some, true, sym, ◌∙◌, ap, subst}
use lib.Pointwise.{pointwise_decides}
use Rattle.lru_frames.specs.declared.mark.Mark.{Mark}
use Rattle.lru_frames.specs.contracts.mark.MarkPartialEq.TheImpl.{eq-value}
use Rattle.lru_generations.specs.Checkpoints.{IsKnown}
use Rattle.std.specs.Prelude.{Option, option_copied}
use Rattle.lru_generations.specs.declared.manifest.Manifest.{Manifest}
use Rattle.lru_generations.proofs.checking.is_known.Goals as goal

-- two marks are the same where their numbers are
one_mark : (x y : Mark) → (eq-value.it x y ≡ true → x ≡ y) × (x ≡ y → eq-value.it x y ≡ true)
one_mark x y = search rules

pub returns-then-known-manifest : goal.returns-then-known-manifest
returns-then-known-manifest c =
    let marks = pointwise_decides one_mark c.in-Some.known.now.frames.items c.args.manifest.now.frames.items in
    let same : option_copied c.args.known ≡ Some c.in-Some.known.now = ap option_copied c.in-Some.is in (
      λ told. subst (λ (o : Option Manifest). IsKnown o c.args.manifest.now) (sym same) (c.if-known-manifest.true, marks.0 (sym c.eq.ensures ∙ told)),
      λ known. c.eq.ensures ∙ marks.1 (subst (λ (o : Option Manifest). IsKnown o c.args.manifest.now) same known).1,
    )
