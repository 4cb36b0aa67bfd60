use Rattle.std.proofs.Common.{ℕ, ◌<◌, ◌≤◌, ap, ◌∙◌, subst, inl, inr}
use Rattle.std.proofs.lemmas.Bool.{lt-ltb, le-ltb}
use Rattle.lru_admission.specs.Sketch.{estimate}
use Rattle.lru_admission.proofs.Asking.{asking-none, asking-more, asked_one}
use Rattle.lru_admission.proofs.admission.outdoes.Goals as goal
use Rattle.lru_admission.proofs.admission.outdoes.Goals.{then-weight-most_weight, else-weight-most_weight+then-entries-most_entries}

pub victims-init : goal.victims-init
victims-init g c =
    asking-none _ c.args.most_weight c.args.most_entries c.args.cache.now.entries c.iter-left.result c.weight-weight.result c.len-entries.result c.iter-left.ensures c.weight-weight.ensures c.len-entries.ensures.value

pub victims-preserved : goal.victims-preserved
victims-preserved g c =
    let is = c.estimate.ensures.estimate ∙ ap (λ h. estimate c.args.sketch.now h) c.hash_of.ensures in
    asking-more _ c.args.most_weight c.args.most_entries c.args.cache.now.entries c.victims.left c.next_back.new.self (c.in-Some.key.now, c.in-Some.field-0-1.now, c.in-Some.freed) c.victims.weight c.victims.entries
    c.victims.invariant c.in-Some.ensures.steps
    (elim c.if-weight-most_weight.branch [ then-weight-most_weight w ↦ inl w.if-weight-most_weight.true | else-weight-most_weight+then-entries-most_entries w ↦ inr w.if-entries-most_entries.true ])
    (lt-ltb _ _ (subst (λ (n : ℕ). n < c.args.count) is c.if-estimate-count.false))

pub returns-then-estimate-count : goal.returns-then-estimate-count
returns-then-estimate-count g c =
    let is = c.estimate.ensures.estimate ∙ ap (λ h. estimate c.args.sketch.now h) c.hash_of.ensures in
    asked_one _ c.args.most_weight c.args.most_entries c.args.cache.now.entries c.victims.left c.next_back.new.self (c.in-Some.key.now, c.in-Some.field-0-1.now, c.in-Some.freed) c.victims.weight c.victims.entries
    c.victims.invariant c.in-Some.ensures.steps
    (elim c.if-weight-most_weight.branch [ then-weight-most_weight w ↦ inl w.if-weight-most_weight.true | else-weight-most_weight+then-entries-most_entries w ↦ inr w.if-entries-most_entries.true ])
    (le-ltb _ _ (subst (λ (n : ℕ). c.args.count ≤ n) is c.if-estimate-count.true))
