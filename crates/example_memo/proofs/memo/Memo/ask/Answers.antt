use Rattle.std.proofs.Common.{rules, ◌≡◌, ℕ, List, sym, ap, ◌∙◌, subst}
use Rattle.lru_owned_cache.specs.declared.entry.Entry.{Entry}
use Rattle.example_memo.specs.Answers.{AreRight}
use Rattle.example_memo.proofs.Right.{found_key, found_right, without_right, put_right}
use Rattle.example_memo.proofs.memo.Memo.ask.Goals as goal

-- the entry that was found goes first, with the value that it had
pub invariant_of-self : goal.invariant_of-self
invariant_of-self g c =
    let u = c.in-Some.ensures in
    let e = u.0 in
    let upd = u.1.1.1.0 in
    let es = c.self.inside.answers.entries in
    let called = upd.called in
    let unchanged : upd.left.now ≡ upd.lent.now = search rules in
    let same : u.1.1.0 ≡ e.value = sym upd.leaves ∙ unchanged ∙ upd.shows in
    let right : u.1.1.0 ≡ g.W.Work.outcome e.key = same ∙ found_right g.W.Work.outcome es c.args.key e c.self.invariant u.1.0 in
    subst (λ (x : List (Entry ℕ ℕ)). AreRight g.W.Work.outcome x) (sym (ap (λ x. x.entries) u.1.1.1.1)) (right, without_right g.W.Work.outcome es c.args.key c.self.invariant)

pub returns-in-Some-clause-answer : goal.returns-in-Some-clause-answer
returns-in-Some-clause-answer g c =
    let u = c.in-Some.ensures in
    let e = u.0 in
    let upd = u.1.1.1.0 in
    let es = c.self.inside.answers.entries in
    let called = upd.called in
    let copied : c.in-Some.answer ≡ upd.lent.now = search rules in
    let same : c.in-Some.answer ≡ e.value = copied ∙ upd.shows in
    same ∙ found_right g.W.Work.outcome es c.args.key e c.self.invariant u.1.0 ∙ ap g.W.Work.outcome (found_key es c.args.key e u.1.0)

-- the others stay, but for the end that goes
pub invariant_of-self-2 : goal.invariant_of-self-2
invariant_of-self-2 g c =
    let was = c.in_default.ensures.1 in
    put_right g.W.Work.outcome c.update.new.self c.args.key c.work_out-answer.result c.put.result c.put.new.self _ _ (subst (λ x. AreRight g.W.Work.outcome x.entries) (sym was) c.self.invariant) c.work_out-answer.ensures c.put.ensures
