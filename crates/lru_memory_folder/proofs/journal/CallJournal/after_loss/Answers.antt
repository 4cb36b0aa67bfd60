use Rattle.std.proofs.Common.{◌≡◌, ◌∙◌, ap, sym, subst, ℕ, List, [], map, take}
use Rattle.std.proofs.lemmas.List.{take_all}
use Rattle.lru_memory_folder.specs.Calls.{Noted}
use Rattle.lru_memory_folder.specs.DeedInside.{noted_of}
use Rattle.lru_memory_folder.specs.History.{History}
use Rattle.lru_memory_folder.specs.ReplayInside.{IsReplay}
use Rattle.lru_memory_folder.proofs.JournalLemmas.{noted-more}
use Rattle.lru_memory_folder.proofs.journal.CallJournal.after_loss.Goals as goal

pub loop-ended-init : goal.loop-ended-init
loop-ended-init c =
    subst (λ (b : List (List ℕ × List ℕ)). IsReplay c.args.names c.args.byte (record { begun = b; calls = [] }) c.in_ok-replay.replay) (ap (λ (h : History). h.begun) c.self.view_is) (c.in_ok-replay.ensures c.args.byte)

pub loop-ended-preserved : goal.loop-ended-preserved
loop-ended-preserved c =
    let history : History = c.args.self.now in
    let calls = c.deref-ended-items.result.now in
    let at = c.loop-ended.ended-index in
    subst (λ (cs : List Noted). IsReplay c.args.names c.args.byte (record { begun = history.begun; calls = cs }) c.step.new.self) (sym (noted-more calls at c.ended-item.result c.loop-ended-test.true c.ended-item.is))
    (c.in_ok-step.ensures (record { begun = history.begun; calls = map noted_of (take at calls) }) c.loop-ended.invariant)

pub returns : goal.returns
returns c =
    let history : History = c.args.self.now in
    let calls = c.deref-ended-items.result.now in
    let at = c.loop-ended.ended-index in
    let all : map noted_of (take at calls) ≡ history.calls =
    ap (map noted_of) (take_all at calls c.loop-ended-test.false ∙ c.deref-ended-items.ensures.value) ∙ ap (λ (h : History). h.calls) c.self.view_is in
    c.into_lost.ensures history c.args.names c.args.byte (subst (λ (cs : List Noted). IsReplay c.args.names c.args.byte (record { begun = history.begun; calls = cs }) c.loop-ended.replay) all c.loop-ended.invariant)
