use Rattle.std.proofs.Common.{◌≡◌, ◌∙◌, ap}
use Rattle.std.specs.FinMap.{from_entries}
use Rattle.lru_folder.specs.Losses.{at_opening}
use Rattle.lru_memory_folder.specs.Calls.{Noted, ended}
use Rattle.lru_memory_folder.specs.DeedInside.{deed_of, noted_of}
use Rattle.lru_memory_folder.specs.HeldInside.{files_in}
use Rattle.lru_memory_folder.specs.MarksInside.{lost_after}
use Rattle.lru_memory_folder.proofs.KeptLemmas.{replay_chosen}
use Rattle.lru_memory_folder.proofs.ReplayLemmas.{replay_held, replay_lost}
use Rattle.lru_memory_folder.proofs.replay.Replay.step.Goals as goal

pub returns : goal.returns
returns c = λ h r.
    let old = c.args.self.now in
    let call = c.args.ended.now in
    let deed = deed_of call.call in
    let noted : Noted = noted_of call in
    let start = at_opening (from_entries h.begun) in
    let held = files_in c.apply.new.held.entries in
    let done : held ≡ ended deed call.end (files_in old.held.entries) =
    c.in_ok-apply.ensures.ok ∙ ap (λ m. ended deed call.end (files_in m.entries)) c.in_ok-choose.ensures.held in
    let lost : files_in c.lose.new.lost.entries ≡ _ = c.in_ok-lose.ensures ∙ ap (λ m. lost_after deed call.end c.args.byte held (files_in m.entries)) c.in_ok-choose.ensures.lost in
    record {
      held = replay_held h.calls noted start (files_in old.held.entries) held r.held done;
      lost = replay_lost h.calls noted start c.args.byte (files_in old.held.entries) held (files_in old.lost.entries) (files_in c.lose.new.lost.entries) r.held done lost r.lost;
      chosen =
          replay_chosen c.args.names c.args.byte h noted (λ m. files_in m.entries) (files_in old.lost.entries) old.chosen c.choose.new.self.chosen old.names_left c.choose.new.self.names_left
          r.lost c.in_ok-choose.ensures.sync c.in_ok-choose.ensures.chosen c.in_ok-choose.ensures.others c.in_ok-choose.ensures.counted r.chosen;
    }
