use Rattle.lru_memory_folder.specs.HeldInside.{files_in}
use Rattle.lru_memory_folder.proofs.JournalLemmas.{replayed}
use Rattle.lru_memory_folder.proofs.journal.CallJournal.note.Goals as goal

pub invariant_of-self-2 : goal.invariant_of-self-2
invariant_of-self-2 c =
    let s = c.self.inside in
    record {
      held = replayed (files_in s.begun.entries) s.calls.items c.make_ready.new.calls.items c.push.new.calls.items (record { call = c.args.call; end = c.args.end })
          (files_in s.held.entries) (files_in c.make_ready.new.held.entries) c.self.invariant.held c.in_ok-make_ready.ensures.calls c.push.ensures c.in_ok-make_ready.ensures.ok;
    }
