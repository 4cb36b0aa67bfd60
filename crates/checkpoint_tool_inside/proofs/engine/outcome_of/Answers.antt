use Rattle.std.proofs.Common.{sym, subst}
use Rattle.lru_folder.specs.Meaning.{Meaning}
use Rattle.checkpoint_tool_inside.specs.declared.requests.Task.{Task}
use Rattle.checkpoint_tool_inside.specs.Requests.{asked}
use Rattle.checkpoint_tool_inside.specs.Outcomes.{LeavesWhole}
use Rattle.checkpoint_tool_inside.proofs.engine.outcome_of.Goals as goal

pub returns-in-Save-clause-whole : goal.returns-in-Save-clause-whole
returns-in-Save-clause-whole g c =
    let m : Meaning _ = g.F.Folder.meaning in
    subst (λ (r : Task). LeavesWhole m (g.R.Read.remaining c.args.reader.now) (asked r) c.args.folder.now c.save_input.new.folder) (sym c.in-Save.is) c.save_input.ensures.whole
