use Rattle.std.proofs.Common.{List, ℕ, refl, sym, subst}
use Rattle.std.specs.Prelude.{OnOk}
use Rattle.std.specs.Io.KnownBytes.{Appends}
use Rattle.lru_tool_inside.specs.declared.command.Command.{Command}
use Rattle.lru_tool_inside.specs.Commands.{asked}
use Rattle.pingora_lru_files.specs.Stores.{Meaning}
use Rattle.lru_tool_inside.specs.Storing.{State}
use Rattle.lru_tool_inside.specs.Replies.{Answers, save_text, load_text}
use Rattle.lru_lines.proofs.WriteLaws.{on_ok_map}
use Rattle.lru_tool_inside.proofs.replies.answer.Goals as goal

pub returns-in-Save-clause-text : goal.returns-in-Save-clause-text
returns-in-Save-clause-text g c =
    let m : Meaning g.row.F.Denot = g.F.Folder.meaning in
    let old : State g.row.F.Denot = record { core = c.args.core.now; folder = c.args.folder.now; words = g.R.Rng.stream c.args.rng.now } in
    let new : State g.row.F.Denot = record { core = c.args.core.now; folder = c.save_core-result.new.folder; words = g.R.Rng.stream c.save_core-result.new.rng } in
    subst (λ (command : Command). OnOk c.write_saved.result ((x : List ℕ) × (Answers m old (asked command) x new × Appends (g.W.Write.contents c.args.writer.now) (g.W.Write.contents c.write_saved.new.writer) x)))
    (sym c.in-Save.is)
    (on_ok_map c.write_saved.result (λ appends. (save_text c.save_core-result.result, ((c.save_core-result.result, (c.save_core-result.ensures.saves, (refl, refl))), appends))) c.write_saved.ensures.text)

pub returns-in-Load-clause-text : goal.returns-in-Load-clause-text
returns-in-Load-clause-text g c =
    let m : Meaning g.row.F.Denot = g.F.Folder.meaning in
    let old : State g.row.F.Denot = record { core = c.args.core.now; folder = c.args.folder.now; words = g.R.Rng.stream c.args.rng.now } in
    let new : State g.row.F.Denot = record { core = c.load_core-result.new.core; folder = c.load_core-result.new.folder; words = g.R.Rng.stream c.args.rng.now } in
    subst (λ (command : Command). OnOk c.write_loaded.result ((x : List ℕ) × (Answers m old (asked command) x new × Appends (g.W.Write.contents c.args.writer.now) (g.W.Write.contents c.write_loaded.new.writer) x)))
    (sym c.in-Load.is)
    (on_ok_map c.write_loaded.result (λ appends. (load_text c.load_core-result.result, ((c.load_core-result.result, (c.load_core-result.ensures.loads, (refl, refl))), appends))) c.write_loaded.ensures.text)
