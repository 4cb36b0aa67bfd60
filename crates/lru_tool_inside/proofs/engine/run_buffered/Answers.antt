use Rattle.std.proofs.Common.{map, string_bytes}
use Rattle.std.specs.Io.Buffered.{writer_contents}
use Rattle.lru_tool_inside.specs.Commands.{commands_of}
use Rattle.lru_tool_inside.specs.Settings.{settings_of}
use Rattle.pingora_lru_files.specs.Stores.{Meaning}
use Rattle.lru_tool_inside.proofs.Flushed.{some_so, runs_kept}
use Rattle.lru_tool_inside.proofs.engine.run_buffered.Goals as goal

pub returns-in-Ok-clause-served : goal.returns-in-Ok-clause-served
returns-in-Ok-clause-served g c =
    let m : Meaning g.row.F.Denot = g.F.Folder.meaning in
    let contents = g.W.Write.contents in
    some_so (settings_of (map string_bytes c.args.arguments.now))
    (λ settings served known. some_so (g.R.Read.remaining c.args.reader.now)
    (λ input runs. runs_kept m settings c.args.folder.now (commands_of input) c.run-status.result (writer_contents contents c.args.writer)
    (writer_contents contents c.run-status.new.writer) (contents c.in-Ok.written) c.run-status.new.folder runs c.in-Ok.ensures.ok)
    (served known))
    c.run-status.ensures.served
