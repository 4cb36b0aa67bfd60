use Rattle.std.proofs.Common.{◌≡◌, ◌+◌, ◌≤◌, ◌++◌, List, ℕ, length}
use Rattle.std.specs.Prelude.{◌↔◌, is_some}
use Rattle.std.specs.List.{list_all}
use Rattle.std.specs.Io.KnownBytes.{Appends}
use Rattle.lru_tool_inside.specs.Commands.{commands_of}
use Rattle.pingora_lru_files.specs.Stores.{Meaning}
use Rattle.lru_tool_inside.specs.Replies.{Serves}
use Rattle.lru_tool_inside.proofs.engine.serve.Given as goal

-- what is written so far, with any text that the lines left may write, is a text of all lines
abbrev pub invariant-loop-rest : goal.invariant-loop-rest
invariant-loop-rest g l =
    let m : Meaning g.row.F.Denot = g.F.Folder.meaning in record {
      text : (done : List ℕ) × (Appends (g.W.Write.contents l.fn.writer) (g.W.Write.contents l.writer) done
          × ((rest : List ℕ) (last : g.row.F.Denot) → Serves m (record { core = l.core; folder = l.folder; words = g.R.Rng.stream l.rng }) (commands_of l.rest) (l.number + 1) rest last
          → Serves m (record { core = l.fn.core; folder = l.fn.folder; words = g.R.Rng.stream l.fn.rng }) (commands_of l.fn.input) 1 (done ++ rest) last));
      good : list_all is_some (commands_of l.rest) ≡ list_all is_some (commands_of l.fn.input);
      count : l.number + length l.rest ≤ length l.fn.input;
      kept : g.F.Folder.meaning.keeps l.fn.folder ↔ g.F.Folder.meaning.keeps l.folder;
    }

abbrev pub decreases-loop-rest : goal.decreases-loop-rest
decreases-loop-rest g l = length l.rest
