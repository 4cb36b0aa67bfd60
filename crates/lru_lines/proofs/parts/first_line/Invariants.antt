use Rattle.std.proofs.Common.{◌≡◌, take, drop}
use Rattle.lru_lines.specs.Lines.{lines_of}
use Rattle.lru_lines.proofs.LineLaws.{ended}
use Rattle.lru_lines.proofs.parts.first_line.Given as goal

abbrev pub invariant-loop-at : goal.invariant-loop-at
invariant-loop-at l = ended (take l.at l.input) (drop l.at l.input) ≡ lines_of l.input
