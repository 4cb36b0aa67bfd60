use Rattle.std.proofs.Common.{◌≡◌, take, drop}
use Rattle.lru_lines.specs.Lines.{parts_from, parts_of}
use Rattle.lru_lines.proofs.parts.cut.Given as goal

abbrev pub invariant-loop-at : goal.invariant-loop-at
invariant-loop-at l = parts_from l.separator (take l.at l.text) (drop l.at l.text) ≡ parts_of l.separator l.text
