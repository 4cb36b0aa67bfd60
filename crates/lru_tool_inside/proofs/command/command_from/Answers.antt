use Rattle.std.proofs.Common.{sym, subst}
use Rattle.lru_lines.specs.Lines.{parts_of}
use Rattle.lru_tool_inside.specs.Commands.{Possible}
use Rattle.lru_tool_inside.proofs.Possibles.{possible_words}
use Rattle.lru_tool_inside.proofs.command.command_from.Goals as goal

pub returns-clause-possible : goal.returns-clause-possible
returns-clause-possible c = subst Possible (sym c.from_words.ensures) (possible_words (parts_of 32 c.args.line.now))
