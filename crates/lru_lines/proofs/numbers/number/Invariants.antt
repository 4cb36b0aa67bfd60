use Rattle.std.proofs.Common.{◌≡◌, drop}
use Rattle.std.specs.Prelude.{fold}
use Rattle.std.specs.List.{list_all}
use Rattle.lru_lines.specs.Lines.{is_digit, value_of}
use Rattle.lru_lines.proofs.LineLaws.{step}
use Rattle.lru_lines.proofs.numbers.number.Given as goal

abbrev pub invariant-loop-byte : goal.invariant-loop-byte
invariant-loop-byte l = record {
  value : fold step l.value (drop l.byte-index l.word) ≡ value_of l.word;
  digits : list_all is_digit (drop l.byte-index l.word) ≡ list_all is_digit l.word;
}
