use Rattle.std.proofs.Common.{◌+◌, ◌∷◌, [], sym, ap, ◌∙◌, arith, take, length}
use Rattle.std.proofs.lemmas.List.{take_all, take_rest, drop_all}
use Rattle.lru_lines.specs.Lines.{lines_of}
use Rattle.lru_lines.proofs.LineLaws.{ended, line_ends_at, line_goes_on_at, lines_ended}
use Rattle.lru_lines.proofs.parts.first_line.Goals as goal

pub loop-at-init : goal.loop-at-init
loop-at-init c = sym (lines_ended c.args.input.now c.requires)

pub returns-then-byte-eq10-clause-lines : goal.returns-then-byte-eq10-clause-lines
returns-then-byte-eq10-clause-lines c = sym c.loop-at.invariant ∙ line_ends_at c.args.input.now (take c.loop-at.at c.args.input.now) c.loop-at.at (omega arith) c.if-byte-eq10.true
    ∙ ap (λ rest. take c.loop-at.at c.args.input.now ∷ lines_of rest) (sym (take_rest c.args.input.now (c.loop-at.at + 1)))

pub loop-at-preserved : goal.loop-at-preserved
loop-at-preserved c = sym (line_goes_on_at c.args.input.now c.loop-at.at (omega arith) c.if-byte-eq10.false) ∙ c.loop-at.invariant

pub returns-clause-lines : goal.returns-clause-lines
returns-clause-lines c =
    let input = c.args.input.now in
    sym c.loop-at.invariant ∙ ap (ended (take c.loop-at.at input)) (drop_all c.loop-at.at input c.loop-at-test.false)
    ∙ ap (λ part. part ∷ []) (take_all c.loop-at.at input c.loop-at-test.false)
    ∙ ap (λ rest. input ∷ lines_of rest) (sym (take_rest input (length input) ∙ drop_all (length input) input (omega arith)))
