use Rattle.std.proofs.Common.{◌+◌, ◌∷◌, [], refl, sym, ap, ◌∙◌, arith, take}
use Rattle.std.proofs.lemmas.List.{take_all, take_rest, drop_all}
use Rattle.lru_lines.specs.Lines.{parts_from, parts_of}
use Rattle.lru_lines.proofs.LineLaws.{part_ends, part_goes_on}
use Rattle.lru_lines.proofs.parts.cut.Goals as goal

pub loop-at-init : goal.loop-at-init
loop-at-init c = refl

pub returns-then-byte-separator : goal.returns-then-byte-separator
returns-then-byte-separator c =
    sym c.loop-at.invariant ∙ part_ends c.args.separator c.args.text.now (take c.loop-at.at c.args.text.now) c.loop-at.at (omega arith) c.if-byte-separator.true
    ∙ ap (λ rest. take c.loop-at.at c.args.text.now ∷ parts_of c.args.separator rest) (sym (take_rest c.args.text.now (c.loop-at.at + 1)))

pub loop-at-preserved : goal.loop-at-preserved
loop-at-preserved c = sym (part_goes_on c.args.separator c.args.text.now c.loop-at.at (omega arith) c.if-byte-separator.false) ∙ c.loop-at.invariant

pub returns : goal.returns
returns c =
    let text = c.args.text.now in
    sym c.loop-at.invariant ∙ ap (parts_from c.args.separator (take c.loop-at.at text)) (drop_all c.loop-at.at text c.loop-at-test.false)
    ∙ ap (λ part. part ∷ []) (take_all c.loop-at.at text c.loop-at-test.false)
