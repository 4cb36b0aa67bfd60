use Rattle.std.proofs.Common.{◌≡◌, arith, rules}
use Rattle.lru_frames.specs.HolderLaws.{no_option, other_option, behind_one}
use Rattle.lru_frames.proofs.stored.holders.OptionStored.load.Goals as goal

pub returns-in_default-clause-damaged : goal.returns-in_default-clause-damaged
returns-in_default-clause-damaged g c = λ _ value rest _ h. no_option g.T.Stored.bytes_of value c.args.bytes.now rest c.in_default.ensures h

pub returns-then-number-gt1-clause-damaged : goal.returns-then-number-gt1-clause-damaged
returns-then-number-gt1-clause-damaged g c = λ _ value rest _ h.
    other_option g.T.Stored.bytes_of value c.args.bytes.now c.in-Some.rest.now rest c.in-Some.number c.if-number-gt1.true (search rules) c.in-Some.ensures h

pub returns-in_err-value-clause-damaged : goal.returns-in_err-value-clause-damaged
returns-in_err-value-clause-damaged g c = λ is_err value rest is_value h.
    let one : c.in-Some.number ≡ 1 = omega arith in
    let held = behind_one g.T.Stored.bytes_of g.T.Stored.is_value value c.args.bytes.now c.in-Some.rest.now rest c.in-Some.number one c.in-Some.ensures is_value h in
    c.in_err-value.ensures.damaged (search rules) held.0 rest held.1.0 held.1.1
