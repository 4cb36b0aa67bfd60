use Rattle.std.proofs.Common.{rules, ◌<◌, ◌^◌, length, string_bytes, IsUtf8, sym, ◌∙◌, subst}
use Rattle.lru_frames.specs.WordLaws.{one_counted}
use Rattle.lru_frames.proofs.stored.values.StringStored.load.Goals as goal

pub returns-in-Err-clause-damaged : goal.returns-in-Err-clause-damaged
returns-in-Err-clause-damaged c = λ _ value rest is_value h.
    let small : length c.in-Some.text.now < 2 ^ 64 = search rules in
    let parts = one_counted c.in-Some.text.now (string_bytes value) c.in-Some.rest.now rest small is_value.0 (sym c.in-Some.ensures ∙ h) in
    c.in-Err.ensures.cases.0 (subst IsUtf8 (sym parts.0) is_value.1)
