use Rattle.std.proofs.Common.{◌≡◌, take, ap, sym, ◌∙◌, arith, get_or, Some, None}
use Rattle.std.specs.List.{slice_range}
use Rattle.std.proofs.lemmas.Grind.{common_steps}
use Rattle.std.proofs.lemmas.Str.Pattern.{rfind_char}
use Rattle.lru_host_folder.proofs.PlaceLemmas.{place_of-root, place_of-at, place_of-none}
use Rattle.lru_host_folder.proofs.steps.folder_of.Goals as goal

pub returns-in-None : goal.returns-in-None
returns-in-None c = place_of-none c.args.path.now (rfind_char 47 c.args.path.now None c.in-None.ensures.cases (omega arith))

pub returns-in-Some-eq0 : goal.returns-in-Some-eq0
returns-in-Some-eq0 c =
    let path = c.args.path.now in
    let at = c.in-Some-eq0.field-0 in
    let cut = rfind_char 47 path (Some at) c.in-Some-eq0.ensures.cases (omega arith) in
    let start : at ≡ 0 = c.in-Some-eq0.field-0-test in
    place_of-root path (omega (arith, cut.0)) (ap (λ k. get_or path k 0) (sym start) ∙ cut.1) (λ i pos lt. cut.2 i (omega arith) lt)

pub returns-in-Some : goal.returns-in-Some
returns-in-Some c =
    let path = c.args.path.now in
    let at = c.in-Some.at in
    let cut = rfind_char 47 path (Some at) c.in-Some.ensures.cases (omega arith) in
    let front : slice_range path 0 at ≡ take at path = grind (arith, common_steps) in
    c.range.ensures.value ∙ front ∙ place_of-at path at c.in-Some.at-test.1 cut.0 cut.1 cut.2
