use Rattle.std.proofs.Common.{Some, None, take, ap, ◌∙◌, arith}
use Rattle.std.proofs.lemmas.Str.Pattern.{rfind_char}
use Rattle.lru_memory_folder.proofs.MadeLemmas.{folder_of-at, folder_of-none}
use Rattle.lru_memory_folder.proofs.places.folder_of.Goals as goal

pub returns-in-Some : goal.returns-in-Some
returns-in-Some c =
    let path = c.args.path.now in
    let cut = rfind_char 47 path (Some c.in-Some.at) c.in-Some.ensures.cases (omega arith) in
    ap (take c.in-Some.at) c.as_bytes.ensures.value ∙ folder_of-at path c.in-Some.at cut.0 cut.1 cut.2

pub returns-in-None : goal.returns-in-None
returns-in-None c = folder_of-none c.args.path.now (rfind_char 47 c.args.path.now None c.in-None.ensures.cases (omega arith))
