use Rattle.std.proofs.Common.{[], is_some, unwrap_or, sym, ap, ◌∙◌}
use Rattle.std.specs.FinMap.{get, insert, remove}
use Rattle.lru_folder.proofs.FilesLemmas.{get-insert_same, get-insert_other, get-remove_other, remove-insert_other}
use Rattle.lru_memory_folder.specs.HeldInside.{files_in}
use Rattle.lru_memory_folder.proofs.HeldLemmas.{insert-again}
use Rattle.lru_memory_folder.proofs.held.give.Goals as goal

pub set-requires : goal.set-requires
set-requires c =
    let m = files_in c.args.held.now.entries in
    let from = c.args.from.now in
    let to = c.args.to.now in
    ap (λ f. is_some (get f to)) (c.take_bytes-bytes.ensures.gone ∙ ap (λ f. remove f from) (c.in_ok-put.ensures.ok ∙ ap (insert m to) c.new.ensures.items))
    ∙ ap is_some (get-remove_other (insert m to []) from to (λ e. c.requires (sym e)) ∙ get-insert_same m to [])

pub returns-clause-ok : goal.returns-clause-ok
returns-clause-ok c =
    let m = files_in c.args.held.now.entries in
    let from = c.args.from.now in
    let to = c.args.to.now in
    let placed = c.in_ok-put.ensures.ok ∙ ap (insert m to) c.new.ensures.items in
    c.set.ensures
    ∙ (λ i. insert ((c.take_bytes-bytes.ensures.gone ∙ ap (λ f. remove f from) placed ∙ remove-insert_other m to [] from (λ e. c.requires (sym e))) i) to
    ((c.take_bytes-bytes.ensures.bytes ∙ ap (λ f. unwrap_or (get f from) []) placed ∙ ap (λ o. unwrap_or o []) (get-insert_other m to [] from c.requires)) i))
    ∙ insert-again (remove m from) to [] (unwrap_or (get m from) [])
