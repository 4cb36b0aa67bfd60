use Rattle.std.proofs.Common.{List, ℕ, ap, sym, subst}
use Rattle.lru_memory_folder.specs.MadeInside.{folders_in}
use Rattle.lru_folder.specs.Places.{MakesSome, Folders}
use Rattle.lru_memory_folder.proofs.MadeLemmas.{makes_none}
use Rattle.lru_memory_folder.proofs.store.Store.make.Goals as goal
use Rattle.lru_memory_folder.proofs.store.Store.make.Goals.{then-is_none+in_ok-make_all, else-is_none}

pub returns-clause-some : goal.returns-clause-some
returns-clause-some c =
    let dir = c.args.dir.now in
    let old = folders_in c.args.self.now.made.items in
    elim c.if-is_none.branch [
      | then-is_none+in_ok-make_all w ↦
          subst (λ (s : Folders). MakesSome dir old s) (sym (ap (λ s. folders_in s.made.items) w.self-is))
          (subst (λ (d : List ℕ). MakesSome d old (folders_in w.make_all.new.made.items)) w.as_bytes.ensures.value w.in_ok-make_all.ensures.some)
      | else-is_none w ↦ subst (λ (s : Folders). MakesSome dir old s) (sym (ap (λ s. folders_in s.made.items) w.self-is)) (makes_none dir old)
    ]
