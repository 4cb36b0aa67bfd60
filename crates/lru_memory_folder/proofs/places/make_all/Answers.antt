use Rattle.std.proofs.Common.{◌≡◌, ◌+◌, ◌<◌, inl, length, subst, sym, ap, ◌∙◌, arith, take}
use Rattle.std.specs.FinSet.{insert}
use Rattle.lru_memory_folder.specs.MadeInside.{folders_in}
use Rattle.lru_folder.specs.Places.{MakesSome, Folders}
use Rattle.lru_memory_folder.proofs.MadeLemmas.{MadeBelow, makes_one, makes_all, below_same, below_one, is_parent}
use Rattle.lru_memory_folder.proofs.places.make_all.Goals as goal
use Rattle.lru_memory_folder.proofs.places.make_all.Goals.{then-byte-eq47+in_ok-add, else-byte-eq47}

pub loop-at-preserved : goal.loop-at-preserved
loop-at-preserved c =
    let dir = c.args.dir.now in
    let text = c.without_last_slash-text.result.now in
    let at = c.loop-at.at in
    let old = folders_in c.args.made.now.items in
    let mid = folders_in c.loop-at.made.items in
    let new = folders_in c.if-byte-eq47.made.items in
    let so_far = c.loop-at.invariant in
    elim c.if-byte-eq47.branch [
      | then-byte-eq47+in_ok-add w ↦
          let new_is : new ≡ insert mid (take at text) = ap (λ v. folders_in v.items) w.made-is ∙ w.in_ok-add.ensures.ok in
          record {
            some = makes_one dir (take at text) old mid new so_far.some (is_parent dir text at c.without_last_slash-text.ensures c.loop-at-test.true w.if-byte-eq47.true) new_is;
            below = below_one text at mid new new_is so_far.below;
          }
      | else-byte-eq47 w ↦
          let new_is : new ≡ mid = ap (λ v. folders_in v.items) w.made-is in
          record {
            some = subst (λ (s : Folders). MakesSome dir old s) (sym new_is) so_far.some;
            below = subst (λ (s : Folders). MadeBelow text (at + 1) s) (sym new_is) (below_same text at mid w.if-byte-eq47.false so_far.below);
          }
    ]

pub returns-clause-all : goal.returns-clause-all
returns-clause-all c =
    let text = c.without_last_slash-text.result.now in
    let mid = folders_in c.loop-at.made.items in
    let all : (k : _) → k < length text → _ = λ k lt. c.loop-at.invariant.below k (omega (arith, c.loop-at-test.false)) in
    makes_all c.args.dir.now text (folders_in c.args.made.now.items) mid (folders_in c.add-2.new.made.items) c.without_last_slash-text.ensures c.loop-at.invariant.some all c.in_ok-add-2.ensures.ok

pub returns-clause-some : goal.returns-clause-some
returns-clause-some c =
    let text = c.without_last_slash-text.result.now in
    makes_one c.args.dir.now text (folders_in c.args.made.now.items) (folders_in c.loop-at.made.items) (folders_in c.add-2.new.made.items) c.loop-at.invariant.some (inl c.without_last_slash-text.ensures) c.in_ok-add-2.ensures.ok
