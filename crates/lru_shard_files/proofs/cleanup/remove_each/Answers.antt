use Rattle.std.proofs.Common.{◌≡◌, ◌<◌, ◌+◌, None, add-zero, map, string_bytes, length, Ok, Err, refl, sym, ◌∙◌, ap, subst, arith, [], ◌∷◌, List, ℕ}
use Rattle.std.specs.FinMap.{get}
use Rattle.std.specs.Vec.Iter.{into_iter_items}
use Rattle.std.proofs.lemmas.List.{append-nil, map_push, nil_from_length}
use Rattle.lru_folder.specs.declared.errors.ShardFileError.TheVariants.{Remove}
use Rattle.lru_folder.specs.Blames.{blame_of}
use Rattle.lru_folder.specs.Files.{AllOrNone, removed}
use Rattle.lru_folder.proofs.FilesLemmas.{get-remove_same}
use Rattle.lru_folder.specs.Folder.{InOrder}
use Rattle.lru_folder.specs.Meaning.{Meaning}
use Rattle.lru_folder.proofs.InOrderLemmas.{in_order-push}
use Rattle.lru_folder.specs.Sparing.{SparesAllBut}
use Rattle.lru_folder.proofs.SparingLemmas.{spares_removed, each_in_order}
use Rattle.lru_shard_files.specs.Cleanup.{Removal, RemovesOne}
use Rattle.lru_shard_files.proofs.CleanupLemmas.{push_ok, EachSoFar, each_none, each_more, each_end}
use Rattle.lru_shard_files.proofs.cleanup.remove_each.Goals as goal

pub loop-path-init : goal.loop-path-init
unfolding each_none
loop-path-init g c =
    let F = g.F.Folder in
    let m : Meaning _ = F.meaning in
    let kept = F.meaning.keeps c.args.folder.now in
    let paths = map string_bytes c.args.paths.items in
    let start = c.args.folder.now in
    let blames = map blame_of c.args.failures.now.items in
    let given = c.into_iter-path-iterator.ensures.into_iter_gives in
    record {
      can = tt;
      ends = tt;
      each = subst (λ ps. (so : EachSoFar kept paths (map string_bytes ps) (F.meaning.faults start < F.meaning.faults start) (F.meaning.files start) (F.meaning.files start) 0 blames blames)
          × (kept → InOrder (RemovesOne m) 0 so.done start start)) (sym given.0)
          (each_none kept paths (F.meaning.faults start < F.meaning.faults start) (F.meaning.files start) blames c.requires.there, λ k. refl);
      counted = omega (arith, ap length given.0);
      room = omega (arith, ap length given.0);
      capacity = omega arith;
      later = λ k. omega arith;
      places = λ k. refl;
      kept = (λ k. k, λ k. k);
    }

pub loop-path-preserved : goal.loop-path-preserved
unfolding each_more
loop-path-preserved g c =
    let F = g.F.Folder in
    let m : Meaning _ = F.meaning in
    let so_far = c.loop-path.invariant in
    let path = string_bytes c.in-Some.path in
    let kept = F.meaning.keeps c.args.folder.now in
    let paths = map string_bytes c.args.paths.items in
    let before = map blame_of c.args.failures.now.items in
    let after = map blame_of c.loop-path.failures.items in
    let rest = map string_bytes (into_iter_items c.next.new.self) in
    let parts = (c.in-Some.ensures {u = tt}).steps.0 in
    let start = c.args.folder.now in
    let mid = F.meaning.files c.loop-path.folder in
    let new = F.meaning.files c.remove.new.self in
    let called = c.in_default.ensures {u = tt} in
    let counted = ap length parts in
    let each = subst (λ ps. (so : EachSoFar kept paths (map string_bytes ps) (F.meaning.faults start < F.meaning.faults c.loop-path.folder) (F.meaning.files start) mid c.loop-path.removed_files before after)
    × (kept → InOrder (RemovesOne m) 0 so.done start c.loop-path.folder)) parts so_far.each in
    record {
      can = tt;
      ends = tt;
      each = (
        each_more kept paths path rest (F.meaning.faults start < F.meaning.faults c.loop-path.folder) (F.meaning.faults start < F.meaning.faults c.remove.new.self)
            (F.meaning.files start) mid new c.loop-path.removed_files (c.loop-path.removed_files + 1) before after after (Ok tt)
            each.0 (λ k rose. omega (arith, (called.cause (so_far.kept.0 k)).later)) (λ k. subst (λ p. AllOrNone (removed p) mid new) c.deref.ensures (called.time (so_far.kept.0 k)).leaves)
            (λ k there. ap (λ m. get m path) ((called.done (so_far.kept.0 k)).1 ∙ ap (λ p. removed p mid) c.deref.ensures) ∙ get-remove_same mid path)
            refl (sym (append-nil after)),
        λ k. in_order-push (RemovesOne m) 0 (length each.0.done) each.0.done (record { path = path; answer = Ok tt }) start c.loop-path.folder c.remove.new.self (omega arith) (each.1 k) (record {
          done = ap (λ m. get m path) ((called.done (so_far.kept.0 k)).1 ∙ ap (λ p. removed p mid) c.deref.ensures) ∙ get-remove_same mid path;
          cause = called.cause (so_far.kept.0 k);
          called = called.last (so_far.kept.0 k);
          spares = subst (λ p. SparesAllBut m (p ∷ []) c.loop-path.folder c.remove.new.self) c.deref.ensures
              (spares_removed m c.deref.result.now c.loop-path.folder c.remove.new.self (so_far.kept.0 k)
              (called.time (so_far.kept.0 k)) (called.loss (so_far.kept.0 k)));
          kept = called.kept.0 (so_far.kept.0 k);
        }),
      );
      counted = omega (arith, so_far.counted, counted);
      room = omega (arith, so_far.room, counted);
      capacity = so_far.capacity;
      later = λ k. omega (arith, so_far.later k, (called.cause (so_far.kept.0 k)).later);
      places = λ k. called.places (so_far.kept.0 k) ∙ so_far.places k;
      kept = (λ k. called.kept.0 (so_far.kept.0 k), λ k. so_far.kept.1 (called.kept.1 k));
    }

pub loop-path-preserved-in-Err : goal.loop-path-preserved-in-Err
unfolding each_more
loop-path-preserved-in-Err g c =
    let F = g.F.Folder in
    let m : Meaning _ = F.meaning in
    let so_far = c.loop-path.invariant in
    let path = string_bytes c.in-Some.path in
    let source = c.in-Err.source in
    let kept = F.meaning.keeps c.args.folder.now in
    let paths = map string_bytes c.args.paths.items in
    let before = map blame_of c.args.failures.now.items in
    let after = map blame_of c.loop-path.failures.items in
    let rest = map string_bytes (into_iter_items c.next.new.self) in
    let parts = (c.in-Some.ensures {u = tt}).steps.0 in
    let start = c.args.folder.now in
    let mid = F.meaning.files c.loop-path.folder in
    let new = F.meaning.files c.remove.new.self in
    let called = c.in-Err.ensures {u = tt} in
    let counted = ap length parts in
    let each = subst (λ ps. (so : EachSoFar kept paths (map string_bytes ps) (F.meaning.faults start < F.meaning.faults c.loop-path.folder) (F.meaning.files start) mid c.loop-path.removed_files before after)
    × (kept → InOrder (RemovesOne m) 0 so.done start c.loop-path.folder)) parts so_far.each in
    let reported = c.loop-path.failures.items in
    let pushed = push_ok reported c.push.new.self.items (Remove c.in-Some.path source) c.push.result c.unwrap.result c.push.ensures.items c.unwrap.ensures in
    record {
      can = tt;
      ends = tt;
      each = (
        each_more kept paths path rest (F.meaning.faults start < F.meaning.faults c.loop-path.folder) (F.meaning.faults start < F.meaning.faults c.remove.new.self)
            (F.meaning.files start) mid new c.loop-path.removed_files c.loop-path.removed_files before after (map blame_of c.push.new.self.items) (Err source)
            each.0 (λ k rose. omega (arith, (called.cause (so_far.kept.0 k)).later)) (λ k. subst (λ p. AllOrNone (removed p) mid new) c.deref.ensures (called.time (so_far.kept.0 k)).leaves)
            (λ k there. (
              λ missing. there (subst (λ p. get mid p ≡ None) c.deref.ensures (called.found (so_far.kept.0 k) (ap Err missing))),
              λ io. let more = (called.cause (so_far.kept.0 k)).failed (ap Err io) in omega (arith, so_far.later k, more),
            ))
            (sym (add-zero c.loop-path.removed_files)) (ap (map blame_of) pushed ∙ map_push blame_of c.loop-path.failures.items (Remove c.in-Some.path source)),
        λ k. in_order-push (RemovesOne m) 0 (length each.0.done) each.0.done (record { path = path; answer = Err source }) start c.loop-path.folder c.remove.new.self (omega arith) (each.1 k) (record {
          done = tt;
          cause = called.cause (so_far.kept.0 k);
          called = called.last (so_far.kept.0 k);
          spares = subst (λ p. SparesAllBut m (p ∷ []) c.loop-path.folder c.remove.new.self) c.deref.ensures
              (spares_removed m c.deref.result.now c.loop-path.folder c.remove.new.self (so_far.kept.0 k)
              (called.time (so_far.kept.0 k)) (called.loss (so_far.kept.0 k)));
          kept = called.kept.0 (so_far.kept.0 k);
        }),
      );
      counted = omega (arith, so_far.counted, counted);
      room = omega (arith, so_far.room, counted, c.push.ensures.upper_bound);
      capacity = omega (arith, so_far.capacity, c.push.ensures.capacity);
      later = λ k. omega (arith, so_far.later k, (called.cause (so_far.kept.0 k)).later);
      places = λ k. called.places (so_far.kept.0 k) ∙ so_far.places k;
      kept = (λ k. called.kept.0 (so_far.kept.0 k), λ k. so_far.kept.1 (called.kept.1 k));
    }

pub returns-clause-removals : goal.returns-clause-removals
returns-clause-removals g c =
    let F = g.F.Folder in
    let m : Meaning _ = F.meaning in
    let so_far = c.loop-path.invariant in
    let kept = F.meaning.keeps c.args.folder.now in
    let paths = map string_bytes c.args.paths.items in
    let start = c.args.folder.now in
    let rest = c.loop-path.path-iterator.rest in
    let over : rest.items ≡ [] = nil_from_length rest.items (omega (arith, (c.in-None.ensures {u = tt}).steps.0, rest.ok.0)) in
    let each = subst (λ ps. (so : EachSoFar kept paths (map string_bytes ps) (F.meaning.faults start < F.meaning.faults c.loop-path.folder) (F.meaning.files start) (F.meaning.files c.loop-path.folder)
    c.loop-path.removed_files (map blame_of c.args.failures.now.items) (map blame_of c.loop-path.failures.items))
    × (kept → InOrder (RemovesOne m) 0 so.done start c.loop-path.folder)) over so_far.each in (
      each.0.done,
      λ k. each_end kept paths (F.meaning.faults start < F.meaning.faults c.loop-path.folder) (F.meaning.files start) (F.meaning.files c.loop-path.folder) c.loop-path.removed_files
          (map blame_of c.args.failures.now.items) (map blame_of c.loop-path.failures.items) each.0 k,
      each.1,
      each.0.counted,
      each.0.blamed,
    )

pub returns-clause-spares : goal.returns-clause-spares
returns-clause-spares g c k =
    let F = g.F.Folder in
    let m : Meaning _ = F.meaning in
    let start = c.args.folder.now in
    let end = c.loop-path.folder in
    let tried = returns-clause-removals g c in
    subst (λ (ps : List (List ℕ)). SparesAllBut m ps start end) (tried.1 k).tried
    (each_in_order m (RemovesOne m) (λ n r old new step. step.kept) (λ (r : Removal). r.path) (λ n r old new step. step.spares)
    0 tried.0 start end k (tried.2 k))
