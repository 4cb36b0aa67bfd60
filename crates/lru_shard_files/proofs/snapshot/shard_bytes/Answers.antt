use Rattle.std.proofs.Common.{ℕ, ◌++◌, ◌∷◌, [], sym, ap, ◌∙◌, append_assoc, append-nil}
use Rattle.lru_shard_files.specs.declared.snapshot.Keyed.{Keyed}
use Rattle.lru_shard_files.specs.Snapshot.{pair_bytes, pairs_of}
use Rattle.lru_shard_files.proofs.SnapshotLemmas.{IsNarrow, narrow-last, bytes_of-last, pairs_of-bytes_of}
use Rattle.std.specs.Prelude.{map}
use Rattle.pingora_lru.specs.Core.{list_at}
use Rattle.lru_shard_files.specs.SnapshotLoads.{row_of_pair}
use Rattle.lru_shard_files.proofs.SnapshotLoadLemmas.{rows_of_pairs}
use Rattle.lru_shard_files.proofs.snapshot.shard_bytes.Goals as goal

pub loop-data-preserved : goal.loop-data-preserved
loop-data-preserved g c =
    let inv = c.loop-data.invariant in
    let pair : Keyed × ℕ = (c.in-Some.«data».now, c.in-Some.weight) in
    let narrow : IsNarrow pair = record { key = c.put_row.ensures.narrow.0; value = c.put_row.ensures.narrow.1; weight = c.put_row.ensures.narrow.2 } in (
      inv.0 ++ pair ∷ [],
      (
        append_assoc inv.0 (pair ∷ []) c.next.new.self ∙ ap (λ xs. inv.0 ++ xs) (sym c.in-Some.ensures.steps) ∙ inv.1.0,
        (
          c.in_ok-put_row.ensures.put ∙ ap (λ bs. bs ++ pair_bytes pair) inv.1.1.0 ∙ sym (bytes_of-last inv.0 pair),
          narrow-last inv.0 pair inv.1.1.1 narrow,
        ),
      ),
    )

pub returns-clause-back : goal.returns-clause-back
returns-clause-back g c =
    let inv = c.loop-data.invariant in
    ap pairs_of inv.1.1.0 ∙ pairs_of-bytes_of inv.0 inv.1.1.1 ∙ sym (append-nil inv.0) ∙ ap (λ ps. inv.0 ++ ps) (sym c.in_default.ensures.steps.0) ∙ inv.1.0

pub returns-clause-rows : goal.returns-clause-rows
returns-clause-rows g c = λ tell.
    let inv = c.loop-data.invariant in
    ap (λ ps. map row_of_pair ps)
    (ap pairs_of inv.1.1.0 ∙ pairs_of-bytes_of inv.0 inv.1.1.1 ∙ sym (append-nil inv.0) ∙ ap (λ ps. inv.0 ++ ps) (sym c.in_default.ensures.steps.0) ∙ inv.1.0)
    ∙ rows_of_pairs (list_at c.args.core.now c.args.shard) tell
