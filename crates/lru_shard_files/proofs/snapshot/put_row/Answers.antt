use Rattle.std.proofs.Common.{◌≡◌, ℕ, ◌++◌, ◌∷◌, [], List, ap, ◌∙◌}
use Rattle.std.specs.Int.{w64, to_le_bytes}
use Rattle.std.specs.List.{flat_map}
use Rattle.lru_shard_files.specs.declared.snapshot.Keyed.{Keyed}
use Rattle.lru_shard_files.specs.Snapshot.{pair_bytes}
use Rattle.lru_shard_files.proofs.snapshot.put_row.Goals as goal

-- three numbers of 8 bytes each, one after the other
row_flat : (k v w : List ℕ) (p : Keyed × ℕ) → k ≡ to_le_bytes w64 p.0.key → v ≡ to_le_bytes w64 p.0.value → w ≡ to_le_bytes w64 p.1 → flat_map (λ x. x) (k ∷ v ∷ w ∷ []) ≡ pair_bytes p
row_flat k v w p e f g = λ j. flat_map (λ x. x) (e j ∷ f j ∷ g j ∷ [])

pub returns-clause-put : goal.returns-clause-put
returns-clause-put c =
    c.in_ok-extend_from_slice.ensures.items
    ∙ ap (λ bs. c.args.bytes.now.items ++ bs) (c.as_flattened.ensures.value ∙ row_flat _ _ _ (c.args.keyed, c.args.weight) c.to_le_bytes.ensures c.to_le_bytes-2.ensures c.to_le_bytes-3.ensures)
