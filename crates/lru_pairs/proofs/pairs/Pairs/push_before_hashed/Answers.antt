use Rattle.lru_index.specs.Hashing.{key_hash}
use Rattle.std.proofs.Common.{subst, sym, ap, ◌∙◌, ◌≡◌, None}
use Rattle.std.specs.Prelude.{is_some}
use Rattle.std.specs.Option.{option_map}
use Rattle.lru_rows.specs.Rows.{Placed, row_of}
use Rattle.lru_rows.proofs.Listed.{some_of}
use Rattle.lru_pairs.proofs.Kept.{seen_held, seen_hashes}
use Rattle.lru_pairs.proofs.Inserted.{kept_inserted, inserted_at}
use Rattle.lru_pairs.proofs.pairs.Pairs.push_before_hashed.Goals as goal

pub key_at-requires : goal.key_at-requires
key_at-requires g c = ap (λ o. is_some (option_map (λ (r : Placed g.row.K.Denot g.row.V.Denot). r.key) o)) (inserted_at g.K.PartialEq.eq (key_hash g.S.BuildHasher g.S.Hasher.Hasher g.K.Hash.hash_input) c.make_room.new.nodes c.make_room.new.index c.make_room.ensures.kept c.args.before c.args.key c.args.value c.args.weight c.in_ok-at.at c.push_before.new.self c.in_ok-at.ensures.pushes.2 c.in_ok-at.ensures.room c.in_ok-at.ensures.valid c.in_ok-at.ensures.pushes.1)

pub insert_hashed-requires-clause-hash : goal.insert_hashed-requires-clause-hash
insert_hashed-requires-clause-hash g c =
    c.requires.hash
    ∙ ap (λ h. key_hash g.S.BuildHasher g.S.Hasher.Hasher g.K.Hash.hash_input h c.args.key) (sym (c.make_room.ensures.hashes ∙ seen_hashes c.self.inside.nodes.held c.self.inside.index.hash_builder c.args.self.now c.self.view_is))
    ∙ ap (key_hash g.S.BuildHasher g.S.Hasher.Hasher g.K.Hash.hash_input c.make_room.new.index.hash_builder) (sym (some_of c.key_at.result.now c.args.key (sym c.key_at.ensures ∙ ap (option_map (λ (r : Placed g.row.K.Denot g.row.V.Denot). r.key)) (inserted_at g.K.PartialEq.eq (key_hash g.S.BuildHasher g.S.Hasher.Hasher g.K.Hash.hash_input) c.make_room.new.nodes c.make_room.new.index c.make_room.ensures.kept c.args.before c.args.key c.args.value c.args.weight c.in_ok-at.at c.push_before.new.self c.in_ok-at.ensures.pushes.2 c.in_ok-at.ensures.room c.in_ok-at.ensures.valid c.in_ok-at.ensures.pushes.1))))

pub invariant_of-self-2 : goal.invariant_of-self-2
invariant_of-self-2 g c =
    let same = c.make_room.ensures.same ∙ (seen_held c.self.inside.nodes.held c.self.inside.index.hash_builder c.args.self.now c.self.view_is) in
    kept_inserted g.K.PartialEq.eq (key_hash g.S.BuildHasher g.S.Hasher.Hasher g.K.Hash.hash_input) c.make_room.new.nodes c.make_room.new.index c.make_room.ensures.kept c.args.before c.args.key c.args.value c.args.weight c.in_ok-at.at c.push_before.new.self c.in_ok-at.ensures.pushes.2 c.in_ok-at.ensures.room c.in_ok-at.ensures.valid c.in_ok-at.ensures.pushes.1 (subst (λ r. row_of g.K.PartialEq.eq r.rows c.args.key ≡ None) (sym same) c.requires.absent) c.insert_hashed.new.self c.key_at.result.now
    (some_of c.key_at.result.now c.args.key (sym c.key_at.ensures ∙ ap (option_map (λ (r : Placed g.row.K.Denot g.row.V.Denot). r.key)) (inserted_at g.K.PartialEq.eq (key_hash g.S.BuildHasher g.S.Hasher.Hasher g.K.Hash.hash_input) c.make_room.new.nodes c.make_room.new.index c.make_room.ensures.kept c.args.before c.args.key c.args.value c.args.weight c.in_ok-at.at c.push_before.new.self c.in_ok-at.ensures.pushes.2 c.in_ok-at.ensures.room c.in_ok-at.ensures.valid c.in_ok-at.ensures.pushes.1)))
    c.insert_hashed.ensures.indexes c.insert_hashed.ensures.room_same
