use Rattle.lru_index.specs.Hashing.{key_hash}
use Rattle.std.proofs.Common.{arith, length, refl, ap, ◌∙◌}
use Rattle.lru_list.specs.Linked.{Linked, pushed_head}
use Rattle.lru_rows.specs.Rows.{recency}
use Rattle.lru_rows.specs.Representation.Columns.{rows_in}
use Rattle.lru_rows.proofs.Pushed.{has_vacancy, lacks_full, lacks_some, none_free, none_freed, refused_memory, room_made, room_refused, view_longer, kept_back, view_back}
use Rattle.lru_rows.proofs.rows.Rows.make_vacancy.Goals as goal

pub returns-then-has_freed : goal.returns-then-has_freed
returns-then-has_freed g c = has_vacancy g.K.PartialEq.eq (key_hash g.S.BuildHasher g.S.Hasher.Hasher g.K.Hash.hash_input) c.self.inside.order.list c.self.inside.columns.index c.self.inside.columns.weights.items c.self.inside.columns.values.items c.self.invariant c.args.self.now c.self.view_is c.has_freed.result c.has_freed.ensures c.if-has_freed.true

pub returns-then-len-ge-MOST_ITEMS : goal.returns-then-len-ge-MOST_ITEMS
returns-then-len-ge-MOST_ITEMS g c = (lacks_full g.K.PartialEq.eq (key_hash g.S.BuildHasher g.S.Hasher.Hasher g.K.Hash.hash_input) c.self.inside.order.list c.self.inside.columns.index c.self.inside.columns.weights.items c.self.inside.columns.values.items c.self.invariant c.args.self.now c.self.view_is c.len-len.result c.len-len.ensures.len c.len-len.ensures.few c.if-len-ge-MOST_ITEMS.true, refl)

pub returns-then-is_err : goal.returns-then-is_err
returns-then-is_err g c = ((lacks_some g.K.PartialEq.eq (key_hash g.S.BuildHasher g.S.Hasher.Hasher g.K.Hash.hash_input) c.self.inside.order.list c.self.inside.columns.index c.self.inside.columns.weights.items c.self.inside.columns.values.items c.self.invariant c.args.self.now c.self.view_is c.len-len.result c.len-len.ensures.len (omega (arith, c.if-len-ge-MOST_ITEMS.false)), none_free g.K.PartialEq.eq (key_hash g.S.BuildHasher g.S.Hasher.Hasher g.K.Hash.hash_input) c.self.inside.order.list c.self.inside.columns.index c.self.inside.columns.weights.items c.self.inside.columns.values.items c.self.invariant c.args.self.now c.self.view_is c.len-len.result c.len-len.ensures.len (room_refused c.make_room.result (length c.self.inside.columns.values.items) c.len-len.result c.make_room.ensures.refused c.if-is_err.ensures.negation)), view_longer g.K.PartialEq.eq (key_hash g.S.BuildHasher g.S.Hasher.Hasher g.K.Hash.hash_input) c.self.inside.order.list c.self.inside.columns.index c.self.inside.columns.weights.items c.self.inside.columns.values.items c.self.invariant c.args.self.now c.self.view_is c.make_room.new.self.weights.items c.make_room.new.self.values.items c.make_room.ensures.same)

pub returns-in-Err-Memory : goal.returns-in-Err-Memory
returns-in-Err-Memory g c =
    let m = refused_memory c.self.inside.order.list (pushed_head c.self.inside.order.list c.default.result) c.default.result c.in-Err-Memory.field-0 c.in-Err-Memory.field-0-0 c.push_head.new.self c.in-Err-Memory.field-0-is c.in-Err-Memory.ensures.pushes in (
      (lacks_some g.K.PartialEq.eq (key_hash g.S.BuildHasher g.S.Hasher.Hasher g.K.Hash.hash_input) c.self.inside.order.list c.self.inside.columns.index c.self.inside.columns.weights.items c.self.inside.columns.values.items c.self.invariant c.args.self.now c.self.view_is c.len-len.result c.len-len.ensures.len (omega (arith, c.if-len-ge-MOST_ITEMS.false)), none_freed g.K.PartialEq.eq (key_hash g.S.BuildHasher g.S.Hasher.Hasher g.K.Hash.hash_input) c.self.inside.order.list c.self.inside.columns.index c.self.inside.columns.weights.items c.self.inside.columns.values.items c.self.invariant c.args.self.now c.self.view_is m.0),
      ap (λ (l : Linked g.row.K.Denot). recency (rows_in c.make_room.new.self.weights.items c.make_room.new.self.values.items l.live) (length l.freed)) m.2
          ∙ view_longer g.K.PartialEq.eq (key_hash g.S.BuildHasher g.S.Hasher.Hasher g.K.Hash.hash_input) c.self.inside.order.list c.self.inside.columns.index c.self.inside.columns.weights.items c.self.inside.columns.values.items c.self.invariant c.args.self.now c.self.view_is c.make_room.new.self.weights.items c.make_room.new.self.values.items c.make_room.ensures.same,
    )

pub invariant_of-self-2 : goal.invariant_of-self-2
invariant_of-self-2 g c = kept_back g.K.PartialEq.eq (key_hash g.S.BuildHasher g.S.Hasher.Hasher g.K.Hash.hash_input) c.self.inside.order.list c.make_room.new.self.index c.make_room.new.self.weights.items c.make_room.new.self.values.items c.make_room.ensures.kept c.args.self.now (view_longer g.K.PartialEq.eq (key_hash g.S.BuildHasher g.S.Hasher.Hasher g.K.Hash.hash_input) c.self.inside.order.list c.self.inside.columns.index c.self.inside.columns.weights.items c.self.inside.columns.values.items c.self.invariant c.args.self.now c.self.view_is c.make_room.new.self.weights.items c.make_room.new.self.values.items c.make_room.ensures.same) (room_made (length c.self.inside.order.list.live) c.len-len.result c.len-len.ensures.len c.make_room.result (length c.make_room.new.self.values.items) c.make_room.ensures.room c.if-is_err.ensures.negation) g.K.Default.is_default c.default.result c.in-Ok.place c.push_head.new.self c.in-Ok.ensures.pushes.1 c.in-Ok.ensures.pushes.2 c.remove.result c.remove.new.self c.remove.ensures.removes c.remove.ensures.numbered

pub returns : goal.returns
returns g c = (lacks_some g.K.PartialEq.eq (key_hash g.S.BuildHasher g.S.Hasher.Hasher g.K.Hash.hash_input) c.self.inside.order.list c.self.inside.columns.index c.self.inside.columns.weights.items c.self.inside.columns.values.items c.self.invariant c.args.self.now c.self.view_is c.len-len.result c.len-len.ensures.len (omega (arith, c.if-len-ge-MOST_ITEMS.false)), view_back g.K.PartialEq.eq (key_hash g.S.BuildHasher g.S.Hasher.Hasher g.K.Hash.hash_input) c.self.inside.order.list c.make_room.new.self.index c.make_room.new.self.weights.items c.make_room.new.self.values.items c.make_room.ensures.kept c.args.self.now (view_longer g.K.PartialEq.eq (key_hash g.S.BuildHasher g.S.Hasher.Hasher g.K.Hash.hash_input) c.self.inside.order.list c.self.inside.columns.index c.self.inside.columns.weights.items c.self.inside.columns.values.items c.self.invariant c.args.self.now c.self.view_is c.make_room.new.self.weights.items c.make_room.new.self.values.items c.make_room.ensures.same) (room_made (length c.self.inside.order.list.live) c.len-len.result c.len-len.ensures.len c.make_room.result (length c.make_room.new.self.values.items) c.make_room.ensures.room c.if-is_err.ensures.negation) g.K.Default.is_default c.default.result c.in-Ok.place c.push_head.new.self c.in-Ok.ensures.pushes.1 c.in-Ok.ensures.pushes.2 c.remove.result c.remove.new.self c.remove.ensures.removes c.remove.ensures.numbered)
