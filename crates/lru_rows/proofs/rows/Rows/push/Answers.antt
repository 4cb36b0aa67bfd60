use Rattle.lru_index.specs.Hashing.{key_hash}
use Rattle.std.specs.Prelude.{if◌then◌else◌}
use Rattle.std.proofs.Common.{arith, length, refl, subst, sym, ap, ◌∙◌}
use Rattle.lru_list.specs.Linked.{Linked, pushed_head, pushed_tail}
use Rattle.lru_rows.specs.Rows.{LacksPlace, recency}
use Rattle.lru_rows.specs.Representation.Columns.{rows_in}
use Rattle.lru_rows.proofs.Pushed.{lacks_full, lacks_some, none_free, none_freed, refused_memory, room_made, room_refused, view_longer, new_live, new_positive, new_within, new_weighed, new_indexable, new_fits, new_free, kept_pushed, view_pushed, not_there_before}
use Rattle.lru_rows.proofs.rows.Rows.push.Goals as goal

pub returns-then-len-ge-MOST_ITEMS : goal.returns-then-len-ge-MOST_ITEMS
returns-then-len-ge-MOST_ITEMS g c = (subst (LacksPlace c.args.self.now) (sym c.new.ensures.cause) (lacks_full g.K.PartialEq.eq (key_hash g.S.BuildHasher g.S.Hasher.Hasher g.K.Hash.hash_input) c.self.inside.order.list c.self.inside.columns.index c.self.inside.columns.weights.items c.self.inside.columns.values.items c.self.invariant c.args.self.now c.self.view_is c.len-len.result c.len-len.ensures.len c.len-len.ensures.few c.if-len-ge-MOST_ITEMS.true), c.new.ensures.key, c.new.ensures.value, refl)

pub returns-then-is_err : goal.returns-then-is_err
returns-then-is_err g c = (
  subst (LacksPlace c.args.self.now) (sym c.new-then-is_err.ensures.cause) (lacks_some g.K.PartialEq.eq (key_hash g.S.BuildHasher g.S.Hasher.Hasher g.K.Hash.hash_input) c.self.inside.order.list c.self.inside.columns.index c.self.inside.columns.weights.items c.self.inside.columns.values.items c.self.invariant c.args.self.now c.self.view_is c.len-len.result c.len-len.ensures.len (omega (arith, c.if-len-ge-MOST_ITEMS.false)), none_free g.K.PartialEq.eq (key_hash g.S.BuildHasher g.S.Hasher.Hasher g.K.Hash.hash_input) c.self.inside.order.list c.self.inside.columns.index c.self.inside.columns.weights.items c.self.inside.columns.values.items c.self.invariant c.args.self.now c.self.view_is c.len-len.result c.len-len.ensures.len (room_refused c.make_room.result (length c.self.inside.columns.values.items) c.len-len.result c.make_room.ensures.refused c.if-is_err.ensures.negation)),
  c.new-then-is_err.ensures.key,
  c.new-then-is_err.ensures.value,
  view_longer g.K.PartialEq.eq (key_hash g.S.BuildHasher g.S.Hasher.Hasher g.K.Hash.hash_input) c.self.inside.order.list c.self.inside.columns.index c.self.inside.columns.weights.items c.self.inside.columns.values.items c.self.invariant c.args.self.now c.self.view_is c.make_room.new.self.weights.items c.make_room.new.self.values.items c.make_room.ensures.same,
)

pub overflow_cast-place : goal.overflow_cast-place
overflow_cast-place g c = omega (arith, new_fits g.K.PartialEq.eq (key_hash g.S.BuildHasher g.S.Hasher.Hasher g.K.Hash.hash_input) c.self.inside.order.list c.make_room.new.self.index c.make_room.new.self.weights.items c.make_room.new.self.values.items c.make_room.ensures.kept c.args.self.now (view_longer g.K.PartialEq.eq (key_hash g.S.BuildHasher g.S.Hasher.Hasher g.K.Hash.hash_input) c.self.inside.order.list c.self.inside.columns.index c.self.inside.columns.weights.items c.self.inside.columns.values.items c.self.invariant c.args.self.now c.self.view_is c.make_room.new.self.weights.items c.make_room.new.self.values.items c.make_room.ensures.same) (room_made (length c.self.inside.order.list.live) c.len-len.result c.len-len.ensures.len c.make_room.result (length c.make_room.new.self.values.items) c.make_room.ensures.room c.if-is_err.ensures.negation) c.args.last c.args.key c.in-Ok.place c.push.new.self.list c.in-Ok.ensures.pushes.1 c.in-Ok.ensures.pushes.2 c.in-Ok.ensures.numbered)

pub returns-in-Err-Memory : goal.returns-in-Err-Memory
returns-in-Err-Memory g c =
    let m = refused_memory c.self.inside.order.list (if c.args.last then pushed_tail c.self.inside.order.list c.args.key else pushed_head c.self.inside.order.list c.args.key) c.args.key c.in-Err-Memory.field-0 c.in-Err-Memory.key c.push.new.self.list c.in-Err-Memory.field-0-is c.in-Err-Memory.ensures.pushes in (
      subst (LacksPlace c.args.self.now) (sym c.new-in-Err-Memory.ensures.cause) (lacks_some g.K.PartialEq.eq (key_hash g.S.BuildHasher g.S.Hasher.Hasher g.K.Hash.hash_input) c.self.inside.order.list c.self.inside.columns.index c.self.inside.columns.weights.items c.self.inside.columns.values.items c.self.invariant c.args.self.now c.self.view_is c.len-len.result c.len-len.ensures.len (omega (arith, c.if-len-ge-MOST_ITEMS.false)), none_freed g.K.PartialEq.eq (key_hash g.S.BuildHasher g.S.Hasher.Hasher g.K.Hash.hash_input) c.self.inside.order.list c.self.inside.columns.index c.self.inside.columns.weights.items c.self.inside.columns.values.items c.self.invariant c.args.self.now c.self.view_is m.0),
      c.new-in-Err-Memory.ensures.key ∙ m.1,
      c.new-in-Err-Memory.ensures.value,
      ap (λ (l : Linked g.row.K.Denot). recency (rows_in c.make_room.new.self.weights.items c.make_room.new.self.values.items l.live) (length l.freed)) m.2
          ∙ view_longer g.K.PartialEq.eq (key_hash g.S.BuildHasher g.S.Hasher.Hasher g.K.Hash.hash_input) c.self.inside.order.list c.self.inside.columns.index c.self.inside.columns.weights.items c.self.inside.columns.values.items c.self.invariant c.args.self.now c.self.view_is c.make_room.new.self.weights.items c.make_room.new.self.values.items c.make_room.ensures.same,
    )

pub key_at-key-requires : goal.key_at-key-requires
key_at-key-requires g c = new_live g.K.PartialEq.eq (key_hash g.S.BuildHasher g.S.Hasher.Hasher g.K.Hash.hash_input) c.self.inside.order.list c.make_room.new.self.index c.make_room.new.self.weights.items c.make_room.new.self.values.items c.make_room.ensures.kept c.args.self.now (view_longer g.K.PartialEq.eq (key_hash g.S.BuildHasher g.S.Hasher.Hasher g.K.Hash.hash_input) c.self.inside.order.list c.self.inside.columns.index c.self.inside.columns.weights.items c.self.inside.columns.values.items c.self.invariant c.args.self.now c.self.view_is c.make_room.new.self.weights.items c.make_room.new.self.values.items c.make_room.ensures.same) (room_made (length c.self.inside.order.list.live) c.len-len.result c.len-len.ensures.len c.make_room.result (length c.make_room.new.self.values.items) c.make_room.ensures.room c.if-is_err.ensures.negation) c.args.last c.args.key c.in-Ok.place c.push.new.self.list c.in-Ok.ensures.pushes.1 c.in-Ok.ensures.pushes.2 c.in-Ok.ensures.numbered

pub put-requires-clause-place : goal.put-requires-clause-place
put-requires-clause-place g c = new_positive g.K.PartialEq.eq (key_hash g.S.BuildHasher g.S.Hasher.Hasher g.K.Hash.hash_input) c.self.inside.order.list c.make_room.new.self.index c.make_room.new.self.weights.items c.make_room.new.self.values.items c.make_room.ensures.kept c.args.self.now (view_longer g.K.PartialEq.eq (key_hash g.S.BuildHasher g.S.Hasher.Hasher g.K.Hash.hash_input) c.self.inside.order.list c.self.inside.columns.index c.self.inside.columns.weights.items c.self.inside.columns.values.items c.self.invariant c.args.self.now c.self.view_is c.make_room.new.self.weights.items c.make_room.new.self.values.items c.make_room.ensures.same) (room_made (length c.self.inside.order.list.live) c.len-len.result c.len-len.ensures.len c.make_room.result (length c.make_room.new.self.values.items) c.make_room.ensures.room c.if-is_err.ensures.negation) c.args.last c.args.key c.in-Ok.place c.push.new.self.list c.in-Ok.ensures.pushes.1 c.in-Ok.ensures.pushes.2 c.in-Ok.ensures.numbered

pub put-requires-clause-wide : goal.put-requires-clause-wide
put-requires-clause-wide g c = new_within g.K.PartialEq.eq (key_hash g.S.BuildHasher g.S.Hasher.Hasher g.K.Hash.hash_input) c.self.inside.order.list c.make_room.new.self.index c.make_room.new.self.weights.items c.make_room.new.self.values.items c.make_room.ensures.kept c.args.self.now (view_longer g.K.PartialEq.eq (key_hash g.S.BuildHasher g.S.Hasher.Hasher g.K.Hash.hash_input) c.self.inside.order.list c.self.inside.columns.index c.self.inside.columns.weights.items c.self.inside.columns.values.items c.self.invariant c.args.self.now c.self.view_is c.make_room.new.self.weights.items c.make_room.new.self.values.items c.make_room.ensures.same) (room_made (length c.self.inside.order.list.live) c.len-len.result c.len-len.ensures.len c.make_room.result (length c.make_room.new.self.values.items) c.make_room.ensures.room c.if-is_err.ensures.negation) c.args.last c.args.key c.in-Ok.place c.push.new.self.list c.in-Ok.ensures.pushes.1 c.in-Ok.ensures.pushes.2 c.in-Ok.ensures.numbered

pub put-requires-clause-weighed : goal.put-requires-clause-weighed
put-requires-clause-weighed g c = new_weighed g.K.PartialEq.eq (key_hash g.S.BuildHasher g.S.Hasher.Hasher g.K.Hash.hash_input) c.self.inside.order.list c.make_room.new.self.index c.make_room.new.self.weights.items c.make_room.new.self.values.items c.make_room.ensures.kept c.args.self.now (view_longer g.K.PartialEq.eq (key_hash g.S.BuildHasher g.S.Hasher.Hasher g.K.Hash.hash_input) c.self.inside.order.list c.self.inside.columns.index c.self.inside.columns.weights.items c.self.inside.columns.values.items c.self.invariant c.args.self.now c.self.view_is c.make_room.new.self.weights.items c.make_room.new.self.values.items c.make_room.ensures.same) (room_made (length c.self.inside.order.list.live) c.len-len.result c.len-len.ensures.len c.make_room.result (length c.make_room.new.self.values.items) c.make_room.ensures.room c.if-is_err.ensures.negation) c.args.last c.args.key c.in-Ok.place c.push.new.self.list c.in-Ok.ensures.pushes.1 c.in-Ok.ensures.pushes.2 c.in-Ok.ensures.numbered

pub put-requires-clause-room : goal.put-requires-clause-room
put-requires-clause-room g c = new_indexable g.K.PartialEq.eq (key_hash g.S.BuildHasher g.S.Hasher.Hasher g.K.Hash.hash_input) c.self.inside.order.list c.make_room.new.self.index c.make_room.new.self.weights.items c.make_room.new.self.values.items c.make_room.ensures.kept c.args.self.now (view_longer g.K.PartialEq.eq (key_hash g.S.BuildHasher g.S.Hasher.Hasher g.K.Hash.hash_input) c.self.inside.order.list c.self.inside.columns.index c.self.inside.columns.weights.items c.self.inside.columns.values.items c.self.invariant c.args.self.now c.self.view_is c.make_room.new.self.weights.items c.make_room.new.self.values.items c.make_room.ensures.same) (room_made (length c.self.inside.order.list.live) c.len-len.result c.len-len.ensures.len c.make_room.result (length c.make_room.new.self.values.items) c.make_room.ensures.room c.if-is_err.ensures.negation) c.args.last c.args.key c.in-Ok.place c.push.new.self.list c.in-Ok.ensures.pushes.1 c.in-Ok.ensures.pushes.2 c.in-Ok.ensures.numbered

pub put-requires-clause-free : goal.put-requires-clause-free
put-requires-clause-free g c = new_free g.K.PartialEq.eq (key_hash g.S.BuildHasher g.S.Hasher.Hasher g.K.Hash.hash_input) c.self.inside.order.list c.make_room.new.self.index c.make_room.new.self.weights.items c.make_room.new.self.values.items c.make_room.ensures.kept c.args.self.now (view_longer g.K.PartialEq.eq (key_hash g.S.BuildHasher g.S.Hasher.Hasher g.K.Hash.hash_input) c.self.inside.order.list c.self.inside.columns.index c.self.inside.columns.weights.items c.self.inside.columns.values.items c.self.invariant c.args.self.now c.self.view_is c.make_room.new.self.weights.items c.make_room.new.self.values.items c.make_room.ensures.same) (room_made (length c.self.inside.order.list.live) c.len-len.result c.len-len.ensures.len c.make_room.result (length c.make_room.new.self.values.items) c.make_room.ensures.room c.if-is_err.ensures.negation) c.args.last c.args.key c.in-Ok.place c.push.new.self.list c.in-Ok.ensures.pushes.1 c.in-Ok.ensures.pushes.2 c.in-Ok.ensures.numbered

pub invariant_of-self-2 : goal.invariant_of-self-2
invariant_of-self-2 g c = kept_pushed g.K.PartialEq.eq (key_hash g.S.BuildHasher g.S.Hasher.Hasher g.K.Hash.hash_input) c.self.inside.order.list c.make_room.new.self.index c.make_room.new.self.weights.items c.make_room.new.self.values.items c.make_room.ensures.kept c.args.self.now (view_longer g.K.PartialEq.eq (key_hash g.S.BuildHasher g.S.Hasher.Hasher g.K.Hash.hash_input) c.self.inside.order.list c.self.inside.columns.index c.self.inside.columns.weights.items c.self.inside.columns.values.items c.self.invariant c.args.self.now c.self.view_is c.make_room.new.self.weights.items c.make_room.new.self.values.items c.make_room.ensures.same) (room_made (length c.self.inside.order.list.live) c.len-len.result c.len-len.ensures.len c.make_room.result (length c.make_room.new.self.values.items) c.make_room.ensures.room c.if-is_err.ensures.negation) c.args.last c.args.key c.in-Ok.place c.push.new.self.list c.in-Ok.ensures.pushes.1 c.in-Ok.ensures.pushes.2 c.in-Ok.ensures.numbered c.args.value c.args.weight c.key_at-key.result.now c.key_at-key.ensures c.put.new.self.index c.put.ensures.indexes c.put.ensures.room_same c.put.new.self.weights.items c.put.new.self.values.items c.put.ensures.weights c.put.ensures.values g.met.K.Eq.laws c.requires

pub returns : goal.returns
returns g c = (
  lacks_some g.K.PartialEq.eq (key_hash g.S.BuildHasher g.S.Hasher.Hasher g.K.Hash.hash_input) c.self.inside.order.list c.self.inside.columns.index c.self.inside.columns.weights.items c.self.inside.columns.values.items c.self.invariant c.args.self.now c.self.view_is c.len-len.result c.len-len.ensures.len (omega (arith, c.if-len-ge-MOST_ITEMS.false)),
  not_there_before g.K.PartialEq.eq (key_hash g.S.BuildHasher g.S.Hasher.Hasher g.K.Hash.hash_input) c.self.inside.order.list c.make_room.new.self.index c.make_room.new.self.weights.items c.make_room.new.self.values.items c.make_room.ensures.kept c.args.self.now (view_longer g.K.PartialEq.eq (key_hash g.S.BuildHasher g.S.Hasher.Hasher g.K.Hash.hash_input) c.self.inside.order.list c.self.inside.columns.index c.self.inside.columns.weights.items c.self.inside.columns.values.items c.self.invariant c.args.self.now c.self.view_is c.make_room.new.self.weights.items c.make_room.new.self.values.items c.make_room.ensures.same) (room_made (length c.self.inside.order.list.live) c.len-len.result c.len-len.ensures.len c.make_room.result (length c.make_room.new.self.values.items) c.make_room.ensures.room c.if-is_err.ensures.negation) c.args.last c.args.key c.in-Ok.place c.push.new.self.list c.in-Ok.ensures.pushes.1 c.in-Ok.ensures.pushes.2 c.in-Ok.ensures.numbered c.args.value c.args.weight c.key_at-key.result.now c.key_at-key.ensures c.put.new.self.index c.put.ensures.indexes c.put.ensures.room_same c.put.new.self.weights.items c.put.new.self.values.items c.put.ensures.weights c.put.ensures.values g.met.K.Eq.laws c.requires,
  view_pushed g.K.PartialEq.eq (key_hash g.S.BuildHasher g.S.Hasher.Hasher g.K.Hash.hash_input) c.self.inside.order.list c.make_room.new.self.index c.make_room.new.self.weights.items c.make_room.new.self.values.items c.make_room.ensures.kept c.args.self.now (view_longer g.K.PartialEq.eq (key_hash g.S.BuildHasher g.S.Hasher.Hasher g.K.Hash.hash_input) c.self.inside.order.list c.self.inside.columns.index c.self.inside.columns.weights.items c.self.inside.columns.values.items c.self.invariant c.args.self.now c.self.view_is c.make_room.new.self.weights.items c.make_room.new.self.values.items c.make_room.ensures.same) (room_made (length c.self.inside.order.list.live) c.len-len.result c.len-len.ensures.len c.make_room.result (length c.make_room.new.self.values.items) c.make_room.ensures.room c.if-is_err.ensures.negation) c.args.last c.args.key c.in-Ok.place c.push.new.self.list c.in-Ok.ensures.pushes.1 c.in-Ok.ensures.pushes.2 c.in-Ok.ensures.numbered c.args.value c.args.weight c.key_at-key.result.now c.key_at-key.ensures c.put.new.self.index c.put.ensures.indexes c.put.ensures.room_same c.put.new.self.weights.items c.put.new.self.values.items c.put.ensures.weights c.put.ensures.values g.met.K.Eq.laws c.requires,
)
