use Rattle.std.proofs.Common.{refl}
use Rattle.lru_segmented.proofs.Put.{used_new, used_refused}
use Rattle.lru_segmented.proofs.segmented.SegmentedCache.use_or_put.Goals as goal

pub returns-then-promote_hashed : goal.returns-then-promote_hashed
returns-then-promote_hashed g c = c.if-promote_hashed.ensures.uses

pub returns-in-Err : goal.returns-in-Err
returns-in-Err g c = (c.if-promote_hashed.ensures.uses.0, (c.in-Err.ensures, (refl, c.if-promote_hashed.ensures.uses.1)))

pub returns-in-Ok-put_hashed : goal.returns-in-Ok-put_hashed
returns-in-Ok-put_hashed g c =
    (c.in-Ok.made, (c.in-Ok.ensures, used_new g.K.PartialEq.eq (λ p x q. goal.F-step g p x tt q) c.args.visit c.args.self.now c.promote_hashed.new.self c.args.key c.in-Ok.made.0 c.in-Ok.made.1 c.if-promote_hashed.ensures.uses.0 c.if-promote_hashed.ensures.uses.1 c.put_hashed.new.self c.in-Ok-put_hashed.field-0 c.in-Ok-put_hashed.ensures))

pub returns : goal.returns
returns g c = (
  c.if-promote_hashed.ensures.uses.0,
  (c.in-Ok.made, (c.in-Ok.ensures, used_refused g.K.PartialEq.eq (λ p x q. goal.F-step g p x tt q) c.args.visit c.args.self.now c.promote_hashed.new.self c.args.key c.in-Ok.made.0 c.in-Ok.made.1 c.if-promote_hashed.ensures.uses.0 c.if-promote_hashed.ensures.uses.1 c.put_hashed.new.self c.in-Err-put_hashed.refused c.in-Err-put_hashed.ensures)),
)
