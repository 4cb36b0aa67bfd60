use Rattle.std.proofs.Common.{refl, sym}
use Rattle.lru_owned_cache.specs.Cache.{entry_of}
use Rattle.lru_owned_cache.proofs.Putting.{none_is, same_unused, put_new, put_refused}
use Rattle.lru_owned_cache.proofs.cache.Cache.use_or_put.Goals as goal

pub returns-then-promote : goal.returns-then-promote
returns-then-promote g c = (sym c.if-promote.ensures.answer, c.if-promote.ensures.entries)

pub returns-in-Err : goal.returns-in-Err
returns-in-Err g c = (none_is (entry_of g.K.PartialEq.eq c.args.self.now.entries c.args.key) (sym c.if-promote.ensures.answer), (c.in-Err.ensures, (refl, same_unused g.K.PartialEq.eq c.args.self.now c.if-promote.ensures.valid c.args.key (none_is (entry_of g.K.PartialEq.eq c.args.self.now.entries c.args.key) (sym c.if-promote.ensures.answer)) c.promote.new.self c.if-promote.ensures.entries)))

pub returns-in-Ok-put : goal.returns-in-Ok-put
returns-in-Ok-put g c = (c.in-Ok.made, (c.in-Ok.ensures, put_new g.K.PartialEq.eq c.args.self.now c.if-promote.ensures.valid c.args.key (none_is (entry_of g.K.PartialEq.eq c.args.self.now.entries c.args.key) (sym c.if-promote.ensures.answer)) c.promote.new.self c.if-promote.ensures.entries (λ p x q. goal.F-step g p x tt q) c.args.visit c.in-Ok.made.0 c.in-Ok.made.1 c.put.new.self c.in-Ok-put.field-0 c.in-Ok-put.ensures))

pub returns : goal.returns
returns g c = (none_is (entry_of g.K.PartialEq.eq c.args.self.now.entries c.args.key) (sym c.if-promote.ensures.answer), (c.in-Ok.made, (c.in-Ok.ensures, put_refused g.K.PartialEq.eq c.args.self.now c.if-promote.ensures.valid c.args.key (none_is (entry_of g.K.PartialEq.eq c.args.self.now.entries c.args.key) (sym c.if-promote.ensures.answer)) c.promote.new.self c.if-promote.ensures.entries (λ p x q. goal.F-step g p x tt q) c.args.visit c.in-Ok.made.0 c.in-Ok.made.1 c.put.new.self c.in-Err-put.refused c.in-Err-put.ensures)))
