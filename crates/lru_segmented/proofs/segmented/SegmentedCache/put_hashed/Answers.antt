use Rattle.std.proofs.Common.{arith, sym, ap, ◌∙◌}
use Rattle.lru_index.specs.Hashing.{key_hash}
use Rattle.lru_segmented.proofs.Put.{by_names, same_hashes, mid_light, mid_few, mid_absent, mid_placed, mid_short, puts_again, puts_new, puts_refused}
use Rattle.lru_segmented.proofs.segmented.SegmentedCache.put_hashed.Goals as goal

pub rejoin-requires-clause-hash : goal.rejoin-requires-clause-hash
rejoin-requires-clause-hash g c = c.requires.hash ∙ ap (λ h. key_hash g.S.BuildHasher g.S.Hasher.Hasher g.K.Hash.hash_input h c.args.key) (sym (same_hashes g.K.PartialEq.eq (λ p x q. goal.F-step g p x tt q) c.args.visit c.args.self.now c.remove_hashed-was.ensures.valid c.args.key c.args.value c.args.weight (omega (arith, c.if-weight-most_weight.false, c.most_weight-most_weight.ensures)) (omega (arith, c.if-most_entries-eq0.false, c.most_entries-most_entries.ensures)) c.let_go.new.self
    (by_names (λ p x q. goal.F-step g p x tt q) c.args.visit c.args.self.now c.remove_hashed-was.new.self c.let_go.new.self g.K.PartialEq.eq c.args.key c.args.weight c.most_weight-most_weight.result c.most_entries-most_entries.result c.most_weight-most_weight.ensures c.most_entries-most_entries.ensures c.remove_hashed-was.ensures.left c.let_go.ensures)))

pub rejoin-requires-clause-absent : goal.rejoin-requires-clause-absent
rejoin-requires-clause-absent g c = mid_absent g.K.PartialEq.eq (λ p x q. goal.F-step g p x tt q) c.args.visit c.args.self.now c.remove_hashed-was.ensures.valid c.args.key c.args.value c.args.weight (omega (arith, c.if-weight-most_weight.false, c.most_weight-most_weight.ensures)) (omega (arith, c.if-most_entries-eq0.false, c.most_entries-most_entries.ensures)) c.let_go.new.self
    (by_names (λ p x q. goal.F-step g p x tt q) c.args.visit c.args.self.now c.remove_hashed-was.new.self c.let_go.new.self g.K.PartialEq.eq c.args.key c.args.weight c.most_weight-most_weight.result c.most_entries-most_entries.result c.most_weight-most_weight.ensures c.most_entries-most_entries.ensures c.remove_hashed-was.ensures.left c.let_go.ensures)

pub rejoin-requires-clause-light : goal.rejoin-requires-clause-light
rejoin-requires-clause-light g c = mid_light g.K.PartialEq.eq (λ p x q. goal.F-step g p x tt q) c.args.visit c.args.self.now c.remove_hashed-was.ensures.valid c.args.key c.args.value c.args.weight (omega (arith, c.if-weight-most_weight.false, c.most_weight-most_weight.ensures)) (omega (arith, c.if-most_entries-eq0.false, c.most_entries-most_entries.ensures)) c.let_go.new.self
    (by_names (λ p x q. goal.F-step g p x tt q) c.args.visit c.args.self.now c.remove_hashed-was.new.self c.let_go.new.self g.K.PartialEq.eq c.args.key c.args.weight c.most_weight-most_weight.result c.most_entries-most_entries.result c.most_weight-most_weight.ensures c.most_entries-most_entries.ensures c.remove_hashed-was.ensures.left c.let_go.ensures)

pub rejoin-requires-clause-few : goal.rejoin-requires-clause-few
rejoin-requires-clause-few g c = mid_few g.K.PartialEq.eq (λ p x q. goal.F-step g p x tt q) c.args.visit c.args.self.now c.remove_hashed-was.ensures.valid c.args.key c.args.value c.args.weight (omega (arith, c.if-weight-most_weight.false, c.most_weight-most_weight.ensures)) (omega (arith, c.if-most_entries-eq0.false, c.most_entries-most_entries.ensures)) c.let_go.new.self
    (by_names (λ p x q. goal.F-step g p x tt q) c.args.visit c.args.self.now c.remove_hashed-was.new.self c.let_go.new.self g.K.PartialEq.eq c.args.key c.args.weight c.most_weight-most_weight.result c.most_entries-most_entries.result c.most_weight-most_weight.ensures c.most_entries-most_entries.ensures c.remove_hashed-was.ensures.left c.let_go.ensures)

pub rejoin-requires-clause-placed : goal.rejoin-requires-clause-placed
rejoin-requires-clause-placed g c = mid_placed g.K.PartialEq.eq (λ p x q. goal.F-step g p x tt q) c.args.visit c.args.self.now c.remove_hashed-was.ensures.valid c.args.key c.args.value c.args.weight (omega (arith, c.if-weight-most_weight.false, c.most_weight-most_weight.ensures)) (omega (arith, c.if-most_entries-eq0.false, c.most_entries-most_entries.ensures)) c.let_go.new.self
    (by_names (λ p x q. goal.F-step g p x tt q) c.args.visit c.args.self.now c.remove_hashed-was.new.self c.let_go.new.self g.K.PartialEq.eq c.args.key c.args.weight c.most_weight-most_weight.result c.most_entries-most_entries.result c.most_weight-most_weight.ensures c.most_entries-most_entries.ensures c.remove_hashed-was.ensures.left c.let_go.ensures)
    c.in-Some.entry (sym c.in-Some.ensures.answer)

pub rejoin-requires-clause-short : goal.rejoin-requires-clause-short
rejoin-requires-clause-short g c = mid_short g.K.PartialEq.eq (λ p x q. goal.F-step g p x tt q) c.args.visit c.args.self.now c.remove_hashed-was.ensures.valid c.args.key c.args.value c.args.weight (omega (arith, c.if-weight-most_weight.false, c.most_weight-most_weight.ensures)) (omega (arith, c.if-most_entries-eq0.false, c.most_entries-most_entries.ensures)) c.let_go.new.self
    (by_names (λ p x q. goal.F-step g p x tt q) c.args.visit c.args.self.now c.remove_hashed-was.new.self c.let_go.new.self g.K.PartialEq.eq c.args.key c.args.weight c.most_weight-most_weight.result c.most_entries-most_entries.result c.most_weight-most_weight.ensures c.most_entries-most_entries.ensures c.remove_hashed-was.ensures.left c.let_go.ensures)
    c.in-Some.entry (sym c.in-Some.ensures.answer)

pub returns-in-Some : goal.returns-in-Some
returns-in-Some g c = puts_again g.K.PartialEq.eq (λ p x q. goal.F-step g p x tt q) c.args.visit c.args.self.now c.remove_hashed-was.ensures.valid c.args.key c.args.value c.args.weight (omega (arith, c.if-weight-most_weight.false, c.most_weight-most_weight.ensures)) (omega (arith, c.if-most_entries-eq0.false, c.most_entries-most_entries.ensures)) c.let_go.new.self
    (by_names (λ p x q. goal.F-step g p x tt q) c.args.visit c.args.self.now c.remove_hashed-was.new.self c.let_go.new.self g.K.PartialEq.eq c.args.key c.args.weight c.most_weight-most_weight.result c.most_entries-most_entries.result c.most_weight-most_weight.ensures c.most_entries-most_entries.ensures c.remove_hashed-was.ensures.left c.let_go.ensures)
    c.in-Some.entry (sym c.in-Some.ensures.answer) c.rejoin.new.self c.rejoin.ensures

pub enter-requires-clause-hash : goal.enter-requires-clause-hash
enter-requires-clause-hash g c = c.requires.hash ∙ ap (λ h. key_hash g.S.BuildHasher g.S.Hasher.Hasher g.K.Hash.hash_input h c.args.key) (sym (same_hashes g.K.PartialEq.eq (λ p x q. goal.F-step g p x tt q) c.args.visit c.args.self.now c.remove_hashed-was.ensures.valid c.args.key c.args.value c.args.weight (omega (arith, c.if-weight-most_weight.false, c.most_weight-most_weight.ensures)) (omega (arith, c.if-most_entries-eq0.false, c.most_entries-most_entries.ensures)) c.let_go.new.self
    (by_names (λ p x q. goal.F-step g p x tt q) c.args.visit c.args.self.now c.remove_hashed-was.new.self c.let_go.new.self g.K.PartialEq.eq c.args.key c.args.weight c.most_weight-most_weight.result c.most_entries-most_entries.result c.most_weight-most_weight.ensures c.most_entries-most_entries.ensures c.remove_hashed-was.ensures.left c.let_go.ensures)))

pub enter-requires-clause-absent : goal.enter-requires-clause-absent
enter-requires-clause-absent g c = mid_absent g.K.PartialEq.eq (λ p x q. goal.F-step g p x tt q) c.args.visit c.args.self.now c.remove_hashed-was.ensures.valid c.args.key c.args.value c.args.weight (omega (arith, c.if-weight-most_weight.false, c.most_weight-most_weight.ensures)) (omega (arith, c.if-most_entries-eq0.false, c.most_entries-most_entries.ensures)) c.let_go.new.self
    (by_names (λ p x q. goal.F-step g p x tt q) c.args.visit c.args.self.now c.remove_hashed-was.new.self c.let_go.new.self g.K.PartialEq.eq c.args.key c.args.weight c.most_weight-most_weight.result c.most_entries-most_entries.result c.most_weight-most_weight.ensures c.most_entries-most_entries.ensures c.remove_hashed-was.ensures.left c.let_go.ensures)

pub enter-requires-clause-light : goal.enter-requires-clause-light
enter-requires-clause-light g c = mid_light g.K.PartialEq.eq (λ p x q. goal.F-step g p x tt q) c.args.visit c.args.self.now c.remove_hashed-was.ensures.valid c.args.key c.args.value c.args.weight (omega (arith, c.if-weight-most_weight.false, c.most_weight-most_weight.ensures)) (omega (arith, c.if-most_entries-eq0.false, c.most_entries-most_entries.ensures)) c.let_go.new.self
    (by_names (λ p x q. goal.F-step g p x tt q) c.args.visit c.args.self.now c.remove_hashed-was.new.self c.let_go.new.self g.K.PartialEq.eq c.args.key c.args.weight c.most_weight-most_weight.result c.most_entries-most_entries.result c.most_weight-most_weight.ensures c.most_entries-most_entries.ensures c.remove_hashed-was.ensures.left c.let_go.ensures)

pub enter-requires-clause-few : goal.enter-requires-clause-few
enter-requires-clause-few g c = mid_few g.K.PartialEq.eq (λ p x q. goal.F-step g p x tt q) c.args.visit c.args.self.now c.remove_hashed-was.ensures.valid c.args.key c.args.value c.args.weight (omega (arith, c.if-weight-most_weight.false, c.most_weight-most_weight.ensures)) (omega (arith, c.if-most_entries-eq0.false, c.most_entries-most_entries.ensures)) c.let_go.new.self
    (by_names (λ p x q. goal.F-step g p x tt q) c.args.visit c.args.self.now c.remove_hashed-was.new.self c.let_go.new.self g.K.PartialEq.eq c.args.key c.args.weight c.most_weight-most_weight.result c.most_entries-most_entries.result c.most_weight-most_weight.ensures c.most_entries-most_entries.ensures c.remove_hashed-was.ensures.left c.let_go.ensures)

pub returns-in-Ok : goal.returns-in-Ok
returns-in-Ok g c = puts_new g.K.PartialEq.eq (λ p x q. goal.F-step g p x tt q) c.args.visit c.args.self.now c.remove_hashed-was.ensures.valid c.args.key c.args.value c.args.weight (omega (arith, c.if-weight-most_weight.false, c.most_weight-most_weight.ensures)) (omega (arith, c.if-most_entries-eq0.false, c.most_entries-most_entries.ensures)) c.let_go.new.self
    (by_names (λ p x q. goal.F-step g p x tt q) c.args.visit c.args.self.now c.remove_hashed-was.new.self c.let_go.new.self g.K.PartialEq.eq c.args.key c.args.weight c.most_weight-most_weight.result c.most_entries-most_entries.result c.most_weight-most_weight.ensures c.most_entries-most_entries.ensures c.remove_hashed-was.ensures.left c.let_go.ensures)
    (sym c.in-None.ensures.answer) c.enter.new.self c.in-Ok.ensures

pub returns-in-Err : goal.returns-in-Err
returns-in-Err g c = puts_refused g.K.PartialEq.eq (λ p x q. goal.F-step g p x tt q) c.args.visit c.args.self.now c.remove_hashed-was.ensures.valid c.args.key c.args.value c.args.weight (omega (arith, c.if-weight-most_weight.false, c.most_weight-most_weight.ensures)) (omega (arith, c.if-most_entries-eq0.false, c.most_entries-most_entries.ensures)) c.let_go.new.self
    (by_names (λ p x q. goal.F-step g p x tt q) c.args.visit c.args.self.now c.remove_hashed-was.new.self c.let_go.new.self g.K.PartialEq.eq c.args.key c.args.weight c.most_weight-most_weight.result c.most_entries-most_entries.result c.most_weight-most_weight.ensures c.most_entries-most_entries.ensures c.remove_hashed-was.ensures.left c.let_go.ensures)
    (sym c.in-None.ensures.answer) c.in-Err.refused c.enter.new.self c.in-Err.ensures
