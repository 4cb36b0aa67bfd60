use Rattle.std.proofs.Common.{◌≡◌, ◌+◌, [], ◌∷◌, ◌++◌, length, arith, sym, ap, ◌∙◌, subst}
use Rattle.atomic_table.specs.Table.{Me}
use Rattle.lru_recording.specs.declared.entry.Stamp.{Stamp}
use Rattle.lru_recording.specs.declared.entry.Hand.{Hand}
use Rattle.lru_short_locks.specs.Hands.{Among}
use Rattle.lru_recording.specs.Ties.{hand}
use Rattle.lru_recording.specs.Stamps.{entry, receipt, stamp, slip, stamps_in, slips_in, TurnsRise}
use Rattle.lru_recording.proofs.Lists.{stamps_snoc, slips_snoc, rises_on, came_before}
use Rattle.lru_recording.proofs.journal.Journal.note.Goals as goal

pub invariant_of-self : goal.invariant_of-self
invariant_of-self g c =
    let n = c.args.self.now.number in
    let h = c.args.self.now.history.items in
    let rs = c.args.seat.now.receipts.items in
    let t = c.args.self.now.told in
    let u = c.args.seat.now.told in
    let e = entry c.args.seat.now.number c.len-2.result c.args.call c.args.reply in
    let l = c.len.ensures in
    let place : 0 + length h ≡ c.len.result = omega (arith, l) in
    let said = stamp n c.len.result e in
    let more = c.push_reserved.ensures.items in
    let q : stamps_in n 0 h ++ said ∷ [] ≡ stamps_in n 0 c.push_reserved.new.self.items = ap (λ k. stamps_in n 0 h ++ stamp n k e ∷ []) (sym place) ∙ sym (stamps_snoc n 0 h e) ∙ ap (stamps_in n 0) (sym more) in
    let known : (x : Stamp) → Among x (stamps_in n 0 h) → x.seat ≡ c.args.seat.now.number → Among x (slips_in c.args.seat.now.number 0 rs) = λ x a same. subst (λ (m : Me Stamp Hand). Among x m.0.slips) u (c.stamp.ensures.known x (subst (λ (m : Me Stamp Hand). Among x m.0.book) (sym t) a) same) in
    record {
      here = c.stamp.ensures.ids.0 ∙ c.args.self.now.here;
      told = c.stamp.ensures.book ∙ (λ i. (hand (n ∷ []) [] ((t i).0.book ++ said ∷ []) [], [])) ∙ (λ i. (hand (n ∷ []) [] (q i) [], []));
      rising = subst TurnsRise (sym more) (rises_on h e c.args.self.now.rising (λ p d at same. let b = came_before n c.args.seat.now.number p h rs d known at same in let k = c.len-2.ensures in omega (arith, b, k)));
    }

pub invariant_of-seat : goal.invariant_of-seat
invariant_of-seat g c =
    let n = c.args.seat.now.number in
    let h = c.args.seat.now.receipts.items in
    let t = c.args.seat.now.told in
    let r = receipt c.args.self.now.number c.len.result c.args.call c.args.reply in
    let l = c.len-2.ensures in
    let turn : 0 + length h ≡ c.len-2.result = omega (arith, l) in
    let said = slip n c.len-2.result r in
    let q : slips_in n 0 h ++ said ∷ [] ≡ slips_in n 0 c.push_reserved-2.new.self.items = ap (λ k. slips_in n 0 h ++ slip n k r ∷ []) (sym turn) ∙ sym (slips_snoc n 0 h r) ∙ ap (slips_in n 0) (sym c.push_reserved-2.ensures.items) in
    record {
      here = c.stamp.ensures.ids.1 ∙ c.args.seat.now.here;
      told = c.stamp.ensures.seat ∙ (λ i. (hand [] (n ∷ []) [] ((t i).0.slips ++ said ∷ []), [])) ∙ (λ i. (hand [] (n ∷ []) [] (q i), []));
    }
