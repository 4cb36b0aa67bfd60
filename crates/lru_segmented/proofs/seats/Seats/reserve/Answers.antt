use Rattle.std.proofs.Common.{◌+◌, ◌≤◌, length, ap, subst, refl}
use Rattle.std.specs.Prelude.{IfOk}
use Rattle.lru_rows.specs.Rows.{most_rows}
use Rattle.lru_segmented.specs.Representation.{seated_in}
use Rattle.lru_segmented.proofs.Seated.{len_is, kept_same}
use Rattle.lru_segmented.proofs.seats.Seats.reserve.Goals as goal

pub returns-clause-room : goal.returns-clause-room
returns-clause-room g c =
    let r = c.reserve.new.self.held in
    subst (λ n. IfOk c.reserve.result (λ _. n + c.args.additional ≤ most_rows)) (len_is r c.reserve.new.self.hashes c.self.inside.boundary c.self.inside.weight c.self.inside.upper_weight c.self.inside.upper_len (kept_same c.self.inside.rows.held c.self.inside.rows.hashes c.self.inside.boundary c.self.inside.weight c.self.inside.upper_weight c.self.inside.upper_len c.self.invariant c.args.self.now c.self.view_is r (ap (λ p. p.held) c.reserve.ensures.same)) (seated_in r c.reserve.new.self.hashes) refl (length r.rows) refl) c.reserve.ensures.room
