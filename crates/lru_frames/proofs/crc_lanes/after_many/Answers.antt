use Rattle.std.proofs.Common.{ap, sym, ◌∙◌}
use Rattle.std.specs.List.{fold}
use Rattle.std.proofs.lemmas.List.Sums.{fold-append}
use Rattle.std.proofs.lemmas.Nat.{xor_comm}
use Rattle.lru_frames.specs.Crc.{step}
use Rattle.lru_frames.specs.CrcLanes.{joined}
use Rattle.lru_frames.proofs.crc_lanes.after_many.Goals as goal

pub loop-rest-init : goal.loop-rest-init
loop-rest-init c =
    let lanes = c.new-lanes.result in
    let front = c.split_at.result.0.now in
    let back = c.split_at.result.1.now in
    ap (λ x. fold step (joined x lanes.second lanes.third lanes.fourth) back) (xor_comm lanes.first c.args.state)
    ∙ ap (λ s. fold step s back) (sym (c.new-lanes.ensures c.args.state))
    ∙ sym (fold-append step c.args.state front back) ∙ ap (fold step c.args.state) (sym c.split_at.ensures.by_index.0)
