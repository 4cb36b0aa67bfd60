use Rattle.std.proofs.Common.{ap, sym, ◌∙◌}
use Rattle.lru_rows.specs.Rows.{recency, with_value}
use Rattle.lru_segmented.specs.declared.seat.RankedValue.{RankedValue}
use Rattle.lru_segmented.specs.Representation.{seat}
use Rattle.lru_segmented.proofs.seats.mark.Goals as goal

pub returns-clause-marks : goal.returns-clause-marks
returns-clause-marks g c =
    let told = c.update.ensures.updates in (
      told.0,
      (
        told.1,
        (
          told.3.called.0 ∙ ap (λ (v : RankedValue g.row.V.Denot). v.upper) told.3.shows,
          told.4 ∙ ap (λ d. recency (with_value c.args.rows.now.held.rows c.args.place d) c.args.rows.now.held.free)
              (sym told.3.leaves ∙ told.3.called.1 ∙ ap (λ (v : RankedValue g.row.V.Denot). seat v.value c.args.upper) told.3.shows),
        ),
      ),
    )
