use Rattle.std.proofs.Common.{ap, sym, subst, ◌∙◌}
use Rattle.lru_rows.specs.Rows.{Updates}
use Rattle.lru_segmented.specs.declared.seat.RankedValue.{RankedValue}
use Rattle.lru_segmented.specs.Representation.{row_in}
use Rattle.lru_segmented.proofs.Seated.{seat_stands, kept_value, view_value, seen_there}
use Rattle.lru_segmented.proofs.seats.Seats.update.Goals as goal

pub update-requires-clause-held : goal.update-requires-clause-held
update-requires-clause-held g c = seat_stands c.self.inside.rows.held c.self.inside.rows.hashes c.self.inside.boundary c.self.inside.weight c.self.inside.upper_weight c.self.inside.upper_len c.self.invariant c.args.self.now c.self.view_is c.args.place c.requires.held

pub invariant_of-self : goal.invariant_of-self
invariant_of-self g c =
    let told = c.update.ensures.updates in
    kept_value c.self.inside.rows.held c.self.inside.rows.hashes c.self.inside.boundary c.self.inside.weight c.self.inside.upper_weight c.self.inside.upper_len c.self.invariant c.args.self.now c.self.view_is c.args.place c.requires.held told.0 told.1 told.2 (ap (λ (v : RankedValue g.row.V.Denot). v.upper) (sym told.3.leaves) ∙ told.3.called.1 ∙ ap (λ (v : RankedValue g.row.V.Denot). v.upper) told.3.shows) c.update.new.self.held told.4

pub returns : goal.returns
returns g c =
    let told = c.update.ensures.updates in (
      row_in told.0,
      (
        seen_there c.self.inside.rows.held c.self.inside.rows.hashes c.self.inside.boundary c.self.inside.weight c.self.inside.upper_weight c.self.inside.upper_len c.self.invariant c.args.self.now c.self.view_is c.args.place c.requires.held told.0 told.1 told.2 (ap (λ (v : RankedValue g.row.V.Denot). v.upper) (sym told.3.leaves) ∙ told.3.called.1 ∙ ap (λ (v : RankedValue g.row.V.Denot). v.upper) told.3.shows) c.update.new.self.held told.4,
        (
          told.2.value,
          (
            subst (λ v. Updates (λ lent w answer left. (g.U.FnOnce).post c.args.update (lent, (w, tt)) (answer, (left, tt))) v told.0.weight c.update.result told.2.value) (ap (λ (v : RankedValue g.row.V.Denot). v.value) told.3.shows)
                (subst (λ v. Updates (λ lent w answer left. (g.U.FnOnce).post c.args.update (lent, (w, tt)) (answer, (left, tt))) told.3.lent.now.value told.0.weight c.update.result v) (ap (λ (v : RankedValue g.row.V.Denot). v.value) told.3.leaves) told.3.called.0),
            view_value c.self.inside.rows.held c.self.inside.rows.hashes c.self.inside.boundary c.self.inside.weight c.self.inside.upper_weight c.self.inside.upper_len c.self.invariant c.args.self.now c.self.view_is c.args.place c.requires.held told.0 told.1 told.2 (ap (λ (v : RankedValue g.row.V.Denot). v.upper) (sym told.3.leaves) ∙ told.3.called.1 ∙ ap (λ (v : RankedValue g.row.V.Denot). v.upper) told.3.shows) c.update.new.self.held told.4 c.update.new.self.hashes c.update.ensures.hashes,
          ),
        ),
      ),
    )
