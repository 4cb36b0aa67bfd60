use Rattle.std.proofs.Common.{◌≡◌, ◌∙◌, ap, sym, length, cond, eqb, Some}
use Rattle.trace_player_inside.specs.Representation.Windows.{place_of}
use Rattle.trace_player_inside.proofs.Noted.{renoted, put}
use Rattle.trace_player_inside.proofs.one_pass.note.Goals as goal
use Rattle.trace_player_inside.proofs.one_pass.note.Goals.{in-Some, in-None+else-is_err}

pub returns-clause-places : goal.returns-clause-places
returns-clause-places c k =
    let before = c.args.places.now in
    let place : c.len-place.result ≡ length c.args.is_last.now.items = c.len-place.ensures ∙ c.args.is_last.now.ok.0 in
    let there = ap (λ d. cond (eqb c.args.key k) (Some d) (place_of before k)) place in
    elim c.match-find.branch [
      | in-Some w ↦
          let finds = w.in-Some.ensures.finds in
          ap (λ r. place_of r k) (w.places-is ∙ w.replace-before.ensures.rows)
          ∙ renoted before.rows c.args.key w.in-Some.row c.len-place.result finds.0 finds.1 finds.2 (c.find.ensures.valid.places w.in-Some.row) k ∙ there
      | in-None+else-is_err w ↦
          ap (λ r. place_of r k) w.places-is
          ∙ put before w.push_first.new.self c.args.key c.len-place.result 1 w.push_first.result (sym w.if-is_err.ensures.value) w.push_first.ensures k ∙ there
    ]
