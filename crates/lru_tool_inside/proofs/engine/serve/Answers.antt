use Rattle.std.proofs.Common.{◌≡◌, ◌+◌, ◌++◌, ◌∷◌, [], List, ℕ, length, Some, None, refl, sym, ap, ◌∙◌, arith, append_assoc, append-nil, subst}
use Rattle.std.specs.Prelude.{is_some, map, option_map, Option}
use Rattle.std.specs.List.{list_all}
use Rattle.std.proofs.lemmas.Bool.{eqb-true}
use Rattle.std.proofs.lemmas.List.{nil_from_length}
use Rattle.lru_tool_inside.specs.Commands.{Asked, asked, command_of, commands_of}
use Rattle.pingora_lru_files.specs.Stores.{Meaning}
use Rattle.lru_tool_inside.specs.Storing.{State}
use Rattle.lru_tool_inside.specs.Replies.{Serves, error_line_text}
use Rattle.lru_lines.proofs.WriteLaws.{appends_none, appends_then}
use Rattle.lru_tool_inside.proofs.engine.serve.Goals as goal

pub loop-rest-init : goal.loop-rest-init
loop-rest-init g c = record {
  text = ([], (appends_none (g.W.Write.contents c.args.writer.now), λ rest last served. served));
  good = refl;
  count = omega arith;
  kept = (λ k. k, λ k. k);
}

pub loop-rest-preserved : goal.loop-rest-preserved
loop-rest-preserved g c =
    let m : Meaning g.row.F.Denot = g.F.Folder.meaning in
    let before : State g.row.F.Denot = record { core = c.args.core.now; folder = c.args.folder.now; words = g.R.Rng.stream c.args.rng.now } in
    let state : State g.row.F.Denot = record { core = c.loop-rest.core; folder = c.loop-rest.folder; words = g.R.Rng.stream c.loop-rest.rng } in
    let after : State g.row.F.Denot = record { core = c.answer.new.core; folder = c.answer.new.folder; words = g.R.Rng.stream c.answer.new.rng } in
    let inv = c.loop-rest.invariant in
    let done = inv.text.0 in
    let left = commands_of c.first_line.result.1.now in
    let at : commands_of c.loop-rest.rest.now ≡ Some (asked c.in-Some.command) ∷ left = ap (map command_of) c.first_line.ensures.lines ∙ ap (λ o. o ∷ left) (sym c.command_from.ensures.read ∙ ap (option_map asked) c.in-Some.is) in
    let given = c.in_ok-answer-in-Some.ensures.text in record {
      text = (
        done ++ given.0,
        (
          appends_then (g.W.Write.contents c.args.writer.now) (g.W.Write.contents c.loop-rest.writer) (g.W.Write.contents c.answer.new.writer) done given.0 inv.text.1.0 given.1.1,
          λ text last served. subst (λ (t : List ℕ). Serves m before (commands_of c.args.input.now) 1 t last) (sym (append_assoc done given.0 text))
              (inv.text.1.1 (given.0 ++ text) last
              (subst (λ (ls : List (Option Asked)). Serves m state ls (c.loop-rest.number + 1) (given.0 ++ text) last) (sym at)
              (given.0, (text, (after, (given.1.0, (served, refl))))))),
        ),
      );
      good = ap (list_all is_some) (sym at) ∙ inv.good;
      count = omega (arith, inv.count, c.first_line.ensures.shorter);
      kept = (λ k. c.answer.ensures.kept.0 (inv.kept.0 k), λ k. inv.kept.1 (c.answer.ensures.kept.1 k));
    }

pub returns-clause-text : goal.returns-clause-text
returns-clause-text g c =
    let m : Meaning g.row.F.Denot = g.F.Folder.meaning in
    let before : State g.row.F.Denot = record { core = c.args.core.now; folder = c.args.folder.now; words = g.R.Rng.stream c.args.rng.now } in
    let state : State g.row.F.Denot = record { core = c.loop-rest.core; folder = c.loop-rest.folder; words = g.R.Rng.stream c.loop-rest.rng } in
    let inv = c.loop-rest.invariant in
    let none : c.loop-rest.rest.now ≡ [] = nil_from_length c.loop-rest.rest.now (eqb-true (length c.loop-rest.rest.now) 0 (sym c.loop-rest-test.ensures)) in (
      inv.text.0,
      (
        subst (λ (t : List ℕ). Serves m before (commands_of c.args.input.now) 1 t c.loop-rest.folder) (append-nil inv.text.0)
            (inv.text.1.1 [] c.loop-rest.folder
            (subst (λ (rest : List ℕ). Serves m state (commands_of rest) (c.loop-rest.number + 1) [] c.loop-rest.folder) (sym none) (refl, refl))),
        inv.text.1.0,
      ),
    )

pub returns-in-None-clause-text : goal.returns-in-None-clause-text
returns-in-None-clause-text g c =
    let m : Meaning g.row.F.Denot = g.F.Folder.meaning in
    let state : State g.row.F.Denot = record { core = c.loop-rest.core; folder = c.loop-rest.folder; words = g.R.Rng.stream c.loop-rest.rng } in
    let inv = c.loop-rest.invariant in
    let done = inv.text.0 in
    let left = commands_of c.first_line.result.1.now in
    let at : commands_of c.loop-rest.rest.now ≡ None ∷ left = ap (map command_of) c.first_line.ensures.lines ∙ ap (λ o. o ∷ left) (sym c.command_from.ensures.read ∙ ap (option_map asked) c.in-None.is) in
    let text = error_line_text (c.loop-rest.number + 1) in (
      done ++ text,
      (
        inv.text.1.1 text c.loop-rest.folder (subst (λ (ls : List (Option Asked)). Serves m state ls (c.loop-rest.number + 1) text c.loop-rest.folder) (sym at) (refl, refl)),
        appends_then (g.W.Write.contents c.args.writer.now) (g.W.Write.contents c.loop-rest.writer) (g.W.Write.contents c.write_bad_line.new.writer) done text inv.text.1.0 c.in_ok-write_bad_line-in-None.ensures.text,
      ),
    )
