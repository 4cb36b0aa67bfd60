use Rattle.std.proofs.Common.{◌∷◌, [], ◌++◌, Ok, Err, string_bytes, suc, refl, sym, ap, ◌∙◌, add-one}
use Rattle.std.proofs.lemmas.List.{append-nil}
use Rattle.lru_folder.specs.Meaning.{Meaning}
use Rattle.lru_shard_files.specs.Turns.{Ends, SavesOne, turn_of}
use Rattle.lru_shard_files.proofs.Putting.{same_progress, at_place}
use Rattle.lru_shard_files.proofs.shard_saver.ShardSaver.put.Goals as goal
use Rattle.lru_shard_files.proofs.shard_saver.ShardSaver.put.Goals.{in-Err, in_default}

pub returns-clause-turn : goal.returns-clause-turn
returns-clause-turn g c =
    let F = g.F.Folder in
    let m : Meaning _ = F.meaning in
    let old = c.args.self.now in
    let is = c.self.view_is in
    let dir_is = c.deref.ensures ∙ ap (λ p. p.dir) is in
    let name_is = c.deref-2.ensures ∙ ap (λ p. p.file_name) is in
    let next_is = ap (λ p. p.next) is in
    let start = c.args.folder.now in
    let end = c.save_shard-saved.new.folder in
    elim c.match-saved.branch [
      | in-Err w ↦
          let turn = turn_of c.args.word c.args.given (Err w.in-Err.failure) in
          let pushed = rw w.unwrap.ensures at w.push.ensures.items in (
            turn,
            refl,
            refl,
            record {
              ends = at_place (λ d n s. Ends d n s turn) c.deref.result.now old.dir c.deref-2.result.now old.file_name c.self.inside.next old.next dir_is name_is next_is w.in-Err.ensures.ends;
              new_is = same_progress _ _
                  (ap (λ s. string_bytes s.dir_path) w.self-inside-is ∙ ap (λ p. p.dir) is)
                  (ap (λ s. string_bytes s.file_name) w.self-inside-is ∙ ap (λ p. p.file_name) is)
                  (ap (λ s. s.shards) w.self-inside-is ∙ ap (λ p. p.shards) is)
                  (add-one c.self.inside.next ∙ ap suc next_is)
                  (ap (λ s. s.failures.items) w.self-inside-is ∙ pushed ∙ ap (λ p. p.failures ++ w.in-Err.failure ∷ []) is);
            },
            λ k. at_place (λ d n s. SavesOne m d n s turn start end)
                c.deref.result.now old.dir c.deref-2.result.now old.file_name c.self.inside.next old.next dir_is name_is next_is (w.in-Err.ensures.saves k),
          )
      | in_default w ↦
          let turn = turn_of c.args.word c.args.given (Ok w.in_default.field-0) in (
            turn,
            refl,
            refl,
            record {
              ends = at_place (λ d n s. Ends d n s turn) c.deref.result.now old.dir c.deref-2.result.now old.file_name c.self.inside.next old.next dir_is name_is next_is w.in_default.ensures.ends;
              new_is = same_progress _ _
                  (ap (λ s. string_bytes s.dir_path) w.self-inside-is ∙ ap (λ p. p.dir) is)
                  (ap (λ s. string_bytes s.file_name) w.self-inside-is ∙ ap (λ p. p.file_name) is)
                  (ap (λ s. s.shards) w.self-inside-is ∙ ap (λ p. p.shards) is)
                  (add-one c.self.inside.next ∙ ap suc next_is)
                  (ap (λ s. s.failures.items) w.self-inside-is ∙ ap (λ p. p.failures) is ∙ sym (append-nil old.failures));
            },
            λ k. at_place (λ d n s. SavesOne m d n s turn start end)
                c.deref.result.now old.dir c.deref-2.result.now old.file_name c.self.inside.next old.next dir_is name_is next_is (w.in_default.ensures.saves k),
          )
    ]
