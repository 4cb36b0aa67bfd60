use Rattle.std.proofs.Common.{◌≡◌, ◌+◌, ℕ, List, take, replicate, map, ◌∷◌, [], ◌++◌, cond, string_bytes, Some, None, true, false, refl, sym, ◌∙◌, ap, arith}
use Rattle.std.specs.Prelude.{is_none}
use Rattle.std.proofs.lemmas.List.{append-nil, map_push, replicate_more}
use Rattle.lru_folder.specs.Blames.{Blame, blame_of, ReadDirEntry}
use Rattle.lru_folder.specs.declared.fault.FolderFault.TheVariants.{Io}
use Rattle.lru_folder.specs.Names.{is_temp_name, path_text}
use Rattle.lru_folder.specs.Listings.{name_of}
use Rattle.lru_shard_files.proofs.CleanupLemmas.{take_push, found, found_temp, found_other, found_none, nameless, nameless-push}
use Rattle.lru_shard_files.proofs.cleanup.temp_files.Goals as goal
use Rattle.lru_shard_files.proofs.cleanup.temp_files.Goals.{in-Name+then-is_temp_name+in_ok-path_of-in-Name+in_ok-push-in-Name, in-Name+else-is_temp_name, in-Unreadable+in_ok-path-in-Unreadable+in_ok-push-in-Unreadable}

pub loop-entry-preserved : goal.loop-entry-preserved
loop-entry-preserved c =
    let dir = c.args.dir_path.now in
    let file_name = c.args.file_name.now in
    let listed = c.args.listed.now in
    let i = c.loop-entry.entry-index in
    let x = c.entry-item.result in
    let so_far = c.loop-entry.invariant in
    let one_more = take_push listed i x c.loop-entry-test.true c.entry-item.is in
    let blame : Blame = record { call = ReadDirEntry; path = dir; cause = Io } in
    let none_more : (n : ℕ) → is_none (name_of x) ≡ false → n ≡ nameless (take i listed) → nameless (take (i + 1) listed) ≡ n =
    λ n named is. ap nameless one_more ∙ nameless-push (take i listed) x ∙ ap (λ b. nameless (take i listed) + cond b 1 0) named ∙ omega (arith, is) in
    elim c.match-entry.branch [
      | in-Name+then-is_temp_name+in_ok-path_of-in-Name+in_ok-push-in-Name w ↦
          let named : name_of x ≡ Some (string_bytes w.in-Name.name) = ap name_of w.in-Name.is in
          let temp : is_temp_name file_name (string_bytes w.in-Name.name) ≡ true = ap (is_temp_name file_name) (sym w.deref.ensures) ∙ sym w.is_temp_name.ensures ∙ w.if-is_temp_name.true in
          let path = w.in_ok-path_of-in-Name.field-0 in
          record {
            paths = ap (λ v. map string_bytes v.items) w.paths-is ∙ ap (map string_bytes) (w.in_ok-push-in-Name.ensures {u = tt}).items ∙ map_push string_bytes c.loop-entry.paths.items path
                ∙ ap (λ ps. ps ++ string_bytes path ∷ []) so_far.paths
                ∙ ap (λ (p : List ℕ). found dir file_name (take i listed) ++ p ∷ []) (w.in_ok-path_of-in-Name.ensures {u = tt} ∙ ap (path_text dir) w.deref-then-is_temp_name.ensures)
                ∙ sym (ap (found dir file_name) one_more ∙ found_temp dir file_name (take i listed) x (string_bytes w.in-Name.name) named temp);
            unreadable = ap (λ v. map blame_of v.items) w.unreadable-is ∙ so_far.unreadable ∙ ap (λ n. replicate n blame) (sym (none_more (nameless (take i listed)) (ap is_none named) refl));
          }
      | in-Name+else-is_temp_name w ↦
          let named : name_of x ≡ Some (string_bytes w.in-Name.name) = ap name_of w.in-Name.is in
          let other : is_temp_name file_name (string_bytes w.in-Name.name) ≡ false = ap (is_temp_name file_name) (sym w.deref.ensures) ∙ sym w.is_temp_name.ensures ∙ w.if-is_temp_name.false in
          record {
            paths = ap (λ v. map string_bytes v.items) w.paths-is ∙ so_far.paths
                ∙ sym (ap (found dir file_name) one_more ∙ found_other dir file_name (take i listed) x (string_bytes w.in-Name.name) named other ∙ append-nil (found dir file_name (take i listed)));
            unreadable = ap (λ v. map blame_of v.items) w.unreadable-is ∙ so_far.unreadable ∙ ap (λ n. replicate n blame) (sym (none_more (nameless (take i listed)) (ap is_none named) refl));
          }
      | in-Unreadable+in_ok-path-in-Unreadable+in_ok-push-in-Unreadable w ↦
          let unnamed : name_of x ≡ None = ap name_of w.in-Unreadable.is in
          let path = w.in_ok-path-in-Unreadable.path in
          let one : nameless (take (i + 1) listed) ≡ nameless (take i listed) + 1 = ap nameless one_more ∙ nameless-push (take i listed) x ∙ ap (λ o. nameless (take i listed) + cond (is_none o) 1 0) unnamed in
          record {
            paths = ap (λ v. map string_bytes v.items) w.paths-is ∙ so_far.paths
                ∙ sym (ap (found dir file_name) one_more ∙ found_none dir file_name (take i listed) x unnamed ∙ append-nil (found dir file_name (take i listed)));
            unreadable = ap (λ v. map blame_of v.items) w.unreadable-is ∙ ap (map blame_of) (w.in_ok-push-in-Unreadable.ensures {u = tt}).items ∙ map_push blame_of c.loop-entry.unreadable.items _
                ∙ ap (λ bs. bs ++ record { call = ReadDirEntry; path = string_bytes path; cause = Io } ∷ []) so_far.unreadable
                ∙ ap (λ (p : List ℕ). replicate (nameless (take i listed)) blame ++ record { call = ReadDirEntry; path = p; cause = Io } ∷ []) ((w.in_ok-path-in-Unreadable.ensures {u = tt}).ok)
                ∙ replicate_more (nameless (take i listed)) blame ∙ ap (λ n. replicate n blame) (sym one);
          }
    ]
