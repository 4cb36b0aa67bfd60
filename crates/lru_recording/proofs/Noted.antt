-- A call that is made and noted keeps the history legal.
use Rattle.std.proofs.Common.{◌≡◌, ℕ, ◌%◌, ◌<◌, List, [], ◌∷◌, ◌++◌, map, Option, Some, None, refl, sym, ap, ◌∙◌, subst}
use Rattle.lru_shard.specs.Limits.{cap_of}
use Rattle.lru_short_locks.proofs.Hands.{map_snoc}
use Rattle.lru_recording.specs.declared.entry.Entry.{Entry}
use Rattle.lru_recording.specs.declared.entry.Call.{Call}
use Rattle.lru_recording.specs.declared.entry.Reply.{Reply}
use Rattle.lru_recording.specs.Stamps.{entry, and_entry}
use Rattle.lru_shard.specs.Shard.{Shard}
use Rattle.lru_recording.specs.Plain.{Plain, Step, step, called, forget}
use Rattle.lru_recording.specs.Histories.{left_by, answers, replies, home}

-- the call, with this reply, leads from one list to the other; where it has none, nothing changed
abbrev pub Stands : ℕ → List Plain → Call → Option Reply → List Plain → Type 0
Stands cap rows call None rows' = rows' ≡ rows
Stands cap rows call (Some reply) rows' = called cap rows call ≡ step rows' reply

-- what a recording keeps of its history
pub record Told (n s : ℕ) (rows : List Plain) (es : List Entry) : Type 0 where
  pub ends : rows ≡ left_by (cap_of n) [] es
  pub right : replies es ≡ answers (cap_of n) [] es
  pub homes : map (λ (e : Entry). home n s e.call) es ≡ map (λ (_ : Entry). s) es

left_snoc : (cap : ℕ) (rows : List Plain) (es : List Entry) (e : Entry) → left_by cap rows (es ++ e ∷ []) ≡ (called cap (left_by cap rows es) e.call).rows
left_snoc cap rows [] e = refl
left_snoc cap rows (x ∷ es) e = left_snoc cap (called cap rows x.call).rows es e

answers_snoc : (cap : ℕ) (rows : List Plain) (es : List Entry) (e : Entry) → answers cap rows (es ++ e ∷ []) ≡ answers cap rows es ++ (called cap (left_by cap rows es) e.call).reply ∷ []
answers_snoc cap rows [] e = refl
answers_snoc cap rows (x ∷ es) e = λ i. (called cap rows x.call).reply ∷ answers_snoc cap (called cap rows x.call).rows es e i

told_more : (n s : ℕ) (rows rows' : List Plain) (es : List Entry) (e : Entry) → home n s e.call ≡ s → called (cap_of n) rows e.call ≡ step rows' e.reply → Told n s rows es → Told n s rows' (es ++ e ∷ [])
told_more n s rows rows' es e of_shard stands t = record {
  ends = sym (left_snoc (cap_of n) [] es e ∙ ap (λ l. (called (cap_of n) l e.call).rows) (sym t.ends) ∙ ap (λ (x : Step). x.rows) stands);
  right = map_snoc (λ (x : Entry). x.reply) es e ∙ (λ i. t.right i ++ (sym (ap (λ (x : Step). x.reply) stands) ∙ ap (λ l. (called (cap_of n) l e.call).reply) t.ends) i ∷ []) ∙ sym (answers_snoc (cap_of n) [] es e);
  homes = map_snoc (λ (x : Entry). home n s x.call) es e ∙ (λ i. t.homes i ++ of_shard i ∷ []) ∙ sym (map_snoc (λ (_ : Entry). s) es e);
}

told_noted : (n s seat turn : ℕ) (rows rows' : List Plain) (es : List Entry) (call : Call) (reply : Option Reply) → home n s call ≡ s → Stands (cap_of n) rows call reply rows' → Told n s rows es → Told n s rows' (and_entry es seat turn call reply)
told_noted n s seat turn rows rows' es call None of_shard stands t = subst (λ l. Told n s l es) (sym stands) t
told_noted n s seat turn rows rows' es call (Some reply) of_shard stands t = told_more n s rows rows' es (entry seat turn call reply) of_shard stands t

-- a recording: its number is below n, its cap is that of n shards, and its history is told
pub record Keeps {T : Type 0} (n s : ℕ) (unit : Shard T) (es : List Entry) : Type 0 where
  pub below : s < n
  pub capped : unit.cap ≡ cap_of n
  pub told : Told n s (forget unit.rows) es

-- the same after a call and its note; the journal's number and history were left by a reserve
pub keeps : {T : Type 0} (n s s' seat turn : ℕ) (old new : Shard T) (es mid es' : List Entry) (call : Call) (reply noted : Option Reply) → s < n → old.cap ≡ cap_of n →
    forget old.rows ≡ left_by (cap_of n) [] es → replies es ≡ answers (cap_of n) [] es → map (λ (e : Entry). home n s e.call) es ≡ map (λ (_ : Entry). s) es →
    home n s call ≡ s → new.cap ≡ old.cap → Stands old.cap (forget old.rows) call reply (forget new.rows) → noted ≡ reply → mid ≡ es → es' ≡ and_entry mid seat turn call noted → s' ≡ s → Keeps n s' new es'
keeps n s s' seat turn old new es mid es' call reply noted below capped ends right homes of_shard cap stands same_reply same more number =
    subst (λ (x : ℕ). Keeps n x new es') (sym number) record {
      below = below;
      capped = cap ∙ capped;
      told = subst (λ l. Told n s (forget new.rows) l) (sym (more ∙ (λ i. and_entry (same i) seat turn call (same_reply i))))
          (told_noted n s seat turn (forget old.rows) (forget new.rows) es call reply of_shard (subst (λ x. Stands x (forget old.rows) call reply (forget new.rows)) capped stands) record { ends = ends; right = right; homes = homes });
    }
