-- All rows go, the first first.
use Rattle.std.proofs.Common.{◌≡◌, Some, None, ◌+◌, ◌<◌, [], ◌∷◌, ◌++◌, length, refl, sym, ap, ◌∙◌, subst, arith, append_assoc, append-nil}
use Rattle.std.specs.List.{FoldsTo}
use Rattle.std.proofs.lemmas.List.{length-append, map-append}
use Rattle.lru_rows.specs.declared.rows.Taken.{Taken}
use Rattle.lru_rows.specs.Rows.{Recency, recency, PopsFirst}
use Rattle.lru_owned_cache.specs.declared.entry.Entry.{Entry}
use Rattle.lru_owned_cache.specs.Entries.{entry, entry_in, entries_in}
use Rattle.lru_owned_cache.specs.Partings.{Draining, DrainsRows}
use Rattle.lru_owned_cache.proofs.Lists.{shown_more}

pub none_drained : {K V F : Type 0} (Step : F → Entry K V → F → Type 0) (visit : F) (old : Recency K V) → Draining Step visit visit old old
none_drained Step visit old = record { front = []; parts = refl; free_is = omega arith; shown = refl }

module _ {K V F : Type 0} {Step : F → Entry K V → F → Type 0} {visit : F} {old : Recency K V} where
  module _ {last : F} {now next : Recency K V} (s : Draining Step visit last old now) where
    pub fewer_left : {t : Taken K V} → PopsFirst now (Some t) next → length next.rows < length now.rows
    fewer_left pops = omega (arith, ap length pops.2, ap (λ (x : Recency K V). length x.rows) pops.4)

    -- one more goes
    pub one_drained : {t : Taken K V} → PopsFirst now (Some t) next → (after : F) → Step last (entry t.key t.value t.weight) after → Draining Step visit after old next
    one_drained {t} pops after step = record {
      front = s.front ++ pops.0 ∷ [];
      parts = s.parts ∙ ap (λ rs. s.front ++ rs) pops.2 ∙ sym (append_assoc s.front (pops.0 ∷ []) pops.1) ∙ ap (λ (x : Recency K V). (s.front ++ pops.0 ∷ []) ++ x.rows) (sym pops.4);
      free_is = omega (arith, s.free_is, ap (λ (x : Recency K V). x.free) pops.4, length-append s.front (pops.0 ∷ []));
      shown =
          subst (λ es. FoldsTo Step visit es after) (sym (map-append entry_in s.front (pops.0 ∷ [])))
          (shown_more Step visit last (entries_in s.front) (entry_in pops.0) after (entry t.key t.value t.weight) (ap (λ (x : Taken K V). entry x.key x.value x.weight) pops.3) step s.shown);
    }

    -- none is left
    pub all_drained : PopsFirst now None next → DrainsRows Step visit old next
    all_drained pops =
        let all : old.rows ≡ s.front = s.parts ∙ ap (λ rs. s.front ++ rs) pops.0 ∙ append-nil s.front in
        record {
          last = last;
          shown = subst (λ rs. FoldsTo Step visit (entries_in rs) last) (sym all) s.shown;
          left = pops.1 ∙ ap (λ rs. recency rs now.free) pops.0 ∙ ap (recency []) (s.free_is ∙ ap (λ rs. old.free + length rs) (sym all));
        }
