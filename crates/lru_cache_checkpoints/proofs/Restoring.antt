-- An entry was put or left out, and then others were.
use Rattle.std.proofs.Common.{◌≡◌, ℕ, ◌+◌, inl, List, ◌∷◌, Ok, Err, subst, arith, suc, true, false, sym}
use Rattle.std.specs.Prelude.{Bool, Option, Result, Vec, map, IfOk}
use Rattle.std.specs.declared.alloc.Global.{Global}
use Rattle.lru_frames.specs.Copies.{AreEach, IsEntryCopy}
use Rattle.std.proofs.lemmas.Bool.{false≢true}
use Rattle.lru_frames.specs.declared.row.Row.{Row}
use Rattle.lru_owned_cache.specs.declared.entry.Entry.{Entry}
use Rattle.lru_owned_cache.specs.declared.cache.Refused.{Refused}
use Rattle.lru_owned_cache.specs.Cache.{Cached, parts_of}
use Rattle.lru_shared_cache.specs.Related.{MayPutRelated}
use Rattle.lru_cache_checkpoints.specs.Captures.{MayCopy, PutsEntries, PutsOrLeaves, MayPutOrLeave, MayPutEntries}

module _ {K V S : Type 0} (eq : K → K → Bool) (old mid : Cached K V S) (row : Row K V) (rows : List (Row K V)) (left : ℕ) (answer : Result ℕ (Refused K V)) (new : Cached K V S) where
  pub left_more : (is_left : Bool) → is_left ≡ true → PutsOrLeaves eq old row (Ok is_left) mid → PutsEntries eq mid rows (left + 1) answer new → PutsEntries eq old (row ∷ rows) left answer new
  left_more true is put rest = let more : left + 1 ≡ suc left = omega arith in inl (true, (mid, (put, subst (λ n. PutsEntries eq mid rows n answer new) more rest)))
  left_more false is put rest = absurd (false≢true is)

  pub put_more : (is_left : Bool) → is_left ≡ false → PutsOrLeaves eq old row (Ok is_left) mid → PutsEntries eq mid rows left answer new → PutsEntries eq old (row ∷ rows) left answer new
  put_more true is put rest = absurd (false≢true (sym is))
  put_more false is put rest = inl (false, (mid, (put, rest)))

-- what was put is put so
pub may_put : {K V F : Type 0} (holds : K → V → Type 0) (eq : K → K → Bool) (row : Row K V) (Step : F → Entry K V → F → Type 0) (visit : F) (was : Option (Entry K V))
    → MayPutRelated holds eq Step visit row.key row.data row.weight (Ok was) → MayPutOrLeave eq row (Ok false)
may_put holds eq row Step visit was (old, (new, (old_own, (new_own, (fits, (had, (front, (gone, (leaves, (shown, is)))))))))) = (old, (new, (front, (gone, (leaves, is)))))

-- what follows from three facts on what was made
pub if_all_ok : {X E : Type 0} (r : Result X E) (A B C D : X → Type 0) → ((x : X) → A x → B x → C x → D x) → IfOk r A → IfOk r B → IfOk r C → IfOk r D
if_all_ok (Ok x) A B C D f a b c = f x a b c
if_all_ok (Err e) A B C D f a b c = tt

-- the same where each is of a moment of its own
module _ {K V : Type 0} (eq : K → K → Bool) (row : Row K V) (rows : List (Row K V)) (left : ℕ) (answer : Result ℕ (Refused K V)) where
  pub may_leave_more : (is_left : Bool) → is_left ≡ true → MayPutOrLeave eq row (Ok is_left) → MayPutEntries eq rows (left + 1) answer → MayPutEntries eq (row ∷ rows) left answer
  may_leave_more true is put rest = let more : left + 1 ≡ suc left = omega arith in inl (true, (put, subst (λ n. MayPutEntries eq rows n answer) more rest))
  may_leave_more false is put rest = absurd (false≢true is)

  pub may_put_more : (is_left : Bool) → is_left ≡ false → MayPutOrLeave eq row (Ok is_left) → MayPutEntries eq rows left answer → MayPutEntries eq (row ∷ rows) left answer
  may_put_more true is put rest = absurd (false≢true (sym is))
  may_put_more false is put rest = inl (false, (put, rest))

-- what was copied of a cache may be the copies of one
pub may_copy : {K V S E : Type 0} (IsCloneKey : K → K → Type 0) (IsCloneValue : V → V → Type 0) (cache : Cached K V S) (r : Result (Vec (Row K V) Global) E)
    → IfOk r (λ rows. AreEach (IsEntryCopy IsCloneKey IsCloneValue) (map parts_of cache.entries) rows.items) → IfOk r (λ rows. MayCopy IsCloneKey IsCloneValue rows.items)
may_copy IsCloneKey IsCloneValue cache (Ok rows) copies =
    (record { entries = cache.entries; places = cache.places; most_weight = cache.most_weight; most_entries = cache.most_entries; hashes = tt }, copies)
may_copy IsCloneKey IsCloneValue cache (Err e) copies = tt
