-- Laws of a shard that evicts last rows while it is past its room.
use Rattle.std.proofs.Common.{◌≡◌, ℕ, ◌+◌, ◌<◌, ◌≤◌, List, [], ◌∷◌, ◌++◌, length, take, map, true, false, Some, refl, sym, ap, ◌∙◌, arith, subst, inl, inr, append_assoc, append-nil, length-append}
use Rattle.std.specs.Prelude.{Option, option_map, reverse, All}
use Rattle.std.specs.List.{FoldsTo}
use Rattle.std.proofs.lemmas.Bool.{cases_lt}
use Rattle.std.proofs.lemmas.Fn.{FoldsTo-push}
use Rattle.std.proofs.lemmas.Grind.{reverse_onto}
use Rattle.std.proofs.Math.Seq.{take-append_seam}
use Rattle.std.proofs.lemmas.List.{map-append}
use Rattle.std.proofs.lemmas.List.Elements.{All-push, All-append}
use Rattle.lru_shard.specs.Row.{Row, pair_of, times, weight_of, last_row, without_last}
use Rattle.lru_shard.specs.Shard.{Shard, shard}
use Rattle.lru_shard.proofs.Rows.{weight-cons, weight-append, times-append}
use Rattle.lru_shard.proofs.LastRows.{last_of, last_split, length-without_last}
use Rattle.lru_shard.specs.Limits.{is_past}
use Rattle.lru_shared_order.specs.Sheds.{Sheds, VisitsLight}

reverse_push : {A : Type 0} (x : A) (xs : List A) → reverse (x ∷ xs) ≡ reverse xs ++ x ∷ []
reverse_push x xs = reverse_onto xs x []

module _ {T F : Type 0} (Step : F → T × ℕ → F → Type 0) (visit : F) (old : Shard T) (weight : ℕ) (len : Option ℕ) where
  -- what holds while it evicts
  pub record Shedding (new : Shard T) (left : F) : Type 0 where
    pub gone : List (Row T)
    pub split : old.rows ≡ new.rows ++ gone
    pub cap : new.cap ≡ old.cap
    pub some : 0 < length old.rows → 0 < length new.rows
    pub longest : (n : ℕ) → length new.rows < n → n ≤ length old.rows → is_past weight len (weight_of (take n old.rows)) n ≡ true
    pub visited : FoldsTo Step visit (map pair_of (reverse gone)) left

  pub sheds_none : Shedding old visit
  sheds_none = record {
    gone = [];
    split = sym (append-nil old.rows);
    cap = refl;
    some = λ h. h;
    longest = λ n lt le. absurd (omega (arith, lt, le));
    visited = refl;
  }

  pub sheds_last : (mid : Shard T) (p : F) → Shedding mid p → 1 < length mid.rows → is_past weight len (weight_of mid.rows) (length mid.rows) ≡ true →
      (new : Shard T) → new ≡ shard (without_last mid.rows) mid.cap → (pair : T × ℕ) → Some pair ≡ option_map pair_of (last_row mid.rows) → (q : F) → Step p pair q → Shedding new q
  sheds_last mid p s more past new is pair last q step =
      let l = last_of mid.rows pair last in
      let r = l.0 in
      let rows : new.rows ≡ without_last mid.rows = ap (λ (z : Shard T). z.rows) is in
      let fewer : length new.rows + 1 ≡ length mid.rows = omega (arith, length-without_last mid.rows r l.1.0, ap length rows) in
      record {
        gone = r ∷ s.gone;
        split = s.split ∙ ap (λ rs. rs ++ s.gone) (last_split mid.rows r l.1.0) ∙ append_assoc (without_last mid.rows) (r ∷ []) s.gone ∙ ap (λ rs. rs ++ r ∷ s.gone) (sym rows);
        cap = ap (λ (z : Shard T). z.cap) is ∙ s.cap;
        some = λ h. omega (arith, fewer, more);
        longest = λ n lt le. elim (cases_lt (length mid.rows) n) [
          | inl beyond ↦ s.longest n beyond le
          | inr up_to ↦
              let here : n ≡ length mid.rows = omega (arith, lt, up_to, fewer) in
              let front : take n old.rows ≡ mid.rows = ap (λ m. take m old.rows) here ∙ ap (take (length mid.rows)) s.split ∙ take-append_seam mid.rows s.gone in
              (λ j. is_past weight len (weight_of (front j)) (here j)) ∙ past
        ];
        visited = subst (λ ps. FoldsTo Step visit ps q)
            (sym (ap (map pair_of) (reverse_push r s.gone) ∙ map-append pair_of (reverse s.gone) (r ∷ [])))
            (FoldsTo-push Step visit (map pair_of (reverse s.gone)) p (pair_of r) q s.visited (subst (λ x. Step p x q) l.1.1 step));
      }

  pub sheds_all : (new : Shard T) (left : F) → Shedding new left → (1 < length new.rows → is_past weight len (weight_of new.rows) (length new.rows) ≡ false) → Sheds Step visit old weight len new left
  sheds_all new left s fits = record { gone = s.gone; split = s.split; cap = s.cap; some = s.some; fits = fits; longest = s.longest; visited = s.visited }

  pub shed_less : (new : Shard T) (left : F) → Shedding new left → (weight_of new.rows ≤ weight_of old.rows) × (length new.rows ≤ length old.rows)
  shed_less new left s = (omega (arith, ap weight_of s.split, weight-append new.rows s.gone), omega (arith, ap length s.split, length-append new.rows s.gone))

module _ {T : Type 0} where
  -- rows weigh no more than all of them together
  light_gone : (most : ℕ) (gone : List (Row T)) → weight_of gone ≤ most → All (λ (pair : T × ℕ). pair.1 ≤ most) (map pair_of (reverse gone))
  light_gone most [] h = λ k d lt. absurd (omega (arith, lt))
  light_gone most (r ∷ gone) h =
      subst (All (λ (pair : T × ℕ). pair.1 ≤ most)) (sym (ap (map pair_of) (reverse_push r gone) ∙ map-append pair_of (reverse gone) (r ∷ [])))
      (All-push (λ (pair : T × ℕ). pair.1 ≤ most) (map pair_of (reverse gone)) (pair_of r) (light_gone most gone (omega (arith, h, weight-cons r gone))) (omega (arith, h, weight-cons r gone)))

  pub sheds_light : {F : Type 0} (Step : F → T × ℕ → F → Type 0) (visit : F) (old : Shard T) (weight : ℕ) (len : Option ℕ) (new : Shard T) (left : F) (most : ℕ) → Sheds Step visit old weight len new left → weight_of old.rows ≤ most → VisitsLight Step visit most left
  sheds_light Step visit old weight len new left most s light =
      (map pair_of (reverse s.gone), (light_gone most s.gone (omega (arith, light, ap weight_of s.split, weight-append new.rows s.gone)), s.visited))

  pub shed_times : {F : Type 0} (Step : F → T × ℕ → F → Type 0) (visit : F) (old : Shard T) (weight : ℕ) (len : Option ℕ) (new : Shard T) (left : F) → Sheds Step visit old weight len new left → (j : ℕ) → times j new.rows ≤ times j old.rows
  shed_times Step visit old weight len new left s j = omega (arith, ap (times j) s.split, times-append j new.rows s.gone)

  -- calls after calls
  calls_after : {F : Type 0} (Step : F → T × ℕ → F → Type 0) (p q r : F) (xs ys : List (T × ℕ)) → FoldsTo Step p xs q → FoldsTo Step q ys r → FoldsTo Step p (xs ++ ys) r
  calls_after Step p q r [] ys a b = subst (λ z. FoldsTo Step z ys r) (sym a) b
  calls_after Step p q r (x ∷ xs) ys a b = (a.0, a.1, calls_after Step a.0 q r xs ys a.2 b)

  pub light_after : {F : Type 0} (Step : F → T × ℕ → F → Type 0) (most : ℕ) (p q r : F) → VisitsLight Step p most q → VisitsLight Step q most r → VisitsLight Step p most r
  light_after Step most p q r a b =
      (a.0 ++ b.0, (All-append (λ (pair : T × ℕ). pair.1 ≤ most) a.0 b.0 a.1.0 b.1.0, calls_after Step p q r a.0 b.0 a.1.1 b.1.1))

  pub light_push : {F : Type 0} (Step : F → T × ℕ → F → Type 0) (most : ℕ) (p q r : F) (pair : T × ℕ) → VisitsLight Step p most q → pair.1 ≤ most → Step q pair r → VisitsLight Step p most r
  light_push Step most p q r pair a light step =
      (a.0 ++ pair ∷ [], (All-push (λ (x : T × ℕ). x.1 ≤ most) a.0 pair a.1.0 light, FoldsTo-push Step p a.0 q pair r a.1.1 step))

  pub light_none : {F : Type 0} (Step : F → T × ℕ → F → Type 0) (most : ℕ) (p : F) → VisitsLight Step p most p
  light_none Step most p = ([], ((λ k d lt. absurd (omega (arith, lt))), refl))
