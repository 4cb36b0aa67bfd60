-- When a cache under a limit is refused an object: its rows weigh no more than the limit, and each weighs something.
use Rattle.std.proofs.Common.{◌≡◌, ℕ, ◌+◌, ◌-◌, ◌<◌, ◌≤◌, max, cond, ltb, leb, ◌&&◌, [], ◌∷◌, length, sym, ap, subst, ◌∙◌, arith, Some, None, Err, inl, inr}
use Rattle.std.specs.Prelude.{Option, nat_le, nat_lt}
use Rattle.std.proofs.lemmas.Bool.{leb-true, cond_both, and_parts, cases_Bool, cases_lt, le-ltb}
use Rattle.lru_shard.specs.Row.{Row, row, weight_of, without, with_first}
use Rattle.lru_shard.specs.Shard.{Shard, Size, size_of, and_row, most_rows, refusal, MayRefuse}
use Rattle.lru_shard.specs.Unit.{RefusesNew, UpdatesRow}
use Rattle.lru_shard.specs.declared.unit.RefusedUpdate.{RefusedUpdate}
use Rattle.lru_shard.specs.declared.unit.Cause.{Cause}
use Rattle.lru_shard.specs.declared.unit.Cause.TheVariants.{Memory, Weight, Length}
use Rattle.lru_shard.proofs.Rows.{weight-cons, by_key}
use Rattle.trace_player_inside.specs.declared.player.Request.{Request}
use Rattle.trace_player_inside.specs.Traces.{Rows, load, front, let_in, kept_after, MayRefuseUnder}

-- each row weighs something
abbrev pub Heavy : Rows → Type 0
Heavy [] = Unit {0}
Heavy (r ∷ rows) = (1 ≤ r.weight) × Heavy rows

-- the rows of a cache under a limit
pub record Fits (limit : ℕ) (rows : Rows) : Type 0 where
  pub light : weight_of rows ≤ limit
  pub heavy : Heavy rows

many : (rows : Rows) → Heavy rows → length rows ≤ weight_of rows
many [] h = omega arith
many (r ∷ rows) h = omega (arith, many rows h.1, h.0, weight-cons r rows)

-- so they are no more than the limit
pub fits_few : (limit : ℕ) (rows : Rows) → Fits limit rows → length rows ≤ limit
fits_few limit rows h = omega (arith, many rows h.heavy, h.light)

pub weight_less : (k : ℕ) (rows : Rows) → weight_of (without rows k) ≤ weight_of rows
weight_less k [] = omega arith
weight_less k (r ∷ rows) =
    by_key k r rows (λ rs. weight_of rs ≤ weight_of (r ∷ rows))
    (λ e. omega (arith, weight_less k rows, weight-cons r rows))
    (λ e. omega (arith, weight_less k rows, weight-cons r rows, weight-cons r (without rows k)))

heavy_less : (k : ℕ) (rows : Rows) → Heavy rows → Heavy (without rows k)
heavy_less k [] h = tt
heavy_less k (r ∷ rows) h = by_key k r rows Heavy (λ e. heavy_less k rows h.1) (λ e. (h.0, heavy_less k rows h.1))

heavy_front : (limit : ℕ) (rows : Rows) → Heavy rows → Heavy (front limit rows)
heavy_front limit [] h = tt
heavy_front limit (r ∷ rows) h =
    cond_both (nat_le r.weight limit) (r ∷ front (limit - r.weight) rows) [] Heavy (λ e. (h.0, heavy_front (limit - r.weight) rows h.1)) (λ e. tt)

weight_front : (limit : ℕ) (rows : Rows) → weight_of (front limit rows) ≤ limit
weight_front limit [] = omega arith
weight_front limit (r ∷ rows) =
    cond_both (nat_le r.weight limit) (r ∷ front (limit - r.weight) rows) [] (λ xs. weight_of xs ≤ limit)
    (λ e. omega (arith, leb-true r.weight limit e, weight_front (limit - r.weight) rows, weight-cons r (front (limit - r.weight) rows)))
    (λ e. omega arith)

pub fits_none : (limit : ℕ) → Fits limit []
fits_none limit = record { light = omega arith; heavy = tt }

-- they still do after a request
pub fits_more : (limit : ℕ) (rows : Rows) (q : Request) → Fits limit rows → Fits limit (kept_after limit rows q)
fits_more limit rows q h =
    let one : 1 ≤ load q = omega arith in
    cond_both (nat_lt limit (load q)) (without rows q.key) (front limit (let_in rows q)) (Fits limit)
    (λ e. record { light = omega (arith, h.light, weight_less q.key rows); heavy = heavy_less q.key rows h.heavy })
    (λ e. record { light = weight_front limit (let_in rows q); heavy = heavy_front limit (let_in rows q) (one, heavy_less q.key rows h.heavy) })

-- a refusal for a weight, and one for a length
too_heavy : (cap : ℕ) (old new : Size) → refusal cap old new ≡ Some Weight → cap < new.weight
too_heavy cap old new h =
    elim (cases_lt cap new.weight) [
      | inl heavy ↦ heavy
      | inr light ↦ absurd (elim (cases_Bool (ltb old.len new.len && leb (most_rows cap) old.len)) [
        | inl e ↦ let x : Some Length ≡ Some Weight = sym (ap (λ b. cond b (Some Length) (cond (ltb cap new.weight) (Some Weight) None)) e) ∙ h in cc
        | inr e ↦ let x : None ≡ Some Weight = sym (ap (λ b. cond b (Some Length) (cond (ltb cap new.weight) (Some Weight) None)) e ∙ ap (λ b. cond b (Some Weight) None) (le-ltb cap new.weight light)) ∙ h in cc
      ])
    ]

too_long : (cap : ℕ) (old new : Size) → refusal cap old new ≡ Some Length → most_rows cap ≤ old.len
too_long cap old new h =
    elim (cases_Bool (ltb old.len new.len && leb (most_rows cap) old.len)) [
      | inl e ↦ leb-true (most_rows cap) old.len (and_parts (ltb old.len new.len) (leb (most_rows cap) old.len) e).1
      | inr e ↦ absurd (elim (cases_Bool (ltb cap new.weight)) [
        | inl w ↦ let x : Some Weight ≡ Some Length = sym (ap (λ b. cond b (Some Length) (cond (ltb cap new.weight) (Some Weight) None)) e ∙ ap (λ b. cond b (Some Weight) None) w) ∙ h in cc
        | inr w ↦ let x : None ≡ Some Length = sym (ap (λ b. cond b (Some Length) (cond (ltb cap new.weight) (Some Weight) None)) e ∙ ap (λ b. cond b (Some Weight) None) w) ∙ h in cc
      ])
    ]

abbrev most : ℕ
most = 18446744073709551615

refused_size : (limit : ℕ) (old new : Size) (cause : Cause) → old.len ≤ limit → new.weight ≤ limit + limit → MayRefuse most old new cause → MayRefuseUnder limit cause
refused_size limit old new Memory few light h = tt
refused_size limit old new Weight few light h = omega (arith, too_heavy most old new h)
refused_size limit old new Length few light h = omega (arith, too_long most old new h)

refused_new : (limit : ℕ) (Makes : Unit {0} × ℕ → Type 0) (old : Shard (Unit {0})) (w : ℕ) (cause : Cause) (told : ℕ) (held : Option (Unit {0} × ℕ))
    → old.cap ≡ most → length old.rows ≤ limit → weight_of old.rows ≤ limit → 1 ≤ w → w ≤ limit → ((made : Unit {0} × ℕ) → Makes made → made.1 ≡ w)
    → RefusesNew Makes old cause told held → MayRefuseUnder limit cause
refused_new limit Makes old w Memory told held cap few light one fits makes h = tt
refused_new limit Makes old w Length told held cap few light one fits makes h =
    omega (arith, leb-true (most_rows old.cap) (length old.rows) h.0, ap most_rows cap)
refused_new limit Makes old w Weight told held cap few light one fits makes h =
    omega (arith, too_heavy old.cap (size_of old.rows) (and_row (size_of old.rows) (max h.0.1 1)) h.1.1.1, makes h.0 h.1.0)

-- an `update_or_admit` of an object that alone fits
pub refused_update : (limit : ℕ) (Changes : Unit {0} → ℕ → ℕ → Unit {0} → Type 0) (Makes : Unit {0} × ℕ → Type 0) (old new : Shard (Unit {0})) (k w : ℕ) (o : Option (Row (Unit {0})))
    (r : RefusedUpdate (Unit {0}))
    → old.cap ≡ most → length old.rows ≤ limit → weight_of old.rows ≤ limit → 1 ≤ w → w ≤ limit
    → ((d : Unit {0}) (was given : ℕ) (e : Unit {0}) → Changes d was given e → given ≡ w) → ((made : Unit {0} × ℕ) → Makes made → made.1 ≡ w)
    → UpdatesRow Changes Makes old k o (Err r) new → MayRefuseUnder limit r.cause
refused_update limit Changes Makes old new k w None r cap few light one fits changes makes h =
    refused_new limit Makes old w r.cause r.weight r.held cap few light one fits makes h.0
refused_update limit Changes Makes old new k w (Some held) r cap few light one fits changes makes h =
    let rows = with_first old.rows (row k h.0 (max h.1.0 1)) in
    let is : h.1.0 ≡ w = changes held.value held.weight h.1.0 h.0 h.1.1.0 in
    let may = h.1.1.1.0 in
    refused_size limit (size_of old.rows) (size_of rows) r.cause few
    (omega (arith, is, weight-cons (row k h.0 (max h.1.0 1)) (without old.rows k), weight_less k old.rows))
    (subst (λ (n : ℕ). MayRefuse n (size_of old.rows) (size_of rows) r.cause) cap may)
