use Rattle.std.proofs.Common.{rules, ◌≡◌, ℕ, ◌-◌, ◌≤◌, ◌∷◌, ◌++◌, [], List, length, refl, sym, ap, ◌∙◌, None, arith}
use Rattle.std.specs.Prelude.{Result, Ok, Err, OnOk, replicate, take}
use Rattle.std.specs.List.{AppendsResults, FoldsTo}
use Rattle.std.proofs.lemmas.List.{length-append, take_all}
use Rattle.lru_rows.proofs.columns.fill_values.Goals as goal

-- what calls made that all make the same
made_same : {F X : Type 0} (step : F → X → F → Type 0) (x : X) → ((p : F) (y : X) (q : F) → step p y q → y ≡ x) → (f : F) (ys : List X) (last : F) → FoldsTo step f ys last → ys ≡ replicate (length ys) x
made_same step x same f [] last calls = refl
made_same step x same f (y ∷ ys) last (next, is, rest) = ap (λ z. z ∷ ys) (same f y next is) ∙ ap (λ zs. x ∷ zs) (made_same step x same next ys last rest)

filled : {A E F X : Type 0} (step : F → X → F → Type 0) (x : X) → ((p : F) (y : X) (q : F) → step p y q → y ≡ x) → (f : F) (old new : List X) (n len : ℕ) → length old ≤ len → (r : Result A E) → OnOk r (AppendsResults step (take len old) new f) → OnOk r (n ≡ len) → n ≡ length new →
    OnOk r (new ≡ old ++ replicate (len - length old) x)
filled step x same f old new n len short (Err e) appends long is_long = tt
filled step x same f old new n len short (Ok a) (ys, last, is, calls) long is_long =
    let whole = is ∙ ap (λ zs. zs ++ ys) (take_all len old short) in
    whole ∙ ap (λ zs. old ++ zs) (made_same step x same f ys last calls ∙ ap (λ n. replicate n x) (omega (arith, ap length whole, length-append old ys, long, is_long)))

pub returns-clause-made : goal.returns-clause-made
returns-clause-made g c =
    let same = c.reserve_exact.ensures.items in
    rw (sym same) (filled _ None (λ p y q s. search rules) _ c.reserve_exact.new.self.items c.resize_with.new.self.items _ c.args.len (omega (arith, ap length same, c.requires)) c.resize_with.result c.resize_with.ensures.items c.resize_with.ensures.len (omega arith))
