-- What was written, by another name.
use Rattle.std.proofs.Common.{◌≡◌, ◌<◌, ◌+◌, ◌++◌, [], ◌∷◌, ℕ, List, length, take, get_or, subst, append_assoc, append-nil, ap, sym, ◌∙◌}
use Rattle.std.proofs.lemmas.Grind.{flat_map-append}
use Rattle.std.proofs.lemmas.List.{take_more}
use Rattle.std.specs.List.{flat_map}
use Rattle.std.specs.Prelude.{Option, Result, Ok, Err, OnOk}
use Rattle.std.specs.Io.KnownBytes.{Appends}
use Rattle.lru_lines.proofs.WriteLaws.{appends_then}

pub told_as : {T E : Type 0} (r : Result T E) (a b : Option (List ℕ)) (x y : List ℕ) → x ≡ y → OnOk r (Appends a b x) → OnOk r (Appends a b y)
told_as (Ok t) a b x y e h = subst (Appends a b) e h
told_as (Err t) a b x y e h = tt

-- three pieces before more
pub three_before : (x y z rest : List ℕ) → (x ++ (y ++ (z ++ []))) ++ rest ≡ x ++ (y ++ (z ++ rest))
three_before x y z rest =
    append_assoc x (y ++ (z ++ [])) rest ∙ ap (λ (ws : List ℕ). x ++ ws) (append_assoc y (z ++ []) rest ∙ ap (λ (ws : List ℕ). y ++ ws) (append_assoc z [] rest))

-- one line more
pub line_more : {X : Type 0} (text : X → List ℕ) (items : List X) (i : ℕ) (default : X) (from mid to : Option (List ℕ)) → i < length items
    → Appends from mid (flat_map text (take i items)) → Appends mid to (text (get_or items i default)) → Appends from to (flat_map text (take (i + 1) items))
line_more text items i default from mid to within before here =
    let one = get_or items i default in
    let lines = flat_map text (take i items) in
    let is : flat_map text (take (i + 1) items) ≡ lines ++ text one =
    ap (flat_map text) (take_more items i default within) ∙ flat_map-append text (take i items) (one ∷ []) ∙ ap (λ (ws : List ℕ). lines ++ ws) (append-nil (text one)) in
    subst (λ (ws : List ℕ). Appends from to ws) (sym is) (appends_then from mid to lines (text one) before here)
