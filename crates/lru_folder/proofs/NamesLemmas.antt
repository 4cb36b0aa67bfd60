-- The names of a save's files: which of them are the same.
use Rattle.std.proofs.Common.{◌≡◌, ◌≢◌, ℕ, ◌+◌, ◌-◌, ◌%◌, ◌^◌, ◌<◌, ◌≤◌, zero, suc, eqb, Bool, true, false, ◌&&◌, List, [], ◌∷◌, ◌++◌, length, take, replicate, refl, sym, ◌∙◌, ap, subst, arith}
use Rattle.std.specs.Prelude.{codes, nat_eq, if◌then◌else◌}
use Rattle.std.specs.List.{starts_with}
use Rattle.std.specs.Fmt.{char_count, decimal, digits, format_spec, padded_integral}
use Rattle.std.proofs.lemmas.Bool.{false_from_ne_true, eqb-true}
use Rattle.std.proofs.lemmas.List.Folds.{list_any-append}
use Rattle.std.specs.Char.{digit_value}
use Rattle.std.specs.Prelude.{◌||◌, ◌==◌}
use Rattle.std.specs.Str.Parse.{AllDigits}
use Rattle.std.proofs.lemmas.Bool.Decides.{Decides-eqb}
use Rattle.std.proofs.lemmas.Fmt.{decimal_by_steps, decimal_injective, decimal_is_IsNumeral, digits_is_IsNumeral}
use Rattle.std.proofs.lemmas.List.{append_assoc, append-nil, append_cancel_left}
use Rattle.std.proofs.lemmas.Slice.Eq.{starts_is, ends_is}
use Rattle.lru_folder.specs.Names.{has_slash, is_closed, is_temp_name, path_text, shard_text, temp_text, word_text}

-- what `{:08x}` writes
pub word_text-padded : (word : ℕ) → padded_integral (format_spec 32 0 4 8 (2 ^ 64 - 1)) false [] (digits 16 false word) ≡ word_text word
unfolding padded_integral char_count
word_text-padded word =
    let shown = digits 16 false word in
    let missing : 8 - length shown - 0 - 0 ≡ 8 - length shown = omega arith in
    ap (λ (n : ℕ). replicate n 48 ++ (shown ++ [])) missing ∙ ap (λ (l : List ℕ). replicate (8 - length shown) 48 ++ l) (append-nil shown)

-- the last byte, 0 where there is none
pub last_or_zero : List ℕ → ℕ
last_or_zero [] = 0
last_or_zero (x ∷ []) = x
last_or_zero (x ∷ (y ∷ ys)) = last_or_zero (y ∷ ys)

pub last-push : (xs : List ℕ) (x : ℕ) → last_or_zero (xs ++ x ∷ []) ≡ x
unfolding last_or_zero
last-push [] x = refl
last-push (y ∷ []) x = refl
last-push (y ∷ (z ∷ zs)) x = last-push (z ∷ zs) x

-- behind any front a number ends in a digit
pub last-decimal : (front : List ℕ) (n : ℕ) → n < 2 ^ 64 → last_or_zero (front ++ decimal n) < 58
last-decimal front n small = decimal_by_steps (λ _ ds. (front : List ℕ) → last_or_zero (front ++ ds) < 58)
    (λ m lt front. omega (arith, last-push front (48 + m)))
    (λ m ds ge shorter front. omega (arith, ap last_or_zero (sym (append_assoc front ds ((48 + m % 10) ∷ []))), last-push (front ++ ds) (48 + m % 10)))
    n small front

-- no byte of a number is a dot
abbrev LacksDot : List ℕ → Type 0
LacksDot [] = Unit {0}
LacksDot (c ∷ cs) = (c ≢ 46) × LacksDot cs

LacksDot-push : (ds : List ℕ) (c : ℕ) → LacksDot ds → c ≢ 46 → LacksDot (ds ++ c ∷ [])
LacksDot-push [] c lacks other = (other, tt)
LacksDot-push (d ∷ ds) c lacks other = (lacks.0, LacksDot-push ds c lacks.1 other)

LacksDot-decimal : (n : ℕ) → n < 2 ^ 64 → LacksDot (decimal n)
LacksDot-decimal n small = decimal_by_steps (λ _ ds. LacksDot ds)
    (λ m lt. (omega arith, tt))
    (λ m ds ge shorter. LacksDot-push ds (48 + m % 10) shorter (omega arith))
    n small

-- what stands before the first dot
before_dot : (xs ys rest others : List ℕ) → LacksDot xs → LacksDot ys → xs ++ 46 ∷ rest ≡ ys ++ 46 ∷ others → xs ≡ ys
before_dot [] [] rest others l r same = refl
before_dot [] (y ∷ ys) rest others l r same = let head : 46 ≡ y = cc in absurd (r.0 (sym head))
before_dot (x ∷ xs) [] rest others l r same = let head : x ≡ 46 = cc in absurd (l.0 head)
before_dot (x ∷ xs) (y ∷ ys) rest others l r same =
    let head : x ≡ y = cc in
    let tail : xs ++ 46 ∷ rest ≡ ys ++ 46 ∷ others = cc in
    let later : xs ≡ ys = before_dot xs ys rest others l.1 r.1 tail in cc

-- The path of a name is a front that the folder gives, and the name.
pub path_text-front : (dir name : List ℕ) → path_text dir name ≡ path_text dir [] ++ name
path_text-front dir name = elim (is_closed dir) as (λ (closed : Bool). (if closed then dir ++ name else dir ++ (codes "/" ++ name)) ≡ (if closed then dir ++ [] else dir ++ (codes "/" ++ [])) ++ name) [
  | true ↦ ap (λ (front : List ℕ). front ++ name) (sym (append-nil dir))
  | false ↦ sym (append_assoc dir (codes "/") name)
]

-- One folder's paths differ where the names do.
pub path_text-injective : (dir name other : List ℕ) → path_text dir name ≡ path_text dir other → name ≡ other
path_text-injective dir name other same =
    append_cancel_left (path_text dir []) name other (sym (path_text-front dir name) ∙ same ∙ path_text-front dir other)

-- Two shards have two files.
pub shard_text-injective : (file_name : List ℕ) (i j : ℕ) → i < 2 ^ 64 → j < 2 ^ 64 → shard_text file_name i ≡ shard_text file_name j → i ≡ j
shard_text-injective file_name i j low high same =
    decimal_injective i j low high (append_cancel_left (codes ".") (decimal i) (decimal j) (append_cancel_left file_name _ _ same))

-- Two shards' temp files are two, whatever the words.
pub temp_text-injective : (file_name : List ℕ) (i j word other : ℕ) → i < 2 ^ 64 → j < 2 ^ 64 → temp_text file_name i word ≡ temp_text file_name j other → i ≡ j
temp_text-injective file_name i j word other low high same =
    decimal_injective i j low high (before_dot (decimal i) (decimal j) (word_text word ++ codes ".tmp") (word_text other ++ codes ".tmp")
    (LacksDot-decimal i low) (LacksDot-decimal j high) (append_cancel_left (codes ".") _ _ (append_cancel_left file_name _ _ same)))

-- A temp file ends in `.tmp`, behind any front,
pub temp_text-end : (front file_name : List ℕ) (i word : ℕ) → front ++ temp_text file_name i word ≡ (front ++ (file_name ++ (codes "." ++ (decimal i ++ (codes "." ++ word_text word))))) ++ codes ".tmp"
temp_text-end front file_name i word =
    sym (append_assoc front (file_name ++ (codes "." ++ (decimal i ++ (codes "." ++ word_text word)))) (codes ".tmp")
    ∙ ap (λ (l : List ℕ). front ++ l) (append_assoc file_name (codes "." ++ (decimal i ++ (codes "." ++ word_text word))) (codes ".tmp")
    ∙ ap (λ (l : List ℕ). file_name ++ (codes "." ++ l)) (append_assoc (decimal i) (codes "." ++ word_text word) (codes ".tmp"))))

pub last-tmp : (front : List ℕ) → last_or_zero (front ++ codes ".tmp") ≡ 112
last-tmp front = ap last_or_zero (sym (append_assoc front (codes ".tm") (codes "p"))) ∙ last-push (front ++ codes ".tm") 112

-- and a shard's file ends in a digit.
pub last-shard : (front file_name : List ℕ) (i : ℕ) → i < 2 ^ 64 → last_or_zero (front ++ shard_text file_name i) < 58
last-shard front file_name i small =
    let parts : front ++ shard_text file_name i ≡ ((front ++ file_name) ++ codes ".") ++ decimal i =
    sym (append_assoc (front ++ file_name) (codes ".") (decimal i) ∙ append_assoc front file_name (codes "." ++ decimal i)) in
    subst (λ l. last_or_zero l < 58) (sym parts) (last-decimal ((front ++ file_name) ++ codes ".") i small)

-- No temp file is a shard's file, in one folder or in two.
pub temp-apart-shard : (dir other file_name another : List ℕ) (i j word : ℕ) → j < 2 ^ 64 → path_text dir (temp_text file_name i word) ≢ path_text other (shard_text another j)
temp-apart-shard dir other file_name another i j word small same =
    let at_temp : last_or_zero (path_text dir (temp_text file_name i word)) ≡ 112 =
    ap last_or_zero (path_text-front dir (temp_text file_name i word) ∙ temp_text-end (path_text dir []) file_name i word) ∙ last-tmp _ in
    let at_shard : last_or_zero (path_text other (shard_text another j)) < 58 =
    subst (λ l. last_or_zero l < 58) (sym (path_text-front other (shard_text another j))) (last-shard (path_text other []) another j small) in
    absurd (omega (arith, ap last_or_zero same))

-- Two shards' paths differ,
pub shard_path-injective : (dir file_name : List ℕ) (i j : ℕ) → i < 2 ^ 64 → j < 2 ^ 64 → path_text dir (shard_text file_name i) ≡ path_text dir (shard_text file_name j) → i ≡ j
shard_path-injective dir file_name i j low high same = shard_text-injective file_name i j low high (path_text-injective dir _ _ same)

-- and so do their temp paths.
pub temp_path-injective : (dir file_name : List ℕ) (i j word other : ℕ) → i < 2 ^ 64 → j < 2 ^ 64 → path_text dir (temp_text file_name i word) ≡ path_text dir (temp_text file_name j other) → i ≡ j
temp_path-injective dir file_name i j word other low high same = temp_text-injective file_name i j word other low high (path_text-injective dir _ _ same)

second_false : (a b : Bool) → b ≡ false → (a && b) ≡ false
second_false true b e = e
second_false false b e = refl

both_true : (a b : Bool) → a ≡ true → b ≡ true → (a && b) ≡ true
both_true a b e f = cc

-- Cleanup leaves each shard's file, of whatever name,
pub shard-is_temp_name : (file_name another : List ℕ) (i : ℕ) → i < 2 ^ 64 → is_temp_name file_name (shard_text another i) ≡ false
shard-is_temp_name file_name another i small = second_false (starts_with nat_eq (shard_text another i) file_name) _ (false_from_ne_true _ (λ ends.
    let parts = (ends_is Decides-eqb (shard_text another i) (codes ".tmp") _ refl).0 ends in
    absurd (omega (arith, ap last_or_zero parts, last-tmp (take (length (shard_text another i) - 4) (shard_text another i)), last-shard [] another i small))))

-- and takes each temp file.
pub temp-is_temp_name : (file_name : List ℕ) (i word : ℕ) → is_temp_name file_name (temp_text file_name i word) ≡ true
temp-is_temp_name file_name i word = both_true _ _
    ((starts_is Decides-eqb (temp_text file_name i word) file_name _ refl).1 _ refl)
    ((ends_is Decides-eqb (temp_text file_name i word) (codes ".tmp") _ refl).1 _ (temp_text-end [] file_name i word))

-- A shard's file and its temp files have a slash only where the file's name has one.
slash_is_no_digit : digit_value 47 < 16 → ⊥
slash_is_no_digit small = omega arith

neither : (a b : Bool) → a ≡ false → b ≡ false → (a || b) ≡ false
neither a b e f = cc

with_none : (a b : Bool) → b ≡ false → (a || b) ≡ a
with_none true b e = refl
with_none false b e = e

no_slash_digits : (base : ℕ) → base ≤ 16 → (ds : List ℕ) → AllDigits base ds → has_slash ds ≡ false
no_slash_digits base low [] all = refl
no_slash_digits base low (d ∷ ds) all =
    let here : d ≡ 47 → ⊥ = λ e. let value : digit_value 47 < base = subst (λ c. digit_value c < base) e all.0 in slash_is_no_digit (omega arith) in
    neither (eqb d 47) (has_slash ds) (false_from_ne_true (eqb d 47) (λ e. here (eqb-true d 47 e))) (no_slash_digits base low ds all.1)

no_slash_zeros : (n : ℕ) → has_slash (replicate n 48) ≡ false
no_slash_zeros zero = refl
no_slash_zeros (suc n) = no_slash_zeros n

no_slash-append : (xs ys : List ℕ) → has_slash ys ≡ false → has_slash (xs ++ ys) ≡ has_slash xs
no_slash-append xs ys none = list_any-append (λ byte. byte == 47) xs ys ∙ with_none (has_slash xs) (has_slash ys) none

no_slash-decimal : (n : ℕ) → n < 2 ^ 64 → has_slash (decimal n) ≡ false
no_slash-decimal n small = no_slash_digits 10 (omega arith) (decimal n) (decimal_is_IsNumeral n small).0.1

no_slash-word : (word : ℕ) → word < 2 ^ 32 → has_slash (word_text word) ≡ false
no_slash-word word small =
    let shown = digits 16 false word in
    no_slash-append (replicate (8 - length shown) 48) shown (no_slash_digits 16 (omega arith) shown (digits_is_IsNumeral 16 false (omega arith) (omega arith) word (omega arith)).0.1) ∙ no_slash_zeros (8 - length shown)

pub has_slash-shard_text : (file_name : List ℕ) (shard : ℕ) → shard < 2 ^ 64 → has_slash (shard_text file_name shard) ≡ has_slash file_name
has_slash-shard_text file_name shard small = no_slash-append file_name (codes "." ++ decimal shard) (no_slash-decimal shard small)

pub has_slash-temp_text : (file_name : List ℕ) (shard word : ℕ) → shard < 2 ^ 64 → word < 2 ^ 32 → has_slash (temp_text file_name shard word) ≡ has_slash file_name
has_slash-temp_text file_name shard word small short =
    no_slash-append file_name (codes "." ++ (decimal shard ++ (codes "." ++ (word_text word ++ codes ".tmp"))))
    (no_slash-append (decimal shard) (codes "." ++ (word_text word ++ codes ".tmp")) (no_slash-append (word_text word) (codes ".tmp") refl ∙ no_slash-word word short) ∙ no_slash-decimal shard small)
