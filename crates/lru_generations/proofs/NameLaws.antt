-- The names of a checkpoint's files: which of them are the same.
use Rattle.std.proofs.Common.{◌≡◌, ◌≢◌, ℕ, suc, ◌%◌, ◌+◌, ◌^◌, ◌<◌, Bool, true, false, List, [], ◌∷◌, ◌++◌, length, get_or, Option, Some, None, Bor, refl, sym, ◌∙◌, ap, subst, arith, rules}
use Rattle.std.specs.Prelude.{MatchOption, codes, ◌||◌, ◌==◌}
use Rattle.std.specs.Fmt.{decimal}
use Rattle.std.specs.Int.{IsInRange}
use Rattle.std.proofs.lemmas.Fmt.{decimal_by_steps, decimal_injective, decimal_is_IsNumeral, decimal_nonempty}
use Rattle.std.proofs.lemmas.List.{append_assoc, append_cancel_left}
use Rattle.std.proofs.lemmas.List.Folds.{list_any-append}
use Rattle.std.proofs.lemmas.Str.Parse.{digit_at}
use Rattle.lru_folder.specs.Names.{has_slash, shard_text}
use Rattle.lru_folder.proofs.NamesLemmas.{path_text-injective, has_slash-shard_text}
use Rattle.lru_generations.specs.declared.names.PartName.{PartName}
use Rattle.lru_generations.specs.declared.names.PartName.TheVariants.{Frame, Manifest, Temp}
use Rattle.lru_generations.specs.Names.{IsPart, LacksDot, generation_of, part_path, part_text}

LacksDot-push : (ds : List ℕ) (c : ℕ) → LacksDot ds → c ≢ 46 → LacksDot (ds ++ c ∷ [])
LacksDot-push [] c lacks other = (other, tt)
LacksDot-push (d ∷ ds) c lacks other = (lacks.0, LacksDot-push ds c lacks.1 other)

pub LacksDot-decimal : (n : ℕ) → n < 2 ^ 64 → LacksDot (decimal n)
LacksDot-decimal n small = decimal_by_steps (λ _ ds. LacksDot ds)
    (λ m lt. (omega arith, tt))
    (λ m ds ge shorter. LacksDot-push ds (48 + m % 10) shorter (omega arith))
    n small

-- what stands on either side of the first dot
pub at_dot : (xs ys rest others : List ℕ) → LacksDot xs → LacksDot ys → xs ++ 46 ∷ rest ≡ ys ++ 46 ∷ others → (xs ≡ ys) × (rest ≡ others)
at_dot [] [] rest others l r same = (refl, cc)
at_dot [] (y ∷ ys) rest others l r same = let head : 46 ≡ y = cc in absurd (r.0 (sym head))
at_dot (x ∷ xs) [] rest others l r same = let head : x ≡ 46 = cc in absurd (l.0 head)
at_dot (x ∷ xs) (y ∷ ys) rest others l r same =
    let head : x ≡ y = cc in
    let tail : xs ++ 46 ∷ rest ≡ ys ++ 46 ∷ others = cc in
    let later = at_dot xs ys rest others l.1 r.1 tail in
    let front : xs ≡ ys = later.0 in
    (cc, later.1)

has_dot : (xs ys : List ℕ) → LacksDot (xs ++ 46 ∷ ys) → ⊥
has_dot [] ys lacks = lacks.0 refl
has_dot (x ∷ xs) ys lacks = has_dot xs ys lacks.1

-- and of the last one
at_last_dot : (xs ys rest others : List ℕ) → LacksDot rest → LacksDot others → xs ++ 46 ∷ rest ≡ ys ++ 46 ∷ others → (xs ≡ ys) × (rest ≡ others)
at_last_dot [] [] rest others l r same = (refl, cc)
at_last_dot [] (y ∷ ys) rest others l r same =
    let tail : rest ≡ ys ++ 46 ∷ others = cc in absurd (has_dot ys others (subst LacksDot tail l))
at_last_dot (x ∷ xs) [] rest others l r same =
    let tail : others ≡ xs ++ 46 ∷ rest = cc in absurd (has_dot xs rest (subst LacksDot tail r))
at_last_dot (x ∷ xs) (y ∷ ys) rest others l r same =
    let head : x ≡ y = cc in
    let tail : xs ++ 46 ∷ rest ≡ ys ++ 46 ∷ others = cc in
    let later = at_last_dot xs ys rest others l r tail in
    let front : xs ≡ ys = later.0 in
    (cc, later.1)

-- a number is no word
first_is_digit : (n : ℕ) (word : List ℕ) → n < 2 ^ 64 → decimal n ≡ word → IsInRange 48 57 (get_or word 0 0)
first_is_digit n word small e =
    subst (λ ds. IsInRange 48 57 (get_or ds 0 0)) e (digit_at (decimal n) 0 (decimal_is_IsNumeral n small).0.1 (decimal_nonempty n small))

pub no_manifest : (n : ℕ) → n < 2 ^ 64 → decimal n ≢ codes "manifest"
no_manifest n small e = let digit = first_is_digit n (codes "manifest") small e in absurd (omega (arith, digit))

no_tmp : (n : ℕ) → n < 2 ^ 64 → decimal n ≢ codes "tmp"
no_tmp n small e = let digit = first_is_digit n (codes "tmp") small e in absurd (omega (arith, digit))

two_words : codes "manifest" ≢ codes "tmp"
two_words e = let first : get_or (codes "manifest") 0 0 ≡ get_or (codes "tmp") 0 0 = ap (λ (w : List ℕ). get_or w 0 0) e in absurd (omega (arith, first))

-- the last word of a name, and what stands before its dot
abbrev last_word : PartName → List ℕ
last_word (Frame generation shard) = decimal shard
last_word (Manifest generation) = codes "manifest"
last_word (Temp generation) = codes "tmp"

abbrev before_last_word : List ℕ → PartName → List ℕ
before_last_word file_name (Frame generation shard) = shard_text file_name generation
before_last_word file_name (Manifest generation) = shard_text file_name generation
before_last_word file_name (Temp generation) = shard_text file_name generation ++ codes ".manifest"

last_parts : (file_name : List ℕ) (part : PartName) → part_text file_name part ≡ before_last_word file_name part ++ 46 ∷ last_word part
last_parts file_name (Frame generation shard) = refl
last_parts file_name (Manifest generation) = refl
last_parts file_name (Temp generation) = sym (append_assoc (shard_text file_name generation) (codes ".manifest") (codes ".tmp"))

LacksDot-last_word : (part : PartName) → IsPart part → LacksDot (last_word part)
LacksDot-last_word (Frame generation shard) is = LacksDot-decimal shard is.1
LacksDot-last_word (Manifest generation) is = search rules
LacksDot-last_word (Temp generation) is = search rules

one_shard : (file_name other : List ℕ) (m n : ℕ) → m < 2 ^ 64 → n < 2 ^ 64 → shard_text file_name m ≡ shard_text other n → (file_name ≡ other) × (m ≡ n)
one_shard file_name other m n p q same =
    let sides = at_last_dot file_name other (decimal m) (decimal n) (LacksDot-decimal m p) (LacksDot-decimal n q) same in
    (sides.0, decimal_injective m n p q sides.1)

-- names with the same last word and the same text before it
one_from_sides : (file_name other : List ℕ) (part another : PartName) → IsPart part → IsPart another
    → before_last_word file_name part ≡ before_last_word other another → last_word part ≡ last_word another → (file_name ≡ other) × (part ≡ another)
one_from_sides file_name other (Frame g s) (Frame h t) p q front back =
    let one = one_shard file_name other g h p.0 q.0 front in
    let generations : g ≡ h = one.1 in
    let shards : s ≡ t = decimal_injective s t p.1 q.1 back in
    (one.0, cc)
one_from_sides file_name other (Manifest g) (Manifest h) p q front back =
    let one = one_shard file_name other g h p q front in
    (one.0, ap Manifest one.1)
one_from_sides file_name other (Temp g) (Temp h) p q front back =
    let fronts = at_last_dot (shard_text file_name g) (shard_text other h) (codes "manifest") (codes "manifest")
    (LacksDot-last_word (Manifest g) p) (LacksDot-last_word (Manifest h) q) front in
    let one = one_shard file_name other g h p q fronts.0 in
    (one.0, ap Temp one.1)
one_from_sides file_name other (Frame g s) (Manifest h) p q front back = absurd (no_manifest s p.1 back)
one_from_sides file_name other (Frame g s) (Temp h) p q front back = absurd (no_tmp s p.1 back)
one_from_sides file_name other (Manifest g) (Frame h t) p q front back = absurd (no_manifest t q.1 (sym back))
one_from_sides file_name other (Temp g) (Frame h t) p q front back = absurd (no_tmp t q.1 (sym back))
one_from_sides file_name other (Manifest g) (Temp h) p q front back = absurd (two_words back)
one_from_sides file_name other (Temp g) (Manifest h) p q front back = absurd (two_words (sym back))

pub one_name : (file_name other : List ℕ) (part another : PartName) → IsPart part → IsPart another
    → part_text file_name part ≡ part_text other another → (file_name ≡ other) × (part ≡ another)
one_name file_name other part another p q same =
    let sides = at_last_dot (before_last_word file_name part) (before_last_word other another) (last_word part) (last_word another)
    (LacksDot-last_word part p) (LacksDot-last_word another q) (sym (last_parts file_name part) ∙ same ∙ last_parts other another) in
    one_from_sides file_name other part another p q sides.0 sides.1

pub one_path : (dir file_name other : List ℕ) (part another : PartName) → IsPart part → IsPart another
    → part_path dir file_name part ≡ part_path dir other another → (file_name ≡ other) × (part ≡ another)
one_path dir file_name other part another p q same =
    one_name file_name other part another p q (path_text-injective dir (part_text file_name part) (part_text other another) same)

with_none : (a b : Bool) → b ≡ false → (a || b) ≡ a
with_none true b e = refl
with_none false b e = e

no_slash-append : (xs ys : List ℕ) → has_slash ys ≡ false → has_slash (xs ++ ys) ≡ has_slash xs
no_slash-append xs ys none = list_any-append (λ byte. byte == 47) xs ys ∙ with_none (has_slash xs) (has_slash ys) none

-- a name has a slash only where what the checkpoint is called has one
pub has_slash-part_text : (file_name : List ℕ) (part : PartName) → IsPart part → has_slash (part_text file_name part) ≡ has_slash file_name
has_slash-part_text file_name (Frame generation shard) is =
    has_slash-shard_text (shard_text file_name generation) shard is.1 ∙ has_slash-shard_text file_name generation is.0
has_slash-part_text file_name (Manifest generation) is =
    no_slash-append (shard_text file_name generation) (codes ".manifest") refl ∙ has_slash-shard_text file_name generation is
has_slash-part_text file_name (Temp generation) is =
    no_slash-append (shard_text file_name generation) (codes ".manifest.tmp") refl ∙ has_slash-shard_text file_name generation is

-- what stands behind the number of the generation
abbrev pub kind_text : PartName → List ℕ
kind_text (Frame generation shard) = decimal shard
kind_text (Manifest generation) = codes "manifest"
kind_text (Temp generation) = codes "manifest.tmp"

pub shard_parts : (file_name more : List ℕ) (generation : ℕ) → shard_text file_name generation ++ more ≡ file_name ++ (codes "." ++ (decimal generation ++ more))
shard_parts file_name more generation = append_assoc file_name (codes "." ++ decimal generation) more

-- a name from its front on
pub front_parts : (file_name : List ℕ) (part : PartName) → part_text file_name part ≡ file_name ++ 46 ∷ (decimal (generation_of part) ++ 46 ∷ kind_text part)
front_parts file_name (Frame generation shard) = shard_parts file_name (codes "." ++ decimal shard) generation
front_parts file_name (Manifest generation) = shard_parts file_name (codes ".manifest") generation
front_parts file_name (Temp generation) = shard_parts file_name (codes ".manifest.tmp") generation

small_generation : (part : PartName) → IsPart part → generation_of part < 2 ^ 64
small_generation (Frame generation shard) is = is.0
small_generation (Manifest generation) is = is
small_generation (Temp generation) is = is

pub LacksDot-by_index : (xs : List ℕ) → ((i : ℕ) → i < length xs → get_or xs i 0 ≢ 46) → LacksDot xs
LacksDot-by_index [] none = tt
LacksDot-by_index (x ∷ xs) none = (none 0 (omega arith), LacksDot-by_index xs (λ i lt. none (suc i) (omega arith)))

-- a name whose text was cut at its dots
abbrev pub IsCut : List ℕ → List ℕ → List ℕ → List ℕ → Type 0
IsCut file_name name number kind = LacksDot number × (name ≡ file_name ++ 46 ∷ (number ++ 46 ∷ kind))

module _ (file_name name number kind : List ℕ) (cut : IsCut file_name name number kind) where
  pub cut_parts : (part : PartName) → IsPart part → name ≡ part_text file_name part → (number ≡ decimal (generation_of part)) × (kind ≡ kind_text part)
  cut_parts part is h =
      let rest = append_cancel_left file_name (46 ∷ (number ++ 46 ∷ kind)) (46 ∷ (decimal (generation_of part) ++ 46 ∷ kind_text part)) (sym cut.1 ∙ h ∙ front_parts file_name part) in
      let parts : number ++ 46 ∷ kind ≡ decimal (generation_of part) ++ 46 ∷ kind_text part = cc in
      at_dot number (decimal (generation_of part)) kind (kind_text part) cut.0 (LacksDot-decimal (generation_of part) (small_generation part is)) parts

  -- the part that is read
  pub part_read : (part : PartName) → number ≡ decimal (generation_of part) → kind ≡ kind_text part → name ≡ part_text file_name part
  part_read part h k =
      cut.1 ∙ ap (λ (n : List ℕ). file_name ++ 46 ∷ (n ++ 46 ∷ kind)) h
      ∙ ap (λ (l : List ℕ). file_name ++ 46 ∷ (decimal (generation_of part) ++ 46 ∷ l)) k ∙ sym (front_parts file_name part)

  -- no number of a generation stands there
  pub no_generation : ((n : ℕ) → n < 2 ^ 64 → number ≢ decimal n) → (part : PartName) → IsPart part → name ≢ part_text file_name part
  no_generation none part is h = none (generation_of part) (small_generation part is) (cut_parts part is h).0

  -- behind the generation stands neither of the words, nor a number
  pub no_kind : kind ≢ codes "manifest" → kind ≢ codes "manifest.tmp" → ((n : ℕ) → n < 2 ^ 64 → kind ≢ decimal n) → (part : PartName) → IsPart part → name ≢ part_text file_name part
  no_kind manifest temp none (Frame g s) is h = none s is.1 (cut_parts (Frame g s) is h).1
  no_kind manifest temp none (Manifest g) is h = manifest (cut_parts (Manifest g) is h).1
  no_kind manifest temp none (Temp g) is h = temp (cut_parts (Temp g) is h).1

-- a name's front, the dot behind it, and what stands on either side of the next dot
pub IsCut-split : (file_name name rest behind : List ℕ) (r : Option (Bor (List ℕ) × Bor (List ℕ))) → name ≡ file_name ++ rest → rest ≡ 46 ∷ behind
    → MatchOption r ((i : ℕ) → i < length behind → get_or behind i 0 ≢ 46) (λ x. (behind ≡ x.0.now ++ (46 ∷ x.1.now)) × ((i : ℕ) → i < length x.0.now → get_or x.0.now i 0 ≢ 46))
    → MatchOption r ((number kind : List ℕ) → name ≢ file_name ++ (46 ∷ (number ++ (46 ∷ kind)))) (λ words. IsCut file_name name words.0.now words.1.now)
IsCut-split file_name name rest behind (Some words) h k split =
    (LacksDot-by_index words.0.now split.1, h ∙ ap (λ (l : List ℕ). file_name ++ l) (k ∙ ap (λ (l : List ℕ). 46 ∷ l) split.0))
IsCut-split file_name name rest behind None h k none = λ number kind same.
    let tail = append_cancel_left file_name rest (46 ∷ (number ++ (46 ∷ kind))) (sym h ∙ same) in
    let there : behind ≡ number ++ 46 ∷ kind = cc in
    has_dot number kind (subst LacksDot there (LacksDot-by_index behind none))

-- a name with no words behind its front
pub no_words : (file_name name : List ℕ) → ((number kind : List ℕ) → name ≢ file_name ++ (46 ∷ (number ++ (46 ∷ kind)))) → (part : PartName) → name ≢ part_text file_name part
no_words file_name name none part h = none (decimal (generation_of part)) (kind_text part) (h ∙ front_parts file_name part)
