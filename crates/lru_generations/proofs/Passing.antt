-- Generations that are tried one after the other, the highest first.
use Rattle.std.proofs.Common.{◌≡◌, inl, inr, ⊎_elim, ℕ, suc, ◌+◌, ◌<◌, ◌≤◌, List, [], ◌∷◌, ◌++◌, length, take, drop, get_or, Some, None, Result, Ok, Err, sym, ◌∙◌, ap, subst, arith}
use Rattle.std.proofs.Math.Seq.{drop-cons}
use Rattle.std.proofs.lemmas.Bool.{cases_lt}
use Rattle.std.proofs.lemmas.List.{get_or_default, map-append, take-append-drop, take_all, take_more}
use Rattle.std.proofs.lemmas.List.Elements.{Contains-push_cases}
use Rattle.std.specs.Prelude.{◌↔◌, AllPairs, Contains, IfOk, Option, map}
use Rattle.lru_folder.specs.Files.{Files}
use Rattle.lru_generations.specs.declared.names.PartName.{PartName}
use Rattle.lru_generations.specs.declared.names.PartName.TheVariants.{Manifest}
use Rattle.lru_generations.specs.Listing.{HasParts}
use Rattle.lru_generations.specs.Names.{generation_of}
use Rattle.lru_generations.specs.declared.newest.Passed.{Passed}
use Rattle.lru_generations.specs.Newest.{AreGenerations, AreGenerationsBelow, IsBelow, IsFront}

-- none of the first so many holds
abbrev pub NoneOf : (ℕ → Type 0) → List ℕ → ℕ → Type 0
NoneOf Holds numbers i = (k : ℕ) → k < i → ¬ Holds (get_or numbers k 0)

module _ (Holds : ℕ → Type 0) (numbers : List ℕ) where
  pub none_more : (i : ℕ) → NoneOf Holds numbers i → ¬ Holds (get_or numbers i 0) → NoneOf Holds numbers (i + 1)
  none_more i none here k lt = elim (cases_lt k i) [
    | inl before ↦ none k before
    | inr not ↦ let is : k ≡ i = omega (arith, lt, not) in λ h. here (subst (λ (n : ℕ). Holds (get_or numbers n 0)) is h)
  ]

  module _ (all : (n : ℕ) → Holds n → Contains numbers n) where
    place : (n : ℕ) → Holds n → (k : ℕ) × ((k < length numbers) × (get_or numbers k 0 ≡ n))
    place n h = let c = all n h in (c.0, (c.1, get_or_default numbers c.0 0 n c.1 ∙ c.2))

    pub none_higher : AllPairs (λ first later. later < first) numbers → (i : ℕ) → i < length numbers → NoneOf Holds numbers i → (n : ℕ) → get_or numbers i 0 < n → ¬ Holds n
    none_higher falling i within none n higher h =
        let a = place n h in
        elim (cases_lt a.0 i) [
          | inl before ↦ none a.0 before (subst Holds (sym a.1.1) h)
          | inr not ↦ elim (cases_lt i a.0) [
            | inl later ↦ absurd (omega (arith, falling i a.0 0 later a.1.0, higher, a.1.1))
            | inr same ↦ let is : i ≡ a.0 = omega (arith, not, same) in absurd (omega (arith, higher, a.1.1, ap (λ (k : ℕ). get_or numbers k 0) is))
          ]
        ]

    pub none_at_all : (i : ℕ) → length numbers ≤ i → NoneOf Holds numbers i → (n : ℕ) → ¬ Holds n
    none_at_all i le none n h = let a = place n h in none a.0 (omega (arith, a.1.0, le)) (subst Holds (sym a.1.1) h)

abbrev pub numbers_of : List Passed → List ℕ
numbers_of passed = map (λ one. one.generation) passed

-- one more, with its number
pub map_more : {X : Type 0} (number : X → ℕ) (numbers : List ℕ) (i : ℕ) (items : List X) (last : X) → i < length numbers → map number items ≡ take i numbers → number last ≡ get_or numbers i 0
    → map number (items ++ last ∷ []) ≡ take (i + 1) numbers
map_more number numbers i items last within is at =
    map-append number items (last ∷ []) ∙ ap (λ (l : List ℕ). l ++ number last ∷ []) is ∙ ap (λ (m : ℕ). take i numbers ++ m ∷ []) at ∙ sym (take_more numbers i 0 within)

-- those in front of one, and all
pub front_at : (numbers : List ℕ) (i : ℕ) (front : List ℕ) (n : ℕ) → i < length numbers → front ≡ take i numbers → n ≡ get_or numbers i 0 → IsFront numbers (Some n) front
front_at numbers i front n within is at = (
  drop (suc i) numbers,
  sym (take-append-drop i numbers) ∙ ap (λ (l : List ℕ). take i numbers ++ l) (drop-cons numbers i 0 within)
      ∙ ap (λ (m : ℕ). take i numbers ++ m ∷ drop (suc i) numbers) (sym at) ∙ ap (λ (l : List ℕ). l ++ n ∷ drop (suc i) numbers) (sym is),
)

pub front_all : (numbers : List ℕ) (i : ℕ) (front : List ℕ) → length numbers ≤ i → front ≡ take i numbers → IsFront numbers None front
front_all numbers i front le is = is ∙ take_all i numbers le

-- what holds of each item holds with one more
pub each_more : {X : Type 0} (P : X → Type 0) (items : List X) (last : X) → ((one : X) → Contains items one → P one) → P last → (one : X) → Contains (items ++ last ∷ []) one → P one
each_more P items last each here one h = ⊎_elim (each one) (λ same. subst P same here) (Contains-push_cases items last one h)

-- the generations that have a manifest among the parts of a folder
pub generations_so : (dir file_name : List ℕ) (files : Files) (parts : List PartName) (generations : List ℕ) → HasParts dir file_name files parts
    → ((generation : ℕ) → Contains generations generation ↔ Contains parts (Manifest generation)) → AllPairs (λ first later. later < first) generations → AreGenerations dir file_name files generations
generations_so dir file_name files parts generations has found falling = record {
  found = λ generation. (
    λ h. let part = (found generation).0 h in let small = has.fits (Manifest generation) part in (small, (has.there (Manifest generation) small).0 part),
    λ h. (found generation).1 ((has.there (Manifest generation) h.0).1 h.1),
  );
  falling = falling;
}

-- and those of them that are below a bound
pub below_so : (dir file_name : List ℕ) (files : Files) (bound : Option ℕ) (parts those : List PartName) (generations : List ℕ) → HasParts dir file_name files parts
    → ((part : PartName) → Contains those part ↔ (Contains parts part × IsBelow bound (generation_of part)))
    → ((generation : ℕ) → Contains generations generation ↔ Contains those (Manifest generation)) → AllPairs (λ first later. later < first) generations
    → AreGenerationsBelow dir file_name files bound generations
below_so dir file_name files bound parts those generations has below found falling = record {
  found = λ generation. (
    λ h. let part = (below (Manifest generation)).0 ((found generation).0 h) in let small = has.fits (Manifest generation) part.0 in
        (small, ((has.there (Manifest generation) small).0 part.0, part.1)),
    λ h. (found generation).1 ((below (Manifest generation)).1 ((has.there (Manifest generation) h.0).1 h.1.0, h.1.1)),
  );
  falling = falling;
}

-- without a bound they are all
pub all_below : (dir file_name : List ℕ) (files : Files) (generations : List ℕ) → AreGenerationsBelow dir file_name files None generations → AreGenerations dir file_name files generations
all_below dir file_name files generations are = record {
  found = λ generation. (
    λ h. let is = (are.found generation).0 h in (is.0, is.1.0),
    λ h. (are.found generation).1 (h.0, (h.1, tt)),
  );
  falling = are.falling;
}

pub below_none : (dir file_name : List ℕ) (files : Files) (generations : List ℕ) → AreGenerations dir file_name files generations → AreGenerationsBelow dir file_name files None generations
below_none dir file_name files generations are = record {
  found = λ generation. (
    λ h. let is = (are.found generation).0 h in (is.0, (is.1, tt)),
    λ h. (are.found generation).1 (h.0, h.1.0),
  );
  falling = are.falling;
}

-- what follows of each success
pub if_ok : {T E : Type 0} (r : Result T E) (P Q : T → Type 0) → ((t : T) → P t → Q t) → IfOk r P → IfOk r Q
if_ok (Ok t) P Q then p = then t p
if_ok (Err e) P Q then p = p
