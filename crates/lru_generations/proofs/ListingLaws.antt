-- The parts that a folder lists, and their generations.
use Rattle.std.proofs.Common.{◌≡◌, ◌≢◌, ⊎_elim, ℕ, ◌+◌, ◌-◌, ◌<◌, ◌≤◌, eqb, List, [], ◌∷◌, ◌++◌, length, take, get_or, Some, refl, sym, ◌∙◌, ap, subst, arith}
use Rattle.std.specs.Prelude.{◌↔◌, AllPairs, Contains, map, reverse, string_bytes}
use Rattle.std.specs.List.{dedup}
use Rattle.std.specs.List.Retain.{IsFiltered, DiffersFromLast}
use Rattle.std.specs.List.Sorted.{IsPermutation, IsSorted}
use Rattle.std.specs.Ordering.{nat_cmp}
use Rattle.std.specs.declared.alloc.Global.{Global}
use Rattle.std.specs.declared.string.String.{String}
use Rattle.std.proofs.lemmas.List.{get_or-reverse, length-reverse, take_all, take_more}
use Rattle.std.proofs.lemmas.List.Elements.{Contains-append_left, Contains-push, Contains-push_cases}
use Rattle.std.proofs.lemmas.List.Filters.{dedup_is}
use Rattle.std.proofs.lemmas.List.Kept.{AllPairs-from_increasing, Contains-dedup_nat, Contains-from_dedup}
use Rattle.std.proofs.lemmas.List.Sorted.{Contains-permutation, IsPermutation-sym}
use Rattle.std.proofs.lemmas.Map.Keys.{IsStrictlyIncreasing-dedup}
use Rattle.lru_folder.specs.declared.listed.Listed.{Listed}
use Rattle.lru_folder.specs.declared.listed.Listed.TheVariants.{Name, Unreadable}
use Rattle.lru_folder.specs.Listings.{name_of}
use Rattle.lru_generations.specs.declared.names.PartName.{PartName}
use Rattle.lru_generations.specs.declared.names.PartName.TheVariants.{Frame, Manifest}
use Rattle.lru_generations.specs.Listing.{IsAbove}
use Rattle.lru_generations.specs.Names.{IsPart, generation_of, part_text}
use Rattle.lru_generations.proofs.Members.{ComeBy, among, among_map, contains, map_among}
use Rattle.lru_generations.proofs.NameLaws.{one_name}

pub same_manifest : (g h : ℕ) → Manifest g ≡ Manifest h → g ≡ h
same_manifest g h e = ap generation_of e

-- generations, in another order and each once
pub sorted_found : (parts : List PartName) (found sorted once turned : List ℕ) → ComeBy (λ (part : PartName) (generation : ℕ). part ≡ Manifest generation) parts found
    → IsPermutation found sorted → IsFiltered (DiffersFromLast eqb) [] sorted once → IsPermutation once turned
    → (generation : ℕ) → Contains turned generation ↔ Contains parts (Manifest generation)
sorted_found parts found sorted once turned come moved filtered back generation =
    let is = dedup_is eqb sorted once filtered in (
      λ h.
          let at_once = Contains-permutation turned once generation (IsPermutation-sym once turned back) h in
          let at_sorted = Contains-from_dedup eqb sorted generation (subst (λ (l : List ℕ). Contains l generation) is at_once) in
          let source = come.each generation (Contains-permutation sorted found generation (IsPermutation-sym found sorted moved) at_sorted) in
          subst (Contains parts) source.1.1 source.1.0,
      λ h.
          let at_sorted = Contains-permutation found sorted generation moved (come.there (Manifest generation) generation h refl) in
          Contains-permutation once turned generation back (subst (λ (l : List ℕ). Contains l generation) (sym is) (Contains-dedup_nat sorted generation at_sorted)),
    )

turned_falling : (once : List ℕ) → AllPairs (λ x y. x < y) once → AllPairs (λ first later. later < first) (reverse once)
turned_falling once rising i j d lt within =
    let long = length-reverse once in
    let low : get_or (reverse once) j d ≡ get_or once (length once - 1 - j) d = get_or-reverse once j d (omega (arith, long, within)) in
    let high : get_or (reverse once) i d ≡ get_or once (length once - 1 - i) d = get_or-reverse once i d (omega (arith, long, within, lt)) in
    let apart : length once - 1 - j < length once - 1 - i = omega (arith, long, within, lt) in
    let below : get_or once (length once - 1 - j) d < get_or once (length once - 1 - i) d = rising (length once - 1 - j) (length once - 1 - i) d apart (omega (arith, long, within, lt)) in
    omega (arith, low, high, below)

pub sorted_falling : (sorted once turned : List ℕ) → IsSorted nat_cmp sorted → IsFiltered (DiffersFromLast eqb) [] sorted once → turned ≡ reverse once → AllPairs (λ first later. later < first) turned
sorted_falling sorted once turned up filtered is =
    let rising = AllPairs-from_increasing (dedup eqb sorted) (IsStrictlyIncreasing-dedup sorted up) in
    let e : turned ≡ reverse (dedup eqb sorted) = is ∙ ap reverse (dedup_is eqb sorted once filtered) in
    subst (λ (l : List ℕ). AllPairs (λ first later. later < first) l) (sym e) (turned_falling (dedup eqb sorted) rising)

abbrev pub Least : List PartName → ℕ → Type 0
Least parts next = IsAbove parts next × ((number : ℕ) → IsAbove parts number → next ≤ number)

module _ (from : List PartName) (part : PartName) (next : ℕ) (so_far : Least from next) where
  earlier : (number : ℕ) → IsAbove (from ++ part ∷ []) number → IsAbove from number
  earlier number h other there = h other (Contains-append_left from (part ∷ []) other there)

  pushed_higher : next ≤ generation_of part → Least (from ++ part ∷ []) (generation_of part + 1)
  pushed_higher le = (
    λ other there. ⊎_elim (λ old. omega (arith, so_far.0 other old, le)) (λ here. omega (arith, ap generation_of here)) (Contains-push_cases from part other there),
    λ number h. omega (arith, h part (Contains-push from part)),
  )

  pushed_lower : generation_of part < next → Least (from ++ part ∷ []) next
  pushed_lower lt = (
    λ other there. ⊎_elim (λ old. so_far.0 other old) (λ here. omega (arith, lt, ap generation_of here)) (Contains-push_cases from part other there),
    λ number h. so_far.1 number (earlier number h),
  )

module _ (parts : List PartName) (i next : ℕ) where
  abbrev Next : PartName
  Next = get_or parts i (Frame 0 0)

  one_more : (number : ℕ) → i < length parts → Least (take i parts ++ Next ∷ []) number → Least (take (i + 1) parts) number
  one_more number within h = subst (λ (l : List PartName). Least l number) (sym (take_more parts i (Frame 0 0) within)) h

  pub above_higher : i < length parts → Least (take i parts) next → (number : ℕ) → next ≤ generation_of Next → number ≡ generation_of Next + 1 → Least (take (i + 1) parts) number
  above_higher within so_far number le is = subst (Least (take (i + 1) parts)) (sym is) (one_more (generation_of Next + 1) within (pushed_higher (take i parts) Next next so_far le))

  pub above_lower : i < length parts → Least (take i parts) next → generation_of Next < next → Least (take (i + 1) parts) next
  above_lower within so_far lt = one_more next within (pushed_lower (take i parts) Next next so_far lt)

  pub above_all : length parts ≤ i → Least (take i parts) next → Least parts next
  above_all le so_far = subst (λ (l : List PartName). Least l next) (take_all i parts le) so_far

-- what names a part
abbrev pub Names : List ℕ → Listed → PartName → Type 0
Names file_name entry part = IsPart part × (name_of entry ≡ Some (part_text file_name part))

module _ (file_name : List ℕ) (entry : Listed) where
  pub named_part : (name : String Global) (part : PartName) → entry ≡ Name name → IsPart part → string_bytes name ≡ part_text file_name part → Names file_name entry part
  named_part name part e is h = (is, ap name_of e ∙ ap Some h)

  pub one_part : (part other : PartName) → Names file_name entry part → Names file_name entry other → part ≡ other
  one_part part other p q =
      let texts : part_text file_name part ≡ part_text file_name other = let both = sym p.1 ∙ q.1 in cc in
      (one_name file_name file_name part other p.0 q.0 texts).1

  pub no_part : (name : String Global) → entry ≡ Name name → ((part : PartName) → IsPart part → string_bytes name ≢ part_text file_name part) → (part : PartName) → ¬ Names file_name entry part
  no_part name e none part names =
      let text : string_bytes name ≡ part_text file_name part = let both = sym (ap name_of e) ∙ names.1 in cc in
      none part names.0 text

pub no_name : (file_name : List ℕ) (entry : Listed) → ((name : String Global) → entry ≢ Name name) → (part : PartName) → ¬ Names file_name entry part
no_name file_name (Name name) none part names = none name refl
no_name file_name Unreadable none part names = let f : ⊥ = let e = names.1 in cc in f

pub listed_parts : (file_name : List ℕ) (listed : List Listed) (parts : List PartName) → ComeBy (Names file_name) listed parts
    → (part : PartName) → Contains parts part ↔ (IsPart part × Contains (map name_of listed) (Some (part_text file_name part)))
listed_parts file_name listed parts come part = (
  λ h.
      let source = come.each part h in
      let entry = source.0 in
      let there = contains (map name_of listed) (name_of entry) (map_among name_of listed entry (among listed entry source.1.0)) in
      (source.1.1.0, subst (Contains (map name_of listed)) source.1.1.1 there),
  λ h.
      let source = among_map name_of listed (Some (part_text file_name part)) (among (map name_of listed) (Some (part_text file_name part)) h.1) in
      come.there source.0 part (contains listed source.0 source.1.0) (h.0, source.1.1),
)
