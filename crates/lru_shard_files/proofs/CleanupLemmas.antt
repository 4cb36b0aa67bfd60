-- One listed name more.
use Rattle.std.proofs.Common.{◌≡◌, ℕ, ◌+◌, ◌<◌, Bool, true, false, cond, List, [], ◌∷◌, ◌++◌, length, get_or, take, map, filter, count_by, Option, Some, None, refl, sym, ◌∙◌, ap, subst, arith}
use Rattle.std.specs.Prelude.{is_none, ◌≢◌, ◌⊎◌, All, Contains, Result, Ok, Err, MatchResult, is_ok}
use Rattle.std.proofs.Common.{inl, inr}
use Rattle.std.specs.FinMap.{get, remove}
use Rattle.std.specs.List.{filter_map}
use Rattle.std.proofs.lemmas.List.{append-nil, append_assoc, map-append, map_push, take_more}
use Rattle.std.proofs.lemmas.List.Elements.{filter-append, filter_map-append, All-nil, All-push, All-weaker, All-head, All-tail, Contains-append_left, Contains-push}
use Rattle.lru_folder.specs.declared.fault.FolderFault.{FolderFault}
use Rattle.lru_folder.specs.declared.fault.FolderFault.TheVariants.{NotFound, Io}
use Rattle.lru_folder.specs.Files.{Files, AllOrNone, removed}
use Rattle.lru_folder.proofs.FilesLemmas.{decide, get-remove_same, get-remove_other}
use Rattle.lru_shard_files.specs.Cleanup.{Removal, IsSettled, RemovesEach, AreThere, is_removed, removal_blame}
use Rattle.lru_folder.specs.Blames.{Blame}
use Rattle.std.proofs.lemmas.List.Sums.{sum_by-append}
use Rattle.lru_folder.specs.declared.listed.Listed.{Listed}
use Rattle.lru_folder.specs.Listings.{name_of}
use Rattle.lru_folder.specs.Names.{is_temp_name, path_text}

pub take_push : {X : Type 0} → (xs : List X) (i : ℕ) (x : X) → i < length xs → x ≡ get_or xs i x → take (i + 1) xs ≡ take i xs ++ x ∷ []
take_push xs i x lt is = take_more xs i x lt ∙ ap (λ y. take i xs ++ y ∷ []) (sym is)

-- what a push that found room leaves
pub push_ok : {X T E : Type 0} (old new : List X) (x : X) (result : Result T E) (done : T) → new ≡ cond (is_ok result) (old ++ x ∷ []) old → result ≡ Ok done → new ≡ old ++ x ∷ []
push_ok old new x result done pushed ok = pushed ∙ ap (λ r. cond (is_ok r) (old ++ x ∷ []) old) ok

module _ (dir file_name : List ℕ) where
  -- the paths of the temp files among what was listed
  abbrev pub found : List Listed → List (List ℕ)
  found listed = map (path_text dir) (filter (is_temp_name file_name) (filter_map name_of listed))

  pub found-append : (xs ys : List Listed) → found (xs ++ ys) ≡ found xs ++ found ys
  found-append xs ys =
      ap (λ names. map (path_text dir) (filter (is_temp_name file_name) names)) (filter_map-append name_of xs ys)
      ∙ ap (map (path_text dir)) (filter-append (is_temp_name file_name) (filter_map name_of xs) (filter_map name_of ys))
      ∙ map-append (path_text dir) (filter (is_temp_name file_name) (filter_map name_of xs)) (filter (is_temp_name file_name) (filter_map name_of ys))

  abbrev found_from : Option (List ℕ) → List (List ℕ)
  found_from None = []
  found_from (Some name) = cond (is_temp_name file_name name) (path_text dir name ∷ []) []

  found_one : (x : Listed) → found (x ∷ []) ≡ found_from (name_of x)
  found_one x = elim (name_of x) as (λ (named : Option (List ℕ)). map (path_text dir) (filter (is_temp_name file_name) (filter_map (λ (_ : Listed). named) (x ∷ []))) ≡ found_from named) [
    | None ↦ refl
    | Some name ↦ elim (is_temp_name file_name name) as (λ (temp : Bool). map (path_text dir) (cond temp (name ∷ []) []) ≡ cond temp (path_text dir name ∷ []) []) [ true ↦ refl | false ↦ refl ]
  ]

  pub found_temp : (xs : List Listed) (x : Listed) (name : List ℕ) → name_of x ≡ Some name → is_temp_name file_name name ≡ true → found (xs ++ x ∷ []) ≡ found xs ++ path_text dir name ∷ []
  found_temp xs x name named temp =
      found-append xs (x ∷ []) ∙ ap (λ ys. found xs ++ ys) (found_one x ∙ ap found_from named ∙ ap (λ b. cond b (path_text dir name ∷ []) []) temp)

  pub found_other : (xs : List Listed) (x : Listed) (name : List ℕ) → name_of x ≡ Some name → is_temp_name file_name name ≡ false → found (xs ++ x ∷ []) ≡ found xs ++ []
  found_other xs x name named other =
      found-append xs (x ∷ []) ∙ ap (λ ys. found xs ++ ys) (found_one x ∙ ap found_from named ∙ ap (λ b. cond b (path_text dir name ∷ []) []) other)

  pub found_none : (xs : List Listed) (x : Listed) → name_of x ≡ None → found (xs ++ x ∷ []) ≡ found xs ++ []
  found_none xs x none = found-append xs (x ∷ []) ∙ ap (λ ys. found xs ++ ys) (found_one x ∙ ap found_from none)

-- how many entries have no name
abbrev pub nameless : List Listed → ℕ
nameless = count_by (λ entry. is_none (name_of entry))

pub nameless-push : (xs : List Listed) (x : Listed) → nameless (xs ++ x ∷ []) ≡ nameless xs + cond (is_none (name_of x)) 1 0
nameless-push xs x = sum_by-append (λ entry. cond (is_none (name_of entry)) 1 0) xs (x ∷ []) ∙ omega arith

-- Paths removed so far, and those that are left.
pub record Settling (rest : List (List ℕ)) (rose : Type 0) (old new : Files) (done : List Removal) : Type 0 where
  pub settled : All (IsSettled rose new) done
  pub others : (q : List ℕ) → (get new q ≡ get old q) ⊎ (Contains (map (λ (removal : Removal). removal.path) done) q × (get new q ≡ None))
  pub there : AreThere new rest

pub settling_none : (rest : List (List ℕ)) (rose : Type 0) (old : Files) → AreThere old rest → Settling rest rose old old []
settling_none rest rose old there = record { settled = All-nil (IsSettled rose old); others = λ q. inl refl; there = there }

module _ (path : List ℕ) (mid new : Files) (part : AllOrNone (removed path) mid new) where
  -- what was gone stays so,
  still_gone : (q : List ℕ) → get mid q ≡ None → get new q ≡ None
  still_gone q gone = elim part [
    | inl same ↦ ap (λ (m : Files). get m q) same ∙ gone
    | inr whole ↦ elim (decide q path) [
      | inl e ↦ ap (λ (m : Files). get m q) whole ∙ ap (λ p. get (remove mid path) p) e ∙ get-remove_same mid path
      | inr ne ↦ ap (λ (m : Files). get m q) whole ∙ get-remove_other mid path q ne ∙ gone
    ]
  ]

  -- and another path stays as it was
  other_stays : (q : List ℕ) → q ≢ path → get new q ≡ get mid q
  other_stays q ne = elim part [
    | inl same ↦ ap (λ (m : Files). get m q) same
    | inr whole ↦ ap (λ (m : Files). get m q) whole ∙ get-remove_other mid path q ne
  ]

  here_or_gone : (get new path ≡ get mid path) ⊎ (get new path ≡ None)
  here_or_gone = elim part [
    | inl same ↦ inl (ap (λ (m : Files). get m path) same)
    | inr whole ↦ inr (ap (λ (m : Files). get m path) whole ∙ get-remove_same mid path)
  ]

  rest_there : (rest : List (List ℕ)) → All (λ other. other ≢ path) rest → AreThere mid rest → AreThere new rest
  rest_there [] apart there = tt
  rest_there (q ∷ qs) apart there =
      (λ e. there.0 (sym (other_stays q (All-head (λ other. other ≢ path) q qs apart)) ∙ e), (there.1.0, rest_there qs (All-tail (λ other. other ≢ path) q qs apart) there.1.1))

  stays : (rose rose' : Type 0) (r : Removal) → (rose → rose') → IsSettled rose mid r → IsSettled rose' new r
  stays rose rose' r weaker h = elim r.answer as (λ (a : Result (Unit {0}) FolderFault). MatchResult a (λ _. get mid r.path ≡ None) (λ cause. (cause ≢ NotFound) × (cause ≡ Io → rose)) → MatchResult a (λ _. get new r.path ≡ None) (λ cause. (cause ≢ NotFound) × (cause ≡ Io → rose'))) [
    | Ok _ ↦ λ gone. still_gone r.path gone
    | Err cause ↦ λ kept. (kept.0, λ io. weaker (kept.1 io))
  ] h

  -- one path more
  pub settling_more : (rest : List (List ℕ)) (rose rose' : Type 0) (old : Files) (done : List Removal) (answer : Result (Unit {0}) FolderFault) → (rose → rose')
      → Settling (path ∷ rest) rose old mid done → IsSettled rose' new (record { path = path; answer = answer }) → Settling rest rose' old new (done ++ record { path = path; answer = answer } ∷ [])
  settling_more rest rose rose' old done answer weaker so_far here =
      let removal : Removal = record { path = path; answer = answer } in
      let paths : List (List ℕ) = map (λ (r : Removal). r.path) done in
      let more : map (λ (r : Removal). r.path) (done ++ removal ∷ []) ≡ paths ++ path ∷ [] = map_push (λ (r : Removal). r.path) done removal in
      record {
        settled = All-push (IsSettled rose' new) done removal (All-weaker (IsSettled rose mid) (IsSettled rose' new) (λ r. stays rose rose' r weaker) done so_far.settled) here;
        others = λ q. elim (so_far.others q) [
          | inr gone ↦ inr (subst (λ ps. Contains ps q) (sym more) (Contains-append_left paths (path ∷ []) q gone.0), still_gone q gone.1)
          | inl same ↦ elim (decide q path) [
            | inr ne ↦ inl (other_stays q ne ∙ same)
            | inl e ↦ elim here_or_gone [
              | inl kept ↦ inl (ap (λ p. get new p) e ∙ kept ∙ ap (λ p. get mid p) (sym e) ∙ same)
              | inr gone ↦ inr (subst (λ ps. Contains ps q) (sym more) (subst (λ p. Contains (paths ++ path ∷ []) p) (sym e) (Contains-push paths path)), ap (λ p. get new p) e ∙ gone)
            ]
          ]
        ];
        there = rest_there rest so_far.there.1.0 so_far.there.1.1;
      }

-- A loop over the paths: those tried so far, and the rest. `kept`: the folder keeps its meaning.
pub record EachSoFar (kept : Type 0) (paths rest : List (List ℕ)) (rose : Type 0) (old new : Files) (count : ℕ) (before after : List Blame) : Type 0 where
  pub done : List Removal
  pub parts : map (λ (removal : Removal). removal.path) done ++ rest ≡ paths
  pub counted : count ≡ count_by is_removed done
  pub blamed : after ≡ before ++ filter_map removal_blame done
  pub settling : kept → Settling rest rose old new done

unfoldable pub each_none : (kept : Type 0) (paths : List (List ℕ)) (rose : Type 0) (old : Files) (before : List Blame) → (kept → AreThere old paths) → EachSoFar kept paths paths rose old old 0 before before
each_none kept paths rose old before there = record {
  done = [];
  parts = refl;
  counted = refl;
  blamed = sym (append-nil before);
  settling = λ k. settling_none paths rose old (there k);
}

unfoldable pub each_more : (kept : Type 0) (paths : List (List ℕ)) (path : List ℕ) (rest : List (List ℕ)) (rose rose' : Type 0) (old mid new : Files) (count count' : ℕ) (before after after' : List Blame) (answer : Result (Unit {0}) FolderFault)
    → EachSoFar kept paths (path ∷ rest) rose old mid count before after → (kept → rose → rose') → (kept → AllOrNone (removed path) mid new)
    → (kept → get mid path ≢ None → IsSettled rose' new (record { path = path; answer = answer }))
    → count' ≡ count + cond (is_ok answer) 1 0 → after' ≡ after ++ filter_map removal_blame (record { path = path; answer = answer } ∷ [])
    → EachSoFar kept paths rest rose' old new count' before after'
each_more kept paths path rest rose rose' old mid new count count' before after after' answer so_far weaker part here counted blamed =
    let removal : Removal = record { path = path; answer = answer } in
    record {
      done = so_far.done ++ removal ∷ [];
      parts = ap (λ (ps : List (List ℕ)). ps ++ rest) (map_push (λ (r : Removal). r.path) so_far.done removal) ∙ append_assoc (map (λ (r : Removal). r.path) so_far.done) (path ∷ []) rest ∙ so_far.parts;
      counted = omega (arith, counted, so_far.counted, sum_by-append (λ (r : Removal). cond (is_removed r) 1 0) so_far.done (removal ∷ []));
      blamed = blamed ∙ ap (λ (bs : List Blame). bs ++ filter_map removal_blame (removal ∷ [])) so_far.blamed
          ∙ append_assoc before (filter_map removal_blame so_far.done) (filter_map removal_blame (removal ∷ [])) ∙ ap (λ (bs : List Blame). before ++ bs) (sym (filter_map-append removal_blame so_far.done (removal ∷ [])));
      settling = λ k. settling_more path mid new (part k) rest rose rose' old so_far.done answer (weaker k) (so_far.settling k) (here k (so_far.settling k).there.0);
    }

pub each_end : (kept : Type 0) (paths : List (List ℕ)) (rose : Type 0) (old new : Files) (count : ℕ) (before after : List Blame) → (so_far : EachSoFar kept paths [] rose old new count before after)
    → kept → RemovesEach paths rose old new so_far.done
each_end kept paths rose old new count before after so_far k =
    let all : map (λ (r : Removal). r.path) so_far.done ≡ paths = sym (append-nil (map (λ (r : Removal). r.path) so_far.done)) ∙ so_far.parts in
    record {
      tried = all;
      settled = (so_far.settling k).settled;
      others = λ q. subst (λ (ps : List (List ℕ)). (get new q ≡ get old q) ⊎ (Contains ps q × (get new q ≡ None))) all ((so_far.settling k).others q);
    }
