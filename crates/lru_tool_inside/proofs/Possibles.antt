-- A command that a line means names shards that are there.
use Rattle.std.proofs.Common.{◌≡◌, ℕ, Bool, true, false, refl, cond, ltb, ◌&&◌, List, [], ◌∷◌, Some, None}
use Rattle.std.specs.Prelude.{◌==◌, Option, not, length, option_and_then, codes}
use Rattle.std.specs.Str.{bytes_eq, is_utf8}
use Rattle.pingora_lru_files.specs.Names.{has_slash}
use Rattle.std.proofs.lemmas.Bool.{cond_both, and_parts, ltb-true}
use Rattle.pingora_lru.specs.declared.calls.Call.TheVariants.{EvictStep}
use Rattle.lru_lines.specs.Lines.{number_of, most_of}
use Rattle.lru_tool_inside.specs.Commands.{Asked, Do, ListRows, Save, Load, text_of, file_name_of, of_name_and_two, bare, with_one, with_two, with_three, with_four, of_words, Possible, IsPossible}

-- a name that is asked for, and else what the names after it mean
or_else : (b : Bool) (command : Asked) (other : Option Asked) → IsPossible command → Possible other → Possible (cond b (Some command) other)
or_else b command other h k = cond_both b (Some command) other Possible (λ _. h) (λ _. k)

-- a name that is asked for where its shards are there
or_none : (b : Bool) (command : Asked) → (b ≡ true → IsPossible command) → Possible (cond b (Some command) None)
or_none b command h = cond_both b (Some command) None Possible h (λ _. tt)

possible_bare : (name : List ℕ) → Possible (bare name)
possible_bare name = search (or_else, or_none) depth 10

possible_list : (name : List ℕ) (a : ℕ) → Possible (cond (bytes_eq name (codes "list") && ltb a 2) (Some (ListRows a)) None)
possible_list name a = or_none (bytes_eq name (codes "list") && ltb a 2) (ListRows a) (λ e. ltb-true a 2 (and_parts _ _ e).1)

possible_one : (name : List ℕ) (a : ℕ) → Possible (with_one name a)
possible_one name a = search (or_else, possible_list) depth 20

possible_step : (name : List ℕ) (a b : ℕ) → Possible (cond (bytes_eq name (codes "step") && ltb a 2 && ltb b 2) (Some (Do (EvictStep a b))) None)
possible_step name a b = or_none (bytes_eq name (codes "step") && ltb a 2 && ltb b 2) (Do (EvictStep a b))
    (λ e. (ltb-true a 2 (and_parts _ _ (and_parts _ _ e).0).1, ltb-true b 2 (and_parts _ _ e).1))

possible_two : (name : List ℕ) (a b : ℕ) → Possible (with_two name a b)
possible_two name a b = search (or_else, possible_step) depth 10

possible_three : (name : List ℕ) (a b c : ℕ) → Possible (with_three name a b c)
possible_three name a b c = search (or_else, or_none) depth 10

possible_four : (name : List ℕ) (a b c : ℕ) (most : Option ℕ) → Possible (with_four name a b c most)
possible_four name a b c most = search (or_else, or_none) depth 10

then_possible : {X : Type 0} (o : Option X) (f : X → Option Asked) → ((x : X) → Possible (f x)) → Possible (option_and_then f o)
then_possible None f h = tt
then_possible (Some x) f h = h x

-- the name of a file has no slash
no_slash : (b : Bool) (word : List ℕ) → has_slash word ≡ b → (make : List ℕ → Asked) → ((file : List ℕ) → has_slash file ≡ false → IsPossible (make file)) → Possible (option_and_then (λ file. Some (make file)) (cond b None (text_of word)))
no_slash true word e make h = tt
no_slash false word e make h = cond_both (not (length word == 0) && is_utf8 word) (Some word) None (λ o. Possible (option_and_then (λ file. Some (make file)) o)) (λ _. h word e) (λ _. tt)

possible_place : (a b : List ℕ) (make : List ℕ → List ℕ → Asked) → ((dir file : List ℕ) → has_slash file ≡ false → IsPossible (make dir file))
    → Possible (option_and_then (λ dir. option_and_then (λ file. Some (make dir file)) (file_name_of b)) (text_of a))
possible_place a b make h = then_possible (text_of a) _ (λ dir. no_slash (has_slash b) b refl (make dir) (h dir))

possible_of_name_and_two : (name a b : List ℕ) → Possible (of_name_and_two name a b)
possible_of_name_and_two name a b =
    cond_both (bytes_eq name (codes "save")) _ _ Possible (λ _. possible_place a b Save (λ dir file e. e))
    (λ _. cond_both (bytes_eq name (codes "load")) _ _ Possible (λ _. possible_place a b Load (λ dir file e. e))
    (λ _. then_possible (number_of a) _ (λ x. then_possible (number_of b) _ (λ y. possible_two name x y))))

pub possible_words : (words : List (List ℕ)) → Possible (of_words words)
possible_words [] = tt
possible_words (name ∷ []) = possible_bare name
possible_words (name ∷ a ∷ []) = then_possible (number_of a) _ (λ x. possible_one name x)
possible_words (name ∷ a ∷ b ∷ []) = possible_of_name_and_two name a b
possible_words (name ∷ a ∷ b ∷ c ∷ []) = then_possible (number_of a) _ (λ x. then_possible (number_of b) _ (λ y. then_possible (number_of c) _ (λ z. possible_three name x y z)))
possible_words (name ∷ a ∷ b ∷ c ∷ m ∷ []) =
    then_possible (number_of a) _ (λ x. then_possible (number_of b) _ (λ y. then_possible (number_of c) _ (λ z. then_possible (most_of m) _ (λ most. possible_four name x y z most))))
possible_words (name ∷ a ∷ b ∷ c ∷ m ∷ d ∷ words) = tt
