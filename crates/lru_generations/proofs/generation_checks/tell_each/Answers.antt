use Rattle.std.proofs.Common.{◌≡◌, ℕ, List, [], ◌∷◌, ◌++◌, length, get_or, refl, sym, ◌∙◌, ap, subst, arith}
use Rattle.std.proofs.lemmas.List.{take_all}
use Rattle.std.specs.Prelude.{Contains, map}
use Rattle.lru_folder.specs.Meaning.{Meaning}
use Rattle.lru_generations.proofs.Touched.{touches_started, touches_then}
use Rattle.lru_generations.specs.declared.generation_checks.FoundGeneration.{FoundGeneration}
use Rattle.lru_generations.specs.Told.{IsTold}
use Rattle.lru_generations.proofs.Passing.{each_more, map_more}
use Rattle.lru_generations.proofs.Telling.{told_again}
use Rattle.lru_generations.proofs.generation_checks.tell_each.Goals as goal

pub loop-generation-init : goal.loop-generation-init
loop-generation-init g c =
    let none = c.new-told.ensures.items in
    record {
      all = ap (λ (l : List FoundGeneration). map (λ (one : FoundGeneration). one.generation) l) none;
      each = λ k one h. absurd (omega (arith, h.1, ap (λ (l : List FoundGeneration). length l) none));
      files = λ k. refl;
      touches = λ k. touches_started g.F.Folder.meaning (λ q. ⊥) c.args.folder.now k;
      quiet = λ k. refl;
      places = λ k. refl;
      kept = (λ k. k, λ k. k);
    }

pub returns-in_err-one-clause-touches : goal.returns-in_err-one-clause-touches
returns-in_err-one-clause-touches g c k =
    let so_far = c.loop-generation.invariant in
    touches_then g.F.Folder.meaning (λ q. ⊥) c.args.folder.now c.loop-generation.folder c.tell.new.folder (so_far.touches k) (c.tell.ensures.touches (so_far.kept.0 k))

pub returns-in_default-clause-touches : goal.returns-in_default-clause-touches
returns-in_default-clause-touches g c k =
    let so_far = c.loop-generation.invariant in
    touches_then g.F.Folder.meaning (λ q. ⊥) c.args.folder.now c.loop-generation.folder c.tell.new.folder (so_far.touches k) (c.tell.ensures.touches (so_far.kept.0 k))

pub loop-generation-preserved : goal.loop-generation-preserved
loop-generation-preserved g c =
    let m : Meaning _ = g.F.Folder.meaning in
    let so_far = c.loop-generation.invariant in
    let dir = c.args.dir.now in
    let file_name = c.args.file_name.now in
    let start = c.args.folder.now in
    let mid = c.loop-generation.folder in
    let new = c.tell.new.folder in
    let numbers = c.args.generations.now in
    let i = c.loop-generation.generation-index in
    let told = c.loop-generation.told.items in
    let last : FoundGeneration = c.in_ok-one.one in
    let is : c.push.new.self.items ≡ told ++ last ∷ [] = c.in-Ok.ensures.items in
    record {
      all = ap (λ (l : List FoundGeneration). map (λ (one : FoundGeneration). one.generation) l) is
          ∙ map_more (λ (one : FoundGeneration). one.generation) numbers i told last c.loop-generation-test.true so_far.all c.in_ok-one.ensures.number;
      each = λ k one h. each_more (λ (t : FoundGeneration). IsTold dir file_name m start new t.generation t.shards) told last
          (λ t at. told_again m dir file_name start mid start new refl t.generation t.shards (so_far.each k t at))
          (subst (λ (n : ℕ). IsTold dir file_name m start new n last.shards) (sym c.in_ok-one.ensures.number)
          (told_again m dir file_name mid new start new (so_far.files k) (get_or numbers i 0) last.shards (c.in_ok-one.ensures.told (so_far.kept.0 k))))
          one (subst (λ (l : List FoundGeneration). Contains l one) is h);
      files = λ k. c.tell.ensures.files (so_far.kept.0 k) ∙ so_far.files k;
      touches = λ k. touches_then m (λ q. ⊥) start mid new (so_far.touches k) (c.tell.ensures.touches (so_far.kept.0 k));
      quiet = λ k. c.in_ok-one.ensures.faults (so_far.kept.0 k) ∙ so_far.quiet k;
      places = λ k. c.tell.ensures.places (so_far.kept.0 k) ∙ so_far.places k;
      kept = (λ k. c.tell.ensures.kept.0 (so_far.kept.0 k), λ k. so_far.kept.1 (c.tell.ensures.kept.1 k));
    }

pub returns-clause-all : goal.returns-clause-all
returns-clause-all g c = c.loop-generation.invariant.all ∙ take_all c.loop-generation.generation-index c.args.generations.now c.loop-generation-test.false

pub returns-clause-told : goal.returns-clause-told
returns-clause-told g c k = c.loop-generation.invariant.each k
