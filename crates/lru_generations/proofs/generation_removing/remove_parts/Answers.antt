use Rattle.std.proofs.Common.{rules, ◌≡◌, inl, inr, ℕ, List, None, get_or, refl, ◌∙◌, ap, subst, arith}
use Rattle.std.specs.FinMap.{get}
use Rattle.std.proofs.lemmas.Bool.{cases_lt}
use Rattle.std.proofs.lemmas.List.{get_or_default}
use Rattle.std.proofs.lemmas.List.Elements.{Contains-get_or}
use Rattle.lru_folder.specs.Meaning.{Meaning}
use Rattle.lru_folder.proofs.FilesLemmas.{decide}
use Rattle.lru_generations.specs.declared.names.PartName.{PartName}
use Rattle.lru_generations.specs.declared.names.PartName.TheVariants.{Frame}
use Rattle.lru_generations.specs.Names.{part_path}
use Rattle.lru_generations.proofs.Touched.{touches_started, touches_then, touches_more}
use Rattle.lru_generations.specs.Removing.{IsPathOf}
use Rattle.lru_generations.proofs.generation_removing.remove_parts.Goals as goal

pub loop-part-init : goal.loop-part-init
loop-part-init g c = record {
  gone = λ k n none. absurd (omega (arith, none));
  touches = λ k. touches_started g.F.Folder.meaning _ c.args.folder.now k;
  firm = λ k q l. l;
  quiet = λ k. refl;
  places = λ k. refl;
  kept = (λ k. k, λ k. k);
}

pub returns-in_err-remove_part-clause-touches : goal.returns-in_err-remove_part-clause-touches
returns-in_err-remove_part-clause-touches g c k =
    let so_far = c.loop-part.invariant in
    let parts = c.args.parts.now in
    let all = IsPathOf c.args.dir.now c.args.file_name.now parts in
    let part = get_or parts c.loop-part.part-index (Frame 0 0) in
    let here = part_path c.args.dir.now c.args.file_name.now part in
    touches_then g.F.Folder.meaning all c.args.folder.now c.loop-part.folder c.remove_part.new.folder (so_far.touches k)
    (touches_more g.F.Folder.meaning (λ q. q ≡ here) all (λ q e. (part, (Contains-get_or parts c.loop-part.part-index (Frame 0 0) c.loop-part-test.true, e)))
    c.loop-part.folder c.remove_part.new.folder (c.remove_part.ensures.touches (so_far.kept.0 k)))

pub returns-in_err-remove_part-clause-named : goal.returns-in_err-remove_part-clause-named
returns-in_err-remove_part-clause-named g c =
    let parts = c.args.parts.now in
    let named = c.in_err-remove_part.ensures.named parts (Contains-get_or parts c.loop-part.part-index (Frame 0 0) c.loop-part-test.true) in
    search (rules, named)

pub loop-part-preserved : goal.loop-part-preserved
loop-part-preserved g c =
    let m : Meaning _ = g.F.Folder.meaning in
    let so_far = c.loop-part.invariant in
    let i = c.loop-part.part-index in
    let mid = c.loop-part.folder in
    let new = c.remove_part.new.folder in
    let parts = c.args.parts.now in
    let all = IsPathOf c.args.dir.now c.args.file_name.now parts in
    let path : ℕ → List ℕ = λ n. part_path c.args.dir.now c.args.file_name.now (get_or parts n (Frame 0 0)) in
    let done = c.in_ok-remove_part.ensures {u = tt} in
    record {
      gone = λ k n lt. elim (decide (path n) (path i)) [
        | inl e ↦ ap (get (m.files new)) e ∙ done.gone (so_far.kept.0 k)
        | inr ne ↦ elim (cases_lt n i) [
          | inl before ↦ (c.remove_part.ensures.touches (so_far.kept.0 k)).any_moment.now (path n) ne ∙ so_far.gone k n before
          | inr not ↦ let is : n ≡ i = omega (arith, lt, not) in absurd (ne (ap path is))
        ]
      ];
      touches = λ k. touches_then m all c.args.folder.now mid new (so_far.touches k)
          (touches_more m (λ q. q ≡ path i) all (λ q e. (get_or parts i (Frame 0 0), (Contains-get_or parts i (Frame 0 0) c.loop-part-test.true, e))) mid new (c.remove_part.ensures.touches (so_far.kept.0 k)));
      firm = λ k q l. so_far.firm k q (c.remove_part.ensures.firm (so_far.kept.0 k) q l);
      quiet = λ k. done.faults (so_far.kept.0 k) ∙ so_far.quiet k;
      places = λ k. c.remove_part.ensures.places (so_far.kept.0 k) ∙ so_far.places k;
      kept = (λ k. c.remove_part.ensures.kept.0 (so_far.kept.0 k), λ k. so_far.kept.1 (c.remove_part.ensures.kept.1 k));
    }

pub returns-clause-gone : goal.returns-clause-gone
returns-clause-gone g c k part h =
    let m : Meaning _ = g.F.Folder.meaning in
    let parts = c.args.parts.now in
    subst (λ (p : PartName). get (m.files c.loop-part.folder) (part_path c.args.dir.now c.args.file_name.now p) ≡ None)
    (get_or_default parts h.0 (Frame 0 0) part h.1 ∙ h.2) (c.loop-part.invariant.gone k h.0 (omega (arith, h.1, c.loop-part-test.false)))
