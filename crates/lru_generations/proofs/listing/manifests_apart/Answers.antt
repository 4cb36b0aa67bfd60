use Rattle.std.proofs.Common.{refl, sym, subst}
use Rattle.lru_generations.specs.declared.names.PartName.{PartName}
use Rattle.lru_generations.specs.declared.names.PartName.TheVariants.{Frame}
use Rattle.lru_generations.specs.Listing.{IsAnyManifest}
use Rattle.lru_generations.proofs.Members.{Kept, come_all, keep_at, kept, leave_at}
use Rattle.lru_generations.proofs.listing.manifests_apart.Goals as goal
use Rattle.lru_generations.proofs.listing.manifests_apart.Goals.{in-Manifest+in_ok-push-in-Manifest, in-Frame+in_ok-push-in-Frame, in-Temp+in_ok-push-in-Temp}

abbrev IsOther : PartName → Type 0
IsOther part = ¬ IsAnyManifest part

pub loop-part-preserved : goal.loop-part-preserved
loop-part-preserved c =
    let parts = c.args.parts.now in
    let i = c.loop-part.part-index in
    let within = c.loop-part-test.true in
    let so_far = c.loop-part.invariant in
    let manifests = c.loop-part.manifests.items in
    let others = c.loop-part.others.items in
    elim c.match-part.branch [
      | in-Manifest+in_ok-push-in-Manifest w ↦ rw (w.manifests-is, w.others-is) (record {
        manifests = keep_at IsAnyManifest parts i (Frame 0 0) within manifests w.push.new.self.items so_far.manifests w.in_ok-push-in-Manifest.ensures.items
            (subst IsAnyManifest (sym w.in-Manifest.is) tt);
        others = leave_at IsOther parts i (Frame 0 0) within others others so_far.others refl (λ other. other (subst IsAnyManifest (sym w.in-Manifest.is) tt));
      })
      | in-Frame+in_ok-push-in-Frame w ↦ rw (w.manifests-is, w.others-is) (record {
        manifests = leave_at IsAnyManifest parts i (Frame 0 0) within manifests manifests so_far.manifests refl (λ is. subst IsAnyManifest w.in-Frame.is is);
        others = keep_at IsOther parts i (Frame 0 0) within others w.push-in-Frame.new.self.items so_far.others w.in_ok-push-in-Frame.ensures.items
            (λ is. subst IsAnyManifest w.in-Frame.is is);
      })
      | in-Temp+in_ok-push-in-Temp w ↦ rw (w.manifests-is, w.others-is) (record {
        manifests = leave_at IsAnyManifest parts i (Frame 0 0) within manifests manifests so_far.manifests refl (λ is. subst IsAnyManifest w.in-Temp.is is);
        others = keep_at IsOther parts i (Frame 0 0) within others w.push-in-Temp.new.self.items so_far.others w.in_ok-push-in-Temp.ensures.items
            (λ is. subst IsAnyManifest w.in-Temp.is is);
      })
    ]

pub returns-clause-manifests : goal.returns-clause-manifests
returns-clause-manifests c =
    kept IsAnyManifest c.args.parts.now c.loop-part.manifests.items
    (come_all (Kept IsAnyManifest) c.args.parts.now c.loop-part.part-index c.loop-part.manifests.items c.loop-part-test.false c.loop-part.invariant.manifests)

pub returns-clause-others : goal.returns-clause-others
returns-clause-others c =
    kept IsOther c.args.parts.now c.loop-part.others.items
    (come_all (Kept IsOther) c.args.parts.now c.loop-part.part-index c.loop-part.others.items c.loop-part-test.false c.loop-part.invariant.others)
