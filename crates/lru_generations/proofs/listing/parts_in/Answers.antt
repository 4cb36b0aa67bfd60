use Rattle.std.proofs.Common.{refl, sym, ◌∙◌, get_or}
use Rattle.lru_generations.proofs.Members.{come_all, come_push_at, come_skip_at}
use Rattle.lru_generations.proofs.ListingLaws.{Names, named_part, one_part, listed_parts, no_part, no_name}
use Rattle.lru_generations.proofs.listing.parts_in.Goals as goal
use Rattle.lru_generations.proofs.listing.parts_in.Goals.{in-Name+in-Some+in_ok-push, in-Name+in_default-part_of, in_default}

pub loop-entry-preserved : goal.loop-entry-preserved
loop-entry-preserved c =
    let R = Names c.args.file_name.now in
    let xs = c.args.listed.now in
    let i = c.loop-entry.entry-index in
    let d = c.entry-item.result in
    let E = get_or xs i d in
    elim c.match-entry.branch [
      | in-Name+in-Some+in_ok-push w ↦
          let named = sym c.entry-item.is ∙ w.in-Name.is in
          let r = named_part c.args.file_name.now E w.in-Name.name w.in-Some.part named w.in-Some.ensures.0 (sym w.as_str.ensures.value ∙ w.in-Some.ensures.1) in
          rw w.parts-is (come_push_at R xs i d c.loop-entry-test.true c.loop-entry.parts.items w.push.new.self.items c.loop-entry.invariant
          w.in-Some.part w.in_ok-push.ensures.items r (λ other s. one_part c.args.file_name.now E w.in-Some.part other r s))
      | in-Name+in_default-part_of w ↦
          let named = sym c.entry-item.is ∙ w.in-Name.is in
          rw w.parts-is (come_skip_at R xs i d c.loop-entry-test.true c.loop-entry.parts.items c.loop-entry.parts.items c.loop-entry.invariant refl
          (no_part c.args.file_name.now E w.in-Name.name named (λ part is h. w.in_default-part_of.ensures part is (w.as_str.ensures.value ∙ h))))
      | in_default w ↦
          rw w.parts-is (come_skip_at R xs i d c.loop-entry-test.true c.loop-entry.parts.items c.loop-entry.parts.items c.loop-entry.invariant refl
          (no_name c.args.file_name.now E (λ name h. w.in_default.not-Name name (c.entry-item.is ∙ h))))
    ]

pub returns : goal.returns
returns c = listed_parts c.args.file_name.now c.args.listed.now c.loop-entry.parts.items
    (come_all (Names c.args.file_name.now) c.args.listed.now c.loop-entry.entry-index c.loop-entry.parts.items c.loop-entry-test.false c.loop-entry.invariant)
