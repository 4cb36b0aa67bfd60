use Rattle.std.proofs.Common.{◌≡◌, ◌+◌, ◌-◌, [], take, drop, sym, ap, ◌∙◌, subst}
use Rattle.std.specs.Prelude.{is_some}
use Rattle.lru_short_locks.proofs.Hands.{some_same}
use Rattle.lru_inbox.specs.Logs.{hand, of_taker, taken_by, blank_fronts}
use Rattle.lru_inbox.proofs.Dealing.{fronts_rest}
use Rattle.lru_inbox.specs.Inboxes.{taken_in}
use Rattle.lru_workers.proofs.world.next_taker.Goals as goal

pub new-requires-2 : goal.new-requires-2
new-requires-2 g c = λ x e.
    let takers = ap (λ m. m.0.takers) (c.requires.rest c.in-Some.voice c.in-Some.is) ∙ fronts_rest c.args.shard c.args.count c.requires.below in
    subst (λ v. v.token.me ≡ (of_taker c.args.shard [], [])) (some_same c.in_ok-voice.voice x e) (c.in_ok-voice.ensures.one ∙ ap (λ l. (hand [] (take 1 l) [], [])) takers)

pub returns-clause-nothing : goal.returns-clause-nothing
returns-clause-nothing g c = λ x e.
    let takers = ap (λ m. m.0.takers) (c.requires.rest c.in-Some.voice c.in-Some.is) ∙ fronts_rest c.args.shard c.args.count c.requires.below in
    let one = c.in_ok-voice.ensures.one ∙ ap (λ l. (hand [] (take 1 l) [], [])) takers in
    sym (some_same (taken_by c.in_ok-voice.voice.token.me.0) x (sym (ap taken_in c.new-2.ensures.voice) ∙ e)) ∙ ap (λ m. taken_by m.0) one

pub returns-clause-rest : goal.returns-clause-rest
returns-clause-rest g c =
    let was = c.requires.rest c.in-Some.voice c.in-Some.is in
    let takers = ap (λ m. m.0.takers) was ∙ fronts_rest c.args.shard c.args.count c.requires.below in (
      (λ x e. subst (λ v. v.token.me ≡ (hand [] (blank_fronts (c.args.shard + 1) (c.args.count - (c.args.shard + 1))) [], [])) (some_same c.next_taker.new.self x e)
          (c.in_ok-voice.ensures.rest ∙ (λ k. (hand (was k).0.logs (drop 1 (takers k)) (was k).0.fronts, [])))),
      sym (ap is_some c.in-Some.is),
    )
