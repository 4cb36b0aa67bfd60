use Rattle.std.proofs.Common.{List, [], ◌∷◌, ◌++◌, sym, ap, ◌∙◌, subst, append_assoc, arith, nat_eq}
use Rattle.std.specs.Prelude.{reverse}
use Rattle.std.specs.HashMap as hash
use Rattle.std.proofs.lemmas.List.{reverse-append}
use Rattle.lru_actors.specs.declared.message.LruMsg.{LruMsg}
use Rattle.lru_actors.specs.declared.effect.Effect.{Effect}
use Rattle.lru_actors.specs.Processing.{ProcessesAll}
use Rattle.lru_actors.proofs.Served.{all_more}
use Rattle.lru_actors.proofs.process.process_batch.Goals as goal

pub loop-msg-preserved : goal.loop-msg-preserved
loop-msg-preserved g c =
    let inv = c.loop-msg.invariant in
    let before : List (LruMsg g.row.K.Denot) = inv.0 in
    let msg : LruMsg g.row.K.Denot = c.in-Some.msg in
    let fits = inv.1.1.1 in (
      before ++ msg ∷ [],
      (
        append_assoc before (msg ∷ []) _ ∙ ap (λ z. before ++ z) (sym (ap reverse c.in-Some.ensures.items ∙ reverse-append c.pop.new.self.items (msg ∷ []))) ∙ inv.1.0,
        (
          subst (λ (es : List (Effect g.row.K.Denot)). ProcessesAll g.D.Dispatch.Puts g.D.Dispatch.IsSame g.D.Dispatch.queue g.K.Clone.is_clone g.D.Dispatch.MayRefuse c.args.state.now (hash.get nat_eq c.args.map.now) c.args.dispatch.now
              (before ++ msg ∷ []) es c.process_msg.new.state (hash.get nat_eq c.process_msg.new.map) c.process_msg.new.dispatch)
              (sym c.push_reserved.ensures.items)
              (all_more g.D.Dispatch.Puts g.D.Dispatch.IsSame g.D.Dispatch.queue g.K.Clone.is_clone g.D.Dispatch.MayRefuse before _ _ _ _ _ _ _ _ _ _ msg _ inv.1.1.0 c.process_msg.ensures),
          omega (arith, fits, c.push_reserved.ensures.len, c.push_reserved.ensures.capacity, c.in-Some.ensures.len),
        ),
      ),
    )
