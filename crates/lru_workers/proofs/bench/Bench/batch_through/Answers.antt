use Rattle.std.proofs.Common.{ap, ◌%◌, ◌^◌, ◌∙◌, length, arith}
use Rattle.lru_workers.proofs.Stepping.{steps_from}
use Rattle.lru_workers.proofs.Evicted.{as_many, all_taken, length-flags}
use Rattle.std.proofs.lemmas.List.{length-map}
use Rattle.lru_workers.specs.Batch.{is_evict}
use Rattle.lru_workers.proofs.bench.Bench.batch_through.Goals as goal

pub evicted_in-evicted_weight-requires : goal.evicted_in-evicted_weight-requires
evicted_in-evicted_weight-requires g c =
    let many = as_many g.K.Clone.is_clone g.D.Dispatch.Puts g.D.Dispatch.IsSame g.D.Dispatch.queue g.D.Dispatch.MayRefuse c.args.self.now.batch.items c.process_batch.new.effects.items _ _ _ _ _ _ c.process_batch.ensures.processed in
    omega (arith, many, length-flags c.args.self.now.asked.items, length-map c.args.self.now.batch.items is_evict, ap length c.requires.asked, c.process_batch.new.effects.ok.0, c.args.self.now.asked.ok.0)

pub returns-clause-change : goal.returns-clause-change
returns-clause-change g c =
    let taken = all_taken g.K.Clone.is_clone g.D.Dispatch.Puts g.D.Dispatch.IsSame g.D.Dispatch.queue g.D.Dispatch.MayRefuse c.args.self.now.batch.items c.process_batch.new.effects.items c.args.self.now.asked.items
    _ _ _ _ _ _ c.process_batch.ensures.processed c.requires.asked in
    record {
      weight_before = c.used_weight-weight_before.ensures;
      weight_after = c.used_weight.ensures;
      len_before = c.len-len_before.ensures;
      len_after = c.len.ensures;
      evicted_weight = c.evicted_in-evicted_weight.ensures.weight ∙ ap (λ n. n % 2 ^ 64) taken.weight;
      evicted_len = c.evicted_in-evicted_weight.ensures.len ∙ ap (λ n. n % 2 ^ 64) taken.len;
      refused = c.refused.ensures;
      heaviest = c.heaviest_in.ensures;
    }

pub returns-clause-effects : goal.returns-clause-effects
returns-clause-effects g c =
    let many = as_many g.K.Clone.is_clone g.D.Dispatch.Puts g.D.Dispatch.IsSame g.D.Dispatch.queue g.D.Dispatch.MayRefuse c.args.self.now.batch.items c.process_batch.new.effects.items _ _ _ _ _ _ c.process_batch.ensures.processed in
    omega (arith, many, length-flags c.args.self.now.asked.items, length-map c.args.self.now.batch.items is_evict, ap length c.requires.asked, c.process_batch.new.effects.ok.0, c.args.self.now.asked.ok.0)

pub returns-clause-from : goal.returns-clause-from
returns-clause-from g c = steps_from g.K.Clone.is_clone g.D.Dispatch.Puts g.D.Dispatch.IsSame g.D.Dispatch.queue g.D.Dispatch.MayRefuse c.args.self.now.batch.items c.process_batch.new.effects.items _ _ _ _ _ _ c.process_batch.ensures.processed

pub returns-clause-steps : goal.returns-clause-steps
returns-clause-steps g c =
    (_, _, steps_from g.K.Clone.is_clone g.D.Dispatch.Puts g.D.Dispatch.IsSame g.D.Dispatch.queue g.D.Dispatch.MayRefuse c.args.self.now.batch.items c.process_batch.new.effects.items _ _ _ _ _ _ c.process_batch.ensures.processed)
