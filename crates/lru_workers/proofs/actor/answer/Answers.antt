use Rattle.lru_workers.proofs.actor.answer.Goals as goal

pub tell-requires-clause-tells : goal.tell-requires-clause-tells
tell-requires-clause-tells g c = λ x e. c.requires.tells x e (c.in-Some-Some.reply, c.in-Some-Some.refused) c.in-Some-Some.is-1
