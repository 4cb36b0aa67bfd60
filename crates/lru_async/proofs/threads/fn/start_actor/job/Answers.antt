use denote.Param.Send.{sendable}
use Rattle.lru_async.proofs.threads.fn.start_actor.job.Goals as goal

pub run-seat-requires-send-G : goal.run-seat-requires-send-G
run-seat-requires-send-G g c κs within = search sendable
