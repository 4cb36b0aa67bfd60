use Rattle.std.proofs.Common.{◌≡◌, vec_len}
use Rattle.lru_recording.proofs.dealing.zeros.Given as goal

abbrev pub invariant-loop : goal.invariant-loop
invariant-loop l = vec_len l.zeros ≡ l.counter
