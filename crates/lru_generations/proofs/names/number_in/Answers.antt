use Rattle.std.proofs.Common.{◌≢◌, ◌<◌, length, get_or, arith, subst, List, ℕ, sym, ◌∙◌}
use Rattle.std.proofs.lemmas.Bool.{eqb-true}
use Rattle.lru_generations.proofs.NumberLaws.{no_plus_ahead, no_zero_ahead, number_read}
use Rattle.lru_generations.proofs.names.number_in.Goals as goal
use Rattle.lru_generations.proofs.names.number_in.Goals.{else-bytes-gt1-via-then-bytes-gt1+else-bytes-eq48, else-bytes-gt1-via-else-bytes-gt1, else-not-is_empty-via-then-not-is_empty+else-bytes-eq43, else-not-is_empty-via-else-not-is_empty}

pub returns-then-bytes-eq48 : goal.returns-then-bytes-eq48
returns-then-bytes-eq48 c = rw c.as_bytes-bytes.ensures.value at (no_zero_ahead c.as_bytes-bytes.result.now c.if-bytes-eq48.true c.if-bytes-gt1.true)

pub returns-then-bytes-eq43 : goal.returns-then-bytes-eq43
returns-then-bytes-eq43 c = rw c.as_bytes-bytes.ensures.value at (no_plus_ahead c.as_bytes-bytes.result.now c.if-bytes-eq43.true)

pub returns : goal.returns
returns c =
    let bytes = c.as_bytes-bytes.result.now in
    let zero : 1 < length bytes → get_or bytes 0 0 ≢ 48 = elim c.else-bytes-gt1.branch [
      | else-bytes-gt1-via-then-bytes-gt1+else-bytes-eq48 w ↦ λ lt. w.if-bytes-eq48.false
      | else-bytes-gt1-via-else-bytes-gt1 w ↦ λ lt. absurd (omega arith)
    ] in
    let plus : 0 < length bytes → get_or bytes 0 0 ≢ 43 = elim c.else-not-is_empty.branch [
      | else-not-is_empty-via-then-not-is_empty+else-bytes-eq43 w ↦ λ lt. w.if-bytes-eq43.false
      | else-not-is_empty-via-else-not-is_empty w ↦ λ lt. absurd (omega (arith, eqb-true (length bytes) 0 (sym c.is_empty.ensures ∙ w.if-not-is_empty.false)))
    ] in
    rw c.ok.ensures.value (number_read c.args.text.now c.parse.result
    (subst (λ (l : List ℕ). 1 < length l → get_or l 0 0 ≢ 48) c.as_bytes-bytes.ensures.value zero)
    (subst (λ (l : List ℕ). 0 < length l → get_or l 0 0 ≢ 43) c.as_bytes-bytes.ensures.value plus) c.parse.ensures.value.0)
