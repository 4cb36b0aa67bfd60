use Rattle.std.proofs.Common.{◌≡◌, ℕ, ◌+◌, ◌-◌, ◌*◌, ◌/◌, ◌%◌, ◌^◌, bit_or, ap, ◌∙◌, arith}
use Rattle.lru_index.specs.Hashing.{turned}
use Rattle.lru_index.proofs.hashing.SeededHasher.turn.Goals as goal

pub returns : goal.returns
unfolding turned
returns c =
    let h = c.args.self.now in
    let same : (c.args.len % 64 + 56) % 64 ≡ (c.args.len + 56) % 64 = omega arith in
    ap (λ (s : ℕ). record h { state = s }) (c.rotate_left-self.ensures ∙ ap (λ k. bit_or ((h.state * 2 ^ k) % 2 ^ 64) (h.state / 2 ^ ((64 - k) % 64))) same)
