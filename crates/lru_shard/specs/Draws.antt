-- The two shards that an eviction draws from a stream of random words.
use Rattle.std.specs.Prelude.{ℕ, ◌==◌, if◌then◌else◌}
use Rattle.rand_core.specs.Stream.{Stream}
use Rattle.rand.specs.Uniform.{usize_single}

-- two numbers below n, the first one drawn first, and the stream that is left; of one shard nothing is drawn
abbrev pub drawn_shards : ℕ → Stream → (ℕ × ℕ) × Stream
drawn_shards n s =
    let a = usize_single 0 n s in
    let b = usize_single 0 n a.1 in
    if n == 1 then ((0, 0), s) else ((a.0, b.0), b.1)
