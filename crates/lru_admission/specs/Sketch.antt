-- Uses counted by hash, in few counters: what an estimate is, what a use changes, and what a halving does.
use Rattle.std.specs.Prelude.{◌≡◌, ℕ, ◌+◌, ◌*◌, ◌/◌, ◌%◌, ◌^◌, ◌<◌, ◌==◌, min, max, List, [], ◌∷◌, ◌++◌, length, map, replicate, slice_index, slice_set, bit_xor, All, if◌then◌else◌}
use Rattle.std.specs.Coded.{Coded, code_by, coded×, coded_ℕ, coded_list}
use Rattle.std.specs.Prelude.{refl}

-- what the counters hold, two for each entry, and how many uses came since they were halved
pub record Counted : Type 0 where
  pub counts : List ℕ
  pub uses : ℕ

abbrev pub counted_code : Coded Counted
counted_code = code_by (List ℕ × ℕ) (coded× (coded_list coded_ℕ) coded_ℕ) (λ s. (s.counts, s.uses)) (λ p. record { counts = p.0; uses = p.1 }) (λ _. refl)

-- for how many entries it is
abbrev pub entries_of : Counted → ℕ
entries_of s = length s.counts / 2

-- what holds of every sketch: a counter holds four bits, and before ten times as many uses as there are entries it is halved
pub record IsSketch (s : Counted) : Type 0 where
  pub even : length s.counts ≡ 2 * entries_of s
  pub some : 0 < entries_of s
  pub small : All (λ count. count < 16) s.counts
  pub young : s.uses < 10 * entries_of s

-- no uses. A sketch of no entries is one of one
abbrev pub fresh : ℕ → Counted
fresh entries = record { counts = replicate (2 * max 1 entries) 0; uses = 0 }

-- a hash with its bits mixed
unfoldable pub mixed : ℕ → ℕ
mixed hash =
    let a = bit_xor hash (hash / 2 ^ 33) * 0xff51afd7ed558ccd % 2 ^ 64 in
    let b = bit_xor a (a / 2 ^ 33) * 0xc4ceb9fe1a85ec53 % 2 ^ 64 in
    bit_xor b (b / 2 ^ 33)

-- one of the four counters that a hash has, of so many, by its mixed bits: from a first one on by steps of one length, which their two halves give
unfoldable pub counter_by : ℕ → ℕ → ℕ → ℕ
counter_by counters bits which = (bits / 2 ^ 32 + which * (bits % 2 ^ 32)) % 2 ^ 32 * counters / 2 ^ 32

abbrev pub counter_of : ℕ → ℕ → ℕ → ℕ
counter_of counters hash which = counter_by counters (mixed hash) which

-- what it holds
abbrev pub count_at : List ℕ → ℕ → ℕ → ℕ
count_at counts hash which = slice_index counts (counter_of (length counts) hash which)

-- how often a hash was used, as far as is known: the least of what its counters hold
unfoldable pub least_of : List ℕ → ℕ → ℕ
least_of counts hash = min (min (count_at counts hash 0) (count_at counts hash 1)) (min (count_at counts hash 2) (count_at counts hash 3))

abbrev pub estimate : Counted → ℕ → ℕ
estimate s hash = least_of s.counts hash

-- a counter holds at least so much
abbrev pub lifted : List ℕ → ℕ → ℕ → List ℕ
lifted counts counter level = slice_set counts counter (max (slice_index counts counter) level)

-- each of a hash's counters holds at least so much
abbrev pub all_lifted : List ℕ → ℕ → ℕ → List ℕ
all_lifted counts hash level =
    let at = counter_of (length counts) hash in
    lifted (lifted (lifted (lifted counts (at 0) level) (at 1) level) (at 2) level) (at 3) level

-- the least of a hash's counters are raised by one, up to 15
unfoldable pub raised : List ℕ → ℕ → List ℕ
raised counts hash = all_lifted counts hash (min 15 (least_of counts hash + 1))

-- each counter holds half of what it held, rounded down
abbrev pub halved : Counted → Counted
halved s = record { counts = map (λ count. count / 2) s.counts; uses = 0 }

-- after ten times as many uses as there are entries all is halved
abbrev pub aged : Counted → Counted
aged s = if s.uses == 10 * entries_of s then halved s else s

-- after one more use of a hash
abbrev pub counted : Counted → ℕ → Counted
counted s hash = aged (record { counts = raised s.counts hash; uses = s.uses + 1 })

-- after uses of these hashes, in their order
abbrev pub counted_all : Counted → List ℕ → Counted
counted_all s [] = s
counted_all s (hash ∷ hashes) = counted_all (counted s hash) hashes

-- of uses that come behind others, of which `since` are those since a halving: those since the last halving, where each so-manieth use halves
abbrev pub since_halving : ℕ → List ℕ → List ℕ → List ℕ
since_halving period since [] = since
since_halving period since (hash ∷ hashes) = if length since + 1 == period then since_halving period [] hashes else since_halving period (since ++ hash ∷ []) hashes
