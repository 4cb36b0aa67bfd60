-- Four words side by side.
use Rattle.std.proofs.Common.{◌≡◌, ℕ, sym, ap, ◌∙◌}
use Rattle.std.specs.Prelude.{bit_xor}
use Rattle.std.specs.Int.Bits.{xor_zero_r}
use Rattle.lru_frames.specs.Crc.{bit_steps}
use Rattle.lru_frames.specs.CrcLanes.{joined}
use Rattle.lru_frames.proofs.Xors.{xor_four}
use Rattle.lru_frames.proofs.Steps.{bit_steps-xor, bit_steps-add}

-- a state with one more word
abbrev on : ℕ → ℕ → ℕ
on state word = bit_steps 64 (bit_xor state word)

far_on : (s w : ℕ) → on (bit_steps 256 s) (bit_steps 256 w) ≡ bit_steps 256 (on s w)
far_on s w =
    ap (bit_steps 64) (sym (bit_steps-xor 256 s w)) ∙ sym (bit_steps-add 256 64 (bit_xor s w)) ∙ bit_steps-add 64 256 (bit_xor s w)

on-xor : (s t w v : ℕ) → on (bit_xor s t) (bit_xor w v) ≡ bit_xor (on s w) (on t v)
on-xor s t w v = ap (bit_steps 64) (xor_four s t w v) ∙ bit_steps-xor 64 (bit_xor s w) (bit_xor t v)

joined_far : (a b c d : ℕ) → joined (bit_steps 256 a) (bit_steps 256 b) (bit_steps 256 c) (bit_steps 256 d) ≡ bit_steps 256 (joined a b c d)
joined_far a b c d =
    let first : bit_steps 64 (bit_steps 256 a) ≡ bit_steps 256 (bit_steps 64 a) = sym (bit_steps-add 256 64 a) ∙ bit_steps-add 64 256 a in
    ap (λ s. on (on (on s (bit_steps 256 b)) (bit_steps 256 c)) (bit_steps 256 d)) first
    ∙ ap (λ s. on (on s (bit_steps 256 c)) (bit_steps 256 d)) (far_on (bit_steps 64 a) b)
    ∙ ap (λ s. on s (bit_steps 256 d)) (far_on (on (bit_steps 64 a) b) c)
    ∙ far_on (on (on (bit_steps 64 a) b) c) d

joined-xor : (a b c d e f g h : ℕ) → joined (bit_xor a e) (bit_xor b f) (bit_xor c g) (bit_xor d h) ≡ bit_xor (joined a b c d) (joined e f g h)
joined-xor a b c d e f g h =
    ap (λ s. on (on (on s (bit_xor b f)) (bit_xor c g)) (bit_xor d h)) (bit_steps-xor 64 a e)
    ∙ ap (λ s. on (on s (bit_xor c g)) (bit_xor d h)) (on-xor (bit_steps 64 a) (bit_steps 64 e) b f)
    ∙ ap (λ s. on s (bit_xor d h)) (on-xor (on (bit_steps 64 a) b) (on (bit_steps 64 e) f) c g)
    ∙ on-xor (on (on (bit_steps 64 a) b) c) (on (on (bit_steps 64 e) f) g) d h

-- a state that only zeros follow
joined_alone : (s : ℕ) → joined s 0 0 0 ≡ bit_steps 256 s
joined_alone s =
    ap (λ t. bit_steps 64 (bit_xor (bit_steps 64 (bit_xor (bit_steps 64 t) 0)) 0)) (xor_zero_r (bit_steps 64 s))
    ∙ ap (λ t. bit_steps 64 (bit_xor (bit_steps 64 t) 0)) (xor_zero_r (bit_steps 64 (bit_steps 64 s)))
    ∙ ap (bit_steps 64) (xor_zero_r (bit_steps 64 (bit_steps 64 (bit_steps 64 s))))
    ∙ sym (bit_steps-add 192 64 s ∙ ap (bit_steps 64) (bit_steps-add 128 64 s ∙ ap (bit_steps 64) (bit_steps-add 64 64 s)))

-- four words more
four_more : (a b c d w x y z : ℕ)
    → joined (bit_xor (bit_steps 256 a) w) (bit_xor (bit_steps 256 b) x) (bit_xor (bit_steps 256 c) y) (bit_xor (bit_steps 256 d) z) ≡ joined (bit_xor (joined a b c d) w) x y z
four_more a b c d w x y z =
    let s = joined a b c d in
    joined-xor (bit_steps 256 a) (bit_steps 256 b) (bit_steps 256 c) (bit_steps 256 d) w x y z
    ∙ ap (λ t. bit_xor t (joined w x y z)) (joined_far a b c d ∙ sym (joined_alone s))
    ∙ sym (joined-xor s 0 0 0 w x y z)

-- the same of what was computed
pub four_on : (a b c d w x y z far_a far_b far_c far_d : ℕ) → far_a ≡ bit_steps 256 a → far_b ≡ bit_steps 256 b → far_c ≡ bit_steps 256 c → far_d ≡ bit_steps 256 d
    → joined (bit_xor far_a w) (bit_xor far_b x) (bit_xor far_c y) (bit_xor far_d z) ≡ joined (bit_xor (joined a b c d) w) x y z
four_on a b c d w x y z far_a far_b far_c far_d at_a at_b at_c at_d =
    ap (λ n. joined (bit_xor n w) (bit_xor far_b x) (bit_xor far_c y) (bit_xor far_d z)) at_a
    ∙ ap (λ n. joined (bit_xor (bit_steps 256 a) w) (bit_xor n x) (bit_xor far_c y) (bit_xor far_d z)) at_b
    ∙ ap (λ n. joined (bit_xor (bit_steps 256 a) w) (bit_xor (bit_steps 256 b) x) (bit_xor n y) (bit_xor far_d z)) at_c
    ∙ ap (λ n. joined (bit_xor (bit_steps 256 a) w) (bit_xor (bit_steps 256 b) x) (bit_xor (bit_steps 256 c) y) (bit_xor n z)) at_d
    ∙ four_more a b c d w x y z
