-- A window with one more byte.
use Rattle.std.proofs.Common.{subst, ◌≡◌, ℕ, zero, suc, ◌+◌, ◌-◌, ◌*◌, ◌/◌, ◌%◌, ◌^◌, ◌<◌, ◌≤◌, List, [], ◌∷◌, ◌++◌, length, take, drop, set, replicate, get_or, refl, sym, ap, ◌∙◌, arith}
use Rattle.std.specs.Prelude.{bit_xor}
use Rattle.std.specs.Int.Bits.{xor_self, xor_zero_l, xor_zero_r}
use Rattle.std.specs.List.{fold, AllByRecursion, copy_within}
use borrow.Rule.Slice.PartMut.{put_mid}
use Rattle.std.proofs.Math.Nat.{pow-suc, pow-le-pow_right}
use Rattle.std.proofs.Math.Seq.{take-suc, take-suc-set, drop-cons, drop-append_seam, paste}
use Rattle.std.proofs.lemmas.List.{take_all, take-append-le, length-take-le, length-drop, length-replicate, take-replicate, drop-set-add, get_or-take, get_or-drop}
use Rattle.std.proofs.lemmas.List.Edits.{paste_all, take-paste}
use Rattle.std.proofs.lemmas.List.Sums.{fold-append}
use Rattle.std.proofs.lemmas.Slice.{put_mid-paste}
use Rattle.std.proofs.lemmas.Nat.{xor_comm, xor_lt, xor_mod, xor_block}
use Rattle.lru_frames.specs.Crc.{all_ones, bit_step, bit_steps, step}
use Rattle.lru_frames.specs.CrcWindows.{places, sum_at, sum_of_starts, state_of}
use Rattle.lru_frames.specs.declared.crc_windows.TheConstants.{ONES}
use Rattle.lru_frames.proofs.Xors.{xor_assoc, xor_twice, xor_four}
use Rattle.lru_frames.proofs.Steps.{bit_step-xor, bit_step-twice, bit_steps-xor, bit_steps-lt, bit_steps-add, same_before, nothing_after}
use Rattle.lru_frames.proofs.CrcLaws.{word_in, fold-steps}

-- the sum of a state after so many bytes each
abbrev pub powers : List ℕ → ℕ → ℕ
powers [] s = 0
powers (n ∷ ns) s = bit_xor (bit_steps (n * 8) s) (powers ns s)

-- what a state is after all bytes of the window and one more
abbrev Divides : ℕ → Type 0
Divides s = bit_steps (1145 * 8) s ≡ bit_xor s (powers places s)

powers-xor : (ns : List ℕ) (a b : ℕ) → powers ns (bit_xor a b) ≡ bit_xor (powers ns a) (powers ns b)
powers-xor [] a b = refl
powers-xor (n ∷ ns) a b =
    ap (λ x. bit_xor x (powers ns (bit_xor a b))) (bit_steps-xor (n * 8) a b)
    ∙ ap (bit_xor (bit_xor (bit_steps (n * 8) a) (bit_steps (n * 8) b))) (powers-xor ns a b)
    ∙ xor_four (bit_steps (n * 8) a) (bit_steps (n * 8) b) (powers ns a) (powers ns b)

powers-lt : (ns : List ℕ) (s : ℕ) → s < 2 ^ 64 → powers ns s < 2 ^ 64
powers-lt [] s h = omega arith
powers-lt (n ∷ ns) s h = xor_lt 64 (bit_steps (n * 8) s) (powers ns s) (bit_steps-lt (n * 8) s h) (powers-lt ns s h)

turned : (n s : ℕ) → bit_step (bit_steps n s) ≡ bit_steps n (bit_step s)
unfolding bit_steps
turned zero s = refl
turned (suc n) s = turned n (bit_step s)

nothing_stepped : bit_step 0 ≡ 0
unfolding bit_step
nothing_stepped = refl

powers-stepped : (ns : List ℕ) (s : ℕ) → bit_step (powers ns s) ≡ powers ns (bit_step s)
powers-stepped [] s = nothing_stepped
powers-stepped (n ∷ ns) s =
    bit_step-xor (bit_steps (n * 8) s) (powers ns s)
    ∙ ap (λ x. bit_xor x (bit_step (powers ns s))) (turned (n * 8) s) ∙ ap (bit_xor (bit_steps (n * 8) (bit_step s))) (powers-stepped ns s)

one_step : (s : ℕ) → bit_steps 1 s ≡ bit_step s
unfolding bit_steps
one_step s = refl

divides-xor : (a b : ℕ) → Divides a → Divides b → Divides (bit_xor a b)
divides-xor a b p q =
    bit_steps-xor (1145 * 8) a b ∙ ap (λ x. bit_xor x (bit_steps (1145 * 8) b)) p ∙ ap (bit_xor (bit_xor a (powers places a))) q
    ∙ xor_four a (powers places a) b (powers places b) ∙ ap (bit_xor (bit_xor a b)) (sym (powers-xor places a b))

divides_nothing : Divides 0
divides_nothing = nothing_after (1145 * 8) ∙ sym (ap (bit_xor 0) (none places) ∙ xor_zero_r 0)
  where
    none : (ns : List ℕ) → powers ns 0 ≡ 0
    none [] = refl
    none (n ∷ ns) = ap (λ x. bit_xor x (powers ns 0)) (nothing_after (n * 8)) ∙ ap (bit_xor 0) (none ns) ∙ xor_zero_r 0

divides_one : Divides 1
unfolding bit_steps bit_step
divides_one = refl

-- twice a state
divides_twice : (s : ℕ) → s < 2 ^ 63 → Divides s → Divides (s * 2)
divides_twice s h p =
    same_before 1 (bit_steps (1145 * 8) (s * 2)) (bit_xor (s * 2) (powers places (s * 2))) (bit_steps-lt (1145 * 8) (s * 2) (omega arith))
    (xor_lt 64 (s * 2) (powers places (s * 2)) (omega arith) (powers-lt places (s * 2) (omega arith)))
    (one_step (bit_steps (1145 * 8) (s * 2)) ∙ turned (1145 * 8) (s * 2) ∙ ap (bit_steps (1145 * 8)) (bit_step-twice s) ∙ p
    ∙ sym (one_step (bit_xor (s * 2) (powers places (s * 2))) ∙ bit_step-xor (s * 2) (powers places (s * 2))
    ∙ ap (λ x. bit_xor x (bit_step (powers places (s * 2)))) (bit_step-twice s)
    ∙ ap (bit_xor s) (powers-stepped places (s * 2) ∙ ap (powers places) (bit_step-twice s))))

-- a bit below others
low_bit : (low high : ℕ) → low < 2 → bit_xor low (high * 2) ≡ low + high * 2
low_bit low high h =
    let e : bit_xor (high * 2 ^ 1 + 0) (0 * 2 ^ 1 + low) ≡ bit_xor high 0 * 2 ^ 1 + bit_xor 0 low = xor_block 1 high 0 0 low (omega arith) h in
    let one : high * 2 ≡ high * 2 ^ 1 + 0 = omega arith in
    let two : low ≡ 0 * 2 ^ 1 + low = omega arith in
    let sum : high * 2 ^ 1 + low ≡ low + high * 2 = omega arith in
    xor_comm low (high * 2) ∙ ap (λ x. bit_xor x low) one ∙ ap (bit_xor (high * 2 ^ 1 + 0)) two ∙ e
    ∙ ap (λ x. x * 2 ^ 1 + bit_xor 0 low) (xor_zero_r high) ∙ ap (λ x. high * 2 ^ 1 + x) (xor_zero_l low) ∙ sum

divides_bit : (s : ℕ) → s < 2 → Divides s
divides_bit zero h = divides_nothing
divides_bit (suc zero) h = divides_one
divides_bit (suc (suc s)) h = absurd (omega arith)

divides_bits : (n s : ℕ) → n ≤ 8 → s < 2 ^ n → Divides s
divides_bits zero s p q = divides_bit s (omega (arith, q))
divides_bits (suc n) s p q =
    let power : 2 ^ suc n ≡ 2 ^ n * 2 = pow-suc 2 n in
    let half : s / 2 < 2 ^ n = omega (arith, power, q) in
    let short : n ≤ 8 = omega (arith, p) in
    let most : 2 ^ n ≤ 2 ^ 8 = pow-le-pow_right {n = 2} (omega arith) short in
    let whole : bit_xor (s % 2) (s / 2 * 2) ≡ s = low_bit (s % 2) (s / 2) (omega arith) ∙ omega arith in
    let P : ℕ → Type 0 = λ x. Divides x in
    subst P whole (divides-xor (s % 2) (s / 2 * 2) (divides_bit (s % 2) (omega arith)) (divides_twice (s / 2) (omega (arith, half, most)) (divides_bits n (s / 2) short half)))

divides_byte : (byte : ℕ) → Divides (byte % 2 ^ 8)
divides_byte byte = divides_bits 8 (byte % 2 ^ 8) (omega arith) (omega arith)

-- a state before bytes apart
pub from_state : (bytes : List ℕ) (s : ℕ) → fold step s bytes ≡ bit_xor (bit_steps (length bytes * 8) s) (fold step 0 bytes)
from_state bytes s =
    let n = length bytes * 8 in
    fold-steps bytes s ∙ bit_steps-xor n s (word_in bytes)
    ∙ ap (bit_xor (bit_steps n s)) (sym (fold-steps bytes 0 ∙ ap (bit_steps n) (xor_zero_l (word_in bytes))))

first_step : (byte : ℕ) → step 0 byte ≡ bit_steps 8 (byte % 2 ^ 8)
unfolding step
first_step byte = ap (bit_steps 8) (xor_zero_l (byte % 2 ^ 8))

-- the byte in front taken away
without_first : (b n : ℕ) (bytes : List ℕ) → length bytes ≡ n → fold step 0 bytes ≡ bit_xor (fold step 0 (b ∷ bytes)) (bit_steps (suc n * 8) (b % 2 ^ 8))
without_first b n bytes e =
    let front = bit_steps (suc n * 8) (b % 2 ^ 8) in
    let count : 8 + length bytes * 8 ≡ suc n * 8 = omega (arith, e) in
    let at_front : bit_steps (length bytes * 8) (step 0 b) ≡ front =
    ap (bit_steps (length bytes * 8)) (first_step b) ∙ sym (bit_steps-add 8 (length bytes * 8) (b % 2 ^ 8)) ∙ ap (λ k. bit_steps k (b % 2 ^ 8)) count in
    let whole : fold step 0 (b ∷ bytes) ≡ bit_xor (fold step 0 bytes) front =
    from_state bytes (step 0 b) ∙ ap (λ x. bit_xor x (fold step 0 bytes)) at_front ∙ xor_comm front (fold step 0 bytes) in
    sym (ap (λ x. bit_xor x front) whole ∙ xor_twice (fold step 0 bytes) front)

one_more : (n s : ℕ) → bit_steps (suc n * 8) s ≡ bit_steps 8 (bit_steps (n * 8) s)
one_more n s = let count : suc n * 8 ≡ n * 8 + 8 = omega arith in ap (λ k. bit_steps k s) count ∙ bit_steps-add (n * 8) 8 s

-- so many of the first bytes, where the byte in front is taken away
start_on : (b n : ℕ) (t : List ℕ) → n ≤ length t
    → fold step 0 (take n t) ≡ bit_steps 8 (bit_xor (bit_xor (fold step 0 (take n (b ∷ t))) (get_or (b ∷ t) n 0 % 2 ^ 8)) (bit_steps (n * 8) (b % 2 ^ 8)))
unfolding step
start_on b n t h =
    let w = b ∷ t in
    let front = fold step 0 (take n w) in
    let byte = get_or w n 0 % 2 ^ 8 in
    let count : length (take n t) ≡ n = length-take-le n t h in
    let longer : fold step 0 (b ∷ take n t) ≡ bit_steps 8 (bit_xor front byte) =
    ap (fold step 0) (take-suc w n 0 (omega (arith, h))) ∙ fold-append step 0 (take n w) (get_or w n 0 ∷ []) in
    without_first b n (take n t) count ∙ ap (λ x. bit_xor x (bit_steps (suc n * 8) (b % 2 ^ 8))) longer
    ∙ ap (bit_xor (bit_steps 8 (bit_xor front byte))) (one_more n (b % 2 ^ 8))
    ∙ sym (bit_steps-xor 8 (bit_xor front byte) (bit_steps (n * 8) (b % 2 ^ 8)))

-- what stands at these places
abbrev taps : List ℕ → (ℕ → ℕ) → ℕ
taps [] byte = 0
taps (n ∷ ns) byte = bit_xor (byte n % 2 ^ 8) (taps ns byte)

sum_at-mod : (ns w : List ℕ) (k sum : ℕ) → sum_at ns w k sum % 2 ^ 8 ≡ bit_xor (sum % 2 ^ 8) (taps ns (λ n. get_or w (k + n) 0))
sum_at-mod [] w k sum = sym (xor_zero_r (sum % 2 ^ 8))
sum_at-mod (n ∷ ns) w k sum =
    let byte = get_or w (k + n) 0 in
    let others = taps ns (λ n. get_or w (k + n) 0) in
    sum_at-mod ns w k (bit_xor sum byte) ∙ ap (λ x. bit_xor x others) (xor_mod sum byte 8) ∙ xor_assoc (sum % 2 ^ 8) (byte % 2 ^ 8) others

same_taps : (ns : List ℕ) (last : ℕ) (f g : ℕ → ℕ) → AllByRecursion (λ n. n ≤ last) ns → ((n : ℕ) → n ≤ last → f n ≡ g n) → taps ns f ≡ taps ns g
same_taps [] last f g h e = refl
same_taps (n ∷ ns) last f g h e =
    ap (λ x. bit_xor (x % 2 ^ 8) (taps ns f)) (e n h.0) ∙ ap (bit_xor (g n % 2 ^ 8)) (same_taps ns last f g h.1 e)

xor_six : (a b c d e f : ℕ) → bit_xor (bit_xor (bit_xor a b) c) (bit_xor (bit_xor d e) f) ≡ bit_xor (bit_xor (bit_xor a d) (bit_xor b e)) (bit_xor c f)
xor_six a b c d e f = xor_four (bit_xor a b) c (bit_xor d e) f ∙ ap (λ x. bit_xor x (bit_xor c f)) (xor_four a b d e)

sum_of_starts_on : (ns : List ℕ) (b : ℕ) (t : List ℕ) → AllByRecursion (λ n. n ≤ length t) ns
    → sum_of_starts ns t ≡ bit_steps 8 (bit_xor (bit_xor (sum_of_starts ns (b ∷ t)) (taps ns (λ n. get_or (b ∷ t) n 0))) (powers ns (b % 2 ^ 8)))
sum_of_starts_on [] b t h = sym (ap (bit_steps 8) (ap (λ x. bit_xor x 0) (xor_zero_r 0) ∙ xor_zero_r 0) ∙ nothing_after 8)
sum_of_starts_on (n ∷ ns) b t h =
    let w = b ∷ t in
    let c = b % 2 ^ 8 in
    let front = fold step 0 (take n w) in
    let byte = get_or w n 0 % 2 ^ 8 in
    ap (λ x. bit_xor x (sum_of_starts ns t)) (start_on b n t h.0) ∙ ap (bit_xor (bit_steps 8 (bit_xor (bit_xor front byte) (bit_steps (n * 8) c)))) (sum_of_starts_on ns b t h.1)
    ∙ sym (bit_steps-xor 8 (bit_xor (bit_xor front byte) (bit_steps (n * 8) c)) (bit_xor (bit_xor (sum_of_starts ns w) (taps ns (λ i. get_or w i 0))) (powers ns c)))
    ∙ ap (bit_steps 8) (xor_six front byte (bit_steps (n * 8) c) (sum_of_starts ns w) (taps ns (λ i. get_or w i 0)) (powers ns c))

sum_of_starts-append : (ns t more : List ℕ) → AllByRecursion (λ n. n ≤ length t) ns → sum_of_starts ns (t ++ more) ≡ sum_of_starts ns t
sum_of_starts-append [] t more h = refl
sum_of_starts-append (n ∷ ns) t more h =
    ap (λ x. bit_xor (fold step 0 x) (sum_of_starts ns (t ++ more))) (take-append-le n t more h.0) ∙ ap (bit_xor (fold step 0 (take n t))) (sum_of_starts-append ns t more h.1)

-- what is there twice goes away
cancel : (f b p x t s : ℕ) → bit_xor (bit_xor (bit_xor f (bit_xor b p)) (bit_xor x (bit_xor b t))) (bit_xor (bit_xor s t) p) ≡ bit_xor (bit_xor f s) x
cancel f b p x t s =
    let both = bit_xor p t in
    let middle : bit_xor (bit_xor b p) (bit_xor b t) ≡ both = xor_four b p b t ∙ ap (λ y. bit_xor y both) (xor_self b) ∙ xor_zero_l both in
    let left : bit_xor (bit_xor f (bit_xor b p)) (bit_xor x (bit_xor b t)) ≡ bit_xor (bit_xor f x) both =
    xor_four f (bit_xor b p) x (bit_xor b t) ∙ ap (bit_xor (bit_xor f x)) middle in
    let right : bit_xor (bit_xor s t) p ≡ bit_xor s both = xor_assoc s t p ∙ ap (bit_xor s) (xor_comm t p) in
    ap (λ y. bit_xor y (bit_xor (bit_xor s t) p)) left ∙ ap (bit_xor (bit_xor (bit_xor f x) both)) right
    ∙ xor_four (bit_xor f x) both s both ∙ ap (bit_xor (bit_xor (bit_xor f x) s)) (xor_self both) ∙ xor_zero_r (bit_xor (bit_xor f x) s)
    ∙ xor_assoc f x s ∙ ap (bit_xor f) (xor_comm x s) ∙ sym (xor_assoc f s x)

inside_of : (last : ℕ) → 991 ≤ last → AllByRecursion (λ n. n ≤ last) places
inside_of last h =
    (omega (arith, h), (omega (arith, h), (omega (arith, h), (omega (arith, h), (omega (arith, h), (omega (arith, h), (omega (arith, h), (omega (arith, h), tt))))))))

inside : (last : ℕ) → last ≡ 1144 → AllByRecursion (λ n. n ≤ last) places
inside last h = inside_of last (omega (arith, h))

-- a window with one byte more at its end, and without its first one
state_on : (b x y : ℕ) (t : List ℕ) → length t ≡ 1144 → y % 2 ^ 8 ≡ bit_xor (x % 2 ^ 8) (bit_xor (b % 2 ^ 8) (taps places (λ n. get_or (b ∷ t) n 0)))
    → state_of (t ++ y ∷ []) ≡ step (state_of (b ∷ t)) x
unfolding state_of step
state_on b x y t e h =
    let w = b ∷ t in
    let front = b % 2 ^ 8 in
    let tapped = taps places (λ n. get_or w n 0) in
    let power = powers places front in
    let whole = fold step 0 w in
    let short : fold step 0 t ≡ bit_xor whole (bit_xor front power) = without_first b 1144 t e ∙ ap (bit_xor whole) (divides_byte b) in
    let longer : fold step 0 (t ++ y ∷ []) ≡ bit_steps 8 (bit_xor (bit_xor whole (bit_xor front power)) (bit_xor (x % 2 ^ 8) (bit_xor front tapped))) =
    fold-append step 0 t (y ∷ []) ∙ ap (λ z. bit_steps 8 (bit_xor z (y % 2 ^ 8))) short ∙ ap (λ z. bit_steps 8 (bit_xor (bit_xor whole (bit_xor front power)) z)) h in
    let others : sum_of_starts places (t ++ y ∷ []) ≡ bit_steps 8 (bit_xor (bit_xor (sum_of_starts places w) tapped) power) =
    sum_of_starts-append places t (y ∷ []) (inside (length t) e) ∙ sum_of_starts_on places b t (inside (length t) e) in
    ap (λ z. bit_xor z (sum_of_starts places (t ++ y ∷ []))) longer
    ∙ ap (bit_xor (bit_steps 8 (bit_xor (bit_xor whole (bit_xor front power)) (bit_xor (x % 2 ^ 8) (bit_xor front tapped))))) others
    ∙ sym (bit_steps-xor 8 (bit_xor (bit_xor whole (bit_xor front power)) (bit_xor (x % 2 ^ 8) (bit_xor front tapped))) (bit_xor (bit_xor (sum_of_starts places w) tapped) power))
    ∙ ap (bit_steps 8) (cancel whole front power (x % 2 ^ 8) tapped (sum_of_starts places w))

-- what is at a place of a window is what is there behind its start
seen : (w : List ℕ) (k : ℕ) → k + 1144 < length w
    → taps places (λ n. get_or w (k + n) 0) ≡ taps places (λ n. get_or (get_or w k 0 ∷ take 1144 (drop (suc k) w)) n 0)
seen w k h =
    let before : take 1145 (drop k w) ≡ get_or w k 0 ∷ take 1144 (drop (suc k) w) = ap (take 1145) (drop-cons w k 0 (omega (arith, h))) in
    same_taps places 1144 (λ n. get_or w (k + n) 0) (λ n. get_or (get_or w k 0 ∷ take 1144 (drop (suc k) w)) n 0) (inside 1144 refl) (λ n p.
    sym (ap (λ l. get_or l n 0) (sym before) ∙ get_or-take 1145 (drop k w) n 0 (omega (arith, p)) ∙ get_or-drop k w n 0))

-- the sum of a byte, the byte in front and those at the places
sum_at_window : (w : List ℕ) (k x : ℕ) → k + 1144 < length w
    → sum_at places w k (bit_xor x (get_or w k 0)) % 2 ^ 8
    ≡ bit_xor (x % 2 ^ 8) (bit_xor (get_or w k 0 % 2 ^ 8) (taps places (λ n. get_or (get_or w k 0 ∷ take 1144 (drop (suc k) w)) n 0)))
sum_at_window w k x h =
    let b = get_or w k 0 in
    let tapped = taps places (λ n. get_or w (k + n) 0) in
    sum_at-mod places w k (bit_xor x b) ∙ ap (λ z. bit_xor z tapped) (xor_mod x b 8) ∙ xor_assoc (x % 2 ^ 8) (b % 2 ^ 8) tapped
    ∙ ap (λ z. bit_xor (x % 2 ^ 8) (bit_xor (b % 2 ^ 8) z)) (seen w k h)

-- the window one place on
slid : (w v : List ℕ) (k x y : ℕ) → k + 1145 < length w → take 1145 (drop (k + 1) v) ≡ take 1144 (drop (suc k) w) ++ y ∷ []
    → y % 2 ^ 8 ≡ sum_at places w k (bit_xor x (get_or w k 0)) % 2 ^ 8 → state_of (take 1145 (drop (k + 1) v)) ≡ step (state_of (take 1145 (drop k w))) x
slid w v k x y h after e =
    let rest = drop (suc k) w in
    let room : 1144 < length rest = omega (arith, h, length-drop (suc k) w) in
    let count : length (take 1144 rest) ≡ 1144 = length-take-le 1144 rest (omega (arith, room)) in
    let before : take 1145 (drop k w) ≡ get_or w k 0 ∷ take 1144 rest = ap (take 1145) (drop-cons w k 0 (omega (arith, h))) in
    ap state_of after ∙ state_on (get_or w k 0) x y (take 1144 rest) count (e ∙ sum_at_window w k x (omega (arith, h))) ∙ ap (λ z. step (state_of z) x) (sym before)

-- the same where a byte was written behind it
pub put_on : (w : List ℕ) (k x v : ℕ) → k + 1145 < length w → v ≡ sum_at places w k (bit_xor x (get_or w k 0))
    → state_of (take 1145 (drop (k + 1) (set w (k + 1145) v))) ≡ step (state_of (take 1145 (drop k w))) x
put_on w k x v h e =
    let rest = drop (suc k) w in
    let room : 1144 < length rest = omega (arith, h, length-drop (suc k) w) in
    let place : k + 1145 ≡ suc k + 1144 = omega arith in
    let next : k + 1 ≡ suc k = omega arith in
    slid w (set w (k + 1145) v) k x v h
    (ap (λ i. take 1145 (drop i (set w (k + 1145) v))) next ∙ ap (λ i. take 1145 (drop (suc k) (set w i v))) place
    ∙ ap (take 1145) (drop-set-add (suc k) w 1144 v) ∙ take-suc-set rest 1144 v room)
    (ap (λ z. z % 2 ^ 8) e)

-- one byte more from a window that zeros stand behind
pub close_on : (w : List ℕ) (k x v r : ℕ) → k + 1145 < length w → get_or w (k + 1145) 0 ≡ 0 → v ≡ sum_at places w k (bit_xor x (get_or w k 0))
    → step (bit_xor (state_of (take 1145 (drop k w))) r) x ≡ bit_xor (state_of (take 1145 (drop (k + 1) w))) (step r v)
unfolding step
close_on w k x v r h none e =
    let rest = drop (suc k) w in
    let s = state_of (take 1145 (drop k w)) in
    let b = get_or w k 0 in
    let room : 1144 < length rest = omega (arith, h, length-drop (suc k) w) in
    let next : k + 1 ≡ suc k = omega arith in
    let place : suc k + 1144 ≡ k + 1145 = omega arith in
    let taken : take 1145 (drop (k + 1) w) ≡ take 1144 rest ++ 0 ∷ [] =
    ap (λ i. take 1145 (drop i w)) next ∙ take-suc rest 1144 0 room
    ∙ ap (λ (y : ℕ). take 1144 rest ++ y ∷ []) (get_or-drop (suc k) w 1144 0 ∙ ap (λ i. get_or w i 0) place ∙ none) in
    let all : ℕ = bit_xor (b % 2 ^ 8) (taps places (λ n. get_or (b ∷ take 1144 rest) n 0)) in
    -- what is put on a window so that a zero is behind it
    let p = sum_at places w k b in
    let at_p : p % 2 ^ 8 ≡ all = ap (λ z. sum_at places w k z % 2 ^ 8) (sym (xor_zero_l b)) ∙ sum_at_window w k 0 (omega (arith, h)) ∙ xor_zero_l all in
    let at_v : v % 2 ^ 8 ≡ bit_xor (x % 2 ^ 8) (p % 2 ^ 8) = ap (λ z. z % 2 ^ 8) e ∙ sum_at_window w k x (omega (arith, h)) ∙ ap (bit_xor (x % 2 ^ 8)) (sym at_p) in
    let zero_there : 0 % 2 ^ 8 ≡ sum_at places w k (bit_xor p b) % 2 ^ 8 =
    sym (sum_at_window w k p (omega (arith, h)) ∙ ap (λ z. bit_xor z all) at_p ∙ xor_self all) in
    let slide : state_of (take 1145 (drop (k + 1) w)) ≡ bit_steps 8 (bit_xor s (p % 2 ^ 8)) = slid w w k p 0 h taken zero_there in
    let parts : bit_xor (bit_xor s r) (x % 2 ^ 8) ≡ bit_xor (bit_xor s (p % 2 ^ 8)) (bit_xor r (v % 2 ^ 8)) =
    sym (ap (λ z. bit_xor (bit_xor s (p % 2 ^ 8)) (bit_xor r z)) (at_v ∙ xor_comm (x % 2 ^ 8) (p % 2 ^ 8))
    ∙ xor_four s (p % 2 ^ 8) r (bit_xor (p % 2 ^ 8) (x % 2 ^ 8)) ∙ ap (bit_xor (bit_xor s r)) (sym (xor_assoc (p % 2 ^ 8) (p % 2 ^ 8) (x % 2 ^ 8))
    ∙ ap (λ z. bit_xor z (x % 2 ^ 8)) (xor_self (p % 2 ^ 8)) ∙ xor_zero_l (x % 2 ^ 8))) in
    ap (bit_steps 8) parts ∙ bit_steps-xor 8 (bit_xor s (p % 2 ^ 8)) (bit_xor r (v % 2 ^ 8)) ∙ ap (λ z. bit_xor z (bit_steps 8 (bit_xor r (v % 2 ^ 8)))) (sym slide)

-- zeros lead from nothing to nothing
zeros_after : (n : ℕ) → fold step 0 (replicate n 0) ≡ 0
unfolding step
zeros_after zero = refl
zeros_after (suc n) = ap (λ s. fold step s (replicate n 0)) (nothing_after 8) ∙ zeros_after n

starts_of_zeros : (ns : List ℕ) (last : ℕ) → AllByRecursion (λ n. n ≤ last) ns → sum_of_starts ns (replicate last 0) ≡ 0
starts_of_zeros [] last h = refl
starts_of_zeros (n ∷ ns) last h =
    ap (λ z. bit_xor (fold step 0 z) (sum_of_starts ns (replicate last 0))) (take-replicate n last 0 h.0)
    ∙ ap (λ z. bit_xor z (sum_of_starts ns (replicate last 0))) (zeros_after n) ∙ ap (bit_xor 0) (starts_of_zeros ns last h.1) ∙ xor_zero_r 0

pub state_of_zeros : state_of (replicate 1145 0) ≡ 0
unfolding state_of
state_of_zeros =
    ap (λ z. bit_xor z (sum_of_starts places (replicate 1145 0))) (zeros_after 1145) ∙ ap (bit_xor 0) (starts_of_zeros places 1145 (inside_of 1145 (omega arith))) ∙ xor_zero_r 0

ones_after : fold step 0 ONES ≡ all_ones
unfolding step bit_steps bit_step
ones_after = refl

pub state_of_start : state_of (replicate 1137 0 ++ ONES) ≡ all_ones
unfolding state_of
state_of_start =
    let zeros : List ℕ = replicate 1137 0 in
    let front : fold step 0 (zeros ++ ONES) ≡ all_ones = fold-append step 0 zeros ONES ∙ ap (λ s. fold step s ONES) (zeros_after 1137) ∙ ones_after in
    let count : length zeros ≡ 1137 = length-replicate {A = ℕ} 1137 0 in
    let none : sum_of_starts places (zeros ++ ONES) ≡ 0 = sum_of_starts-append places zeros ONES (inside_of (length zeros) (omega (arith, count))) ∙ starts_of_zeros places 1137 (inside_of 1137 (omega arith)) in
    ap (λ z. bit_xor z (sum_of_starts places (zeros ++ ONES))) front ∙ ap (bit_xor all_ones) none ∙ xor_zero_r all_ones

-- a window that is moved to the front
pub moved : (w after : List ℕ) (n : ℕ) → n + 1145 ≤ length w → after ≡ copy_within w n (n + 1145) 0 → take 1145 after ≡ take 1145 (drop n w)
moved w after n h e =
    let count : n + 1145 - n ≡ 1145 = omega arith in
    ap (take 1145) (e ∙ ap (paste w 0 (drop n w)) count) ∙ take-paste w 0 (drop n w) 1145 (omega arith) (omega (arith, h, length-drop n w))

cleared : (w after : List ℕ) → length w ≡ 5241 → after ≡ replicate 1145 0 → put_mid 1145 1145 w after ≡ take 1145 w ++ (replicate 1145 0 ++ drop 2290 w)
cleared w after h e =
    put_mid-paste 1145 1145 w after (replicate 1145 0) 1145 e refl (sym (length-replicate {A = ℕ} 1145 0))
    ∙ paste_all w 1145 (replicate 1145 0) 1145 (sym (length-replicate {A = ℕ} 1145 0))

-- a window that zeros are put behind
pub window_stays : (w after : List ℕ) → length w ≡ 5241 → after ≡ replicate 1145 0 → take 1145 (put_mid 1145 1145 w after) ≡ take 1145 w
window_stays w after h e =
    let count : length (take 1145 w) ≡ 1145 = length-take-le 1145 w (omega (arith, h)) in
    ap (take 1145) (cleared w after h e) ∙ take-append-le 1145 (take 1145 w) (replicate 1145 0 ++ drop 2290 w) (omega (arith, count))
    ∙ take_all 1145 (take 1145 w) (omega (arith, count))

pub zeros_behind : (w after : List ℕ) → length w ≡ 5241 → after ≡ replicate 1145 0 → take 1145 (drop 1145 (put_mid 1145 1145 w after)) ≡ replicate 1145 0
zeros_behind w after h e =
    let count : length (take 1145 w) ≡ 1145 = length-take-le 1145 w (omega (arith, h)) in
    let back = replicate 1145 0 ++ drop 2290 w in
    ap (λ z. take 1145 (drop 1145 z)) (cleared w after h e) ∙ ap (λ i. take 1145 (drop i (take 1145 w ++ back))) (sym count)
    ∙ ap (take 1145) (drop-append_seam (take 1145 w) back)
    ∙ take-append-le 1145 (replicate 1145 0) (drop 2290 w) (omega (arith, length-replicate {A = ℕ} 1145 0)) ∙ take_all 1145 (replicate 1145 0) (omega (arith, length-replicate {A = ℕ} 1145 0))
