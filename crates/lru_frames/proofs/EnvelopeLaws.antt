-- Sealed bytes with bytes changed within 8 side by side, cut short or with bytes behind them are not sealed.
use Rattle.std.proofs.Common.{◌≡◌, ℕ, ◌+◌, ◌^◌, ◌<◌, ◌≤◌, List, [], ◌++◌, length, refl, sym, ap, subst, ◌∙◌, arith, inl, inr, append_assoc}
use Rattle.std.proofs.lemmas.Bool.{cases_lt}
use Rattle.std.proofs.Common.{drop, take, ◌≢◌, Result, Err}
use Rattle.std.proofs.lemmas.List.{take_at, drop_at, length-take, take-append-drop, append-nil, nil_from_length, length-append}
use Rattle.lru_frames.specs.Crc.{crc_of, residue}
use Rattle.lru_frames.proofs.CrcLaws.{one_window, with_check as checked_twice}
use Rattle.lru_frames.specs.declared.errors.Part.{Part}
use Rattle.lru_frames.specs.declared.errors.Part.TheVariants.{Length}
use Rattle.lru_frames.specs.Words.{word}
use Rattle.lru_frames.specs.WordLaws.{same_parts, length-word, one_word}
use Rattle.lru_frames.specs.Envelope.{head_of, magic, version, around, front_of, with_check, sealed, ChangesWithinEight}

-- bytes and their check have one check, whichever they are
check_of_checked : (front : List ℕ) → crc_of (with_check front) ≡ residue
unfolding word
check_of_checked front = checked_twice front

-- bytes and their check with other bytes in place of at most 8
pub unlike : (old new : List ℕ) → ChangesWithinEight (with_check old) (with_check new) → ⊥
unlike old new change =
    change.other (one_window change.front change.is change.was change.back change.lengths (omega (arith, change.lengths, change.within)) change.is_bytes change.was_bytes
    (ap crc_of (sym change.new_bytes) ∙ check_of_checked new ∙ sym (check_of_checked old) ∙ ap crc_of change.old_bytes))

-- the bytes behind a number, where it is not the one that was sought
pub other_word : (found number : ℕ) (bytes rest more : List ℕ) → found < 2 ^ 64 → number < 2 ^ 64 → (found ≡ number → ⊥) → bytes ≡ word found ++ rest → bytes ≡ word number ++ more → ⊥
other_word found number bytes rest more p q other h k = other (one_word found number rest more p q (sym h ∙ k)).0

-- a head before more, its numbers one by one
pub head_parts : (told : ℕ) (rest : List ℕ) → head_of told ++ rest ≡ word magic ++ (word version ++ (word told ++ rest))
head_parts told rest = append_assoc (word magic) (word version ++ word told) rest ∙ ap (λ (x : List ℕ). word magic ++ x) (append_assoc (word version) (word told) rest)

pub behind_magic : (told : ℕ) (bytes one rest : List ℕ) → bytes ≡ word magic ++ one → bytes ≡ head_of told ++ rest → one ≡ word version ++ (word told ++ rest)
behind_magic told bytes one rest h k = (same_parts (word magic) (word magic) one (word version ++ (word told ++ rest)) refl (sym h ∙ k ∙ head_parts told rest)).1

pub behind_version : (told : ℕ) (bytes one two rest : List ℕ) → bytes ≡ word magic ++ one → one ≡ word version ++ two → bytes ≡ head_of told ++ rest → two ≡ word told ++ rest
behind_version told bytes one two rest h k l = (same_parts (word version) (word version) two (word told ++ rest) refl (sym k ∙ behind_magic told bytes one rest h l)).1

pub length-head : (told : ℕ) → length (head_of told) ≡ 24
length-head told = omega (arith, length-append (word magic) (word version ++ word told), length-append (word version) (word told), length-word magic, length-word version, length-word told)

-- two heads with the same bytes
pub one_head : (m n : ℕ) (x y : List ℕ) → m < 2 ^ 64 → n < 2 ^ 64 → head_of m ++ x ≡ head_of n ++ y → m ≡ n
one_head m n x y p q h =
    let two = behind_version n (head_of m ++ x) (word version ++ (word m ++ x)) (word m ++ x) y (head_parts m x) refl h in
    (one_word m n x y p q two).0

pub sealed_parts : (content : List ℕ) → sealed content ≡ head_of (length content + around) ++ (content ++ word (crc_of (front_of content)))
unfolding sealed
sealed_parts content = append_assoc (head_of (length content + around)) content (word (crc_of (front_of content)))

pub length-sealed : (content : List ℕ) → length (sealed content) ≡ length content + 32
length-sealed content =
    let w = word (crc_of (front_of content)) in
    omega (arith, ap length (sealed_parts content), length-append (head_of (length content + around)) (content ++ w), length-append content w, length-word (crc_of (front_of content)), length-head (length content + around))

-- bytes with a right length and a right check are sealed
pub is_sealed : (bytes front rest : List ℕ) → length bytes < 2 ^ 64 → 32 ≤ length bytes → bytes ≡ head_of (length bytes) ++ rest → bytes ≡ with_check front → bytes ≡ sealed (drop 24 front)
unfolding sealed
is_sealed bytes front rest small long h k =
    let w = word (crc_of front) in
    let long_front : 24 ≤ length front = omega (arith, ap length k, length-append front w, length-word (crc_of front)) in
    let split : front ≡ take 24 front ++ drop 24 front = sym (take-append-drop 24 front) in
    let lengths : length (take 24 front) ≡ length (head_of (length bytes)) = omega (arith, length-take 24 front, length-head (length bytes)) in
    let same = same_parts (take 24 front) (head_of (length bytes)) (drop 24 front ++ w) rest lengths
    (sym (append_assoc (take 24 front) (drop 24 front) w) ∙ ap (λ (x : List ℕ). x ++ w) (sym split) ∙ sym k ∙ h) in
    let total : length bytes ≡ length (drop 24 front) + around =
    omega (arith, ap length k, length-append front w, length-word (crc_of front), ap length split, length-append (take 24 front) (drop 24 front), length-take 24 front) in
    let whole : front ≡ front_of (drop 24 front) = split ∙ ap (λ (x : List ℕ). x ++ drop 24 front) (same.0 ∙ ap head_of total) in
    k ∙ ap with_check whole

-- sealed bytes tell their length
pub told_of_sealed : (bytes rest content : List ℕ) (told : ℕ) → length bytes < 2 ^ 64 → told < 2 ^ 64 → bytes ≡ head_of told ++ rest → bytes ≡ sealed content → told ≡ length bytes
told_of_sealed bytes rest content told small p h k =
    let total : length bytes ≡ length content + 32 = ap length k ∙ length-sealed content in
    one_head told (length content + around) rest (content ++ word (crc_of (front_of content))) p (omega arith) (sym h ∙ k ∙ sealed_parts content) ∙ sym total

pub sealed_is_checked : (bytes content : List ℕ) → bytes ≡ sealed content → bytes ≡ with_check (front_of content)
unfolding sealed
sealed_is_checked bytes content h = h

-- what the head of sealed bytes tells, and what is behind it
pub sealed_head : (content : List ℕ) → (told : ℕ) × ((rest : List ℕ) × (sealed content ≡ head_of told ++ rest))
sealed_head content = (length content + around, (content ++ word (crc_of (front_of content)), sealed_parts content))

-- the bytes before 8 that are their check
pub is_checked : (bytes front end rest : List ℕ) (check : ℕ) → check ≡ crc_of front → length end ≡ 8 → bytes ≡ front ++ end → end ≡ word check ++ rest → bytes ≡ with_check front
is_checked bytes front end rest check c e h k =
    let none : rest ≡ [] = nil_from_length rest (omega (arith, e, ap length k, length-append (word check) rest, length-word check)) in
    h ∙ ap (λ (x : List ℕ). front ++ x) (k ∙ ap (λ (x : List ℕ). word check ++ x) none ∙ append-nil (word check) ∙ ap word c)

-- the bytes before 8 that are not
pub other_check : (bytes front end other : List ℕ) (check : ℕ) → check ≡ crc_of front → length end ≡ 8 → bytes ≡ front ++ end → ((rest : List ℕ) → end ≡ word check ++ rest → ⊥) → bytes ≡ with_check other → ⊥
other_check bytes front end other check c e h none k =
    let w = word (crc_of other) in
    let lengths : length front ≡ length other = omega (arith, ap length (sym h ∙ k), length-append front end, length-append other w, length-word (crc_of other)) in
    let parts = same_parts front other end w lengths (sym h ∙ k) in
    none [] (parts.1 ∙ ap (λ (x : List ℕ). word (crc_of x)) (sym parts.0) ∙ ap word (sym c) ∙ sym (append-nil (word check)))

-- a head that tells a length at last
pub head_told : (content : List ℕ) (told : ℕ) → take 16 (head_of 0 ++ content) ++ (word told ++ drop 24 (head_of 0 ++ content)) ≡ head_of told ++ content
head_told content told =
    let first = word magic ++ word version in
    let first_length : length first ≡ 16 = omega (arith, length-append (word magic) (word version), length-word magic, length-word version) in
    let apart : (n : ℕ) → head_of n ++ content ≡ first ++ (word n ++ content) = λ n. head_parts n content ∙ sym (append_assoc (word magic) (word version) (word n ++ content)) in
    let front : take 16 (head_of 0 ++ content) ≡ first = ap (take 16) (apart 0) ∙ take_at first (word 0 ++ content) 16 first_length in
    let back : drop 24 (head_of 0 ++ content) ≡ content = drop_at (head_of 0) content 24 (length-head 0) in
    ap (λ (x : List ℕ). x ++ (word told ++ drop 24 (head_of 0 ++ content))) front ∙ ap (λ (x : List ℕ). first ++ (word told ++ x)) back ∙ sym (apart told)

-- a front with its check
pub sealed_now : (bytes content : List ℕ) (check : ℕ) → bytes ≡ front_of content → check ≡ crc_of bytes → bytes ++ word check ≡ sealed content
unfolding sealed
sealed_now bytes content check h k = ap (λ (n : ℕ). bytes ++ word n) k ∙ ap with_check h

-- one content for the same bytes
pub one_content : (a b : List ℕ) → sealed a ≡ sealed b → a ≡ b
one_content a b h =
    let lengths : length a ≡ length b = omega (arith, ap length h, length-sealed a, length-sealed b) in
    let heads = same_parts (head_of (length a + around)) (head_of (length b + around)) _ _ (length-head (length a + around) ∙ sym (length-head (length b + around))) (sym (sealed_parts a) ∙ h ∙ sealed_parts b) in
    (same_parts a b _ _ lengths heads.1).0

-- no sealed bytes are others with bytes changed within 8 side by side
pub changed_apart : (old new : List ℕ) (bytes : List ℕ) → ChangesWithinEight (sealed old) bytes → bytes ≡ sealed new → ⊥
unfolding sealed
changed_apart old new bytes change h = unlike (front_of old) (front_of new) (subst (ChangesWithinEight (with_check (front_of old))) h change)

-- why bytes are refused that begin with a head which tells another length
abbrev pub RefusesOthers : {X : Type 0} → Result X Part → List ℕ → Type 0
RefusesOthers r bytes = (told : ℕ) (rest : List ℕ) → told < 2 ^ 64 → told ≢ length bytes → bytes ≡ head_of told ++ rest → 32 ≤ length bytes → r ≡ Err Length

pub cut_refused : {X : Type 0} (r : Result X Part) (bytes whole rest : List ℕ) → (length bytes < 32 → r ≡ Err Length) → RefusesOthers r bytes
    → length (sealed whole) < 2 ^ 64 → rest ≢ [] → sealed whole ≡ bytes ++ rest → r ≡ Err Length
cut_refused r bytes whole rest short others small some h =
    let total = length-sealed whole in
    let told = length whole + around in
    let more : length rest ≡ 0 → ⊥ = λ none. some (nil_from_length rest none) in
    let lengths : length bytes + length rest ≡ told = omega (arith, ap length h, length-append bytes rest, total) in
    elim (cases_lt (length bytes) 32) [
      | inl lt ↦ short lt
      | inr le ↦
          let split : bytes ≡ take 24 bytes ++ drop 24 bytes = sym (take-append-drop 24 bytes) in
          let front : length (take 24 bytes) ≡ length (head_of told) = omega (arith, length-take 24 bytes, length-head told) in
          let same = same_parts (take 24 bytes) (head_of told) (drop 24 bytes ++ rest) _ front
          (sym (append_assoc (take 24 bytes) (drop 24 bytes) rest) ∙ ap (λ (x : List ℕ). x ++ rest) (sym split) ∙ sym h ∙ sealed_parts whole) in
          others told (drop 24 bytes) (omega arith) (λ e. more (omega (arith, e, lengths))) (split ∙ ap (λ (x : List ℕ). x ++ drop 24 bytes) same.0) le
    ]

pub longer_refused : {X : Type 0} (r : Result X Part) (bytes whole rest : List ℕ) → RefusesOthers r bytes
    → length bytes < 2 ^ 64 → rest ≢ [] → bytes ≡ sealed whole ++ rest → r ≡ Err Length
longer_refused r bytes whole rest others small some h =
    let total = length-sealed whole in
    let told = length whole + around in
    let more : length rest ≡ 0 → ⊥ = λ none. some (nil_from_length rest none) in
    let lengths : length bytes ≡ told + length rest = omega (arith, ap length h, length-append (sealed whole) rest, total) in
    others told _ (omega arith) (λ e. more (omega (arith, e, lengths)))
    (h ∙ ap (λ (x : List ℕ). x ++ rest) (sealed_parts whole) ∙ append_assoc (head_of told) (whole ++ word (crc_of (front_of whole))) rest) (omega (arith, lengths))

-- sealed bytes begin no others
pub begins_none : (a b rest : List ℕ) → length (sealed b) < 2 ^ 64 → sealed a ++ rest ≡ sealed b → (rest ≡ []) × (a ≡ b)
begins_none a b rest small h =
    let w = word (crc_of (front_of a)) in
    let lengths : length a + 32 + length rest ≡ length b + 32 = omega (arith, ap length h, length-append (sealed a) rest, length-sealed a, length-sealed b) in
    let told = one_head (length a + around) (length b + around) ((a ++ w) ++ rest) _ (omega (arith, length-sealed b)) (omega (arith, length-sealed b))
    (sym (append_assoc (head_of (length a + around)) (a ++ w) rest) ∙ ap (λ (x : List ℕ). x ++ rest) (sym (sealed_parts a)) ∙ h ∙ sealed_parts b) in
    let none : rest ≡ [] = nil_from_length rest (omega (arith, told, lengths)) in
    (none, one_content a b (sym (append-nil (sealed a)) ∙ ap (λ (x : List ℕ). sealed a ++ x) (sym none) ∙ h))
