-- The mark of sealed bytes.
use Rattle.std.proofs.Common.{◌≡◌, ℕ, ◌+◌, ◌^◌, ◌<◌, List, [], ◌++◌, length, sym, ap, ◌∙◌, arith, length-append, append-nil}
use Rattle.lru_frames.specs.Crc.{crc_of}
use Rattle.lru_frames.specs.Words.{word}
use Rattle.lru_frames.specs.WordLaws.{same_parts, length-word, one_word}
use Rattle.lru_frames.specs.Envelope.{front_of, sealed}
use Rattle.lru_frames.specs.declared.mark.Mark.{Mark}
use Rattle.lru_frames.specs.Marks.{mark_in}
use Rattle.lru_frames.proofs.CrcLaws.{crc_below}
use Rattle.lru_frames.proofs.EnvelopeLaws.{sealed_is_checked, length-sealed}

-- the number at the end of sealed bytes is their check
pub check_at_end : (bytes content front back rest : List ℕ) (check : ℕ) → check < 2 ^ 64 → length back ≡ 8 → bytes ≡ front ++ back → back ≡ word check ++ rest → bytes ≡ sealed content
    → check ≡ crc_of (front_of content)
check_at_end bytes content front back rest check small eight h k sealed_so =
    let whole = sealed_is_checked bytes content sealed_so in
    let w = word (crc_of (front_of content)) in
    let lengths : length front ≡ length (front_of content) =
    omega (arith, ap length (sym h ∙ whole), length-append front back, length-append (front_of content) w, length-word (crc_of (front_of content)), eight) in
    let parts = same_parts front (front_of content) back w lengths (sym h ∙ whole) in
    (one_word check (crc_of (front_of content)) rest [] small (crc_below (front_of content)) (sym k ∙ parts.1 ∙ sym (append-nil w))).0

pub is_mark : (count : ℕ) (bytes content : List ℕ) (check : ℕ) → bytes ≡ sealed content → check ≡ crc_of (front_of content)
    → ◌≡◌ {A = Mark} (record { rows = count; length = length bytes; check = check }) (mark_in count content)
is_mark count bytes content check h k =
    let total = ap length h ∙ length-sealed content in
    ap (λ (n : ℕ). let m : Mark = record { rows = count; length = n; check = check } in m) total ∙ ap (λ (n : ℕ). let m : Mark = record { rows = count; length = length content + 32; check = n } in m) k
