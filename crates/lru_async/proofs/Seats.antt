-- As many lists of slips as seats.
use Rattle.std.proofs.Common.{◌≡◌, ℕ, List, length, map, ap, arith}
use Rattle.lru_mailbox.specs.declared.slip.Slip.{Slip}
use Rattle.lru_mailbox.specs.Slips.{lists_of}
use Rattle.std.specs.Prelude.{Vec}
use Rattle.std.specs.declared.alloc.Global.{Global}
use Rattle.lru_short_locks.specs.Hands.{up}
use Rattle.lru_short_locks.proofs.Hands.{as_many, map_length}

pub as_long : {S : Type 0} (number : S → ℕ) (slips : S → List Slip) (seats : List S) (lists : List (Vec Slip Global)) (n : ℕ) → map number seats ≡ up 0 n → lists_of lists ≡ map slips seats → length lists ≡ n
as_long number slips seats lists n e l =
    let a = as_many number seats n e in
    let b = map_length slips seats in
    let c : length (lists_of lists) ≡ length (map slips seats) = ap (λ (x : List (List Slip)). length x) l in
    let d : length (lists_of lists) ≡ length lists = map_length (λ (v : Vec Slip Global). v.items) lists in
    omega (arith, a, b, c, d)
