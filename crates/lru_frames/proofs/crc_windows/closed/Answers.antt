use Rattle.std.proofs.Common.{rules, ◌≡◌, ◌+◌, ◌<◌, ◌∷◌, [], length, take, drop, get_or, sym, ap, ◌∙◌, arith}
use Rattle.std.specs.Prelude.{bit_xor}
use Rattle.std.specs.Int.Bits.{xor_zero_l}
use Rattle.std.specs.List.{fold}
use Rattle.std.proofs.lemmas.List.{take_all, take_more, take_more_set, get_or-take, get_or-drop, get_or-replicate, length-set}
use Rattle.std.proofs.lemmas.List.Sums.{fold-append}
use Rattle.lru_frames.specs.Crc.{step}
use Rattle.lru_frames.specs.CrcWindows.{state_of}
use Rattle.lru_frames.proofs.WindowLaws.{close_on, state_of_zeros}
use Rattle.lru_frames.proofs.crc_windows.closed.Goals as goal

pub loop-k-preserved : goal.loop-k-preserved
loop-k-preserved c =
    let w = c.args.window.now in
    let last = c.args.last.now in
    let sums = c.loop-k.sums in
    let k = c.loop-k.k in
    let x = get_or last k 0 in
    let v = c.tapped.result in
    let s = state_of (take 1145 w) in
    let below : k < 1145 = search rules in
    let room : k + 1145 < length w = search rules in
    let inside : k < length sums = omega (arith, below, c.loop-k.invariant.0) in
    let place : 1145 + k ≡ k + 1145 = omega arith in
    let none : get_or w (k + 1145) 0 ≡ 0 =
    ap (λ i. get_or w i 0) (sym place) ∙ sym (get_or-take 1145 (drop 1145 w) k 0 below ∙ get_or-drop 1145 w k 0)
    ∙ ap (λ l. get_or l k 0) c.requires.zeros ∙ get_or-replicate 1145 k 0 0 below in (
      length-set sums k v ∙ c.loop-k.invariant.0,
      ap (fold step s) (take_more last k 0 c.loop-k-test.true) ∙ fold-append step s (take k last) (x ∷ [])
          ∙ ap (λ t. step t x) c.loop-k.invariant.1 ∙ close_on w k x v (fold step 0 (take k sums)) room none c.tapped.ensures
          ∙ ap (bit_xor (state_of (take 1145 (drop (k + 1) w)))) (sym (ap (fold step 0) (take_more_set sums k v inside) ∙ fold-append step 0 (take k sums) (v ∷ []))),
    )

pub returns : goal.returns
returns c =
    let w = c.args.window.now in
    let last = c.args.last.now in
    let sums = c.loop-k.sums in
    let s = state_of (take 1145 w) in
    let all : c.loop-k.k ≡ 1145 = search rules in
    let count : length last ≡ 1145 = c.requires.count in
    c.state_by_tables.ensures ∙ ap (fold step 0) (sym (take_all 1145 sums (omega (arith, c.loop-k.invariant.0)))) ∙ sym (xor_zero_l (fold step 0 (take 1145 sums)))
    ∙ ap (λ z. bit_xor z (fold step 0 (take 1145 sums))) (sym (ap state_of c.requires.zeros ∙ state_of_zeros))
    ∙ sym (ap (λ i. bit_xor (state_of (take 1145 (drop i w))) (fold step 0 (take i sums))) all) ∙ sym c.loop-k.invariant.1
    ∙ ap (λ i. fold step s (take i last)) all ∙ ap (fold step s) (take_all 1145 last (omega (arith, count)))
