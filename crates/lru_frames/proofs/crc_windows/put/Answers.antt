use Rattle.std.proofs.Common.{rules, ◌≡◌, ◌+◌, ◌<◌, ◌∷◌, [], length, take, drop, get_or, sym, ap, ◌∙◌, arith}
use Rattle.std.specs.List.{fold}
use Rattle.std.proofs.lemmas.List.{take_all, take_more}
use Rattle.std.proofs.lemmas.List.Sums.{fold-append}
use Rattle.lru_frames.specs.Crc.{step}
use Rattle.lru_frames.specs.CrcWindows.{state_of}
use Rattle.lru_frames.proofs.WindowLaws.{put_on}
use Rattle.lru_frames.proofs.crc_windows.put.Goals as goal

pub loop-k-preserved : goal.loop-k-preserved
loop-k-preserved c =
    let room : c.loop-k.k + 1145 < length c.loop-k.window = search rules in
    let start = state_of (take 1145 c.args.window.now) in
    let chunk = c.args.chunk.now in
    let k = c.loop-k.k in
    put_on c.loop-k.window k (get_or chunk k 0) c.tapped.result room c.tapped.ensures
    ∙ ap (λ s. step s (get_or chunk k 0)) c.loop-k.invariant
    ∙ sym (ap (fold step start) (take_more chunk k 0 c.loop-k-test.true) ∙ fold-append step start (take k chunk) (get_or chunk k 0 ∷ []))

pub returns : goal.returns
returns c =
    let chunk = c.args.chunk.now in
    let all : length chunk ≡ c.loop-k.k = search rules in
    let start = state_of (take 1145 c.args.window.now) in
    ap (λ i. state_of (take 1145 (drop i c.loop-k.window))) all ∙ c.loop-k.invariant
    ∙ ap (λ i. fold step start (take i chunk)) (sym all) ∙ ap (fold step start) (take_all (length chunk) chunk (omega arith))
