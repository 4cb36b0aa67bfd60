use Rattle.std.proofs.Common.{rules, ◌≡◌, ◌≤◌, [], length, take, sym, ap, ◌∙◌, arith}
use Rattle.std.specs.List.{fold}
use Rattle.std.proofs.lemmas.List.{nil_from_length}
use Rattle.std.proofs.lemmas.List.Sums.{fold-append}
use Rattle.lru_frames.specs.Crc.{all_ones, step}
use Rattle.lru_frames.specs.CrcWindows.{state_of}
use Rattle.lru_frames.proofs.WindowLaws.{moved, window_stays, zeros_behind}
use Rattle.lru_frames.proofs.crc_windows.state_by_window.Goals as goal

pub loop-rest-preserved : goal.loop-rest-preserved
loop-rest-preserved c =
    let chunk = c.split_at-in-loop-rest.result.0.now in
    let back = c.split_at-in-loop-rest.result.1.now in
    let window = c.put.new.window in
    let s = state_of (take 1145 c.loop-rest.window) in
    let few : length chunk ≤ 4096 = search rules in
    ap (λ w. fold step (state_of w) back) (moved window c.copy_within.new.self (length chunk) (omega (arith, few, c.put.array_long)) c.copy_within.ensures.after)
    ∙ ap (λ t. fold step t back) c.put.ensures ∙ sym (fold-append step s chunk back)
    ∙ ap (fold step s) (sym c.split_at-in-loop-rest.ensures.by_index.0) ∙ c.loop-rest.invariant

pub closed-requires-clause-zeros : goal.closed-requires-clause-zeros
closed-requires-clause-zeros c =
    zeros_behind c.loop-rest.window c.copy_from_slice.new.self c.loop-rest-test.array_long c.copy_from_slice.ensures.after

pub returns : goal.returns
returns c =
    let front = c.split_at.result.0.now in
    let last = c.split_at.result.1.now in
    let none : c.loop-rest.rest.now ≡ [] = nil_from_length c.loop-rest.rest.now (search rules) in
    let s = state_of (take 1145 c.loop-rest.window) in
    c.closed.ensures ∙ ap (λ w. fold step (state_of w) last) (window_stays c.loop-rest.window c.copy_from_slice.new.self c.loop-rest-test.array_long c.copy_from_slice.ensures.after)
    ∙ ap (λ t. fold step t last) (sym (ap (fold step s) none) ∙ c.loop-rest.invariant)
    ∙ sym (fold-append step all_ones front last) ∙ ap (fold step all_ones) (sym c.split_at.ensures.by_index.0)
