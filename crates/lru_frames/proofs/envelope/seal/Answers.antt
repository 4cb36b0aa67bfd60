use Rattle.std.proofs.Common.{rules, ℕ, List, ◌≡◌, ◌+◌, ◌++◌, take, drop, length, arith, ap, sym, ◌∙◌}
use Rattle.std.proofs.lemmas.List.{take_at, length-append}
use Rattle.std.proofs.lemmas.Result.{IfOk-equal}
use Rattle.lru_frames.specs.Words.{word}
use Rattle.lru_frames.specs.Envelope.{head_of, around, front_of, sealed}
use Rattle.lru_frames.proofs.EnvelopeLaws.{length-head, head_told, sealed_now}
use Rattle.lru_frames.proofs.envelope.seal.Goals as goal

pub returns : goal.returns
returns c = λ content h.
    let old : c.deref_mut.result.now ≡ head_of 0 ++ content = c.deref_mut.ensures.value ∙ h in
    let kept : length c.set_word.new.bytes ≡ c.args.out.now.len = search rules in
    let told : c.len.result + 8 ≡ length content + around = omega (arith, c.len.ensures, ap length h, length-append (head_of 0) content, length-head 0) in
    let now : c.deref.result.now ≡ front_of content =
    c.deref.ensures.value ∙ take_at c.set_word.new.bytes _ c.args.out.now.len kept
    ∙ c.set_word.ensures ∙ ap (λ (x : List ℕ). take 16 x ++ (word (c.len.result + 8) ++ drop 24 x)) old
    ∙ head_told content (c.len.result + 8) ∙ ap (λ (n : ℕ). head_of n ++ content) told in
    IfOk-equal c.put_word.result c.put_word.new.out.items _ (sealed content) c.put_word.ensures
    (ap (λ (x : List ℕ). x ++ word c.crc64-check.result) (sym c.deref.ensures.value) ∙ sealed_now c.deref.result.now content c.crc64-check.result now c.crc64-check.ensures)
