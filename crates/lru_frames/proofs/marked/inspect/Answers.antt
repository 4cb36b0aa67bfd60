use Rattle.std.proofs.Common.{ℕ, ◌++◌, rules, sym, ap, ◌∙◌, arith}
use Rattle.lru_frames.specs.declared.errors.Part.TheVariants.{Length}
use Rattle.lru_frames.specs.declared.frame.Header.{Header}
use Rattle.lru_frames.specs.Frame.{header_bytes}
use Rattle.lru_frames.specs.Marks.{mark_in}
use Rattle.lru_frames.proofs.EnvelopeLaws.{one_content, changed_apart, cut_refused, longer_refused}
use Rattle.lru_frames.proofs.FrameLaws.{no_error, same_error, AreNarrow, no_header, one_header, header_narrow}
use Rattle.lru_frames.proofs.marked.inspect.Goals as goal

pub returns-in_default-clause-wrong : goal.returns-in_default-clause-wrong
returns-in_default-clause-wrong c = (
  c.in-Ok.content.now,
  (c.in-Ok.ensures.content, λ header count rest _ _ h. no_header c.in-Ok.content.now rest header count c.in_default.ensures h),
)

pub returns-then-header-clause-wrong : goal.returns-then-header-clause-wrong
returns-then-header-clause-wrong c = (
  c.in-Ok.content.now,
  (
    c.in-Ok.ensures.content,
    λ header count rest is_header small h.
        let narrow : AreNarrow c.in-Some.header c.in-Some.count = record { shards = search rules; shard = search rules; generation = search rules; rows = search rules } in
        let parts = one_header c.in-Some.header header c.in-Some.count count c.in-Some.field-0-2.now rest narrow (header_narrow header count is_header small) (sym c.in-Some.ensures ∙ h) in
        omega (arith, c.if-header.true, ap (λ (x : Header). x.shards) parts.0, ap (λ (x : Header). x.shard) parts.0, is_header.shard),
  ),
)

pub returns-in-Err-clause-written : goal.returns-in-Err-clause-written
returns-in-Err-clause-written c = λ header count rest _ _ h. absurd (c.in-Err.ensures.content (header_bytes header count ++ rest) h)

pub returns-in_default-clause-written : goal.returns-in_default-clause-written
returns-in_default-clause-written c = λ header count rest _ _ h.
    absurd (no_header c.in-Ok.content.now rest header count c.in_default.ensures (one_content c.in-Ok.content.now (header_bytes header count ++ rest) (sym c.in-Ok.ensures.content ∙ h)))

pub returns-then-header-clause-written : goal.returns-then-header-clause-written
returns-then-header-clause-written c = λ header count rest is_header small h.
    let narrow : AreNarrow c.in-Some.header c.in-Some.count = record { shards = search rules; shard = search rules; generation = search rules; rows = search rules } in
    let same = one_content c.in-Ok.content.now (header_bytes header count ++ rest) (sym c.in-Ok.ensures.content ∙ h) in
    let parts = one_header c.in-Some.header header c.in-Some.count count c.in-Some.field-0-2.now rest narrow (header_narrow header count is_header small) (sym c.in-Some.ensures ∙ same) in
    absurd (omega (arith, c.if-header.true, ap (λ (x : Header). x.shards) parts.0, ap (λ (x : Header). x.shard) parts.0, is_header.shard))

pub returns-clause-written : goal.returns-clause-written
returns-clause-written c = λ header count rest is_header small h.
    let narrow : AreNarrow c.in-Some.header c.in-Some.count = record { shards = search rules; shard = search rules; generation = search rules; rows = search rules } in
    let same = one_content c.in-Ok.content.now (header_bytes header count ++ rest) (sym c.in-Ok.ensures.content ∙ h) in
    let parts = one_header c.in-Some.header header c.in-Some.count count c.in-Some.field-0-2.now rest narrow (header_narrow header count is_header small) (sym c.in-Some.ensures ∙ same) in (
      (parts.0, c.mark_at-mark.ensures (header_bytes header count ++ rest) h ∙ ap (λ (n : ℕ). mark_in n (header_bytes header count ++ rest)) parts.1),
      search rules,
    )

pub returns-in_default-clause-cut : goal.returns-in_default-clause-cut
returns-in_default-clause-cut c = λ content rest small some h.
    absurd (no_error _ (cut_refused _ c.args.bytes.now content rest c.in-Ok.ensures.short c.in-Ok.ensures.told small some h))

pub returns-in_default-clause-longer : goal.returns-in_default-clause-longer
returns-in_default-clause-longer c = λ content rest some h.
    absurd (no_error _ (longer_refused _ c.args.bytes.now content rest c.in-Ok.ensures.told (search rules) some h))

pub returns-then-header-clause-cut : goal.returns-then-header-clause-cut
returns-then-header-clause-cut c = λ content rest small some h.
    absurd (no_error _ (cut_refused _ c.args.bytes.now content rest c.in-Ok.ensures.short c.in-Ok.ensures.told small some h))

pub returns-then-header-clause-longer : goal.returns-then-header-clause-longer
returns-then-header-clause-longer c = λ content rest some h.
    absurd (no_error _ (longer_refused _ c.args.bytes.now content rest c.in-Ok.ensures.told (search rules) some h))

pub returns-in-Err-clause-cut : goal.returns-in-Err-clause-cut
returns-in-Err-clause-cut c = λ content rest small some h.
    same_error c.in-Err.part Length (cut_refused _ c.args.bytes.now content rest c.in-Err.ensures.short c.in-Err.ensures.told small some h)

pub returns-in-Err-clause-longer : goal.returns-in-Err-clause-longer
returns-in-Err-clause-longer c = λ content rest some h.
    same_error c.in-Err.part Length (longer_refused _ c.args.bytes.now content rest c.in-Err.ensures.told (search rules) some h)

pub returns-clause-changed : goal.returns-clause-changed
returns-clause-changed c = λ content change. absurd (changed_apart content c.in-Ok.content.now c.args.bytes.now change c.in-Ok.ensures.content)

pub returns-clause-cut : goal.returns-clause-cut
returns-clause-cut c = λ content rest small some h.
    absurd (no_error _ (cut_refused _ c.args.bytes.now content rest c.in-Ok.ensures.short c.in-Ok.ensures.told small some h))

pub returns-clause-longer : goal.returns-clause-longer
returns-clause-longer c = λ content rest some h.
    absurd (no_error _ (longer_refused _ c.args.bytes.now content rest c.in-Ok.ensures.told (search rules) some h))
