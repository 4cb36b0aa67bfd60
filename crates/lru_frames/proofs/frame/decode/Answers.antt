use Rattle.std.proofs.Common.{rules, sym, ◌∙◌}
use Rattle.lru_frames.specs.Frame.{content_of}
use Rattle.lru_frames.proofs.EnvelopeLaws.{one_content, changed_apart, cut_refused, longer_refused}
use Rattle.lru_frames.proofs.FrameLaws.{read_again, told_length, no_error}
use Rattle.lru_frames.proofs.frame.decode.Goals as goal

pub returns-in-Err-clause-cut : goal.returns-in-Err-clause-cut
returns-in-Err-clause-cut g c = λ header rows rest small some h.
    told_length c.in-Err.part (cut_refused _ c.args.bytes.now (content_of g.K.Stored.bytes_of g.V.Stored.bytes_of header rows) rest c.in-Err.ensures.short c.in-Err.ensures.told small some h)

pub returns-in-Err-clause-longer : goal.returns-in-Err-clause-longer
returns-in-Err-clause-longer g c = λ header rows rest some h.
    told_length c.in-Err.part (longer_refused _ c.args.bytes.now (content_of g.K.Stored.bytes_of g.V.Stored.bytes_of header rows) rest c.in-Err.ensures.told (search rules) some h)

pub returns-in-Ok-clause-written : goal.returns-in-Ok-clause-written
returns-in-Ok-clause-written g c = λ header rows fits h.
    let K = g.K.Stored in
    let V = g.V.Stored in
    read_again K.bytes_of K.is_value K.is_same V.bytes_of V.is_value V.is_same g.met.K.Stored.tells_its_end g.met.V.Stored.tells_its_end
    c.frame_in.result c.in-Ok.content.now header rows fits c.frame_in.ensures.fits c.frame_in.ensures.content c.frame_in.ensures.refused
    (one_content c.in-Ok.content.now (content_of K.bytes_of V.bytes_of header rows) (sym c.in-Ok.ensures.content ∙ h))

pub returns-in-Ok-clause-changed : goal.returns-in-Ok-clause-changed
returns-in-Ok-clause-changed g c = λ header rows change.
    absurd (changed_apart (content_of g.K.Stored.bytes_of g.V.Stored.bytes_of header rows) c.in-Ok.content.now c.args.bytes.now change c.in-Ok.ensures.content)

pub returns-in-Ok-clause-cut : goal.returns-in-Ok-clause-cut
returns-in-Ok-clause-cut g c = λ header rows rest small some h.
    absurd (no_error c.in-Ok.content (cut_refused _ c.args.bytes.now (content_of g.K.Stored.bytes_of g.V.Stored.bytes_of header rows) rest c.in-Ok.ensures.short c.in-Ok.ensures.told small some h))

pub returns-in-Ok-clause-longer : goal.returns-in-Ok-clause-longer
returns-in-Ok-clause-longer g c = λ header rows rest some h.
    absurd (no_error c.in-Ok.content (longer_refused _ c.args.bytes.now (content_of g.K.Stored.bytes_of g.V.Stored.bytes_of header rows) rest c.in-Ok.ensures.told (search rules) some h))
