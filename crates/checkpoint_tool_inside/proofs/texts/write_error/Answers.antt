use Rattle.std.proofs.Common.{codes, sym, ap, ◌∙◌, append_assoc}
use Rattle.lru_generations.specs.Texts.{file_text, error_text}
use Rattle.checkpoint_tool_inside.proofs.Told.{told_as}
use Rattle.checkpoint_tool_inside.proofs.texts.write_error.Goals as goal

pub returns-in-Other-clause-text : goal.returns-in-Other-clause-text
returns-in-Other-clause-text g c =
    told_as _ _ _ _ _ (append_assoc (file_text c.in-Other.file) (codes ": ") (codes "of another checkpoint") ∙ ap error_text (sym c.in-Other.is)) c.write_of_file-in-Other.ensures.text

pub returns-in-LastGeneration-clause-text : goal.returns-in-LastGeneration-clause-text
returns-in-LastGeneration-clause-text g c = told_as _ _ _ _ _ (ap error_text (sym c.in-LastGeneration.is)) c.write_pieces-in-LastGeneration.ensures.text
