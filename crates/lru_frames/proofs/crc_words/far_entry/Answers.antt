use Rattle.std.proofs.Common.{[], ◌%◌, get_or, ap, ◌∙◌, arith}
use Rattle.std.proofs.lemmas.Nat.{and_mask}
use Rattle.lru_frames.specs.declared.crc_tables.TheConstants.{FAR}
use Rattle.lru_frames.proofs.TableLaws.{FAR_at}
use Rattle.lru_frames.proofs.crc_words.far_entry.Goals as goal

pub returns : goal.returns
returns c = ap (λ i. get_or (get_or FAR c.args.row []) i 0) (and_mask c.args.number 8) ∙ FAR_at c.args.row (c.args.number % 256) c.requires (omega arith)
