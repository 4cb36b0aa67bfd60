use Rattle.std.proofs.Common.{[], ◌%◌, get_or, ap, ◌∙◌, arith}
use Rattle.std.proofs.lemmas.Nat.{and_mask}
use Rattle.lru_frames.specs.declared.crc_tables.TheConstants.{NEAR}
use Rattle.lru_frames.proofs.TableLaws.{NEAR_at}
use Rattle.lru_frames.proofs.crc_words.near_entry.Goals as goal

pub returns : goal.returns
returns c = ap (λ i. get_or (get_or NEAR c.args.row []) i 0) (and_mask c.args.number 8) ∙ NEAR_at c.args.row (c.args.number % 256) c.requires (omega arith)
