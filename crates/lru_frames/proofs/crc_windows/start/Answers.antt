use Rattle.std.proofs.Common.{ℕ, ◌++◌, take, replicate, refl, ap, ◌∙◌, arith}
use borrow.Rule.Slice.PartMut.{put_mid}
use Rattle.std.proofs.lemmas.List.{take-replicate, length-replicate}
use Rattle.std.proofs.lemmas.List.Edits.{take-paste}
use Rattle.std.proofs.lemmas.Slice.{put_mid-paste}
use Rattle.lru_frames.specs.CrcWindows.{state_of}
use Rattle.lru_frames.specs.declared.crc_windows.TheConstants.{ONES}
use Rattle.lru_frames.proofs.WindowLaws.{state_of_start}
use Rattle.lru_frames.proofs.crc_windows.start.Goals as goal

pub returns : goal.returns
returns c =
    ap (λ w. state_of (take 1145 (put_mid 1137 8 w c.copy_from_slice.new.self))) c.requires
    ∙ ap (λ w. state_of (take 1145 w)) (put_mid-paste 1137 8 (replicate 5241 0) c.copy_from_slice.new.self ONES 8 c.copy_from_slice.ensures.after refl refl)
    ∙ ap state_of (take-paste (replicate 5241 0) 1137 ONES 8 (omega (arith, length-replicate {A = ℕ} 5241 0)) (omega arith)
    ∙ ap (λ z. z ++ ONES) (take-replicate 1137 5241 0 (omega arith)))
    ∙ state_of_start
