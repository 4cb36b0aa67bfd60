use Rattle.std.proofs.Common.{String, Global, refl}
use Rattle.std.specs.Prelude.{Result, Ok, Err}
use Rattle.lru_async.specs.declared.async_lru.ShardData.{ShardData}
use Rattle.lru_async.proofs.Reports.{handed_one}
use Rattle.lru_async.proofs.saving.SaveReport.hand_on.Goals as goal

pub returns-in-Ok : goal.returns-in-Ok
returns-in-Ok g c =
    handed_one (λ (rows : ShardData g.row.K.Denot) (answer : Result (Unit {0}) (String Global)). (g.F.Fn).post c.args.write.now (rows, tt) answer) c.in-Some.rows (Ok c.in-Ok.field-0) c.args.rows _ _ c.in-Some.is c.in-Ok.ensures refl

pub returns-in-Err : goal.returns-in-Err
returns-in-Err g c =
    handed_one (λ (rows : ShardData g.row.K.Denot) (answer : Result (Unit {0}) (String Global)). (g.F.Fn).post c.args.write.now (rows, tt) answer) c.in-Some.rows (Err c.in-Err.refusal) c.args.rows _ _ c.in-Some.is c.in-Err.ensures refl
