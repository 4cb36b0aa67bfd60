use Rattle.lru_order_checkpoints.proofs.ComesBack.{comes_back}
use Rattle.lru_order_checkpoints.proofs.laws.captured_rows_come_back.Goals as goal

pub returns : goal.returns
returns g c = λ core old new shards answer is_core tell count none copies puts.
    comes_back g.V.Clone.is_clone g.row.N core old new shards answer is_core tell count none copies puts
