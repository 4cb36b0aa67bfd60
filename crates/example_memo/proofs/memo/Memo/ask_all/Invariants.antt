use Rattle.std.proofs.Common.{◌≡◌, map, ◌++◌, drop}
use Rattle.example_memo.proofs.memo.Memo.ask_all.Given as goal

-- the answers so far and those to what is left are those to all
abbrev pub invariant-loop-key : goal.invariant-loop-key
invariant-loop-key g l =
    record {
      told : l.answers.items ++ map g.W.Work.outcome (drop l.key-index l.keys) ≡ map g.W.Work.outcome l.keys;
      most : l.self.most ≡ l.fn.self.most;
    }
