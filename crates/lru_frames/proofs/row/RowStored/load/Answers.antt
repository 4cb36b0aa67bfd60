use Rattle.std.proofs.Common.{rules, ◌++◌, sym, ◌∙◌}
use Rattle.lru_frames.specs.Words.{word}
use Rattle.lru_frames.specs.WordLaws.{no_word}
use Rattle.lru_frames.specs.RowLaws.{row_parts}
use Rattle.lru_frames.proofs.row.RowStored.load.Goals as goal

pub returns-in_err-data-clause-damaged : goal.returns-in_err-data-clause-damaged
returns-in_err-data-clause-damaged g c = λ is_err value rest is_value h.
    let keys = g.met.K.Stored.tells_its_end c.in_ok-key.key value.key c.in_ok-key.rest.now (g.V.Stored.bytes_of value.data ++ (word value.weight ++ rest)) c.in_ok-key.ensures.value is_value.0
    (sym c.in_ok-key.ensures.bytes ∙ h ∙ row_parts g.K.Stored.bytes_of g.V.Stored.bytes_of value rest) in
    c.in_err-data.ensures.damaged (search rules) value.data (word value.weight ++ rest) is_value.1 keys.1

pub returns-in-None-clause-damaged : goal.returns-in-None-clause-damaged
returns-in-None-clause-damaged g c = λ _ value rest is_value h.
    let keys = g.met.K.Stored.tells_its_end c.in_ok-key.key value.key c.in_ok-key.rest.now (g.V.Stored.bytes_of value.data ++ (word value.weight ++ rest)) c.in_ok-key.ensures.value is_value.0
    (sym c.in_ok-key.ensures.bytes ∙ h ∙ row_parts g.K.Stored.bytes_of g.V.Stored.bytes_of value rest) in
    let datas = g.met.V.Stored.tells_its_end c.in_ok-data.data value.data c.in_ok-data.rest.now (word value.weight ++ rest) c.in_ok-data.ensures.value is_value.1
    (sym c.in_ok-data.ensures.bytes ∙ keys.1) in
    no_word c.in_ok-data.rest.now rest value.weight c.in-None.ensures datas.1
