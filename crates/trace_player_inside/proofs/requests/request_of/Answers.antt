use Rattle.std.proofs.Common.{◌∙◌, ap}
use Rattle.std.specs.Result.{result_ok}
use Rattle.trace_player_inside.proofs.Reading.{ok_read}
use Rattle.trace_player_inside.proofs.requests.request_of.Goals as goal

pub returns : goal.returns
returns c = c.ok.ensures.value ∙ ap result_ok c.read_request.ensures ∙ ok_read c.args.line.now
