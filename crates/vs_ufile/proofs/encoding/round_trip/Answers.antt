use Rattle.std.proofs.Common.{◌∙◌}
use Rattle.vs_ufile.specs.Values.{history_of}
use Rattle.vs_ufile.proofs.Answered.{round}
use Rattle.vs_ufile.proofs.encoding.round_trip.Goals as goal

pub returns : goal.returns
returns c = round c.decode-again.result c.in-Ok.bytes.items c.args.more.now c.deref.result.now (history_of c.args.history.now)
    c.in-Ok.ensures.written (c.deref.ensures.value ∙ c.in-Ok-extend_from_slice.ensures.items) c.decode-again.ensures.only
