use Rattle.vs_data.proofs.Zeros.{no_zero_found}
use Rattle.vs_data.proofs.bytes.has_no_zero.Goals as goal

pub returns : goal.returns
returns c = no_zero_found c.args.bytes.now c.memchr.result c.is_none.result c.memchr.ensures c.is_none.ensures
