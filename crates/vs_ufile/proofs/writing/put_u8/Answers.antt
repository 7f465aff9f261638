use Rattle.std.proofs.Common.{◌∷◌, [], refl}
use Rattle.vs_ufile.proofs.Writes.{byte_is}
use Rattle.vs_ufile.proofs.writing.put_u8.Goals as goal

pub returns : goal.returns
returns c = record { part = c.args.n ∷ []; whole = c.in_ok-extend_from_slice.ensures.items; is = λ following. record { wide = refl; value = byte_is c.args.n } }
