use Rattle.std.proofs.Common.{◌∙◌, sym}
use Rattle.std.proofs.lemmas.Result.{on_ok_weaker}
use Rattle.vs_host.proofs.Apart.{names_apart}
use Rattle.vs_ubind.proofs.storing.store.Goals as goal

pub store_as-requires : goal.store_as-requires
store_as-requires g c = rw (c.as_str.ensures, c.as_str-2.ensures) (names_apart c.args.names.now c.requires).1.1.1.0.1.1.1.0

pub returns-clause-mode : goal.returns-clause-mode
returns-clause-mode g c = rw (sym c.as_str-2.ensures, sym c.as_str-3.ensures)
    (on_ok_weaker c.store_as.result
    (λ mode told. mode told (λ same. (names_apart c.args.names.now c.requires).0.1.1.1.1.1.1.0 (sym c.as_str-3.ensures ∙ same ∙ c.as_str.ensures)))
    c.store_as.ensures.mode)
