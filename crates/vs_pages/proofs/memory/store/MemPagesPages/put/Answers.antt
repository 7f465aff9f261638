use Rattle.std.proofs.Common.{List, ℕ, Some, ap, sym, ◌∙◌, arith}
use Rattle.std.proofs.lemmas.List.{take_all}
use Rattle.vs_pages.specs.Maps.{no_pages, put}
use Rattle.vs_pages.specs.Memory.{present_of}
use Rattle.vs_pages.proofs.Pasts.{same_kept}
use Rattle.vs_pages.proofs.memory.store.MemPagesPages.put.Goals as goal

pub returns-in_err-put_place-clause-kept : goal.returns-in_err-put_place-clause-kept
returns-in_err-put_place-clause-kept c = same_kept no_pages c.args.self.now c.put_place.new.self c.in_err-put_place.ensures.err

pub returns-clause-ok : goal.returns-clause-ok
returns-clause-ok c = λ told.
    c.in_ok-put_place.ensures.ok.present no_pages
    ∙ ap (λ (bytes : List ℕ). put (present_of c.args.self.now) c.args.at (Some bytes)) (sym (take_all 4096 c.args.bytes.items (omega (arith, c.requires.size))))

pub returns-clause-kept : goal.returns-clause-kept
returns-clause-kept c = c.in_ok-put_place.ensures.ok.kept no_pages
