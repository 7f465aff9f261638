use Rattle.std.proofs.Common.{◌/◌, ◌∙◌, List, ℕ, Option, reverse, arith, sym, subst}
use Rattle.vs_host.specs.World.{content_of}
use Rattle.vs_text.specs.declared.format.Format.{Format}
use Rattle.vs_ptr.specs.declared.PtrEntry.{PtrEntry}
use Rattle.vs_damaged.specs.Salvage.{Damaged}
use Rattle.vs_recover.specs.declared.walk.Walk.{Walk}
use Rattle.vs_recover.specs.Files.{IsFile}
use Rattle.vs_recover.specs.Original.{IsOpened}
use Rattle.vs_recover.specs.Salvage.{damaged}
use Rattle.vs_recover.specs.WalkedEntries.{IsFoundOf}
use Rattle.vs_recover.proofs.ChoiceLaws.{found_file}
use Rattle.vs_recover.proofs.PageLaws.{if_some}
use Rattle.vs_recover.proofs.ReadingLaws.{file_stays, reads_ok, reads_passed, reads_then, reads_within, still}
use Rattle.vs_recover.proofs.SalvageLaws.{calls_all, first_taken, salvaged}
use Rattle.vs_recover.proofs.walk.salvage_of.Goals as goal

pub returns-clause-found : goal.returns-clause-found
returns-clause-found g c = λ told.
    let w : Walk = c.in-Some-2.walk in
    let size : ℕ = c.in-Ok.zero.page_size in
    let name : List ℕ = c.args.name.now in
    let original : Option (List ℕ) = content_of (g.F.World.scene c.args.host.now) name in
    let pages = if_some _ w _ c.in-Some-2.is c.in_ok-walk.ensures.pages in
    salvaged _ original _ c.in-Some.opening c.in-Ok.zero c.format_by-format.result c.in_ok-shown.shown (sym c.format_by-format.ensures) c.in-Some.is c.in-Ok.is (c.in_ok-opening.ensures.opening told) (λ file there.
    let here : IsFile g.F.World.tells (g.F.World.scene c.args.host.now) c.args.swap.now file = found_file g.F.World.tells (g.F.World.scene c.args.host.now) c.args.swap.now file told there in
    let then = file_stays c.in_ok-opening.ensures.reading here in
    let root = if_some _ w _ c.in-Some-2.is c.in_ok-walk.ensures.root file then in
    let format : Format = c.format_by-format.result in
    let d : Damaged = damaged file size format original in
    let found : IsFoundOf d (reverse w.left.items) c.in_ok-shown.shown = c.in_ok-shown.ensures.shown d (record {
      told = told;
      there = (file_stays c.in_ok-walk.ensures.reading then).there;
      original = still c.in_ok-walk.ensures.reading name ∙ still c.in_ok-opening.ensures.reading name;
      size_is = sym pages.0;
    }) (first_taken w (c.in-Some.opening.len / size) pages.1 (omega (arith, pages.2)) (if_some _ w _ c.in-Some-2.is c.in_ok-walk.ensures.taken)) (if_some _ w _ c.in-Some-2.is c.in_ok-walk.ensures.shown) in
    (root.0, subst (λ (es : List PtrEntry). IsFoundOf d es c.in_ok-shown.shown) root.1 found))

pub returns-in_err-walk-clause-reading : goal.returns-in_err-walk-clause-reading
returns-in_err-walk-clause-reading g c = reads_passed c.in_err-walk.was c.from_residual-in_err-walk.ensures.1 (omega arith) (reads_then c.in_ok-opening.ensures.reading c.begin.ensures.reading)

pub returns-in_default-2-clause-reading : goal.returns-in_default-2-clause-reading
returns-in_default-2-clause-reading g c = reads_ok (omega arith) (reads_then c.in_ok-opening.ensures.reading c.in_ok-walk.ensures.reading)

pub returns-in_err-shown-clause-reading : goal.returns-in_err-shown-clause-reading
returns-in_err-shown-clause-reading g c =
    let w : Walk = c.in-Some-2.walk in
    let name : List ℕ = c.args.name.now in
    let pages = if_some _ w _ c.in-Some-2.is c.in_ok-walk.ensures.pages in
    let opened = if_some _ w _ c.in-Some-2.is c.in_ok-walk.ensures.opened in
    reads_within (λ told. calls_all _ (content_of (g.F.World.scene c.args.host.now) name) _ c.in-Some.opening c.in-Ok.zero w.original _ _ c.in-Some.is c.in-Ok.is (c.in_ok-opening.ensures.opening told)
    (subst (λ (o : Option (List ℕ)). IsOpened o w.original) (still c.in_ok-opening.ensures.reading name) (opened told)) pages.2 pages.3)
    (reads_passed c.in_err-shown.was c.from_residual-in_err-shown.ensures.1 (omega arith) (reads_then (reads_then c.in_ok-opening.ensures.reading c.in_ok-walk.ensures.reading) c.run.ensures.reading))

pub returns-clause-reading : goal.returns-clause-reading
returns-clause-reading g c =
    let w : Walk = c.in-Some-2.walk in
    let name : List ℕ = c.args.name.now in
    let pages = if_some _ w _ c.in-Some-2.is c.in_ok-walk.ensures.pages in
    let opened = if_some _ w _ c.in-Some-2.is c.in_ok-walk.ensures.opened in
    reads_within (λ told. calls_all _ (content_of (g.F.World.scene c.args.host.now) name) _ c.in-Some.opening c.in-Ok.zero w.original _ _ c.in-Some.is c.in-Ok.is (c.in_ok-opening.ensures.opening told)
    (subst (λ (o : Option (List ℕ)). IsOpened o w.original) (still c.in_ok-opening.ensures.reading name) (opened told)) pages.2 pages.3)
    (reads_ok (omega arith) (reads_then (reads_then c.in_ok-opening.ensures.reading c.in_ok-walk.ensures.reading) c.in_ok-shown.ensures.reading))
