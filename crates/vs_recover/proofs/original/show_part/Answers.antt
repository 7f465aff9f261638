use Rattle.std.proofs.Common.{arith, ap}
use Rattle.std.specs.Prelude.{Option}
use Rattle.vs_recover.specs.declared.original.Original.{Original}
use Rattle.vs_recover.specs.Files.{IsFile}
use Rattle.vs_recover.specs.Original.{pieces_in}
use Rattle.vs_recover.proofs.PartLaws.{opened_follows, part_absent, part_shown, part_unnumbered}
use Rattle.vs_recover.proofs.ReadingLaws.{file_stays, reads_none, reads_ok, reads_passed, reads_then}
use Rattle.vs_recover.proofs.original.show_part.Goals as goal

pub returns-in_default-clause-shows : goal.returns-in_default-clause-shows
returns-in_default-clause-shows g c = λ told format items shows. part_absent format c.args.shown.now items _ c.args.original.now c.args.before c.args.count c.in_default.is (c.requires.opened told) shows

pub returns-in_default-clause-reading : goal.returns-in_default-clause-reading
returns-in_default-clause-reading g c = reads_none g.F.World.tells (λ is. cc)

pub returns-in_default-before-clause-shows : goal.returns-in_default-before-clause-shows
returns-in_default-before-clause-shows g c = λ told format items shows. part_unnumbered format c.args.shown.now items _ c.args.before c.args.count c.in_default-before.is shows

pub returns-in_default-before-clause-reading : goal.returns-in_default-before-clause-reading
returns-in_default-before-clause-reading g c = reads_none g.F.World.tells (λ is. cc)

pub returns-in_err-all-clause-reading : goal.returns-in_err-all-clause-reading
returns-in_err-all-clause-reading g c =
    reads_passed c.in_err-all.was c.from_residual-in_err-all.ensures.1 (omega (arith, ap (λ (o : Option Original). pieces_in o) c.in-Some.is, c.in_ok-seek.ensures.len)) (reads_then c.in_ok-seek.ensures.read c.show_lines.ensures.reading)

pub returns-clause-reading : goal.returns-clause-reading
returns-clause-reading g c =
    reads_ok (omega (arith, ap (λ (o : Option Original). pieces_in o) c.in-Some.is, c.in_ok-seek.ensures.len)) (reads_then c.in_ok-seek.ensures.read c.in_ok-all.ensures.reading)

pub returns-clause-shows : goal.returns-clause-shows
returns-clause-shows g c = λ told format items shows.
    let found = opened_follows _ c.args.original.now _ c.in-Some.is (c.requires.opened told) in
    let here : IsFile g.F.World.tells (g.F.World.scene c.args.host.now) c.args.name.now found.0 = record { told = told; there = found.1 } in
    let then = file_stays c.in_ok-seek.ensures.reading here in
    part_shown format c.show_lines.new.shown items _ found.0 c.args.before _ _ c.args.count _ found.1 c.in-Some-before.is (c.in_ok-seek.ensures.there found.0 here) (c.in_ok-all.ensures.all found.0 then) (c.in_ok-all.ensures.shows found.0 then format items shows)
