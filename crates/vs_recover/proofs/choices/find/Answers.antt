use Rattle.std.proofs.Common.{subst, ◌∙◌, arith}
use Rattle.vs_host.specs.World.{Scene, content_of}
use Rattle.vs_recover.specs.Choices.{Recovers}
use Rattle.vs_recover.proofs.ReadingLaws.{blocks_stay, opening_stays, reads_ok, reads_passed, reads_then, recovers_was, root_was}
use Rattle.vs_recover.proofs.choices.find.Goals as goal

pub read_newer-requires : goal.read_newer-requires
read_newer-requires g c = record {
  swp = opening_stays (reads_then c.in_ok-first.ensures.reading c.in_ok-second.ensures.reading) c.args.swp.now c.in_ok-first.first c.in_ok-first.ensures.opening;
  swo = opening_stays c.in_ok-second.ensures.reading c.args.swo.now c.in_ok-second.second c.in_ok-second.ensures.opening;
}

pub read_roots-requires : goal.read_roots-requires
read_roots-requires g c =
    let later = reads_then c.in_ok-second.ensures.reading c.in_ok-text.ensures.reading in
    record {
      swp = opening_stays (reads_then c.in_ok-first.ensures.reading later) c.args.swp.now c.in_ok-first.first c.in_ok-first.ensures.opening;
      swo = opening_stays later c.args.swo.now c.in_ok-second.second c.in_ok-second.ensures.opening;
    }

pub returns-in-Some-clause-found : goal.returns-in-Some-clause-found
returns-in-Some-clause-found g c = λ told.
    let s0 : Scene = g.F.World.scene c.args.host.now in
    subst (λ found. Recovers (content_of s0 c.args.swp.now) (content_of s0 c.args.swo.now) found) c.in-Some.is
    (recovers_was (reads_then c.in_ok-first.ensures.reading c.in_ok-second.ensures.reading) c.args.swp.now c.args.swo.now _ (c.in_ok-text.ensures.text told))

pub returns-clause-found : goal.returns-clause-found
returns-clause-found g c = λ told.
    let s0 : Scene = g.F.World.scene c.args.host.now in
    let both = reads_then c.in_ok-first.ensures.reading c.in_ok-second.ensures.reading in
    let all = reads_then both c.in_ok-text.ensures.reading in (
      subst (λ found. Recovers (content_of s0 c.args.swp.now) (content_of s0 c.args.swo.now) found) c.in_default.is (recovers_was both c.args.swp.now c.args.swo.now _ (c.in_ok-text.ensures.text told)),
      c.in_ok-roots.ensures.swp told ∙ root_was all c.args.swp.now,
      c.in_ok-roots.ensures.swo told ∙ root_was all c.args.swo.now,
    )

pub returns-in_err-second-clause-reading : goal.returns-in_err-second-clause-reading
returns-in_err-second-clause-reading g c = reads_passed c.in_err-second.was c.from_residual-in_err-second.ensures.1 (omega arith) (reads_then c.in_ok-first.ensures.reading c.find_opening-2.ensures.reading)

pub returns-in_err-text-clause-reading : goal.returns-in_err-text-clause-reading
returns-in_err-text-clause-reading g c =
    let both = reads_then c.in_ok-first.ensures.reading c.in_ok-second.ensures.reading in
    reads_passed c.in_err-text.was c.from_residual-in_err-text.ensures.1 (omega (arith, blocks_stay both c.args.swp.now, blocks_stay both c.args.swo.now)) (reads_then both c.read_newer.ensures.reading)

pub returns-in-Some-clause-reading : goal.returns-in-Some-clause-reading
returns-in-Some-clause-reading g c =
    let both = reads_then c.in_ok-first.ensures.reading c.in_ok-second.ensures.reading in
    reads_ok (omega (arith, blocks_stay both c.args.swp.now, blocks_stay both c.args.swo.now)) (reads_then both c.in_ok-text.ensures.reading)

pub returns-in_err-roots-clause-reading : goal.returns-in_err-roots-clause-reading
returns-in_err-roots-clause-reading g c =
    let both = reads_then c.in_ok-first.ensures.reading c.in_ok-second.ensures.reading in
    reads_passed c.in_err-roots.was c.from_residual-in_err-roots.ensures.1 (omega (arith, blocks_stay both c.args.swp.now, blocks_stay both c.args.swo.now)) (reads_then (reads_then both c.in_ok-text.ensures.reading) c.read_roots.ensures.reading)

pub returns-clause-reading : goal.returns-clause-reading
returns-clause-reading g c =
    let both = reads_then c.in_ok-first.ensures.reading c.in_ok-second.ensures.reading in
    reads_ok (omega (arith, blocks_stay both c.args.swp.now, blocks_stay both c.args.swo.now)) (reads_then (reads_then both c.in_ok-text.ensures.reading) c.in_ok-roots.ensures.reading)
