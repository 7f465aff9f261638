use Rattle.vs_recover.proofs.PartLaws.{part_marked}
use Rattle.vs_recover.proofs.original.show_original.Goals as goal

pub returns-in_ok-push_marker-clause-shows : goal.returns-in_ok-push_marker-clause-shows
returns-in_ok-push_marker-clause-shows g c = λ told format items shows. part_marked format c.show_part.new.shown c.push_marker.new.self items _ _ c.if-not-branch.true (c.in_ok-show_part.ensures.shows told format items shows) c.in_ok-push_marker.ensures
