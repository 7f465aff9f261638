use Rattle.vs_both.proofs.Both.{both_quit, both_quit_cut}
use Rattle.vs_both.proofs.Quits.{none_since}
use Rattle.vs_both.proofs.laws.quitting.Goals as goal

pub returns-clause-quits : goal.returns-clause-quits
returns-clause-quits c = λ one two start now mid new past second are both works. both_quit one two are start now past second both mid works new

pub returns-clause-cut : goal.returns-clause-cut
returns-clause-cut c = λ one two start now mid new past second written are both works. both_quit_cut one two are start now past second both mid works written new

pub returns-clause-since : goal.returns-clause-since
returns-clause-since c = λ party start now past. none_since party start past now
