use Rattle.vs_both.proofs.Both.{both_answered, both_cut, both_look, both_replied, both_reply_cut, both_stop, both_swapped}
use Rattle.vs_both.proofs.laws.turning.Goals as goal

pub returns-clause-looks : goal.returns-clause-looks
returns-clause-looks c = λ one two start now new first second both. both_look one two start now first second both new

pub returns-clause-stops : goal.returns-clause-stops
returns-clause-stops c = both_stop

pub returns-clause-swapped : goal.returns-clause-swapped
returns-clause-swapped c = both_swapped

pub returns-clause-answers : goal.returns-clause-answers
returns-clause-answers c = λ one two start now ended new past second turn are both stepped. both_answered one two are start now past second both turn ended stepped new

pub returns-clause-cut : goal.returns-clause-cut
returns-clause-cut c = λ one two start now ended new past second turn written are both stepped. both_cut one two are start now past second both turn ended stepped written new

pub returns-clause-replies : goal.returns-clause-replies
returns-clause-replies c = λ one two start now new first second reply both. both_replied one two start now first second both reply new

pub returns-clause-reply_cut : goal.returns-clause-reply_cut
returns-clause-reply_cut c = λ one two start now new first second reply written both. both_reply_cut one two start now first second both reply written new
