use Rattle.vs_both.proofs.Both.{both_first_cut, both_opened, both_second_cut}
use Rattle.vs_both.proofs.laws.opening.Goals as goal

pub returns-clause-replies : goal.returns-clause-replies
returns-clause-replies c = λ one two start now mid new document other_document reply other_reply first second. both_opened one two start now document other_document reply other_reply first second mid new

pub returns-clause-first_cut : goal.returns-clause-first_cut
returns-clause-first_cut c = λ one two start now new document other_document reply other_reply written first second. both_first_cut one two start now document other_document reply other_reply first second written new

pub returns-clause-second_cut : goal.returns-clause-second_cut
returns-clause-second_cut c = λ one two start now mid new document other_document reply other_reply written first second. both_second_cut one two start now document other_document reply other_reply first second mid written new
