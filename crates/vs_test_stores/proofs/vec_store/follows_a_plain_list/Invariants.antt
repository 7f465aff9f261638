use Rattle.vs_edit.specs.Texts.{AreSound}
use Rattle.vs_test_stores.proofs.vec_store.follows_a_plain_list.Given as goal

abbrev pub invariant-loop : goal.invariant-loop
invariant-loop g l = AreSound l.store
