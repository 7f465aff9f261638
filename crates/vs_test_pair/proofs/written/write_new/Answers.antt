use Rattle.vs_test_pair.proofs.written.write_new.Goals as goal

pub write_text-requires : goal.write_text-requires
write_text-requires g c = record {
  fits = λ told.
      let is = c.in_ok-text.ensures.started told in
      (is.0, is.1, c.write_text-answer.ensures.fits told is.0 is.1 is.2);
}
