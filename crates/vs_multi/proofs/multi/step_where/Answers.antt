use Rattle.vs_multi.proofs.multi.step_where.Goals as goal

pub returns-in-Some-clause-step : goal.returns-in-Some-clause-step
returns-in-Some-clause-step g c =
    rw c.in-Some.is (record {
      step = c.step.ensures.step;
      undo = c.step.ensures.undo;
      file = c.step.ensures.file;
      room = c.step.ensures.room;
      quit = c.step.ensures.quit;
      clock = c.step.ensures.clock;
      frame = c.step.ensures.frame;
      cause = c.step.ensures.cause;
    })
