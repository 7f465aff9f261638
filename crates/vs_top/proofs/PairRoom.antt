-- Room for commands: what a run of two sessions may still take after a line was handed over, a refusal was written, or a session ended.
use Rattle.std.proofs.Common.{◌≡◌, ℕ, ◌≤◌, ◌+◌, Bool, false, List, Option, Some, None, refl, sym, ap, subst, arith}
use Rattle.std.specs.Prelude.{IfSome, is_none}
use Rattle.vs_host.specs.World.{Tells, Scene}
use Rattle.vs_excmd.specs.declared.request.Request.{Request}
use Rattle.vs_script.specs.Feed as feed
use Rattle.vs_family.specs.declared.which.Which.{Which}
use Rattle.vs_family.specs.declared.which.Which.TheVariants as which
use Rattle.vs_tagged.specs.Tagged.{WritesTagged}
use Rattle.vs_session.specs.declared.ending.End.{End}
use Rattle.vs_session.specs.declared.session.Session.{Session}
use Rattle.vs_session.specs.declared.session.Step.{Step}
use Rattle.vs_session.specs.Calls.{Finishes}
use Rattle.vs_multi.specs.declared.multi.Multi.{Multi}
use Rattle.vs_multi.specs.Multi.{FitsBoth, other}
use Rattle.vs_top.specs.PairTurns.{AreUsable, TakesMore, feed_of}
use Rattle.vs_top.specs.declared.pair.Sessions.{Sessions}
use Rattle.vs_top.proofs.PairCalls.{usable_puts}
use Rattle.vs_top.proofs.PairKeeps.{StepsWhere, takes_fewer}

-- fewer commands
pub usable_fewer : (tells : Tells) (pair : Sessions) (more fewer : ℕ) (now : Scene) → fewer ≤ more → AreUsable tells pair more now → AreUsable tells pair fewer now
usable_fewer tells pair more fewer now le usable = record {
  first = takes_fewer more fewer pair.multi.one le usable.first;
  second = takes_fewer more fewer pair.multi.two le usable.second;
  clock = λ told. omega (arith, le, usable.clock told);
  fits = usable.fits;
  one_ready = usable.one_ready;
  two_ready = usable.two_ready;
}

-- the feed of each session is ready
pub ready_of : (tells : Tells) (pair : Sessions) (more : ℕ) (now : Scene) (session : Which) → AreUsable tells pair more now → feed.IsReady (feed_of session pair)
ready_of tells pair more now which.One usable = usable.one_ready
ready_of tells pair more now which.Two usable = usable.two_ready

-- a feed took a line, or gave what was left in it
pub usable_fed : (tells : Tells) (pair fed : Sessions) (more : ℕ) (now : Scene) (session : Which) → fed.multi ≡ pair.multi → feed.IsReady (feed_of session fed) → feed_of (other session) fed ≡ feed_of (other session) pair
    → AreUsable tells pair more now → AreUsable tells fed more now
usable_fed tells pair fed more now which.One multi ready same usable = record {
  first = subst (λ (m : Multi). TakesMore more m.one) (sym multi) usable.first;
  second = subst (λ (m : Multi). TakesMore more m.two) (sym multi) usable.second;
  clock = usable.clock;
  fits = subst (λ (m : Multi). FitsBoth tells m now.folder) (sym multi) usable.fits;
  one_ready = ready;
  two_ready = subst feed.IsReady (sym same) usable.two_ready;
}
usable_fed tells pair fed more now which.Two multi ready same usable = record {
  first = subst (λ (m : Multi). TakesMore more m.one) (sym multi) usable.first;
  second = subst (λ (m : Multi). TakesMore more m.two) (sym multi) usable.second;
  clock = usable.clock;
  fits = subst (λ (m : Multi). FitsBoth tells m now.folder) (sym multi) usable.fits;
  one_ready = subst feed.IsReady (sym same) usable.one_ready;
  two_ready = ready;
}

-- a line was refused
pub usable_refused : (tells : Tells) (pair refused : Sessions) (more : ℕ) (now new : Scene) (bytes : List ℕ) (Failed : Type 0) → refused ≡ record pair { clean = false } → WritesTagged tells bytes Failed now new
    → AreUsable tells pair (more + 1) now → AreUsable tells refused more new
usable_refused tells pair refused more now new bytes Failed is puts usable =
    let fewer = usable_fewer tells pair (more + 1) more now (omega arith) usable in
    usable_puts tells refused more now new bytes Failed puts (subst (λ (p : Sessions). AreUsable tells p more now) (sym is) (record {
      first = fewer.first;
      second = fewer.second;
      clock = fewer.clock;
      fits = fewer.fits;
      one_ready = fewer.one_ready;
      two_ready = fewer.two_ready;
    }))

-- the end of a session that had not ended took no time, and nothing of the script
module _ (tells : Tells) (now mid : Scene) (how : End) (done : Bool) where
  pub finish_answers : (session : Option Session) → is_none session ≡ false → IfSome session (λ s. Finishes tells s now mid how done) → mid.answers ≡ now.answers
  finish_answers None is_open finishes = absurd (cc)
  finish_answers (Some s) is_open finishes = ap (λ (x : Scene). x.answers) finishes.frame

  pub finish_script : (session : Option Session) → is_none session ≡ false → IfSome session (λ s. Finishes tells s now mid how done) → mid.script ≡ now.script
  finish_script None is_open finishes = absurd (cc)
  finish_script (Some s) is_open finishes = ap (λ (x : Scene). x.script) finishes.frame

-- a session that took a step goes on, and nothing of the script was taken
module _ (tells : Tells) (request : Request) (taken : Step) (now stepped : Scene) where
  pub step_open : (before after : Option Session) → StepsWhere tells request taken before after now stepped → is_none after ≡ false
  step_open None after steps = absurd steps
  step_open (Some b) None steps = absurd steps
  step_open (Some b) (Some a) steps = refl

  pub step_script : (before after : Option Session) → StepsWhere tells request taken before after now stepped → stepped.script ≡ now.script
  step_script None after steps = absurd steps
  step_script (Some b) None steps = absurd steps
  step_script (Some b) (Some a) steps = ap (λ (x : Scene). x.script) steps.frame
