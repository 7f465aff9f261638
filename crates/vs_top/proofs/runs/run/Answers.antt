use Rattle.vs_top.specs.Stress.{IsSceneOf}
use Rattle.vs_top.specs.declared.form.Mode.TheVariants as mode
use Rattle.vs_top.proofs.Does.{does_form, does_idle, does_other, does_pair, does_stress, does_usage}
use Rattle.vs_top.proofs.runs.run.Goals as goal

pub returns-clause-usage : goal.returns-clause-usage
returns-clause-usage g c = does_usage (IsSceneOf g.H.World.scene) g.H.World.tells _ (g.H.World.scene c.args.host.now) (g.H.World.scene c.perform_words-ending.new.host) c.perform_words-ending.result c.perform_words-ending.new.marks.items c.perform_words-ending.ensures

pub returns-clause-idle : goal.returns-clause-idle
returns-clause-idle g c = does_idle (IsSceneOf g.H.World.scene) g.H.World.tells _ (g.H.World.scene c.args.host.now) (g.H.World.scene c.perform_words-ending.new.host) c.perform_words-ending.result c.perform_words-ending.new.marks.items c.perform_words-ending.ensures

pub returns-clause-other : goal.returns-clause-other
returns-clause-other g c = does_other (IsSceneOf g.H.World.scene) g.H.World.tells _ (g.H.World.scene c.args.host.now) (g.H.World.scene c.perform_words-ending.new.host) c.perform_words-ending.result c.perform_words-ending.new.marks.items c.perform_words-ending.ensures

pub returns-clause-edit : goal.returns-clause-edit
returns-clause-edit g c = λ name is. does_form (IsSceneOf g.H.World.scene) g.H.World.tells _ (g.H.World.scene c.args.host.now) (g.H.World.scene c.perform_words-ending.new.host) c.perform_words-ending.result c.perform_words-ending.new.marks.items mode.Edit name c.perform_words-ending.ensures is

pub returns-clause-recover : goal.returns-clause-recover
returns-clause-recover g c = λ name is. does_form (IsSceneOf g.H.World.scene) g.H.World.tells _ (g.H.World.scene c.args.host.now) (g.H.World.scene c.perform_words-ending.new.host) c.perform_words-ending.result c.perform_words-ending.new.marks.items mode.Recover name c.perform_words-ending.ensures is

pub returns-clause-info : goal.returns-clause-info
returns-clause-info g c = λ name is. does_form (IsSceneOf g.H.World.scene) g.H.World.tells _ (g.H.World.scene c.args.host.now) (g.H.World.scene c.perform_words-ending.new.host) c.perform_words-ending.result c.perform_words-ending.new.marks.items mode.Info name c.perform_words-ending.ensures is

pub returns-clause-discard : goal.returns-clause-discard
returns-clause-discard g c = λ name is. does_form (IsSceneOf g.H.World.scene) g.H.World.tells _ (g.H.World.scene c.args.host.now) (g.H.World.scene c.perform_words-ending.new.host) c.perform_words-ending.result c.perform_words-ending.new.marks.items mode.Discard name c.perform_words-ending.ensures is

pub returns-clause-stress : goal.returns-clause-stress
returns-clause-stress g c = λ count is. does_stress (IsSceneOf g.H.World.scene) g.H.World.tells _ (g.H.World.scene c.args.host.now) (g.H.World.scene c.perform_words-ending.new.host) c.perform_words-ending.result c.perform_words-ending.new.marks.items count c.perform_words-ending.ensures is

pub returns-clause-pair : goal.returns-clause-pair
returns-clause-pair g c = λ one two is. does_pair (IsSceneOf g.H.World.scene) g.H.World.tells _ (g.H.World.scene c.args.host.now) (g.H.World.scene c.perform_words-ending.new.host) c.perform_words-ending.result c.perform_words-ending.new.marks.items one two c.perform_words-ending.ensures is
