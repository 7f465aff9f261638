use Rattle.vs_pair.proofs.CacheLemmas.{put_either}
use Rattle.vs_pair.proofs.cache.Cache.put.Goals as goal

pub returns-clause-put : goal.returns-clause-put
returns-clause-put c = λ before after map narrow is there.
    put_either before after map c.args.self.now.pages c.put.new.self c.args.at _ narrow c.put.result c.put.ensures.entries c.put.ensures.err c.put.ensures.succeeds is there
