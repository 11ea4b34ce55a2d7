-- `layout::cores_named` meets its contract: the cores that are named are counted.
use Rattle.std.proofs.Common.{rules, tests, refl, ◌∙◌}
use Rattle.std.proofs.lemmas.Iterator.{YieldsList-from_range}
use Rattle.std.proofs.lemmas.Iterator.Consumers.{count_from_yields_List, YieldsList-from_filter}
use Rattle.model.specs.Layout.{names_in}
use Rattle.layout.specs.Named.{names_core}
use Rattle.layout.proofs.Counting.{cores_counted}
use Rattle.layout.proofs.commit_block.cores_named.Goals as goal

pub returns : goal.returns
returns c =
    count_from_yields_List c.filter.result _ c.count.ensures.ran
    (YieldsList-from_filter _ (names_core (names_in c.args.y c.args.block.now)) (YieldsList-from_range 0 8 8 c.filter.ensures.source refl) c.filter.ensures.closure (λ x r q k. search (rules, tests)))
    ∙ cores_counted _
