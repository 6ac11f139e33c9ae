use Rattle.sec1_c.proofs.AlgorithmLemmas.{contains, unwritten, written}
use Rattle.sec1_c.proofs.container.write.write_container.Goals as goal

pub returns-clause-container : goal.returns-clause-container
returns-clause-container c bytes is =
    let law = c.tree_is_element.ensures c.args.key in
    let parts = contains c.args.curve c.ec_algorithm.result c.args.key _ c.ec_algorithm.ensures law.0 in
    written _ bytes _ _ _ _ _ c.write_value.ensures (parts.there bytes is)

pub returns-clause-overlength : goal.returns-clause-overlength
returns-clause-overlength c none =
    let law = c.tree_is_element.ensures c.args.key in
    let parts = contains c.args.curve c.ec_algorithm.result c.args.key _ c.ec_algorithm.ensures law.0 in
    unwritten _ _ _ _ _ _ c.write_value.ensures (λ bytes e. none bytes (parts.found bytes e))
