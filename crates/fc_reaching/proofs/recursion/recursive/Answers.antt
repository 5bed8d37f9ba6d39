use Rattle.std.proofs.Common.{◌∙◌, ap}
use Rattle.std.proofs.lemmas.Result.{IfOk-weaker}
use Rattle.fc_graph.specs.Graphs.{AreOnCycles}
use Rattle.fc_model.specs.NamelessView.{ndecls_of, nmodule_of}
use Rattle.fc_reaching.specs.DefinitionsView.{meant_by}
use Rattle.fc_reaching.specs.Recursion.{AreRecursive}
use Rattle.fc_reaching.proofs.Reached.{cycles_recursive}
use Rattle.fc_reaching.proofs.recursion.recursive.Goals as goal

pub returns : goal.returns
returns c =
    let m = nmodule_of c.args.m.now in
    let meant = meant_by c.in_ok-definitions.definitions in
    let graph = c.as_slice-2.result.now in
    IfOk-weaker c.on_cycles.result (λ marks. AreOnCycles graph marks.items) (λ marks. AreRecursive m marks.items)
    (λ marks on_cycle.
    cycles_recursive m meant (ndecls_of c.as_slice.result.now) graph marks.items c.in_ok-definitions.ensures.meant (ap ndecls_of c.as_slice.ensures)
    (c.as_slice-2.ensures ∙ c.in_ok-graph.ensures) on_cycle)
    c.on_cycles.ensures
