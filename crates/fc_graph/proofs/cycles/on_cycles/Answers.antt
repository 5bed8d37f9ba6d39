use Rattle.std.proofs.Common.{◌≡◌, length, map, rules}
use Rattle.std.proofs.lemmas.Result.{IfOk-weaker}
use Rattle.fc_graph.specs.Certificates.{IsCertificate}
use Rattle.fc_graph.specs.FindingsView.{said_by}
use Rattle.fc_graph.specs.Graphs.{AreOnCycles}
use Rattle.fc_graph.specs.declared.finding.Finding.{Finding}
use Rattle.fc_graph.proofs.Checked.{all_certified}
use Rattle.fc_graph.proofs.cycles.on_cycles.Goals as goal

pub returns-then-is_certificate : goal.returns-then-is_certificate
returns-then-is_certificate c =
    let findings = c.as_slice-then-is_certificate.result.now in
    let count : length findings ≡ length c.args.graph.now = search rules in
    let right : IsCertificate c.args.graph.now (said_by findings) = search rules in
    IfOk-weaker c.marks_of.result (λ marks. marks.items ≡ map (λ (f : Finding). f.marked) findings) (λ marks. AreOnCycles c.args.graph.now marks.items)
    (λ marks is. all_certified c.args.graph.now findings marks.items count right is)
    c.marks_of.ensures
