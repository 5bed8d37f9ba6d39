use Rattle.std.proofs.Common.{ap, ◌∙◌}
use Rattle.fc_syntax.specs.View.{decls_of}
use Rattle.fc_naming.proofs.Modules.{named_back}
use Rattle.fc_naming.proofs.module.named_module.Goals as goal

pub returns : goal.returns
returns c =
    named_back c.in_ok-decls.ensures (ap decls_of c.as_slice.ensures) c.in_ok-name.ensures (c.in_ok-imports.ensures ∙ c.as_slice-2.ensures) (c.in_ok-exports.ensures ∙ c.as_slice-3.ensures)
    (c.in_ok-hidden.ensures ∙ c.as_slice-4.ensures)
