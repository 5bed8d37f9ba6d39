use Rattle.std.proofs.Common.{◌∙◌, ap, sym}
use Rattle.fc_model.specs.NamelessView.{nbinders_of}
use Rattle.fc_rows.specs.Surroundings.{head_binds}
use Rattle.fc_parts.proofs.PartRules.{default_binds, literal_binds}
use Rattle.fc_parts.proofs.alternatives.head_binds.Goals as goal

pub returns-in-Default : goal.returns-in-Default
returns-in-Default c = default_binds c.args.a.now.binders c.is_empty.result c.is_empty.ensures ∙ ap (λ h. head_binds h (nbinders_of c.args.a.now.binders)) (sym c.in-Default.is)

pub returns-in-Lit : goal.returns-in-Lit
returns-in-Lit c =
    literal_binds c.in-Lit.field-0 c.args.a.now.binders c.is_empty-in-Lit.result c.is_empty-in-Lit.ensures ∙ ap (λ h. head_binds h (nbinders_of c.args.a.now.binders)) (sym c.in-Lit.is)
