-- The row over the parts that code finds.
use Rattle.std.proofs.Common.{◌≡◌, Bool, if◌then◌else◌, Option, Some, None, sym, ap, ◌∙◌}
use Rattle.fc_syntax.specs.declared.expr.Head.TheVariants as head
use Rattle.fc_syntax.specs.declared.ty.Name.{Name}
use Rattle.fc_model.specs.Kinding.{Modules}
use Rattle.fc_model.specs.Nameless.{NExpr, NArgs, NAlts}
use Rattle.fc_model.specs.Replacing.{Renaming}
use Rattle.fc_rows.specs.Shrinking.{alternative_of, are_trivial, case_of_known, case_of_variable, moved_args}
use Rattle.fc_rows.specs.Surroundings.{known_of, moved_known}
use Rattle.fc_forms.specs.Forms.{construction_parts}
use Rattle.fc_case_known.proofs.Parts.{constructed_form, trivial_moved}

-- A VARIABLE THAT IS BOUND

module _ (ms : Modules) (y : NExpr) (r : Renaming) (alts : NAlts) where
  -- a constructor with these arguments
  abbrev pub for_constructor : Name → NArgs → Option NExpr
  for_constructor n args = case_of_variable ms y n args (alternative_of (head.Con n) alts) (alternative_of head.Default alts)

  pub constructed : (e : NExpr) (p : Name × NArgs) (b : Bool) → Some p ≡ construction_parts e → b ≡ are_trivial p.1
      → case_of_known ms y (moved_known r (known_of e)) alts ≡ (if b then for_constructor p.0 (moved_args r p.1) else None)
  constructed e p b parts trivial =
      ap (λ x. case_of_known ms y (moved_known r (known_of x)) alts) (constructed_form e p parts)
      ∙ ap (λ c. if c then for_constructor p.0 (moved_args r p.1) else None) (trivial_moved r p.1 ∙ sym trivial)
