use Rattle.std.proofs.Common.{◌≡◌, ◌+◌, ◌<◌, ℕ, length, get_or, drop}
use Rattle.fc_syntax.specs.declared.ty.Role.TheVariants.{P}
use Rattle.fc_model.specs.NamelessView.{ntys_of}
use Rattle.fc_model.specs.Needs.{least, need_in_fields}
use Rattle.fc_types.specs.ModuleViews.{modules_of}
use Rattle.fc_roles.proofs.constructors.note_fields.Given as goal

-- what is noted so far and what is still to come make the whole
abbrev pub invariant-loop-field : goal.invariant-loop-field
invariant-loop-field l =
    (length l.needs ≡ length l.fn.needs) × ((i : ℕ) → i < length l.needs
    → least (get_or l.fn.needs i P) (need_in_fields (modules_of l.declared) (i + l.binders) (ntys_of l.fields))
    ≡ least (get_or l.needs i P) (need_in_fields (modules_of l.declared) (i + l.binders) (ntys_of (drop l.field-index l.fields))))
