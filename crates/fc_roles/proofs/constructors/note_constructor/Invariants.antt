use Rattle.std.proofs.Common.{◌≡◌, ◌+◌, ◌<◌, ℕ, length, get_or, drop}
use Rattle.fc_syntax.specs.declared.ty.Role.TheVariants.{P}
use Rattle.fc_model.specs.NamelessView.{nbinders_of, ntys_of}
use Rattle.fc_model.specs.Needs.{least, need_in_con}
use Rattle.fc_types.specs.ModuleViews.{modules_of}
use Rattle.fc_roles.proofs.constructors.note_constructor.Given as goal

-- what is noted so far and what is still to come make the whole
abbrev pub invariant-loop-binder : goal.invariant-loop-binder
invariant-loop-binder l =
    (length l.needs ≡ length l.fn.needs) × ((i : ℕ) → i < length l.needs
    → least (get_or l.fn.needs i P) (need_in_con (modules_of l.declared) i (nbinders_of l.con.binders) (ntys_of l.con.fields))
    ≡ least (get_or l.needs i P) (need_in_con (modules_of l.declared) (i + l.binders) (nbinders_of (drop l.binder-index l.binder-items)) (ntys_of l.con.fields)))
