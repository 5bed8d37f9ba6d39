use Rattle.std.proofs.Common.{◌≡◌, ◌<◌, ℕ, length, get_or, drop}
use Rattle.fc_syntax.specs.declared.ty.Role.TheVariants.{P}
use Rattle.fc_model.specs.NamelessView.{ncons_of}
use Rattle.fc_model.specs.Needs.{least, need_in_cons}
use Rattle.fc_types.specs.ModuleViews.{modules_of}
use Rattle.fc_roles.proofs.constructors.note_constructors.Given as goal

-- what is noted so far and what is still to come make the whole
abbrev pub invariant-loop-con : goal.invariant-loop-con
invariant-loop-con l =
    (length l.needs ≡ length l.fn.needs) × ((i : ℕ) → i < length l.needs
    → least (get_or l.fn.needs i P) (need_in_cons (modules_of l.declared) i (ncons_of l.cons))
    ≡ least (get_or l.needs i P) (need_in_cons (modules_of l.declared) i (ncons_of (drop l.con-index l.cons))))
