-- What the needs of parameters mean.
use Rattle.std.specs.Prelude.{ℕ, suc, get_or}
use Rattle.fc_syntax.specs.declared.ty.Role.{Role}
use Rattle.fc_syntax.specs.declared.ty.Role.TheVariants.{P, R}
use Rattle.fc_model.specs.Kinding.{Modules}
use Rattle.fc_model.specs.Nameless.{NBinder, NBValue, NBType, NBCo}
use Rattle.fc_model.specs.Needs.{least, need_in}
use Rattle.fc_roles.specs.declared.needs.Needs.{Needs}

-- the need of the parameter at a distance, the last one at 0
abbrev pub need_at : Needs → ℕ → Role
need_at n i = get_or n.by_distance.items i P

-- the need in a binder of a constructor alone, and the distance behind it
abbrev pub need_in_binder : Modules → ℕ → NBinder → Role
need_in_binder ms i (NBValue t) = need_in ms R i t
need_in_binder ms i (NBType k) = P
need_in_binder ms i (NBCo r t u) = least (need_in ms r i t) (need_in ms r i u)

abbrev pub distance_behind : NBinder → ℕ → ℕ
distance_behind (NBValue t) i = i
distance_behind (NBType k) i = suc i
distance_behind (NBCo r t u) i = i
