-- A group has as many binds, or join points, as the list that it stands in.
use Rattle.std.proofs.Common.{◌≡◌, ℕ, suc, refl, ap, List, [], ◌∷◌, length}
use Rattle.fc_syntax.specs.declared.ty.Ref.{Ref}
use Rattle.fc_syntax.specs.declared.expr.Bind as RustBind
use Rattle.fc_syntax.specs.declared.expr.JoinBind as RustJoin
use Rattle.fc_model.specs.NamelessView.{nbinds_of, njoins_of}
use Rattle.fc_model.specs.Replacing.{bind_count, join_count}

pub binds_counted : (bs : List (RustBind.Bind ℕ Ref)) → bind_count (nbinds_of bs) ≡ length bs
binds_counted [] = refl
binds_counted (b ∷ bs) = ap (λ n. suc n) (binds_counted bs)

pub joins_counted : (js : List (RustJoin.JoinBind ℕ Ref)) → join_count (njoins_of js) ≡ length js
joins_counted [] = refl
joins_counted (j ∷ js) = ap (λ n. suc n) (joins_counted js)
