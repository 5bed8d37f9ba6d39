-- A join point, as it is put into a table.
use Rattle.std.proofs.Common.{◌≡◌, ℕ, suc, ◌+◌, ◌<◌, List, [], ◌∷◌, ◌++◌, drop, get_or, length, refl, sym, ap, ◌∙◌, append_assoc}
use Rattle.fc_syntax.specs.Tree.{Kind}
use Rattle.fc_syntax.specs.declared.expr.Binder.{Binder}
use Rattle.fc_syntax.specs.declared.expr.JoinBind.{JoinBind}
use Rattle.fc_syntax.specs.declared.ty.Ref.{Ref}
use Rattle.fc_model.proofs.Lists.{drop_item}
use Rattle.fc_model.specs.Calling.{binders_to}
use Rattle.fc_model.specs.Nameless.{NTy}
use Rattle.fc_model.specs.NamelessView.{nbinders_of, njoins_of}
use Rattle.fc_model.specs.Typing.{JoinPoint, join_point}
use Rattle.fc_type_scope.proofs.Growing.{IsType-grows, shown-grows}
use Rattle.fc_type_table.specs.Nodes.{Extends}
use Rattle.fc_type_table.specs.TypeTables.{Grows, IsType, nodes_of, shown}
use Rattle.fc_type_table.specs.declared.node.Node.{Node}
use Rattle.fc_type_table.specs.declared.node.TypeId.{TypeId}
use Rattle.fc_type_table.specs.declared.table.TypeTable.{TypeTable}
use Rattle.fc_lint_context.proofs.Reached.{shown_joins-push}
use Rattle.fc_lint_context.specs.JoinViews.{AreJoinsAt, join_points, shown_join, shown_joins_at}
use Rattle.fc_lint_context.specs.declared.joins.JoinPoint as code

params_count : (ps : List (Binder ℕ)) → length ps ≡ length (nbinders_of ps)
params_count [] = refl
params_count (p ∷ ps) = ap suc (params_count ps)

pub join_made : (old mid new : TypeTable) (ks : List Kind) (ps : List (Binder ℕ)) (ty answer : TypeId) → Grows old mid → Grows mid new → IsType old ks answer
    → shown new ks ty ≡ binders_to (nbinders_of ps) (shown mid ks answer)
    → shown_join (nodes_of new) ks (record { arity = length ps; ty = ty; answer = answer }) ≡ join_point (shown old ks answer) (nbinders_of ps)
join_made old mid new ks ps ty answer more further t made =
    let bs = nbinders_of ps in
    let first : shown mid ks answer ≡ shown old ks answer = shown-grows old mid ks answer more t in
    let last : shown new ks answer ≡ shown old ks answer = shown-grows mid new ks answer further (IsType-grows old mid ks answer more t) ∙ first in
    let f : ℕ → NTy → NTy → JoinPoint = λ n u v. record { arity = n; type = u; result = v } in
    ap (λ n. f n (shown new ks ty) (shown new ks answer)) (params_count ps) ∙ ap (λ u. f (length bs) u (shown new ks answer)) (made ∙ ap (binders_to bs) first)
    ∙ ap (f (length bs) (binders_to bs (shown old ks answer))) last

-- one join point more
pub points_more : (old new : List Node) (ks : List Kind) (points pushed : List code.JoinPoint) (j : code.JoinPoint) (t u : NTy) (joins : List (JoinBind ℕ Ref)) (i : ℕ) (b : JoinBind ℕ Ref) (ps : List (Binder ℕ)) → Extends old new → AreJoinsAt old ks points
    → u ≡ t → i < length joins → b ≡ get_or joins i b → ps ≡ b.params → shown_join new ks j ≡ join_point u (nbinders_of ps) → pushed ≡ points ++ j ∷ []
    → join_points t (njoins_of joins) ≡ shown_joins_at old ks points ++ join_points t (njoins_of (drop i joins))
    → join_points t (njoins_of joins) ≡ shown_joins_at new ks pushed ++ join_points t (njoins_of (drop (i + 1) joins))
points_more old new ks points pushed j t u joins i b ps more hs same low is params shown e so_far =
    let rest = join_points t (njoins_of (drop (i + 1) joins)) in
    let here : JoinPoint = join_point t (nbinders_of b.params) in
    let made : shown_join new ks j ≡ here = shown ∙ ap (λ v. join_point v (nbinders_of ps)) same ∙ ap (λ qs. join_point t (nbinders_of qs)) params in
    so_far ∙ ap (λ js. shown_joins_at old ks points ++ join_points t (njoins_of js)) (drop_item joins i b low is)
    ∙ sym (ap (λ qs. qs ++ rest) (shown_joins-push old new ks points pushed j here more hs made e) ∙ append_assoc (shown_joins_at old ks points) (here ∷ []) rest)
