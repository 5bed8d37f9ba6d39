-- What stands behind binds and join points that stand together.
use Rattle.std.proofs.Common.{◌≡◌, List, ◌∷◌, [], ◌++◌, reverse, refl, sym, ap, ◌∙◌, append_assoc}
use Rattle.std.proofs.lemmas.Grind.{reverse_onto}
use Rattle.fc_model.specs.Nameless.{NTy, NBinds, NoNBinds, MoreNBinds, NBound, NJoins, NoNJoins, MoreNJoins, NJoined}
use Rattle.fc_model.specs.Typing.{Context, JoinPoint, join_point, with_binds, with_join, with_joins, with_value}
use Rattle.fc_lint_context.specs.JoinViews.{join_points}
use Rattle.fc_lint_context.specs.LocalViews.{bind_types}

reversed_more : {X : Type 0} (x : X) (xs ys : List X) → reverse (x ∷ xs) ++ ys ≡ reverse xs ++ (x ∷ ys)
reversed_more x xs ys = ap (λ zs. zs ++ ys) (reverse_onto xs x []) ∙ append_assoc (reverse xs) (x ∷ []) ys

pub with_binds-is : (bs : NBinds) (c : Context) → with_binds bs c ≡ record { kinds = c.kinds; coercions = c.coercions; values = reverse (bind_types bs) ++ c.values; joins = c.joins }
with_binds-is NoNBinds c = refl
with_binds-is (MoreNBinds (NBound t e) rest) c =
    let f : List NTy → Context = λ vs. record { kinds = c.kinds; coercions = c.coercions; values = vs; joins = c.joins } in
    with_binds-is rest (with_value t c) ∙ ap f (sym (reversed_more t (bind_types rest) c.values))

pub with_joins-is : (t : NTy) (js : NJoins) (c : Context) → with_joins t js c ≡ record { kinds = c.kinds; coercions = c.coercions; values = c.values; joins = reverse (join_points t js) ++ c.joins }
with_joins-is t NoNJoins c = refl
with_joins-is t (MoreNJoins (NJoined ps e) rest) c =
    let f : List JoinPoint → Context = λ js. record { kinds = c.kinds; coercions = c.coercions; values = c.values; joins = js } in
    with_joins-is t rest (with_join (join_point t ps) c) ∙ ap f (sym (reversed_more (join_point t ps) (join_points t rest) c.joins))
