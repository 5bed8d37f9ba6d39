-- Other variables, and formed expressions, in place of the variables of a formed expression keep it formed.
use Rattle.std.proofs.Common.{ℕ, zero, suc, List, [], ◌∷◌}
use Rattle.fc_model.specs.Nameless.{NTy, NCo, NBinder, NExpr, NArg, NATerm, NAType, NACo, NArgs, NoNArgs, MoreNArgs, NAlts}
use Rattle.fc_model.specs.Replacing.{Renaming, Substitution, coercion_before, coercion_variables, expressions, past_a_type, put_in_alts, put_in_arg, put_in_args, renamed, replaced}
use Rattle.fc_model.specs.Replacing.{types_behind, types_behind_all, unchanged, value_before, variables, whole_coercions, with_argument, with_arguments}
use Rattle.fc_formed.specs.FormedTrees.{IsFormedCo, IsFormedExpr, IsFormedArg, AreFormedArgs, AreFormedAlts}
use Rattle.fc_rows_formed.proofs.CoercionsFormed.{AnyVariable, coercions_stand, variables_stand}
use Rattle.fc_rows_formed.proofs.ExpressionsFormed.{ArePutFormed, ExpressionsStand, alternatives_put, argument_put, arguments_put, expression_put, images_behind}
use Rattle.fc_rows_formed.proofs.TypesFormed.{AreImagesFormed, images_before}

-- VARIABLES IN PLACE OF VARIABLES

locals_stand : ExpressionsStand variables AnyVariable
locals_stand = record { formed = λ v g. tt; innermost_good = tt; type_good = λ v g. tt; coercion_good = λ v g. tt; value_good = λ v g. tt; join_good = λ v g. tt }

-- only the types that are put in are asked
renaming_formed : (r : Renaming) → AreImagesFormed r.types → ArePutFormed AnyVariable AnyVariable r
renaming_formed r g = record { types_good = g; coercions_good = λ i. tt; values_good = λ i. tt }

pub expression_renamed : (r : Renaming) → AreImagesFormed r.types → (e : NExpr) → IsFormedExpr e → IsFormedExpr (renamed r e)
expression_renamed r g = expression_put variables coercion_variables AnyVariable AnyVariable locals_stand variables_stand r (renaming_formed r g)

pub argument_renamed : (r : Renaming) → AreImagesFormed r.types → (a : NArg) → IsFormedArg a → IsFormedArg (put_in_arg variables coercion_variables r a)
argument_renamed r g = argument_put variables coercion_variables AnyVariable AnyVariable locals_stand variables_stand r (renaming_formed r g)

pub arguments_renamed : (r : Renaming) → AreImagesFormed r.types → (args : NArgs) → AreFormedArgs args → AreFormedArgs (put_in_args variables coercion_variables r args)
arguments_renamed r g = arguments_put variables coercion_variables AnyVariable AnyVariable locals_stand variables_stand r (renaming_formed r g)

pub alternatives_renamed : (r : Renaming) → AreImagesFormed r.types → (alts : NAlts) → AreFormedAlts alts → AreFormedAlts (put_in_alts variables coercion_variables r alts)
alternatives_renamed r g = alternatives_put variables coercion_variables AnyVariable AnyVariable locals_stand variables_stand r (renaming_formed r g)

pub images_behind_all : (bs : List NBinder) (s : ℕ → NTy) → AreImagesFormed s → AreImagesFormed (types_behind_all bs s)
images_behind_all [] s g = g
images_behind_all (b ∷ bs) s g = images_behind_all bs (types_behind b s) (images_behind b s g)

-- EXPRESSIONS IN PLACE OF VARIABLES

expressions_stand : ExpressionsStand expressions IsFormedExpr
expressions_stand = record {
  formed = λ v g. g;
  innermost_good = tt;
  type_good = λ v g. expression_renamed past_a_type (λ i. tt) v g;
  coercion_good = λ v g. expression_renamed _ (λ i. tt) v g;
  value_good = λ v g. expression_renamed _ (λ i. tt) v g;
  join_good = λ v g. expression_renamed _ (λ i. tt) v g;
}

-- what is put in is formed
abbrev IsSubstitutionFormed : Substitution → Type 0
IsSubstitutionFormed r = ArePutFormed IsFormedExpr IsFormedCo r

expression_replaced : (r : Substitution) → IsSubstitutionFormed r → (e : NExpr) → IsFormedExpr e → IsFormedExpr (replaced r e)
expression_replaced r g = expression_put expressions whole_coercions IsFormedExpr IsFormedCo expressions_stand coercions_stand r g

pub alternatives_replaced : (r : Substitution) → IsSubstitutionFormed r → (alts : NAlts) → AreFormedAlts alts → AreFormedAlts (put_in_alts expressions whole_coercions r alts)
alternatives_replaced r g = alternatives_put expressions whole_coercions IsFormedExpr IsFormedCo expressions_stand coercions_stand r g

-- ARGUMENTS IN PLACE OF BINDERS

unchanged_formed : IsSubstitutionFormed unchanged
unchanged_formed = record { types_good = λ i. tt; coercions_good = λ i. tt; values_good = λ i. tt }

value_first : (e : NExpr) (s : ℕ → NExpr) → IsFormedExpr e → ((i : ℕ) → IsFormedExpr (s i)) → (i : ℕ) → IsFormedExpr (value_before e s i)
value_first e s w g zero = w
value_first e s w g (suc i) = g i

coercion_first : (c : NCo) (s : ℕ → NCo) → IsFormedCo c → ((i : ℕ) → IsFormedCo (s i)) → (i : ℕ) → IsFormedCo (coercion_before c s i)
coercion_first c s w g zero = w
coercion_first c s w g (suc i) = g i

with_arguments_formed : (args : NArgs) (r : Substitution) → AreFormedArgs args → IsSubstitutionFormed r → IsSubstitutionFormed (with_arguments args r)
with_arguments_formed NoNArgs r w g = g
with_arguments_formed (MoreNArgs (NATerm e) rest) r w g =
    with_arguments_formed rest (with_argument (NATerm e) r) w.1
    (record { types_good = g.types_good; coercions_good = g.coercions_good; values_good = value_first e r.values w.0 g.values_good })
with_arguments_formed (MoreNArgs (NAType t) rest) r w g =
    with_arguments_formed rest (with_argument (NAType t) r) w.1
    (record { types_good = images_before t r.types w.0 g.types_good; coercions_good = g.coercions_good; values_good = g.values_good })
with_arguments_formed (MoreNArgs (NACo c) rest) r w g =
    with_arguments_formed rest (with_argument (NACo c) r) w.1
    (record { types_good = g.types_good; coercions_good = coercion_first c r.coercions w.0 g.coercions_good; values_good = g.values_good })

pub arguments_formed : (args : NArgs) → AreFormedArgs args → IsSubstitutionFormed (with_arguments args unchanged)
arguments_formed args w = with_arguments_formed args unchanged w unchanged_formed

pub expression_at : (args : NArgs) (e : NExpr) → AreFormedArgs args → IsFormedExpr e → IsFormedExpr (replaced (with_arguments args unchanged) e)
expression_at args e w v = expression_replaced (with_arguments args unchanged) (arguments_formed args w) e v
