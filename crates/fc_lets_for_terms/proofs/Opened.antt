-- Arguments put in for binders around what goes past others, as what is put in at once.
use Rattle.std.proofs.Common.{◌≡◌, ℕ, zero, suc, true, List, [], ◌∷◌, refl, ◌∙◌}
use Rattle.fc_syntax.specs.Tree.{Kind}
use Rattle.fc_syntax.specs.declared.ty.Role.{Role}
use Rattle.fc_model.specs.Nameless.{NTy, NCo, NBinder, NBValue, NBType, NBCo, NATerm, NAType, NACo, NArgs, NoNArgs, MoreNArgs, NExpr}
use Rattle.fc_model.specs.Replacing.{Renaming, Substitution, below_binder, below_binders, coercion_before, coercion_variables, coercions_below, renamed, replaced, replaced_binders}
use Rattle.fc_model.specs.Replacing.{types_behind, value_before, values_below, variables, with_argument, with_arguments}
use Rattle.fc_model.specs.Substituting.{substituted_type, type_before, types_below}
use Rattle.fc_model.proofs.Substitutions.{types_for_renamed}
use Rattle.fc_rows.specs.Shrinking.{named_arguments, pair_with}
use Rattle.fc_subst.proofs.Composed.{Composed, again}
use Rattle.fc_subst.proofs.Delayed.{replaced_renamed}

-- WHAT PAIRS WITH BINDERS

-- arguments by the variables of lets pair with the same binders
pub pair_named : (bs : List NBinder) (args : NArgs) → pair_with bs (named_arguments args) ≡ pair_with bs args
pair_named [] (MoreNArgs (NATerm e) rest) = refl
pair_named (NBValue t ∷ bs) (MoreNArgs (NATerm e) rest) = pair_named bs rest
pair_named (NBType k ∷ bs) (MoreNArgs (NAType u) rest) = pair_named bs rest
pair_named (NBCo r t u ∷ bs) (MoreNArgs (NACo g) rest) = pair_named bs rest
pair_named _ _ = refl

-- the same arguments pair with binders whose types are replaced
pub pair_replaced : (s : ℕ → NTy) (bs : List NBinder) (args : NArgs) → pair_with (replaced_binders s bs) args ≡ pair_with bs args
pair_replaced s (NBValue t ∷ bs) (MoreNArgs (NATerm e) rest) = pair_replaced (types_behind (NBValue t) s) bs rest
pair_replaced s (NBType k ∷ bs) (MoreNArgs (NAType u) rest) = pair_replaced (types_behind (NBType k) s) bs rest
pair_replaced s (NBCo r t u ∷ bs) (MoreNArgs (NACo g) rest) = pair_replaced (types_behind (NBCo r t u) s) bs rest
pair_replaced s _ _ = refl

-- A BINDER AND ITS ARGUMENT

-- the last is the first, and then the second
abbrev Both : Renaming → Substitution → Substitution → Type 0
Both p q t = Composed replaced_renamed p q t

abbrev below : NBinder → Renaming → Renaming
below b p = below_binder variables coercion_variables b p

with_value : (u : NTy) (e : NExpr) (p : Renaming) (q t : Substitution) → Both p q t → Both (below (NBValue u) p) (with_argument (NATerm e) q) (with_argument (NATerm e) t)
with_value u e p q t both = record { types = both.types; coercions = both.coercions; values = here; joins = both.joins }
  where
    here : (i : ℕ) → value_before e q.values (values_below variables coercion_variables p.values i) ≡ value_before e t.values i
    here zero = refl
    here (suc i) = both.values i

with_type : (k : Kind) (u : NTy) (p : Renaming) (q t : Substitution) → Both p q t → Both (below (NBType k) p) (with_argument (NAType u) q) (with_argument (NAType u) t)
with_type k u p q t both = record { types = here; coercions = both.coercions; values = both.values; joins = both.joins }
  where
    here : (i : ℕ) → substituted_type (type_before u q.types) (types_below p.types i) ≡ type_before u t.types i
    here zero = refl
    here (suc i) = types_for_renamed (λ j. suc j) (type_before u q.types) (p.types i) ∙ both.types i

with_coercion : (o : Role) (v w : NTy) (g : NCo) (p : Renaming) (q t : Substitution) → Both p q t → Both (below (NBCo o v w) p) (with_argument (NACo g) q) (with_argument (NACo g) t)
with_coercion o v w g p q t both = record { types = both.types; coercions = here; values = both.values; joins = both.joins }
  where
    here : (i : ℕ) → coercion_before g q.coercions (coercions_below coercion_variables p.coercions i) ≡ coercion_before g t.coercions i
    here zero = refl
    here (suc i) = both.coercions i

-- SEVERAL

-- binders and their arguments
with_all : (bs : List NBinder) (args : NArgs) (p : Renaming) (q t : Substitution) → pair_with bs args ≡ true → Both p q t
    → Both (below_binders variables coercion_variables bs p) (with_arguments args q) (with_arguments args t)
with_all [] NoNArgs p q t same both = record { types = both.types; coercions = both.coercions; values = both.values; joins = both.joins }
with_all (NBValue u ∷ bs) (MoreNArgs (NATerm e) rest) p q t same both =
    with_all bs rest (below (NBValue u) p) (with_argument (NATerm e) q) (with_argument (NATerm e) t) same (with_value u e p q t both)
with_all (NBType k ∷ bs) (MoreNArgs (NAType u) rest) p q t same both =
    with_all bs rest (below (NBType k) p) (with_argument (NAType u) q) (with_argument (NAType u) t) same (with_type k u p q t both)
with_all (NBCo o v w ∷ bs) (MoreNArgs (NACo g) rest) p q t same both =
    with_all bs rest (below (NBCo o v w) p) (with_argument (NACo g) q) (with_argument (NACo g) t) same (with_coercion o v w g p q t both)
with_all _ _ p q t same both = cc

-- an expression behind binders that goes past others, with arguments for the binders
pub put_at_once : (bs : List NBinder) (args : NArgs) (p : Renaming) (q t : Substitution) → pair_with bs args ≡ true → Both p q t → (e : NExpr)
    → replaced (with_arguments args q) (renamed (below_binders variables coercion_variables bs p) e) ≡ replaced (with_arguments args t) e
put_at_once bs args p q t same both e =
    again replaced_renamed (below_binders variables coercion_variables bs p) (with_arguments args q) (with_arguments args t) (with_all bs args p q t same both) e
