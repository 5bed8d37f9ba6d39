-- Erasure commutes with variables, and with expressions, in place of variables.
use Rattle.std.proofs.Common.{◌≡◌, ℕ, suc, refl, sym, ap, ◌∙◌}
use Rattle.fc_model.specs.Erasure.{Scope, sort_of, below_value, below_unnamed, below_join}
use Rattle.fc_model.specs.Erasure.{erased}
use Rattle.fc_model.specs.Nameless.{NExpr}
use Rattle.fc_model.specs.Replacing.{variables, coercion_variables, Renaming, renamed, themselves, past_a_type, past_a_coercion, past_a_value, past_a_join, expressions, whole_coercions, Substitution}
use Rattle.fc_model.specs.Replacing.{replaced}
use Rattle.fc_model.specs.Terms.{Sort, Term, Var}
use Rattle.fc_model.specs.Terms.{ren, shift, sub, upr}
use Rattle.fc_model.proofs.RenamedItself.{itself}
use Rattle.fc_meaning.proofs.Unnamed.{sub-ren, sub-var}
use Rattle.fc_meaning.proofs.WrittenExpressions.{IsWritten}
use Rattle.fc_erased.specs.Erasing.{Erases}
use Rattle.fc_erased.specs.ErasureLaws.{AnyVariable}
use Rattle.fc_erased.proofs.ErasedPut.{erased_put, sort_put}
use Rattle.fc_erased.proofs.KeptErasures.{IsKept}
use Rattle.fc_erased.proofs.WrittenPut.{written_put}

-- VARIABLES IN PLACE OF VARIABLES

pub kept_variables : IsKept variables AnyVariable
unfolding shift ren upr
kept_variables = record {
  written = λ v g. tt;
  good_innermost = tt;
  good_type = λ v g. tt;
  good_coercion = λ v g. tt;
  good_value = λ v g. tt;
  good_join = λ v g. tt;
  unnamed = λ c v g. refl;
  past_type = λ c v g. refl;
  past_coercion = λ c v g. refl;
  past_value = λ s c v g. refl;
  past_join = λ c v g. refl;
  innermost = λ s c. refl;
  sort_unnamed = λ c v. refl;
  sort_type = λ c v. refl;
  sort_coercion = λ c v. refl;
  sort_value = λ s c v. refl;
  sort_join = λ c v. refl;
  sort_innermost = λ s c. refl;
}

pub erased_renamed : (c d : Scope) (r : Renaming) (p : ℕ → Term) → Erases variables AnyVariable c d r p → (e : NExpr) → IsWritten e → erased c (renamed r e) ≡ sub p (erased d e)
erased_renamed = erased_put variables coercion_variables AnyVariable kept_variables

pub sort_renamed : (c d : Scope) (r : Renaming) (p : ℕ → Term) → Erases variables AnyVariable c d r p → (e : NExpr) → sort_of c (renamed r e) ≡ sort_of d e
sort_renamed = sort_put variables coercion_variables AnyVariable kept_variables

pub written_renamed : (r : Renaming) (e : NExpr) → IsWritten e → IsWritten (renamed r e)
written_renamed r e = written_put variables coercion_variables AnyVariable kept_variables r (λ i. tt) e

-- EXPRESSIONS IN PLACE OF VARIABLES

-- each variable stands one binder further in
abbrev pub one_more : ℕ → Term
one_more n = Var (suc n)

pub sub_shift : (t : Term) → sub one_more t ≡ shift t
unfolding shift
sub_shift t = sym (sub-ren Var suc t) ∙ sub-var (ren suc t)

pub past_type_erases : (c : Scope) → Erases variables AnyVariable c c past_a_type Var
past_type_erases c = record { good = λ i. tt; values = λ i. refl; sorts = λ i. refl; joins = λ i. refl; types = λ i. refl }

pub past_coercion_erases : (c : Scope) → Erases variables AnyVariable (below_unnamed c) c past_a_coercion one_more
past_coercion_erases c = record { good = λ i. tt; values = λ i. refl; sorts = λ i. refl; joins = λ i. refl; types = λ i. refl }

pub past_value_erases : (s : Sort) (c : Scope) → Erases variables AnyVariable (below_value s c) c past_a_value one_more
unfolding upr
past_value_erases s c = record { good = λ i. tt; values = λ i. refl; sorts = λ i. refl; joins = λ i. refl; types = λ i. refl }

pub past_join_erases : (c : Scope) → Erases variables AnyVariable (below_join c) c past_a_join one_more
unfolding upr
past_join_erases c = record { good = λ i. tt; values = λ i. refl; sorts = λ i. refl; joins = λ i. refl; types = λ i. refl }

pub past_unnamed_erases : (c : Scope) → Erases variables AnyVariable (below_unnamed c) c themselves one_more
past_unnamed_erases c = record { good = λ i. tt; values = λ i. refl; sorts = λ i. refl; joins = λ i. refl; types = λ i. refl }

pub erased_past_value : (s : Sort) (c : Scope) (e : NExpr) → IsWritten e → erased (below_value s c) (renamed past_a_value e) ≡ shift (erased c e)
erased_past_value s c e w = erased_renamed (below_value s c) c past_a_value one_more (past_value_erases s c) e w ∙ sub_shift (erased c e)

pub erased_past_unnamed : (c : Scope) (e : NExpr) → IsWritten e → erased (below_unnamed c) e ≡ shift (erased c e)
erased_past_unnamed c e w =
    ap (erased (below_unnamed c)) (sym (itself e)) ∙ erased_renamed (below_unnamed c) c themselves one_more (past_unnamed_erases c) e w ∙ sub_shift (erased c e)

pub erased_past_join : (c : Scope) (e : NExpr) → IsWritten e → erased (below_join c) (renamed past_a_join e) ≡ shift (erased c e)
erased_past_join c e w = erased_renamed (below_join c) c past_a_join one_more (past_join_erases c) e w ∙ sub_shift (erased c e)

pub kept_expressions : IsKept expressions IsWritten
unfolding upr
kept_expressions = record {
  written = λ v g. g;
  good_innermost = tt;
  good_type = λ v g. written_renamed past_a_type v g;
  good_coercion = λ v g. written_renamed past_a_coercion v g;
  good_value = λ v g. written_renamed past_a_value v g;
  good_join = λ v g. written_renamed past_a_join v g;
  unnamed = erased_past_unnamed;
  past_type = λ c v g. erased_renamed c c past_a_type Var (past_type_erases c) v g ∙ sub-var (erased c v);
  past_coercion = λ c v g. erased_renamed (below_unnamed c) c past_a_coercion one_more (past_coercion_erases c) v g ∙ sub_shift (erased c v);
  past_value = erased_past_value;
  past_join = erased_past_join;
  innermost = λ s c. refl;
  sort_unnamed = λ c v. ap (sort_of (below_unnamed c)) (sym (itself v)) ∙ sort_renamed (below_unnamed c) c themselves one_more (past_unnamed_erases c) v;
  sort_type = λ c v. sort_renamed c c past_a_type Var (past_type_erases c) v;
  sort_coercion = λ c v. sort_renamed (below_unnamed c) c past_a_coercion one_more (past_coercion_erases c) v;
  sort_value = λ s c v. sort_renamed (below_value s c) c past_a_value one_more (past_value_erases s c) v;
  sort_join = λ c v. sort_renamed (below_join c) c past_a_join one_more (past_join_erases c) v;
  sort_innermost = λ s c. refl;
}

-- erasure commutes with putting in whole expressions
pub erased_replaced : (c d : Scope) (r : Substitution) (p : ℕ → Term) → Erases expressions IsWritten c d r p → (e : NExpr) → IsWritten e → erased c (replaced r e) ≡ sub p (erased d e)
erased_replaced = erased_put expressions whole_coercions IsWritten kept_expressions

pub sort_replaced : (c d : Scope) (r : Substitution) (p : ℕ → Term) → Erases expressions IsWritten c d r p → (e : NExpr) → sort_of c (replaced r e) ≡ sort_of d e
sort_replaced = sort_put expressions whole_coercions IsWritten kept_expressions

pub written_replaced : (r : Substitution) → ((i : ℕ) → IsWritten (r.values i)) → (e : NExpr) → IsWritten e → IsWritten (replaced r e)
written_replaced r g e = written_put expressions whole_coercions IsWritten kept_expressions r g e
