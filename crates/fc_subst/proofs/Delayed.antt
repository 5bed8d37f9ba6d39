-- Renamings and replacements one after the other, and one argument put in after a replacement below its binder.
use Rattle.std.proofs.Common.{◌≡◌, ℕ, zero, suc, ◌+◌, refl, sym, ap, ◌∙◌}
use Rattle.fc_syntax.specs.Tree.{Kind}
use Rattle.fc_syntax.specs.declared.ty.Role.{Role}
use Rattle.fc_model.specs.Nameless.{NTy, NTVar, NCo, NGVar, NBType, NBCo, NArg, NATerm, NAType, NACo, NArgs, NoNArgs, NAlts, NoNAlts, NExpr, NLocal, NApp, NCase, NCast, NJump}
use Rattle.fc_model.specs.Replacing.{Renaming, Substitution, below_binder, below_joins, below_values, coercion_before, coercion_variables, coercions_below, expressions}
use Rattle.fc_model.specs.Replacing.{past_a_coercion, past_a_join, past_a_type, past_a_value, put_in_alts, put_in_arg, put_in_args, renamed, renamed_coercion, replaced, replaced_coercion, themselves, unchanged, value_before, values_below}
use Rattle.fc_model.specs.Replacing.{variables, whole_coercions, with_argument}
use Rattle.fc_model.specs.Substituting.{renaming_below, shifted_type, substituted_type, type_before, types_below}
use Rattle.fc_model.proofs.RenamedItself.{itself}
use Rattle.fc_model.proofs.Substitutions.{renamed_is_substituted, types_for_renamed, variables_for_themselves}
use Rattle.fc_subst.proofs.Composed.{Composing, Composed, again, arg_again, coercion_again}

abbrev each_type : ℕ → NTy
each_type i = NTVar i

abbrev next_type : ℕ → NTy
next_type i = NTVar (suc i)

abbrev each : ℕ → ℕ
each i = i

abbrev next : ℕ → ℕ
next i = suc i

past_type_is_shifted : (t : NTy) → substituted_type next_type t ≡ shifted_type t
past_type_is_shifted t = sym (renamed_is_substituted next t)

-- A RENAMING AND THEN A RENAMING

pub renamings : Composing variables coercion_variables variables coercion_variables variables coercion_variables
renamings = record {
  innermost_proof = λ s r. refl;
  proof_past_type = λ s r w u h. h;
  proof_past_coercion = λ s r w u h. ap (renamed_coercion each_type next) h;
  innermost = λ r. refl;
  past_value = λ r v z h. ap (renamed past_a_value) h;
  past_type = λ k r v z h. h;
  past_coercion = λ o t u r v z h. h;
  past_join = λ r v z h. h;
}

-- A RENAMING AND THEN A RENAMING, AS A REPLACEMENT

pub as_replacement : Composing variables coercion_variables variables coercion_variables expressions whole_coercions
as_replacement = record {
  innermost_proof = λ s r. refl;
  proof_past_type = λ s r w u h. ap whole_coercions.past_type h;
  proof_past_coercion = λ s r w u h. ap whole_coercions.past_coercion h;
  innermost = λ r. refl;
  past_value = λ r v z h. ap (renamed past_a_value) h;
  past_type = λ k r v z h. ap (renamed past_a_type) h;
  past_coercion = λ o t u r v z h. ap (renamed past_a_coercion) h;
  past_join = λ r v z h. ap (renamed past_a_join) h;
}

-- A RENAMING AND THEN A REPLACEMENT

pub replaced_renamed : Composing variables coercion_variables expressions whole_coercions expressions whole_coercions
replaced_renamed = record {
  innermost_proof = λ s r. refl;
  proof_past_type = λ s r w u h. ap whole_coercions.past_type h;
  proof_past_coercion = λ s r w u h. ap whole_coercions.past_coercion h;
  innermost = λ r. refl;
  past_value = λ r v z h. ap (renamed past_a_value) h;
  past_type = λ k r v z h. ap (renamed past_a_type) h;
  past_coercion = λ o t u r v z h. ap (renamed past_a_coercion) h;
  past_join = λ r v z h. ap (renamed past_a_join) h;
}

-- A REPLACEMENT AND THEN A RENAMING

renamed_proof_past_type : (s : ℕ → NTy) (r : ℕ → ℕ) (g : NCo)
    → renamed_coercion (types_below s) r (renamed_coercion next_type each g) ≡ renamed_coercion next_type each (renamed_coercion s r g)
renamed_proof_past_type s r g =
    coercion_again renamings next_type (types_below s) (λ i. shifted_type (s i)) each r r (λ i. refl) (λ i. refl) g
    ∙ sym (coercion_again renamings s next_type (λ i. shifted_type (s i)) r each r (λ i. past_type_is_shifted (s i)) (λ i. refl) g)

renamed_proof_past_coercion : (s : ℕ → NTy) (r : ℕ → ℕ) (g : NCo)
    → renamed_coercion s (coercions_below coercion_variables r) (renamed_coercion each_type next g) ≡ renamed_coercion each_type next (renamed_coercion s r g)
renamed_proof_past_coercion s r g =
    coercion_again renamings each_type s s next (coercions_below coercion_variables r) (λ i. suc (r i)) (λ i. refl) (λ i. refl) g
    ∙ sym (coercion_again renamings s each_type s r next (λ i. suc (r i)) (λ i. variables_for_themselves (s i)) (λ i. refl) g)

-- one renaming and then another, in both orders, where both ways are the same third one
two_ways : (p q r s t : Renaming) → Composed renamings p q t → Composed renamings r s t → (e : NExpr) → renamed q (renamed p e) ≡ renamed s (renamed r e)
two_ways p q r s t c d e = again renamings p q t c e ∙ sym (again renamings r s t d e)

renamed_past_type : (k : Kind) (r : Renaming) (e : NExpr) → renamed (below_binder variables coercion_variables (NBType k) r) (renamed past_a_type e) ≡ renamed past_a_type (renamed r e)
renamed_past_type k r e =
    two_ways past_a_type (below_binder variables coercion_variables (NBType k) r) r past_a_type (record { types = λ i. shifted_type (r.types i); coercions = r.coercions; values = r.values; joins = r.joins })
    (record { types = λ i. refl; coercions = λ i. refl; values = λ i. refl; joins = λ i. refl })
    (record { types = λ i. past_type_is_shifted (r.types i); coercions = λ i. refl; values = λ i. refl; joins = λ i. refl }) e

renamed_past_coercion : (o : Role) (t u : NTy) (r : Renaming) (e : NExpr)
    → renamed (below_binder variables coercion_variables (NBCo o t u) r) (renamed past_a_coercion e) ≡ renamed past_a_coercion (renamed r e)
renamed_past_coercion o t u r e =
    two_ways past_a_coercion (below_binder variables coercion_variables (NBCo o t u) r) r past_a_coercion (record { types = r.types; coercions = λ i. suc (r.coercions i); values = r.values; joins = r.joins })
    (record { types = λ i. refl; coercions = λ i. refl; values = λ i. refl; joins = λ i. refl })
    (record { types = λ i. variables_for_themselves (r.types i); coercions = λ i. refl; values = λ i. refl; joins = λ i. refl }) e

renamed_past_value : (r : Renaming) (e : NExpr) → renamed (below_values variables coercion_variables 1 r) (renamed past_a_value e) ≡ renamed past_a_value (renamed r e)
renamed_past_value r e =
    two_ways past_a_value (below_values variables coercion_variables 1 r) r past_a_value (record { types = r.types; coercions = r.coercions; values = λ i. suc (r.values i); joins = r.joins })
    (record { types = λ i. refl; coercions = λ i. refl; values = λ i. refl; joins = λ i. refl })
    (record { types = λ i. variables_for_themselves (r.types i); coercions = λ i. refl; values = λ i. refl; joins = λ i. refl }) e

renamed_past_join : (r : Renaming) (e : NExpr)
    → renamed (record { types = r.types; coercions = r.coercions; values = r.values; joins = renaming_below r.joins }) (renamed past_a_join e) ≡ renamed past_a_join (renamed r e)
renamed_past_join r e =
    two_ways past_a_join (record { types = r.types; coercions = r.coercions; values = r.values; joins = renaming_below r.joins }) r past_a_join
    (record { types = r.types; coercions = r.coercions; values = r.values; joins = λ i. suc (r.joins i) })
    (record { types = λ i. refl; coercions = λ i. refl; values = λ i. refl; joins = λ i. refl })
    (record { types = λ i. variables_for_themselves (r.types i); coercions = λ i. refl; values = λ i. refl; joins = λ i. refl }) e

pub renamed_replaced : Composing expressions whole_coercions variables coercion_variables expressions whole_coercions
renamed_replaced = record {
  innermost_proof = λ s r. refl;
  proof_past_type = λ s r w u h. renamed_proof_past_type s r w ∙ ap whole_coercions.past_type h;
  proof_past_coercion = λ s r w u h. renamed_proof_past_coercion s r w ∙ ap whole_coercions.past_coercion h;
  innermost = λ r. refl;
  past_value = λ r v z h. renamed_past_value r v ∙ ap (renamed past_a_value) h;
  past_type = λ k r v z h. renamed_past_type k r v ∙ ap (renamed past_a_type) h;
  past_coercion = λ o t u r v z h. renamed_past_coercion o t u r v ∙ ap (renamed past_a_coercion) h;
  past_join = λ r v z h. renamed_past_join r v ∙ ap (renamed past_a_join) h;
}

-- A REPLACEMENT AND THEN A REPLACEMENT

replaced_proof_past_type : (s : ℕ → NTy) (r : ℕ → NCo) (g : NCo)
    → replaced_coercion (types_below s) (λ i. whole_coercions.past_type (r i)) (renamed_coercion next_type each g) ≡ renamed_coercion next_type each (replaced_coercion s r g)
replaced_proof_past_type s r g =
    coercion_again replaced_renamed next_type (types_below s) (λ i. shifted_type (s i)) each (λ i. whole_coercions.past_type (r i)) (λ i. whole_coercions.past_type (r i)) (λ i. refl) (λ i. refl) g
    ∙ sym (coercion_again renamed_replaced s next_type (λ i. shifted_type (s i)) r each (λ i. whole_coercions.past_type (r i)) (λ i. past_type_is_shifted (s i)) (λ i. refl) g)

replaced_proof_past_coercion : (s : ℕ → NTy) (r : ℕ → NCo) (g : NCo)
    → replaced_coercion s (coercions_below whole_coercions r) (renamed_coercion each_type next g) ≡ renamed_coercion each_type next (replaced_coercion s r g)
replaced_proof_past_coercion s r g =
    coercion_again replaced_renamed each_type s s next (coercions_below whole_coercions r) (λ i. whole_coercions.past_coercion (r i)) (λ i. refl) (λ i. refl) g
    ∙ sym (coercion_again renamed_replaced s each_type s r next (λ i. whole_coercions.past_coercion (r i)) (λ i. variables_for_themselves (s i)) (λ i. refl) g)

-- past a binder and then below it is the other way round
two_orders : (p : Renaming) (q s : Substitution) (r : Renaming) (t : Substitution) → Composed replaced_renamed p q t → Composed renamed_replaced s r t
    → (e : NExpr) → replaced q (renamed p e) ≡ renamed r (replaced s e)
two_orders p q s r t c d e = again replaced_renamed p q t c e ∙ sym (again renamed_replaced s r t d e)

replaced_past_type : (k : Kind) (r : Substitution) (e : NExpr) → replaced (below_binder expressions whole_coercions (NBType k) r) (renamed past_a_type e) ≡ renamed past_a_type (replaced r e)
replaced_past_type k r e =
    two_orders past_a_type (below_binder expressions whole_coercions (NBType k) r) r past_a_type
    (record { types = λ i. shifted_type (r.types i); coercions = λ i. whole_coercions.past_type (r.coercions i); values = λ i. renamed past_a_type (r.values i); joins = r.joins })
    (record { types = λ i. refl; coercions = λ i. refl; values = λ i. refl; joins = λ i. refl })
    (record { types = λ i. past_type_is_shifted (r.types i); coercions = λ i. refl; values = λ i. refl; joins = λ i. refl }) e

replaced_past_coercion : (o : Role) (t u : NTy) (r : Substitution) (e : NExpr)
    → replaced (below_binder expressions whole_coercions (NBCo o t u) r) (renamed past_a_coercion e) ≡ renamed past_a_coercion (replaced r e)
replaced_past_coercion o t u r e =
    two_orders past_a_coercion (below_binder expressions whole_coercions (NBCo o t u) r) r past_a_coercion
    (record { types = r.types; coercions = λ i. whole_coercions.past_coercion (r.coercions i); values = λ i. renamed past_a_coercion (r.values i); joins = r.joins })
    (record { types = λ i. refl; coercions = λ i. refl; values = λ i. refl; joins = λ i. refl })
    (record { types = λ i. variables_for_themselves (r.types i); coercions = λ i. refl; values = λ i. refl; joins = λ i. refl }) e

-- a coercion with each variable in place of itself
abbrev the_coercion : NExpr → NCo
the_coercion (NCast e g) = g
the_coercion _ = NGVar 0

pub renamed_proof_itself : (g : NCo) → renamed_coercion each_type each g ≡ g
renamed_proof_itself g = ap the_coercion (itself (NCast (NLocal 0) g))

replaced_past_value : (r : Substitution) (e : NExpr) → replaced (below_values expressions whole_coercions 1 r) (renamed past_a_value e) ≡ renamed past_a_value (replaced r e)
replaced_past_value r e =
    two_orders past_a_value (below_values expressions whole_coercions 1 r) r past_a_value
    (record { types = r.types; coercions = r.coercions; values = λ i. renamed past_a_value (r.values i); joins = r.joins })
    (record { types = λ i. refl; coercions = λ i. refl; values = λ i. refl; joins = λ i. refl })
    (record { types = λ i. variables_for_themselves (r.types i); coercions = λ i. renamed_proof_itself (r.coercions i); values = λ i. refl; joins = λ i. refl }) e

replaced_past_join : (r : Substitution) (e : NExpr) → replaced (below_joins expressions whole_coercions 1 r) (renamed past_a_join e) ≡ renamed past_a_join (replaced r e)
replaced_past_join r e =
    two_orders past_a_join (below_joins expressions whole_coercions 1 r) r past_a_join
    (record { types = r.types; coercions = r.coercions; values = λ i. renamed past_a_join (r.values i); joins = λ i. suc (r.joins i) })
    (record { types = λ i. refl; coercions = λ i. refl; values = λ i. refl; joins = λ i. refl })
    (record { types = λ i. variables_for_themselves (r.types i); coercions = λ i. renamed_proof_itself (r.coercions i); values = λ i. refl; joins = λ i. refl }) e

pub replaced_replaced : Composing expressions whole_coercions expressions whole_coercions expressions whole_coercions
replaced_replaced = record {
  innermost_proof = λ s r. refl;
  proof_past_type = λ s r w u h. replaced_proof_past_type s r w ∙ ap whole_coercions.past_type h;
  proof_past_coercion = λ s r w u h. replaced_proof_past_coercion s r w ∙ ap whole_coercions.past_coercion h;
  innermost = λ r. refl;
  past_value = λ r v z h. replaced_past_value r v ∙ ap (renamed past_a_value) h;
  past_type = λ k r v z h. replaced_past_type k r v ∙ ap (renamed past_a_type) h;
  past_coercion = λ o t u r v z h. replaced_past_coercion o t u r v ∙ ap (renamed past_a_coercion) h;
  past_join = λ r v z h. replaced_past_join r v ∙ ap (renamed past_a_join) h;
}

-- EACH VARIABLE ITSELF

pub unchanged_itself : (e : NExpr) → replaced unchanged e ≡ e
unchanged_itself e =
    sym (again as_replacement themselves themselves unchanged (record { types = λ i. refl; coercions = λ i. refl; values = λ i. refl; joins = λ i. refl }) e)
    ∙ itself (renamed themselves e) ∙ itself e

unchanged_proof_itself : (g : NCo) → replaced_coercion each_type (λ i. NGVar i) g ≡ g
unchanged_proof_itself g = ap the_coercion (unchanged_itself (NCast (NLocal 0) g))

-- ONE ARGUMENT, AFTER A REPLACEMENT BELOW ITS BINDER

-- What was replaced below a binder, with an argument for that binder, is what is replaced with the argument at once: so a substitution may wait.
pub value_delayed : (a : NExpr) (r : Substitution) (e : NExpr)
    → replaced (with_argument (NATerm a) unchanged) (replaced (below_values expressions whole_coercions 1 r) e) ≡ replaced (with_argument (NATerm a) r) e
value_delayed a r e = again replaced_replaced (below_values expressions whole_coercions 1 r) (with_argument (NATerm a) unchanged) (with_argument (NATerm a) r) (record {
  types = λ i. variables_for_themselves (r.types i);
  coercions = λ i. unchanged_proof_itself (r.coercions i);
  values = here;
  joins = λ i. refl;
}) e
  where
    here : (i : ℕ) → replaced (with_argument (NATerm a) unchanged) (values_below expressions whole_coercions r.values i) ≡ value_before a r.values i
    here zero = refl
    here (suc i) =
        again replaced_renamed past_a_value (with_argument (NATerm a) unchanged) unchanged (record { types = λ i. refl; coercions = λ i. refl; values = λ i. refl; joins = λ i. refl }) (r.values i)
        ∙ unchanged_itself (r.values i)

pub type_delayed : (k : Kind) (u : NTy) (r : Substitution) (e : NExpr)
    → replaced (with_argument (NAType u) unchanged) (replaced (below_binder expressions whole_coercions (NBType k) r) e) ≡ replaced (with_argument (NAType u) r) e
type_delayed k u r e = again replaced_replaced (below_binder expressions whole_coercions (NBType k) r) (with_argument (NAType u) unchanged) (with_argument (NAType u) r) (record {
  types = here;
  coercions = λ i.
      coercion_again replaced_renamed next_type (type_before u each_type) each_type each (λ i. NGVar i) (λ i. NGVar i) (λ i. refl) (λ i. refl) (r.coercions i)
      ∙ unchanged_proof_itself (r.coercions i);
  values = λ i.
      again replaced_renamed past_a_type (with_argument (NAType u) unchanged) unchanged (record { types = λ i. refl; coercions = λ i. refl; values = λ i. refl; joins = λ i. refl }) (r.values i)
      ∙ unchanged_itself (r.values i);
  joins = λ i. refl;
}) e
  where
    here : (i : ℕ) → substituted_type (type_before u each_type) (types_below r.types i) ≡ type_before u r.types i
    here zero = refl
    here (suc i) = types_for_renamed next (type_before u each_type) (r.types i) ∙ variables_for_themselves (r.types i)

pub coercion_delayed : (o : Role) (t u : NTy) (g : NCo) (r : Substitution) (e : NExpr)
    → replaced (with_argument (NACo g) unchanged) (replaced (below_binder expressions whole_coercions (NBCo o t u) r) e) ≡ replaced (with_argument (NACo g) r) e
coercion_delayed o t u g r e = again replaced_replaced (below_binder expressions whole_coercions (NBCo o t u) r) (with_argument (NACo g) unchanged) (with_argument (NACo g) r) (record {
  types = λ i. variables_for_themselves (r.types i);
  coercions = here;
  values = λ i.
      again replaced_renamed past_a_coercion (with_argument (NACo g) unchanged) unchanged (record { types = λ i. refl; coercions = λ i. refl; values = λ i. refl; joins = λ i. refl }) (r.values i)
      ∙ unchanged_itself (r.values i);
  joins = λ i. refl;
}) e
  where
    here : (i : ℕ) → replaced_coercion each_type (coercion_before g (λ i. NGVar i)) (coercions_below whole_coercions r.coercions i) ≡ coercion_before g r.coercions i
    here zero = refl
    here (suc i) =
        coercion_again replaced_renamed each_type each_type each_type next (coercion_before g (λ i. NGVar i)) (λ i. NGVar i) (λ i. refl) (λ i. refl) (r.coercions i)
        ∙ unchanged_proof_itself (r.coercions i)

-- AN ARGUMENT THAT WAITS PAST BINDERS

-- past so many values
abbrev pub past_values : ℕ → Renaming
past_values m = record { types = each_type; coercions = each; values = λ i. i + m; joins = each }

-- a replacement whose results stand past so many values more
abbrev pub put_past_values : ℕ → Substitution → Substitution
put_past_values m r = record { types = r.types; coercions = r.coercions; values = λ i. renamed (past_values m) (r.values i); joins = r.joins }

pub argument_delayed : (m : ℕ) (r : Substitution) (a : NArg)
    → put_in_arg variables coercion_variables (past_values m) (put_in_arg expressions whole_coercions r a) ≡ put_in_arg expressions whole_coercions (put_past_values m r) a
argument_delayed m r a = arg_again renamed_replaced r (past_values m) (put_past_values m r) (record {
  types = λ i. variables_for_themselves (r.types i);
  coercions = λ i. renamed_proof_itself (r.coercions i);
  values = λ i. refl;
  joins = λ i. refl;
}) a

-- A RENAMING AS WHAT IS PUT IN

-- what is put in for each variable is the variable that a renaming has for it
pub record IsPut (r : Renaming) (s : Substitution) : Type 0 where
  pub types : (i : ℕ) → s.types i ≡ r.types i
  pub coercions : (i : ℕ) → s.coercions i ≡ NGVar (r.coercions i)
  pub values : (i : ℕ) → s.values i ≡ NLocal (r.values i)
  pub joins : (i : ℕ) → s.joins i ≡ r.joins i

abbrev the_arguments : NExpr → NArgs
the_arguments (NJump i args) = args
the_arguments _ = NoNArgs

abbrev the_argument : NExpr → NArg
the_argument (NApp f a) = a
the_argument _ = NATerm (NLocal 0)

abbrev the_alternatives : NExpr → NAlts
the_alternatives (NCase e t u alts) = alts
the_alternatives _ = NoNAlts

module _ (r : Renaming) (s : Substitution) (put : IsPut r s) where
  pub renaming_is_put : (e : NExpr) → renamed r e ≡ replaced s e
  renaming_is_put e = sym (itself (renamed r e)) ∙ again as_replacement r themselves s (record {
    types = λ i. variables_for_themselves (r.types i) ∙ sym (put.types i);
    coercions = λ i. sym (put.coercions i);
    values = λ i. sym (put.values i);
    joins = λ i. sym (put.joins i);
  }) e

  pub argument_is_put : (a : NArg) → put_in_arg variables coercion_variables r a ≡ put_in_arg expressions whole_coercions s a
  argument_is_put a = ap the_argument (renaming_is_put (NApp (NLocal 0) a))

  pub arguments_are_put : (args : NArgs) → put_in_args variables coercion_variables r args ≡ put_in_args expressions whole_coercions s args
  arguments_are_put args = ap the_arguments (renaming_is_put (NJump 0 args))

  pub alternatives_are_put : (alts : NAlts) → put_in_alts variables coercion_variables (below_values variables coercion_variables 1 r) alts ≡ put_in_alts expressions whole_coercions (below_values expressions whole_coercions 1 s) alts
  alternatives_are_put alts = ap the_alternatives (renaming_is_put (NCase (NLocal 0) (NTVar 0) (NTVar 0) alts))
