-- What is said of every name of an expression, and of every name of a piece that is put in for its innermost variable, is said of every name of what comes out.
use Rattle.std.proofs.Common.{ℕ, zero, suc, refl}
use Rattle.fc_model.specs.Nameless.{NTVar, NCo, NExpr, NArg, NATerm, NAType, NACo}
use Rattle.fc_model.specs.Replacing.{Renaming, coercion_before, coercion_variables, expressions, past_a_coercion, past_a_join, past_a_type, past_a_value, renamed, renamed_coercion}
use Rattle.fc_model.specs.Replacing.{replaced, unchanged, value_before, variables, whole_coercions, with_argument}
use Rattle.fc_model.specs.Substituting.{type_before}
use Rattle.fc_used_words.specs.Scoped.{Counts, HoldsArg, HoldsCo, HoldsExpr, HoldsTy, Saying, in_coercion, in_join, in_type, in_value}
use Rattle.fc_resolved_names.proofs.Obeying.{Goes}
use Rattle.fc_named_subst.proofs.PutIn.{ProveWell, Replaces, StandWell, co_alike, co_kept, expr_kept}

-- the binders around an expression in which such a piece stands for the innermost variable
abbrev pub in_argument : NArg → Counts → Counts
in_argument (NATerm e) k = in_value k
in_argument (NAType t) k = in_type k
in_argument (NACo g) k = in_coercion k

module _ {P : Saying} (goes : Goes P) where
  -- VARIABLES IN PLACE OF VARIABLES

  abbrev CoercionAt : Counts → ℕ → Type 0
  CoercionAt k i = P.coercion_at k.coercions i

  abbrev ValueAt : Counts → ℕ → Type 0
  ValueAt k i = P.value_at k.values i

  coercions_well : ProveWell P coercion_variables CoercionAt
  coercions_well = record {
    coercion = λ k i h. h;
    innermost = λ k. goes.coercion_here k.coercions;
    past_type = λ k i h. h;
    past_coercion = λ k i h. goes.coercion_past k.coercions i h;
    in_value = λ k i h. h;
    in_join = λ k i h. h;
  }

  values_well : StandWell P variables ValueAt
  values_well = record {
    expression = λ k i h. h;
    innermost = λ k. goes.value_here k.values;
    past_type = λ k i h. h;
    past_coercion = λ k i h. h;
    past_value = λ k i h. goes.value_past k.values i h;
    past_join = λ k i h. h;
  }

  expr_renamed : (e : NExpr) (k l : Counts) (r : Renaming) → Replaces P ValueAt CoercionAt k l r → HoldsExpr P k e → HoldsExpr P l (renamed r e)
  expr_renamed e k l r f h = expr_kept goes values_well coercions_well e k l r f h

  past_type : (k : Counts) (e : NExpr) → HoldsExpr P k e → HoldsExpr P (in_type k) (renamed past_a_type e)
  past_type k e h = expr_renamed e k (in_type k) past_a_type (record {
    types = record { at = λ i a. goes.type_past k.types i a };
    coercions = record { at = λ i a. a };
    values = record { at = λ i a. a };
    joins = record { at = λ i a. a };
  }) h

  past_coercion : (k : Counts) (e : NExpr) → HoldsExpr P k e → HoldsExpr P (in_coercion k) (renamed past_a_coercion e)
  past_coercion k e h = expr_renamed e k (in_coercion k) past_a_coercion (record {
    types = record { at = λ i a. a };
    coercions = record { at = λ i a. goes.coercion_past k.coercions i a };
    values = record { at = λ i a. a };
    joins = record { at = λ i a. a };
  }) h

  past_value : (k : Counts) (e : NExpr) → HoldsExpr P k e → HoldsExpr P (in_value k) (renamed past_a_value e)
  past_value k e h = expr_renamed e k (in_value k) past_a_value (record {
    types = record { at = λ i a. a };
    coercions = record { at = λ i a. a };
    values = record { at = λ i a. goes.value_past k.values i a };
    joins = record { at = λ i a. a };
  }) h

  past_join : (k : Counts) (e : NExpr) → HoldsExpr P k e → HoldsExpr P (in_join k) (renamed past_a_join e)
  past_join k e h = expr_renamed e k (in_join k) past_a_join (record {
    types = record { at = λ i a. a };
    coercions = record { at = λ i a. a };
    values = record { at = λ i a. a };
    joins = record { at = λ i a. goes.join_past k.joins i a };
  }) h

  co_past_type : (k : Counts) (g : NCo) → HoldsCo P k g → HoldsCo P (in_type k) (renamed_coercion (λ i. NTVar (suc i)) (λ i. i) g)
  co_past_type k g h =
      co_kept goes coercions_well g k (in_type k) (λ i. NTVar (suc i)) (λ i. i) (record { at = λ i a. goes.type_past k.types i a }) (record { at = λ i a. a }) h

  co_past_coercion : (k : Counts) (g : NCo) → HoldsCo P k g → HoldsCo P (in_coercion k) (renamed_coercion (λ i. NTVar i) (λ i. suc i) g)
  co_past_coercion k g h =
      co_kept goes coercions_well g k (in_coercion k) (λ i. NTVar i) (λ i. suc i) (record { at = λ i a. a }) (record { at = λ i a. goes.coercion_past k.coercions i a }) h

  -- EXPRESSIONS IN PLACE OF VARIABLES

  abbrev CoercionHolds : Counts → NCo → Type 0
  CoercionHolds k g = HoldsCo P k g

  abbrev ExpressionHolds : Counts → NExpr → Type 0
  ExpressionHolds k e = HoldsExpr P k e

  whole_coercions_well : ProveWell P whole_coercions CoercionHolds
  whole_coercions_well = record {
    coercion = λ k g h. h;
    innermost = λ k. goes.coercion_here k.coercions;
    past_type = co_past_type;
    past_coercion = co_past_coercion;
    in_value = λ k g h. co_alike P g k (in_value k) (record { types = record { types = refl }; coercions = refl }) h;
    in_join = λ k g h. co_alike P g k (in_join k) (record { types = record { types = refl }; coercions = refl }) h;
  }

  expressions_well : StandWell P expressions ExpressionHolds
  expressions_well = record {
    expression = λ k e h. h;
    innermost = λ k. goes.value_here k.values;
    past_type = past_type;
    past_coercion = past_coercion;
    past_value = past_value;
    past_join = past_join;
  }

  -- A PIECE FOR THE INNERMOST VARIABLE

  alone : (a : NArg) (k : Counts) → HoldsArg P k a → Replaces P ExpressionHolds CoercionHolds (in_argument a k) k (with_argument a unchanged)
  alone (NATerm e) k a = record {
    types = record { at = λ i h. h };
    coercions = record { at = λ i h. h };
    values = record { at = at };
    joins = record { at = λ i h. h };
  }
    where
      at : (i : ℕ) → P.value_at (suc k.values) i → HoldsExpr P k (value_before e unchanged.values i)
      at zero h = a
      at (suc i) h = goes.value_back k.values i h
  alone (NAType t) k a = record {
    types = record { at = at };
    coercions = record { at = λ i h. h };
    values = record { at = λ i h. h };
    joins = record { at = λ i h. h };
  }
    where
      at : (i : ℕ) → P.type_at (suc k.types) i → HoldsTy P k (type_before t unchanged.types i)
      at zero h = a
      at (suc i) h = goes.type_back k.types i h
  alone (NACo g) k a = record {
    types = record { at = λ i h. h };
    coercions = record { at = at };
    values = record { at = λ i h. h };
    joins = record { at = λ i h. h };
  }
    where
      at : (i : ℕ) → P.coercion_at (suc k.coercions) i → HoldsCo P k (coercion_before g unchanged.coercions i)
      at zero h = a
      at (suc i) h = goes.coercion_back k.coercions i h

  pub replaced_holds : (a : NArg) (e : NExpr) (k : Counts) → HoldsArg P k a → HoldsExpr P (in_argument a k) e → HoldsExpr P k (replaced (with_argument a unchanged) e)
  replaced_holds a e k given h = expr_kept goes expressions_well whole_coercions_well e (in_argument a k) k (with_argument a unchanged) (alone a k given) h
