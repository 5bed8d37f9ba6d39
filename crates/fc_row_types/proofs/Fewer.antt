-- What does not have some variables and join points is of the same type without them.
use Rattle.std.proofs.Common.{◌≡◌, ℕ, zero, suc, ◌+◌, Bool, true, false, List, [], ◌∷◌, map, Result, Ok, Err, refl, sym, ap, ap₂, ◌∙◌}
use Rattle.fc_syntax.specs.Tree.{Kind}
use Rattle.fc_model.specs.Coercing.{Ends, shifted_ends}
use Rattle.fc_model.specs.Faulting.{F, and_then, at_distance, need, under}
use Rattle.fc_syntax.specs.declared.fault.FaultKind.TheVariants.{NotAType, ScrutineeType}
use Rattle.fc_model.specs.Kinding.{Modules, is_value_kind, kind_or_fault, same_type}
use Rattle.fc_model.specs.Nameless.{NTy, NBinder, NBValue, NBType, NBCo, NArg, NATerm, NAType, NACo, NBound, NJoined, NBranch}
use Rattle.fc_model.specs.Nameless.{NExpr, NLocal, NVar, NLit, NApp, NLam, NLet, NCase, NCast, NCon, NPrim, NFail, NJoin, NJump}
use Rattle.fc_model.specs.Nameless.{NArgs, NoNArgs, MoreNArgs, NExprs, NoNExprs, MoreNExprs, NBinds, NoNBinds, MoreNBinds, NJoins, NoNJoins, MoreNJoins, NAlts, NoNAlts, MoreNAlts}
use Rattle.fc_model.specs.Replacing.{Renaming, below_binder, below_binders, below_joins, bind_count, coercion_variables, join_count, put_in_alts, put_in_arg, put_in_args, put_in_binds, put_in_exprs, put_in_joins}
use Rattle.fc_model.specs.Replacing.{renamed, replaced_binders, times, values_behind, values_behind_all, values_below, variables}
use Rattle.fc_model.specs.Substituting.{renaming_below, shifted_type}
use Rattle.fc_model.specs.Typing.{Context, Before, Start, JoinPoint, alt_judged, alts_judged, args_given, argument_given, binds_judged, is_atom, joins_judged, operands_given, shifted_join, type_or_fault}
use Rattle.fc_model.specs.Typing.{join_point, with_binder, with_binders, with_binds, with_coercion, with_join, with_joins, with_type, with_value, without_joins}
use Rattle.fc_model.proofs.Parts.{and_then_same, both_same}
use Rattle.fc_model.proofs.RenamedItself.{all_coercions_themselves, all_types_themselves, binder_itself, binders_themselves, co_itself, coercions_themselves, each, each_type, renaming, times_same, types_themselves}
use Rattle.fc_model.proofs.Substitutions.{variables_for_themselves}
use Rattle.fc_rows.specs.declared.occurrence.Occurrence.{Occurrence}
use Rattle.fc_rows.specs.declared.occurrence.Occurrence.TheVariants.{Dead, Once, OnceAsField, OnceInside, Many}
use Rattle.fc_rows.specs.Occurrences.{Sought, and_further, as_field, below_lambda, occurrences, in_alts, in_arg, in_args, behind, behind_all}
use Rattle.fc_rows.specs.Occurrences.{behind_joins, behind_values, in_binds, in_exprs, in_field, in_fields, in_joins, dead_before, inside, is_dead}

-- COUNTS

pub and_dead : (a b : Occurrence) → is_dead (and_further a b) ≡ true → (is_dead a ≡ true) × (is_dead b ≡ true)
and_dead Dead b h = (refl, h)
and_dead Once Dead h = absurd cc
and_dead Once Once h = absurd cc
and_dead Once OnceAsField h = absurd cc
and_dead Once OnceInside h = absurd cc
and_dead Once Many h = absurd cc
and_dead OnceAsField Dead h = absurd cc
and_dead OnceAsField Once h = absurd cc
and_dead OnceAsField OnceAsField h = absurd cc
and_dead OnceAsField OnceInside h = absurd cc
and_dead OnceAsField Many h = absurd cc
and_dead OnceInside Dead h = absurd cc
and_dead OnceInside Once h = absurd cc
and_dead OnceInside OnceAsField h = absurd cc
and_dead OnceInside OnceInside h = absurd cc
and_dead OnceInside Many h = absurd cc
and_dead Many b h = absurd cc

pub inside_dead : (a : Occurrence) → is_dead (inside a) ≡ true → is_dead a ≡ true
inside_dead Dead h = refl
inside_dead Once h = h
inside_dead OnceAsField h = h
inside_dead OnceInside h = h
inside_dead Many h = h

pub lambda_dead : (b : NBinder) (a : Occurrence) → is_dead (below_lambda b a) ≡ true → is_dead a ≡ true
lambda_dead (NBValue t) a h = inside_dead a h
lambda_dead (NBType k) a h = h
lambda_dead (NBCo r t u) a h = inside_dead a h

as_field_dead : (a : Occurrence) → is_dead (as_field a) ≡ true → is_dead a ≡ true
as_field_dead Dead h = refl
as_field_dead Once h = h
as_field_dead OnceAsField h = h
as_field_dead OnceInside h = h
as_field_dead Many h = h

field_dead : (u : Sought) (a : NArg) → is_dead (in_field u a) ≡ true → is_dead (in_arg u a) ≡ true
field_dead u (NATerm (NLocal i)) h = as_field_dead (u.values i) h
field_dead u (NATerm e) h = h
field_dead u (NAType t) h = h
field_dead u (NACo g) h = h

pub fields_dead : (u : Sought) (args : NArgs) → is_dead (in_fields u args) ≡ true → is_dead (in_args u args) ≡ true
fields_dead u NoNArgs h = h
fields_dead u (MoreNArgs a rest) h =
    let p = and_dead (in_field u a) (in_fields u rest) h in
    both_dead (in_arg u a) (in_args u rest) (field_dead u a p.0) (fields_dead u rest p.1)
  where
    both_dead : (a b : Occurrence) → is_dead a ≡ true → is_dead b ≡ true → is_dead (and_further a b) ≡ true
    both_dead Dead b h k = k
    both_dead Once b h k = absurd cc
    both_dead OnceAsField b h k = absurd cc
    both_dead OnceInside b h k = absurd cc
    both_dead Many b h k = absurd cc

-- CONTEXTS

-- other variables and join points in place of those of an expression
abbrev pub moving : (ℕ → ℕ) → (ℕ → ℕ) → Renaming
moving v j = renaming each_type each v j

-- the same in both contexts, but for what counts
pub record Looks (u : Sought) (v j : ℕ → ℕ) (c d : Context) : Type 0 where
  pub kinds : d.kinds ≡ c.kinds
  pub coercions : d.coercions ≡ c.coercions
  pub values : (i : ℕ) → is_dead (u.values i) ≡ true → at_distance d.values (v i) ≡ at_distance c.values i
  pub joins : (i : ℕ) → is_dead (u.joins i) ≡ true → at_distance d.joins (j i) ≡ at_distance c.joins i

pub looks_apart : (u : Sought) (v j : ℕ → ℕ) (c d : Context) → Looks u v j c d → Looks u v j (without_joins c) (without_joins d)
looks_apart u v j c d l = record { kinds = l.kinds; coercions = l.coercions; values = l.values; joins = λ i h. refl }

pub looks_value : (u : Sought) (v j : ℕ → ℕ) (c d : Context) (t : NTy) → Looks u v j c d
    → Looks (behind_values 1 u) (values_below variables coercion_variables v) j (with_value t c) (with_value t d)
looks_value u v j c d t l = record { kinds = l.kinds; coercions = l.coercions; values = here; joins = l.joins }
  where
    here : (i : ℕ) → is_dead (dead_before u.values i) ≡ true → at_distance (t ∷ d.values) (values_below variables coercion_variables v i) ≡ at_distance (t ∷ c.values) i
    here zero h = refl
    here (suc i) h = l.values i h

abbrev result_map : {X Y : Type 0} → (X → Y) → Result X F → Result Y F
result_map f (Ok x) = Ok (f x)
result_map f (Err e) = Err e

mapped_is : {X Y : Type 0} (f : X → Y) (xs : List X) (i : ℕ) → at_distance (map f xs) i ≡ result_map f (at_distance xs i)
mapped_is f [] i = refl
mapped_is f (x ∷ xs) zero = refl
mapped_is f (x ∷ xs) (suc i) = mapped_is f xs i

looks_type : (u : Sought) (v j : ℕ → ℕ) (c d : Context) (k : Kind) → Looks u v j c d → Looks u v j (with_type k c) (with_type k d)
looks_type u v j c d k l = record {
  kinds = ap (λ ks. k ∷ ks) l.kinds;
  coercions = ap (map shifted_ends) l.coercions;
  values = λ i h. mapped_is shifted_type d.values (v i) ∙ ap (result_map shifted_type) (l.values i h) ∙ sym (mapped_is shifted_type c.values i);
  joins = λ i h. mapped_is shifted_join d.joins (j i) ∙ ap (result_map shifted_join) (l.joins i h) ∙ sym (mapped_is shifted_join c.joins i);
}

looks_coercion : (u : Sought) (v j : ℕ → ℕ) (c d : Context) (p : Ends) → Looks u v j c d → Looks u v j (with_coercion p c) (with_coercion p d)
looks_coercion u v j c d p l = record { kinds = l.kinds; coercions = ap (λ ps. p ∷ ps) l.coercions; values = l.values; joins = l.joins }

looks_join : (u : Sought) (v j : ℕ → ℕ) (c d : Context) (p : JoinPoint) → Looks u v j c d
    → Looks (behind_joins 1 u) v (renaming_below j) (with_join p c) (with_join p d)
looks_join u v j c d p l = record { kinds = l.kinds; coercions = l.coercions; values = l.values; joins = here }
  where
    here : (i : ℕ) → is_dead (dead_before u.joins i) ≡ true → at_distance (p ∷ d.joins) (renaming_below j i) ≡ at_distance (p ∷ c.joins) i
    here zero h = refl
    here (suc i) h = l.joins i h

looks_binder : (b : NBinder) (u : Sought) (v j : ℕ → ℕ) (c d : Context) → Looks u v j c d
    → Looks (behind b u) (values_behind variables coercion_variables b v) j (with_binder b c) (with_binder b d)
looks_binder (NBValue t) u v j c d l = looks_value u v j c d t l
looks_binder (NBType k) u v j c d l = looks_type u v j c d k l
looks_binder (NBCo r t w) u v j c d l = looks_coercion u v j c d (record { role = r; left = t; right = w }) l

pub looks_binders : (bs : List NBinder) (u : Sought) (v j : ℕ → ℕ) (c d : Context) → Looks u v j c d
    → Looks (behind_all bs u) (values_behind_all variables coercion_variables bs v) j (with_binders bs c) (with_binders bs d)
looks_binders [] u v j c d l = l
looks_binders (b ∷ bs) u v j c d l =
    looks_binders bs (behind b u) (values_behind variables coercion_variables b v) j (with_binder b c) (with_binder b d) (looks_binder b u v j c d l)

pub looks_binds : (bs : NBinds) (u : Sought) (v j : ℕ → ℕ) (c d : Context) → Looks u v j c d
    → Looks (behind_values (bind_count bs) u) (times (bind_count bs) (values_below variables coercion_variables) v) j (with_binds bs c) (with_binds bs d)
looks_binds NoNBinds u v j c d l = l
looks_binds (MoreNBinds (NBound t e) rest) u v j c d l =
    looks_binds rest (behind_values 1 u) (values_below variables coercion_variables v) j (with_value t c) (with_value t d) (looks_value u v j c d t l)

pub looks_joins : (t : NTy) (js : NJoins) (u : Sought) (v j : ℕ → ℕ) (c d : Context) → Looks u v j c d
    → Looks (behind_joins (join_count js) u) v (times (join_count js) renaming_below j) (with_joins t js c) (with_joins t js d)
looks_joins t NoNJoins u v j c d l = l
looks_joins t (MoreNJoins (NJoined ps e) rest) u v j c d l =
    looks_joins t rest (behind_joins 1 u) v (renaming_below j) (with_join (join_point t ps) c) (with_join (join_point t ps) d) (looks_join u v j c d (join_point t ps) l)

-- RENAMINGS BELOW BINDERS

pub under_binder : (b : NBinder) (v j : ℕ → ℕ) → below_binder variables coercion_variables b (moving v j) ≡ moving (values_behind variables coercion_variables b v) j
under_binder b v j = ap₂ (λ s g. renaming s g (values_behind variables coercion_variables b v) j) (types_themselves b) (coercions_themselves b)

pub under_binders : (bs : List NBinder) (v j : ℕ → ℕ) → below_binders variables coercion_variables bs (moving v j) ≡ moving (values_behind_all variables coercion_variables bs v) j
under_binders bs v j = ap₂ (λ s g. renaming s g (values_behind_all variables coercion_variables bs v) j) (all_types_themselves bs) (all_coercions_themselves bs)

pub under_joins : (m : ℕ) (v j : ℕ → ℕ) → below_joins variables coercion_variables m (moving v j) ≡ moving v (times m renaming_below j)
under_joins m v j = ap (λ w. renaming each_type each w (times m renaming_below j)) (times_same m (λ s i. variables.past_join (s i)) v refl)

-- renamed binds and join points bind the same types
pub binds_renamed : (bs : NBinds) (v j : ℕ → ℕ) (c : Context) → with_binds (put_in_binds variables coercion_variables (moving v j) bs) c ≡ with_binds bs c
binds_renamed NoNBinds v j c = refl
binds_renamed (MoreNBinds (NBound t e) rest) v j c = rw (variables_for_themselves t) (binds_renamed rest v j (with_value t c))

joins_renamed : (t : NTy) (js : NJoins) (v j : ℕ → ℕ) (c : Context) → with_joins t (put_in_joins variables coercion_variables (moving v j) js) c ≡ with_joins t js c
joins_renamed t NoNJoins v j c = refl
joins_renamed t (MoreNJoins (NJoined ps e) rest) v j c = rw (binders_themselves ps) (joins_renamed t rest v j (with_join (join_point t ps) c))

pub renamed_is_atom : (r : Renaming) (e : NExpr) → is_atom (renamed r e) ≡ is_atom e
renamed_is_atom r (NLocal i) = refl
renamed_is_atom r (NVar n) = refl
renamed_is_atom r (NLit n) = refl
renamed_is_atom r (NApp f a) = refl
renamed_is_atom r (NLam b e) = refl
renamed_is_atom r (NLet o bs e) = refl
renamed_is_atom r (NCase e t u alts) = refl
renamed_is_atom r (NCast e g) = refl
renamed_is_atom r (NCon n args) = refl
renamed_is_atom r (NPrim op es) = refl
renamed_is_atom r (NFail t) = refl
renamed_is_atom r (NJoin o t js e) = refl
renamed_is_atom r (NJump i args) = refl

-- EXPRESSIONS

module _ (ms : Modules) where
  -- what is judged of a case behind its scrutinee
  abbrev case_end : NTy → NTy → NTy → Kind → Result Before F → Result NTy F
  case_end t s w k r = and_then r (λ b. need (same_type t s) ScrutineeType (need (is_value_kind k) NotAType (Ok w)))

  abbrev case_rest : Context → List Kind → NTy → NTy → NAlts → NTy → Result NTy F
  case_rest c ks t w alts s =
      and_then (under 1 (kind_or_fault ms ks t)) (λ j. and_then (under 2 (kind_or_fault ms ks w)) (λ k. case_end t s w k (alts_judged ms c s w 3 Start alts)))

  case_rest_same : (c d : Context) (ks : List Kind) (t w : NTy) (alts blts : NAlts) → ((s : NTy) → alts_judged ms d s w 3 Start blts ≡ alts_judged ms c s w 3 Start alts)
      → (s : NTy) → case_rest d ks t w blts s ≡ case_rest c ks t w alts s
  case_rest_same c d ks t w alts blts h s =
      and_then_same (under 1 (kind_or_fault ms ks t))
      (λ j. and_then (under 2 (kind_or_fault ms ks w)) (λ k. case_end t s w k (alts_judged ms d s w 3 Start blts)))
      (λ j. and_then (under 2 (kind_or_fault ms ks w)) (λ k. case_end t s w k (alts_judged ms c s w 3 Start alts)))
      (λ j. and_then_same (under 2 (kind_or_fault ms ks w)) (λ k. case_end t s w k (alts_judged ms d s w 3 Start blts)) (λ k. case_end t s w k (alts_judged ms c s w 3 Start alts))
      (λ k. ap (case_end t s w k) (h s)))

  mutual
    pub same_type_without : (u : Sought) (v j : ℕ → ℕ) (c d : Context) → Looks u v j c d → (e : NExpr) → is_dead (occurrences u e) ≡ true
        → type_or_fault ms d (renamed (moving v j) e) ≡ type_or_fault ms c e
    same_type_without u v j c d l (NLocal i) h = l.values i h
    same_type_without u v j c d l (NVar n) h = refl
    same_type_without u v j c d l (NLit n) h = refl
    same_type_without u v j c d l (NApp f a) h =
        let p = and_dead (occurrences u f) (in_arg u a) h in
        let m = looks_apart u v j c d l in
        rw (same_type_without u v j (without_joins c) (without_joins d) m f p.0, same_given u v j (without_joins c) (without_joins d) m a p.1) refl
    same_type_without u v j c d l (NLam b e) h =
        let m = looks_binder b u v j (without_joins c) (without_joins d) (looks_apart u v j c d l) in
        let ih = same_type_without (behind b u) (values_behind variables coercion_variables b v) j (with_binder b (without_joins c)) (with_binder b (without_joins d)) m e
        (lambda_dead b (occurrences (behind b u) e) h) in
        rw (binder_itself b, under_binder b v j, ih, l.kinds) refl
    same_type_without u v j c d l (NLet true bs e) h =
        let n = bind_count bs in
        let w = times n (values_below variables coercion_variables) v in
        let p = and_dead (in_binds (behind_values n u) bs) (occurrences (behind_values n u) e) h in
        let m = looks_binds bs u v j c d l in
        rw (
          binds_renamed bs w j d,
          same_binds (behind_values n u) w j (without_joins (with_binds bs c)) (without_joins (with_binds bs d)) (looks_apart _ w j _ _ m) bs p.0 true 0,
          same_type_without (behind_values n u) w j (with_binds bs c) (with_binds bs d) m e p.1,
        )
        refl
    same_type_without u v j c d l (NLet false bs e) h =
        let n = bind_count bs in
        let w = times n (values_below variables coercion_variables) v in
        let p = and_dead (in_binds u bs) (occurrences (behind_values n u) e) h in
        rw (
          binds_renamed bs v j d,
          same_binds u v j (without_joins c) (without_joins d) (looks_apart u v j c d l) bs p.0 false 0,
          same_type_without (behind_values n u) w j (with_binds bs c) (with_binds bs d) (looks_binds bs u v j c d l) e p.1,
        )
        refl
    same_type_without u v j c d l (NCase e t w alts) h =
        let p = and_dead (occurrences u e) (in_alts (behind_values 1 u) alts) h in
        let m = looks_value u v j c d t l in
        rw (variables_for_themselves t, variables_for_themselves w, same_type_without u v j (without_joins c) (without_joins d) (looks_apart u v j c d l) e p.0)
        (and_then_same (under 0 (type_or_fault ms (without_joins c) e))
        (case_rest (with_value t d) d.kinds t w (put_in_alts variables coercion_variables (moving (values_below variables coercion_variables v) j) alts))
        (case_rest (with_value t c) c.kinds t w alts)
        (λ s. case_rest_same (with_value t c) (with_value t d) d.kinds t w alts (put_in_alts variables coercion_variables (moving (values_below variables coercion_variables v) j) alts)
        (λ s. same_alts (behind_values 1 u) (values_below variables coercion_variables v) j (with_value t c) (with_value t d) m alts p.1 s w 3 Start) s
        ∙ ap (λ ks. case_rest (with_value t c) ks t w alts s) l.kinds))
    same_type_without u v j c d l (NCast e g) h =
        rw (same_type_without u v j (without_joins c) (without_joins d) (looks_apart u v j c d l) e h, co_itself g, l.kinds, l.coercions) refl
    same_type_without u v j c d l (NCon n args) h =
        rw (same_args u v j (without_joins c) (without_joins d) (looks_apart u v j c d l) args (fields_dead u args h) 0) refl
    same_type_without u v j c d l (NPrim op es) h = rw (same_operands u v j (without_joins c) (without_joins d) (looks_apart u v j c d l) es h 0) refl
    same_type_without u v j c d l (NFail t) h = rw (variables_for_themselves t, l.kinds) refl
    same_type_without u v j c d l (NJoin true t js e) h =
        let n = join_count js in
        let k = times n renaming_below j in
        let p = and_dead (inside (in_joins (behind_joins n u) js)) (occurrences (behind_joins n u) e) h in
        let m = looks_joins t js u v j c d l in
        rw (
          variables_for_themselves t,
          under_joins n v j,
          joins_renamed t js v k d,
          same_joins (behind_joins n u) v k (with_joins t js c) (with_joins t js d) m js (inside_dead _ p.0) t 1,
          same_type_without (behind_joins n u) v k (with_joins t js c) (with_joins t js d) m e p.1,
          l.kinds,
        )
        refl
    same_type_without u v j c d l (NJoin false t js e) h =
        let n = join_count js in
        let k = times n renaming_below j in
        let p = and_dead (in_joins u js) (occurrences (behind_joins n u) e) h in
        rw (
          variables_for_themselves t,
          under_joins n v j,
          joins_renamed t js v j d,
          same_joins u v j c d l js p.0 t 1,
          same_type_without (behind_joins n u) v k (with_joins t js c) (with_joins t js d) (looks_joins t js u v j c d l) e p.1,
          l.kinds,
        )
        refl
    same_type_without u v j c d l (NJump i args) h =
        let p = and_dead (u.joins i) (in_args u args) h in
        rw (same_args u v j (without_joins c) (without_joins d) (looks_apart u v j c d l) args p.1 0, l.joins i p.0) refl

    same_given : (u : Sought) (v j : ℕ → ℕ) (c d : Context) → Looks u v j c d → (a : NArg) → is_dead (in_arg u a) ≡ true
        → argument_given ms d (put_in_arg variables coercion_variables (moving v j) a) ≡ argument_given ms c a
    same_given u v j c d l (NATerm e) h = rw (same_type_without u v j c d l e h, renamed_is_atom (moving v j) e) refl
    same_given u v j c d l (NAType t) h = rw (variables_for_themselves t, l.kinds) refl
    same_given u v j c d l (NACo g) h = rw (co_itself g, l.kinds, l.coercions) refl

    same_args : (u : Sought) (v j : ℕ → ℕ) (c d : Context) → Looks u v j c d → (args : NArgs) → is_dead (in_args u args) ≡ true → (i : ℕ)
        → args_given ms d i (put_in_args variables coercion_variables (moving v j) args) ≡ args_given ms c i args
    same_args u v j c d l NoNArgs h i = refl
    same_args u v j c d l (MoreNArgs a rest) h i =
        let p = and_dead (in_arg u a) (in_args u rest) h in
        rw (same_given u v j c d l a p.0, same_args u v j c d l rest p.1 (i + 1)) refl

    same_operands : (u : Sought) (v j : ℕ → ℕ) (c d : Context) → Looks u v j c d → (es : NExprs) → is_dead (in_exprs u es) ≡ true → (i : ℕ)
        → operands_given ms d i (put_in_exprs variables coercion_variables (moving v j) es) ≡ operands_given ms c i es
    same_operands u v j c d l NoNExprs h i = refl
    same_operands u v j c d l (MoreNExprs e rest) h i =
        let p = and_dead (occurrences u e) (in_exprs u rest) h in
        rw (same_type_without u v j c d l e p.0, renamed_is_atom (moving v j) e, same_operands u v j c d l rest p.1 (i + 1)) refl

    same_binds : (u : Sought) (v j : ℕ → ℕ) (c d : Context) → Looks u v j c d → (bs : NBinds) → is_dead (in_binds u bs) ≡ true → (r : Bool) (i : ℕ)
        → binds_judged ms d r i (put_in_binds variables coercion_variables (moving v j) bs) ≡ binds_judged ms c r i bs
    same_binds u v j c d l NoNBinds h r i = refl
    same_binds u v j c d l (MoreNBinds (NBound t e) rest) h r i =
        let p = and_dead (occurrences u e) (in_binds u rest) h in
        rw (
          variables_for_themselves t,
          same_type_without u v j c d l e p.0,
          renamed_is_atom (moving v j) e,
          same_binds u v j c d l rest p.1 r (i + 1),
          l.kinds,
        )
        refl

    same_joins : (u : Sought) (v j : ℕ → ℕ) (c d : Context) → Looks u v j c d → (js : NJoins) → is_dead (in_joins u js) ≡ true → (t : NTy) (i : ℕ)
        → joins_judged ms d t i (put_in_joins variables coercion_variables (moving v j) js) ≡ joins_judged ms c t i js
    same_joins u v j c d l NoNJoins h t i = refl
    same_joins u v j c d l (MoreNJoins (NJoined ps e) rest) h t i =
        let p = and_dead (occurrences (behind_all ps u) e) (in_joins u rest) h in
        let w = values_behind_all variables coercion_variables ps v in
        rw (
          binders_themselves ps,
          under_binders ps v j,
          same_type_without (behind_all ps u) w j (with_binders ps c) (with_binders ps d) (looks_binders ps u v j c d l) e p.0,
          same_joins u v j c d l rest p.1 t (i + 1),
          l.kinds,
        )
        refl

    same_alts : (u : Sought) (v j : ℕ → ℕ) (c d : Context) → Looks u v j c d → (alts : NAlts) → is_dead (in_alts u alts) ≡ true → (s t : NTy) (i : ℕ) (b : Before)
        → alts_judged ms d s t i b (put_in_alts variables coercion_variables (moving v j) alts) ≡ alts_judged ms c s t i b alts
    same_alts u v j c d l NoNAlts h s t i b = refl
    same_alts u v j c d l (MoreNAlts (NBranch k bs e) rest) h s t i b =
        let p = and_dead (occurrences (behind_all bs u) e) (in_alts u rest) h in
        let x = values_behind_all variables coercion_variables bs v in
        let ih = same_type_without (behind_all bs u) x j (with_binders bs c) (with_binders bs d) (looks_binders bs u v j c d l) e p.0 in
        let same : alt_judged ms d s t b (NBranch k (replaced_binders each_type bs) (renamed (below_binders variables coercion_variables bs (moving v j)) e)) ≡ alt_judged ms c s t b (NBranch k bs e) =
        rw (binders_themselves bs, under_binders bs v j, ih, l.kinds) refl in
        both_same (under i (alt_judged ms d s t b (NBranch k (replaced_binders each_type bs) (renamed (below_binders variables coercion_variables bs (moving v j)) e))))
        (under i (alt_judged ms c s t b (NBranch k bs e))) (λ next. alts_judged ms d s t (i + 1) next (put_in_alts variables coercion_variables (moving v j) rest))
        (λ next. alts_judged ms c s t (i + 1) next rest) (ap (under i) same) (λ next. same_alts u v j c d l rest p.1 s t (i + 1) next)
