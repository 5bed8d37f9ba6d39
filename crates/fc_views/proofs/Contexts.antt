-- Contexts that mention modules in view alone, and what stands behind binders, binds and join points.
use Rattle.std.proofs.Common.{Bool, true, false, if◌then◌else◌, List, [], ◌∷◌, ◌++◌}
use Rattle.std.specs.List.{AllByRecursion as Each}
use Rattle.std.proofs.lemmas.List.Elements.{All-weaker, recursion_from_All}
use Rattle.fc_syntax.specs.Tree.{Kind}
use Rattle.fc_model.specs.Coercing.{Ends}
use Rattle.fc_model.specs.Nameless.{NTy, NBinder, NBValue, NBType, NBCo, NBound, NJoined, NBinds, NoNBinds, MoreNBinds, NJoins, NoNJoins, MoreNJoins}
use Rattle.fc_model.specs.Substituting.{shifted_type}
use Rattle.fc_model.specs.Typing.{Context, JoinPoint, join_point, shifted_join, with_binder, with_binders, with_binds, with_coercion, with_join, with_joins, with_type, with_value, without_joins}
use Rattle.fc_headers.specs.NamelessHeaders.{modules_in_binders, modules_in_binds, modules_in_expr, modules_in_joins, modules_in_type}
use Rattle.fc_views.specs.Views.{AreInView, IsContextInView, IsJoinInView, View}
use Rattle.fc_views.proofs.CoercionsInView.{ends_in}
use Rattle.fc_views.proofs.TypesInView.{each_mapped, words_apart, AreEndsIn, IsBinderIn, IsTypeIn, binders_in, binders_to_in, shifted_ends_in, shifted_in, two_types_in, type_in}

module _ (view : View) where
  abbrev pub IsJoinIn : JoinPoint → Type 0
  IsJoinIn j = IsTypeIn view j.type × IsTypeIn view j.result

  pub record IsContextIn (c : Context) : Type 0 where
    pub coercions : Each (AreEndsIn view) c.coercions
    pub values : Each (IsTypeIn view) c.values
    pub joins : Each IsJoinIn c.joins

  -- from lists of modules
  pub context_in : (c : Context) → IsContextInView view c → IsContextIn c
  context_in c h = record {
    coercions = ends_in view c.coercions h.coercions;
    values = recursion_from_All (IsTypeIn view) c.values (All-weaker (λ t. AreInView view (modules_in_type t)) (IsTypeIn view) (type_in view) c.values h.values);
    joins = recursion_from_All IsJoinIn c.joins (All-weaker (IsJoinInView view) IsJoinIn (λ j p. two_types_in view j.type j.result p) c.joins h.joins);
  }

  pub without_joins_in : {c : Context} → IsContextIn c → IsContextIn (without_joins c)
  without_joins_in h = record { coercions = h.coercions; values = h.values; joins = tt }

  pub with_value_in : {c : Context} {t : NTy} → IsTypeIn view t → IsContextIn c → IsContextIn (with_value t c)
  with_value_in p h = record { coercions = h.coercions; values = (p, h.values); joins = h.joins }

  with_coercion_in : {c : Context} (e : Ends) → AreEndsIn view e → IsContextIn c → IsContextIn (with_coercion e c)
  with_coercion_in e p h = record { coercions = (p, h.coercions); values = h.values; joins = h.joins }

  with_type_in : {c : Context} (k : Kind) → IsContextIn c → IsContextIn (with_type k c)
  with_type_in {c = c} k h = record {
    coercions = shifted_ends_in view c.coercions h.coercions;
    values = each_mapped (IsTypeIn view) (IsTypeIn view) shifted_type (λ t p. shifted_in view p) c.values h.values;
    joins = each_mapped IsJoinIn IsJoinIn shifted_join (λ j p. (shifted_in view p.0, shifted_in view p.1)) c.joins h.joins;
  }

  pub with_binder_in : (b : NBinder) {c : Context} → IsBinderIn view b → IsContextIn c → IsContextIn (with_binder b c)
  with_binder_in (NBValue t) p h = with_value_in p h
  with_binder_in (NBType k) p h = with_type_in k h
  with_binder_in (NBCo r t u) p h = with_coercion_in (record { role = r; left = t; right = u }) p h

  pub with_binders_in : (bs : List NBinder) {c : Context} → Each (IsBinderIn view) bs → IsContextIn c → IsContextIn (with_binders bs c)
  with_binders_in [] p h = h
  with_binders_in (b ∷ bs) p h = with_binders_in bs p.1 (with_binder_in b p.0 h)

  pub with_binds_in : (bs : NBinds) {c : Context} → AreInView view (modules_in_binds bs) → IsContextIn c → IsContextIn (with_binds bs c)
  with_binds_in NoNBinds v h = h
  with_binds_in (MoreNBinds (NBound t e) rest) v h =
      let p = words_apart view (modules_in_type t) (modules_in_expr e ++ modules_in_binds rest) v in
      let q = words_apart view (modules_in_expr e) (modules_in_binds rest) p.1 in
      with_binds_in rest q.1 (with_value_in (type_in view t p.0) h)

  with_join_in : {c : Context} (t : NTy) (ps : List NBinder) → IsTypeIn view t → Each (IsBinderIn view) ps → IsContextIn c → IsContextIn (with_join (join_point t ps) c)
  with_join_in t ps p q h = record { coercions = h.coercions; values = h.values; joins = ((binders_to_in view ps q p, p), h.joins) }

  pub with_joins_in : (t : NTy) (js : NJoins) {c : Context} → IsTypeIn view t → AreInView view (modules_in_joins js) → IsContextIn c → IsContextIn (with_joins t js c)
  with_joins_in t NoNJoins p v h = h
  with_joins_in t (MoreNJoins (NJoined ps e) rest) p v h =
      let q = words_apart view (modules_in_binders ps) (modules_in_expr e ++ modules_in_joins rest) v in
      let r = words_apart view (modules_in_expr e) (modules_in_joins rest) q.1 in
      with_joins_in t rest p r.1 (with_join_in t ps p (binders_in view ps q.0) h)

  -- what may see itself, or not
  pub either_in : (r : Bool) {c d : Context} → IsContextIn c → IsContextIn d → IsContextIn (if r then c else d)
  either_in true p q = p
  either_in false p q = q
