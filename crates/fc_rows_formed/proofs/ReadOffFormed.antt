-- The type that is read off a formed expression is formed, where the context is, and what modules declare.
use Rattle.std.proofs.Common.{suc, List, [], ◌∷◌, map, Option, Some, None, IfSome}
use Rattle.std.specs.List.{AllByRecursion}
use Rattle.fc_syntax.specs.declared.ty.Role.{Role}
use Rattle.fc_syntax.specs.Tree.{Kind}
use Rattle.fc_model.specs.Calling.{coercion_asked, constructor, data_name, function_ends, type_count}
use Rattle.fc_model.specs.Coercing.{Ends, ends, ends_or_fault}
use Rattle.fc_model.specs.Faulting.{at_distance}
use Rattle.fc_model.specs.Kinding.{Modules}
use Rattle.fc_model.specs.Nameless.{NTy, NTCon, NTApp, NBinder, NBValue, NBType, NBCo, NExpr, NLocal, NVar, NLit, NApp, NLam, NLet, NCase, NCast, NCon, NPrim, NFail, NJoin, NJump}
use Rattle.fc_model.specs.Nameless.{NATerm, NAType, NACo, NBound, NJoined, NArgs, NoNArgs, MoreNArgs, NBinds, NoNBinds, MoreNBinds, NJoins, NoNJoins, MoreNJoins, NParam}
use Rattle.fc_model.specs.Substituting.{raised_type, shifted_type}
use Rattle.fc_model.specs.Typing.{Context, JoinPoint, answered, applied_to_types, behind_coercion, constructed_at, join_point, no_context, right_end, second_of, shifted_join}
use Rattle.fc_model.specs.Typing.{type_read_off, value_type, with_binder, with_binds, with_coercion, with_join, with_joins, with_type, with_value, without_joins}
use Rattle.fc_formed.specs.FormedTrees.{IsFormedTy, IsFormedBinder, AreFormedBinders, IsFormedExpr, AreFormedArgs, AreFormedBinds, AreFormedJoins}
use Rattle.fc_rows_formed.proofs.Answered.{if_answered, if_at_distance, if_from_some}
use Rattle.fc_rows_formed.proofs.DeclarationsFormed.{AreDeclaredFormed, AreEndsFormed, IsConstructorFormed, constructor_formed, data_name_formed, value_type_formed}
use Rattle.fc_rows_formed.proofs.EndsFormed.{AreAllEndsFormed, ends_formed, shifted_formed}
use Rattle.fc_rows_formed.proofs.TypesFormed.{ArePairFormed, IsBehindFormed, at_type_formed, coercion_asked_formed, function_ends_formed, over_binder_formed, over_binders_formed}
use Rattle.fc_rows_formed.proofs.TypesFormed.{type_renamed}

-- CONTEXTS

-- the type of a join point, and that of its join
abbrev pub IsJoinPointFormed : JoinPoint → Type 0
IsJoinPointFormed j = IsFormedTy j.type × IsFormedTy j.result

-- what coercion variables prove, and the types of variables and of join points
pub record IsContextFormed (c : Context) : Type 0 where
  pub ends_proved : AreAllEndsFormed c.coercions
  pub types_of : AllByRecursion IsFormedTy c.values
  pub join_types : AllByRecursion IsJoinPointFormed c.joins

pub no_context_formed : IsContextFormed no_context
no_context_formed = record { ends_proved = tt; types_of = tt; join_types = tt }

pub without_joins_formed : (c : Context) → IsContextFormed c → IsContextFormed (without_joins c)
without_joins_formed c g = record { ends_proved = g.ends_proved; types_of = g.types_of; join_types = tt }

pub with_value_formed : (t : NTy) (c : Context) → IsFormedTy t → IsContextFormed c → IsContextFormed (with_value t c)
with_value_formed t c w g = record { ends_proved = g.ends_proved; types_of = (w, g.types_of); join_types = g.join_types }

pub with_coercion_formed : (e : Ends) (c : Context) → AreEndsFormed e → IsContextFormed c → IsContextFormed (with_coercion e c)
with_coercion_formed e c w g = record { ends_proved = (w, g.ends_proved); types_of = g.types_of; join_types = g.join_types }

types_shifted : (ts : List NTy) → AllByRecursion IsFormedTy ts → AllByRecursion IsFormedTy (map shifted_type ts)
types_shifted [] w = tt
types_shifted (t ∷ ts) w = (type_renamed suc t w.0, types_shifted ts w.1)

joins_shifted : (js : List JoinPoint) → AllByRecursion IsJoinPointFormed js → AllByRecursion IsJoinPointFormed (map shifted_join js)
joins_shifted [] w = tt
joins_shifted (j ∷ js) w = ((type_renamed suc j.type w.0.0, type_renamed suc j.result w.0.1), joins_shifted js w.1)

pub with_type_formed : (k : Kind) (c : Context) → IsContextFormed c → IsContextFormed (with_type k c)
with_type_formed k c g =
    record { ends_proved = shifted_formed c.coercions g.ends_proved; types_of = types_shifted c.values g.types_of; join_types = joins_shifted c.joins g.join_types }

with_binder_formed : (b : NBinder) (c : Context) → IsFormedBinder b → IsContextFormed c → IsContextFormed (with_binder b c)
with_binder_formed (NBValue t) c w g = with_value_formed t c w g
with_binder_formed (NBType k) c w g = with_type_formed k c g
with_binder_formed (NBCo r t u) c w g = with_coercion_formed (ends r t u) c (w.1, w.2) g

pub with_binds_formed : (bs : NBinds) (c : Context) → AreFormedBinds bs → IsContextFormed c → IsContextFormed (with_binds bs c)
with_binds_formed NoNBinds c w g = g
with_binds_formed (MoreNBinds (NBound t e) rest) c w g = with_binds_formed rest (with_value t c) w.1 (with_value_formed t c w.0.0 g)

join_point_formed : (t : NTy) (ps : List NBinder) → IsFormedTy t → AreFormedBinders ps → IsJoinPointFormed (join_point t ps)
join_point_formed t ps w v = (over_binders_formed ps (raised_type (type_count ps) t) v (type_renamed _ t w), w)

pub with_joins_formed : (t : NTy) (js : NJoins) (c : Context) → IsFormedTy t → AreFormedJoins js → IsContextFormed c → IsContextFormed (with_joins t js c)
with_joins_formed t NoNJoins c v w g = g
with_joins_formed t (MoreNJoins (NJoined ps e) rest) c v w g =
    with_joins_formed t rest (with_join (join_point t ps) c) v w.1
    (record { ends_proved = g.ends_proved; types_of = g.types_of; join_types = (join_point_formed t ps v w.0.0, g.join_types) })

-- TYPES READ OFF

second_formed : (o : Option (NTy × NTy)) → IfSome o ArePairFormed → IfSome (second_of o) IsFormedTy
second_formed (Some (t, u)) w = w.1
second_formed None w = tt

behind_formed : (o : Option (Role × NTy × NTy × NTy)) → IfSome o IsBehindFormed → IfSome (behind_coercion o) IsFormedTy
behind_formed (Some p) w = w
behind_formed None w = tt

right_formed : (o : Option Ends) → IfSome o AreEndsFormed → IfSome (right_end o) IsFormedTy
right_formed (Some p) w = w.1
right_formed None w = tt

applied_to_types_formed : (t : NTy) (ps : List NParam) (args : NArgs) → IsFormedTy t → AreFormedArgs args → IfSome (applied_to_types t ps args) IsFormedTy
applied_to_types_formed t [] args w v = w
applied_to_types_formed t (p ∷ ps) (MoreNArgs (NAType u) rest) w v = applied_to_types_formed (NTApp t u) ps rest (w, v.0) v.1
applied_to_types_formed t (p ∷ ps) (MoreNArgs a rest) w v = tt
applied_to_types_formed t (p ∷ ps) NoNArgs w v = tt

module _ (ms : Modules) (declared : AreDeclaredFormed ms) where
  pub type_read_off_formed : (c : Context) → IsContextFormed c → (e : NExpr) → IsFormedExpr e → IfSome (type_read_off ms c e) IsFormedTy
  type_read_off_formed c g (NLocal i) w = if_answered IsFormedTy (at_distance c.values i) (if_at_distance IsFormedTy c.values i g.types_of)
  type_read_off_formed c g (NVar n) w = if_answered IsFormedTy (value_type ms n) (value_type_formed ms declared n)
  type_read_off_formed c g (NLit n) w = tt
  type_read_off_formed c g (NApp f (NATerm a)) w =
      if_from_some IsFormedTy IsFormedTy _ (type_read_off ms c f) (type_read_off_formed c g f w.0) (λ t v. second_formed (function_ends t) (function_ends_formed t v))
  type_read_off_formed c g (NApp f (NAType u)) w =
      if_from_some IsFormedTy IsFormedTy _ (type_read_off ms c f) (type_read_off_formed c g f w.0) (λ t v. at_type_formed t u v w.1)
  type_read_off_formed c g (NApp f (NACo q)) w =
      if_from_some IsFormedTy IsFormedTy _ (type_read_off ms c f) (type_read_off_formed c g f w.0) (λ t v. behind_formed (coercion_asked t) (coercion_asked_formed t v))
  type_read_off_formed c g (NLam b e) w =
      if_from_some IsFormedTy IsFormedTy _ (type_read_off ms (with_binder b c) e) (type_read_off_formed (with_binder b c) (with_binder_formed b c w.0 g) e w.1)
      (λ u v. over_binder_formed b u w.0 v)
  type_read_off_formed c g (NLet r bs e) w = type_read_off_formed (with_binds bs c) (with_binds_formed bs c w.1 g) e w.2
  type_read_off_formed c g (NCase e xt rt alts) w = w.2
  type_read_off_formed c g (NCast e q) w =
      let proved = ends_formed ms declared c.kinds c.coercions g.ends_proved q w.1 in
      right_formed (answered (ends_or_fault ms c.kinds c.coercions q)) (if_answered AreEndsFormed (ends_or_fault ms c.kinds c.coercions q) proved)
  type_read_off_formed c g (NCon n args) w =
      if_from_some IsConstructorFormed IsFormedTy (constructed_at n args) (constructor ms n) (constructor_formed ms declared n)
      (λ k v. applied_to_types_formed (NTCon (data_name n k.data_word)) k.params args (data_name_formed n k w.0 v) w.1)
  type_read_off_formed c g (NPrim op es) w = tt
  type_read_off_formed c g (NFail t) w = w
  type_read_off_formed c g (NJoin r t js e) w = w.1
  type_read_off_formed c g (NJump i args) w =
      if_from_some IsJoinPointFormed IsFormedTy _ (answered (at_distance c.joins i))
      (if_answered IsJoinPointFormed (at_distance c.joins i) (if_at_distance IsJoinPointFormed c.joins i g.join_types)) (λ j v. v.1)
