-- The same types are read off among modules of the same headers, and rows make the same.
use Rattle.std.proofs.Common.{◌≡◌, ℕ, false, List, Option, Some, None, if◌then◌else◌, refl, ap}
use Rattle.fc_syntax.specs.declared.ty.Name.{Name}
use Rattle.fc_syntax.specs.declared.expr.Head.TheVariants as head
use Rattle.fc_log.specs.declared.log.Row.{Row}
use Rattle.fc_log.specs.declared.log.Row.TheVariants as row
use Rattle.fc_model.specs.Calling.{from_some}
use Rattle.fc_model.specs.Kinding.{Modules}
use Rattle.fc_model.specs.Nameless.{NTy, NBinder, NBValue, NArgs, NATerm, NAType, NACo, NBound, NAlts, NoNBinds, MoreNBinds}
use Rattle.fc_model.specs.Nameless.{NExpr, NLocal, NVar, NLit, NApp, NLam, NLet, NCase, NCast, NCon, NPrim, NFail, NJoin, NJump}
use Rattle.fc_model.specs.Typing.{Context, answered, constructed_at, right_end, type_read_off, with_binder, with_binds}
use Rattle.fc_outlines.specs.Headers.{SameHeaders}
use Rattle.fc_case_known.specs.Within.{case_known_within, has_few_terms}
use Rattle.fc_row_at_place.specs.Rows.{built_row}
use Rattle.fc_rows.specs.Changing.{made}
use Rattle.fc_rows.specs.Commuting.{name_field}
use Rattle.fc_rows.specs.Shrinking.{alternative_of, are_trivial, at_constructor, at_variable, beta, case_known, case_of_constructor, case_of_known, case_of_variable, cast_refl, fail_absorb, if_equal, without_first}
use Rattle.fc_rows.specs.Surroundings.{Known, Is, Surroundings}
use Rattle.fc_row_at_place.proofs.EndsTold.{ends_told}

module _ (ms ns : Modules) (same : SameHeaders ms ns) where
  -- TYPES

  type_told : (c : Context) (e : NExpr) → type_read_off ms c e ≡ type_read_off ns c e
  type_told c (NLocal i) = refl
  type_told c (NVar n) = ap answered (same.values n)
  type_told c (NLit n) = refl
  type_told c (NApp f (NATerm a)) = ap (from_some _) (type_told c f)
  type_told c (NApp f (NAType u)) = ap (from_some _) (type_told c f)
  type_told c (NApp f (NACo g)) = ap (from_some _) (type_told c f)
  type_told c (NLam b e) = ap (from_some _) (type_told (with_binder b c) e)
  type_told c (NLet r bs e) = type_told (with_binds bs c) e
  type_told c (NCase e xt rt alts) = refl
  type_told c (NCast e g) = ap (λ r. right_end (answered r)) (ends_told ms ns same.alike c.kinds c.coercions g)
  type_told c (NCon n args) = ap (from_some (constructed_at n args)) (same.alike.constructors n.module n.text)
  type_told c (NPrim op es) = refl
  type_told c (NFail t) = refl
  type_told c (NJoin r t js e) = refl
  type_told c (NJump i args) = refl

  -- ROWS

  beta_told : (s : Surroundings) (e : NExpr) → beta ms s e ≡ beta ns s e
  beta_told s (NApp (NLam (NBValue t) b) (NATerm a)) = ap (from_some _) (type_told s.context (NLam (NBValue t) b))
  beta_told s e = refl

  constructor_told : (xt : NTy) (n : Name) (args : NArgs) (o d : Option (List NBinder × NExpr)) → case_of_constructor ms xt n args o d ≡ case_of_constructor ns xt n args o d
  constructor_told xt n args (Some a) d = ap (from_some (λ k. at_constructor xt n args k a)) (same.alike.constructors n.module n.text)
  constructor_told xt n args None d = refl

  variable_told : (y : NExpr) (n : Name) (args : NArgs) (o d : Option (List NBinder × NExpr)) → case_of_variable ms y n args o d ≡ case_of_variable ns y n args o d
  variable_told y n args (Some a) d = ap (from_some (λ k. at_variable y (without_first k.params args) a)) (same.alike.constructors n.module n.text)
  variable_told y n args None d = refl

  known_told : (y : NExpr) (k : Known) (alts : NAlts) → case_of_known ms y k alts ≡ case_of_known ns y k alts
  known_told y (Is (NCon n args)) alts = ap (λ o. if are_trivial args then o else None) (variable_told y n args (alternative_of (head.Con n) alts) (alternative_of head.Default alts))
  known_told y k alts = refl

  case_told : (s : Surroundings) (e : NExpr) → case_known ms s e ≡ case_known ns s e
  case_told s (NCase (NCon n args) xt rt alts) = constructor_told xt n args (alternative_of (head.Con n) alts) (alternative_of head.Default alts)
  case_told s (NCase (NLocal i) xt rt alts) = known_told (NLocal i) (s.locals i) alts
  case_told s (NCase (NVar n) xt rt alts) = known_told (NVar n) (s.names n) alts
  case_told s e = refl

  case_within_told : (s : Surroundings) (e : NExpr) → case_known_within ms s e ≡ case_known_within ns s e
  case_within_told s e = ap (λ o. if has_few_terms e then o else None) (case_told s e)

  fail_told : (s : Surroundings) (e : NExpr) → fail_absorb ms s e ≡ fail_absorb ns s e
  fail_told s (NApp (NFail t) a) = ap (made NFail) (type_told s.context (NApp (NFail t) a))
  fail_told s (NCast (NFail t) g) = ap (made NFail) (type_told s.context (NCast (NFail t) g))
  fail_told s e = refl

  cast_told : (s : Surroundings) (e : NExpr) → cast_refl ms s e ≡ cast_refl ns s e
  cast_told s (NCast e g) = ap (if_equal e) (ends_told ms ns same.alike s.context.kinds s.context.coercions g)
  cast_told s e = refl

  field_told : (e : NExpr) → name_field ms e ≡ name_field ns e
  field_told (NLet false (MoreNBinds (NBound t (NCon n args)) NoNBinds) b) = rw (same.alike.constructors n.module n.text) refl
  field_told e = refl

  pub row_told : (r : Row) (i : ℕ) (s : Surroundings) (e : NExpr) → built_row ms r i s e ≡ built_row ns r i s e
  row_told row.Beta i s e = beta_told s e
  row_told row.CaseKnown i s e = case_within_told s e
  row_told row.FailAbsorb i s e = fail_told s e
  row_told row.CastRefl i s e = cast_told s e
  row_told row.NameField i s e = field_told e
  row_told r i s e = refl
