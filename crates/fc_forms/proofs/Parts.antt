-- An expression with the parts of a form is of that form, alternatives with a default that is the only one are that default, and a case of equal parts is the same.
use Rattle.std.proofs.Common.{◌≡◌, ap, Bool, false, Some, []}
use Rattle.fc_syntax.specs.declared.expr.Head.TheVariants as head
use Rattle.fc_model.specs.Nameless.{NTy, NCo, NArg, NBinder, NBinds, NoNBinds, MoreNBinds, NBound, NJoins, NAlts, NoNAlts, MoreNAlts, NBranch}
use Rattle.fc_model.specs.Nameless.{NExpr, NApp, NLam, NLet, NCase, NCast, NJoin}
use Rattle.fc_rows.specs.Shrinking.{let_of}
use Rattle.fc_forms.specs.Forms.{application_parts, binding_parts, case_parts, cast_parts, default_body, joining_parts, lambda_parts, single_binding_parts}

pub application_form : (e : NExpr) (p : NExpr × NArg) → Some p ≡ application_parts e → e ≡ NApp p.0 p.1
application_form (NApp f a) p h = let same : (f, a) ≡ p = cc in ap (λ q. NApp q.0 q.1) same
application_form _ p h = cc

pub lambda_form : (e : NExpr) (p : NBinder × NExpr) → Some p ≡ lambda_parts e → e ≡ NLam p.0 p.1
lambda_form (NLam b e) p h = let same : (b, e) ≡ p = cc in ap (λ q. NLam q.0 q.1) same
lambda_form _ p h = cc

pub binding_form : (e : NExpr) (p : Bool × NBinds × NExpr) → Some p ≡ binding_parts e → e ≡ NLet p.0 p.1 p.2
binding_form (NLet r bs b) p h = let same : (r, bs, b) ≡ p = cc in ap (λ q. NLet q.0 q.1 q.2) same
binding_form _ p h = cc

pub single_binding_form : (e : NExpr) (p : NTy × NExpr × NExpr) → Some p ≡ single_binding_parts e → e ≡ let_of p.0 p.1 p.2
single_binding_form (NLet false (MoreNBinds (NBound t a) NoNBinds) b) p h = let same : (t, a, b) ≡ p = cc in ap (λ q. let_of q.0 q.1 q.2) same
single_binding_form _ p h = cc

pub case_form : (e : NExpr) (p : NExpr × NTy × NTy × NAlts) → Some p ≡ case_parts e → e ≡ NCase p.0 p.1 p.2 p.3
case_form (NCase s t u alts) p h = let same : (s, t, u, alts) ≡ p = cc in ap (λ q. NCase q.0 q.1 q.2 q.3) same
case_form _ p h = cc

pub cast_form : (e : NExpr) (p : NExpr × NCo) → Some p ≡ cast_parts e → e ≡ NCast p.0 p.1
cast_form (NCast i g) p h = let same : (i, g) ≡ p = cc in ap (λ q. NCast q.0 q.1) same
cast_form _ p h = cc

pub joining_form : (e : NExpr) (p : Bool × NTy × NJoins × NExpr) → Some p ≡ joining_parts e → e ≡ NJoin p.0 p.1 p.2 p.3
joining_form (NJoin r t js b) p h = let same : (r, t, js, b) ≡ p = cc in ap (λ q. NJoin q.0 q.1 q.2 q.3) same
joining_form _ p h = cc

pub default_form : (alts : NAlts) (b : NExpr) → Some b ≡ default_body alts → alts ≡ MoreNAlts (NBranch head.Default [] b) NoNAlts
default_form (MoreNAlts (NBranch head.Default [] c) NoNAlts) b h = cc
default_form _ b h = cc

-- a case of equal parts
pub same_case : {s p : NExpr} {t v u w : NTy} {alts rest : NAlts} → s ≡ p → t ≡ v → u ≡ w → alts ≡ rest → NCase s t u alts ≡ NCase p v w rest
same_case h k l m = λ j. NCase (h j) (k j) (l j) (m j)
