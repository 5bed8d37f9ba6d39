-- Each row by the parts of the expression that it is for.
use Rattle.std.proofs.Common.{◌≡◌, Bool, true, false, if◌then◌else◌, Option, Some, None, refl, ap, ◌∙◌}
use Rattle.fc_model.specs.Calling.{from_some}
use Rattle.fc_model.specs.Nameless.{NTy, NExpr, NApp, NLet, NCase, NArg, NAlts, NBound, NBinds, NoNBinds, MoreNBinds}
use Rattle.fc_model.specs.Replacing.{below_values, bind_count, coercion_variables, put_in_alts, renamed, variables}
use Rattle.fc_rows.specs.Changing.{made}
use Rattle.fc_rows.specs.Commuting.{app_of_let, case_of_let, is_value_behind_lets, let_of_let}
use Rattle.fc_rows.specs.Shrinking.{let_of, moved_arg}
use Rattle.fc_rows.specs.Surroundings.{is_value, past_values}
use Rattle.fc_forms.specs.Forms.{application_parts, binding_parts, case_parts, single_binding_parts}

-- what moves into a let, with the bindings that it moves past and the body that it stands around then
abbrev Moving : Type 0
Moving = NBinds → NExpr → NExpr

abbrev into_let : Moving → Option (Bool × NBinds × NExpr) → Option NExpr
into_let f parts = made (λ p. NLet p.0 p.1 (f p.1 p.2)) parts

-- APPLICATIONS

abbrev pub applied : NArg → Moving
applied a bs b = NApp b (moved_arg (past_values (bind_count bs)) a)

abbrev application_row : Option (NExpr × NArg) → Option NExpr
application_row parts = from_some (λ p. into_let (applied p.1) (binding_parts p.0)) parts

app_of_let_is : (e : NExpr) → application_row (application_parts e) ≡ app_of_let e
app_of_let_is (NApp (NLet r bs b) a) = refl
app_of_let_is (NApp f a) = refl
app_of_let_is e = refl

pub app_of_let_made : (e f : NExpr) (a : NArg) (r : Bool) (bs : NBinds) (b : NExpr) → Some (f, a) ≡ application_parts e → Some (r, bs, b) ≡ binding_parts f → Some (NLet r bs (applied a bs b)) ≡ app_of_let e
app_of_let_made e f a r bs b outer inner = ap (into_let (applied a)) inner ∙ ap application_row outer ∙ app_of_let_is e

-- CASES

abbrev pub looked_at : NTy → NTy → NAlts → Moving
looked_at t u alts bs b = NCase b t u (put_in_alts variables coercion_variables (below_values variables coercion_variables 1 (past_values (bind_count bs))) alts)

abbrev case_row : Option (NExpr × NTy × NTy × NAlts) → Option NExpr
case_row parts = from_some (λ p. into_let (looked_at p.1 p.2 p.3) (binding_parts p.0)) parts

case_of_let_is : (e : NExpr) → case_row (case_parts e) ≡ case_of_let e
case_of_let_is (NCase (NLet r bs b) t u alts) = refl
case_of_let_is (NCase s t u alts) = refl
case_of_let_is e = refl

pub case_of_let_made : (e s : NExpr) (t u : NTy) (alts : NAlts) (r : Bool) (bs : NBinds) (b : NExpr) → Some (s, t, u, alts) ≡ case_parts e → Some (r, bs, b) ≡ binding_parts s
    → Some (NLet r bs (looked_at t u alts bs b)) ≡ case_of_let e
case_of_let_made e s t u alts r bs b outer inner = ap (into_let (looked_at t u alts)) inner ∙ ap case_row outer ∙ case_of_let_is e

-- LETS

-- what is no let is a value behind lets where it is a value
pub no_lets_around : (v : Bool) (e : NExpr) → None ≡ binding_parts e → v ≡ is_value e → v ≡ is_value_behind_lets e
no_lets_around v (NLet r bs b) none value = cc
no_lets_around v e none value = value

abbrev pub bound : NTy → NExpr → Moving
bound t c bs b = let_of t b (renamed (below_values variables coercion_variables 1 (past_values (bind_count bs))) c)

abbrev of_value : NTy → NExpr → Option (Bool × NBinds × NExpr) → Option NExpr
of_value t c parts = from_some (λ p. if is_value_behind_lets p.2 then Some (NLet p.0 p.1 (bound t c p.1 p.2)) else None) parts

abbrev let_row : Option (NTy × NExpr × NExpr) → Option NExpr
let_row parts = from_some (λ p. of_value p.0 p.2 (binding_parts p.1)) parts

let_of_let_is : (e : NExpr) → let_row (single_binding_parts e) ≡ let_of_let e
let_of_let_is (NLet false (MoreNBinds (NBound t (NLet r bs b)) NoNBinds) c) = refl
let_of_let_is (NLet false (MoreNBinds (NBound t x) NoNBinds) c) = refl
let_of_let_is (NLet false (MoreNBinds x (MoreNBinds y rest)) c) = refl
let_of_let_is (NLet false NoNBinds c) = refl
let_of_let_is (NLet true bs c) = refl
let_of_let_is e = refl

pub let_of_let_made : (e x c : NExpr) (t : NTy) (r : Bool) (bs : NBinds) (b : NExpr) → Some (t, x, c) ≡ single_binding_parts e → Some (r, bs, b) ≡ binding_parts x → true ≡ is_value_behind_lets b
    → Some (NLet r bs (bound t c bs b)) ≡ let_of_let e
let_of_let_made e x c t r bs b outer inner value =
    ap (λ v. if v then Some (NLet r bs (bound t c bs b)) else None) value ∙ ap (of_value t c) inner ∙ ap let_row outer ∙ let_of_let_is e

pub let_of_same : (t u : NTy) (a b x y : NExpr) → t ≡ u → a ≡ b → x ≡ y → let_of t a x ≡ let_of u b y
let_of_same t u a b x y h i j = rw (h, i, j) refl
