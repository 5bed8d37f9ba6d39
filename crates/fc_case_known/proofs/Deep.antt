-- What a case of a constructor with too many terms becomes is too deep: there is a let for each of them, one inside the other.
use Rattle.std.proofs.Common.{◌≡◌, ◌<◌, ℕ, Bool, true, false, nat_le, if◌then◌else◌, List, Option, Some, None, arith}
use Rattle.std.proofs.lemmas.Bool.Decides.{nat_tests}
use Rattle.fc_syntax.specs.declared.expr.Head.TheVariants as head
use Rattle.fc_syntax.specs.declared.ty.Name.{Name}
use Rattle.fc_syntax.specs.Limits.{standard_limits}
use Rattle.fc_syntax.specs.Measures.{expr_depth}
use Rattle.fc_model.specs.Calling.{constructor}
use Rattle.fc_model.specs.Kinding.{Modules}
use Rattle.fc_model.specs.Nameless.{NTy, NBinder, NArgs, NExpr, NCase, NCon}
use Rattle.fc_model.specs.Worded.{WExpr, bare_expr}
use Rattle.fc_model.proofs.CallsKept.{from_some_inv}
use Rattle.fc_rows.specs.Shrinking.{alternative_of, case_known, case_of_constructor, pair_with, term_count}
use Rattle.fc_rows.specs.Surroundings.{Surroundings}
use Rattle.fc_lets_for_terms.proofs.Deeper.{behind_lets_deep}
use Rattle.fc_case_known.specs.Within.{are_few_terms, has_few_terms}

if_some : {X : Type 0} (c : Bool) (o : Option X) (x : X) → (if c then o else None) ≡ Some x → o ≡ Some x
if_some true o x is = is
if_some false o x is = cc

more_than : (n : ℕ) → nat_le n 500 ≡ false → 500 < n
more_than n h = grind (arith, nat_tests, h)

-- with an alternative of its own
with_alternative : (ms : Modules) (xt : NTy) (n : Name) (args : NArgs) (own d : Option (List NBinder × NExpr)) (w : WExpr) → are_few_terms args own ≡ false
    → case_of_constructor ms xt n args own d ≡ Some (bare_expr w) → standard_limits.depth < expr_depth w
with_alternative ms xt n args None d w many is = cc
with_alternative ms xt n args (Some (bs, b)) d w many is =
    let found = from_some_inv _ (constructor ms n) (bare_expr w) is in
    omega (arith, more_than (term_count args) many, behind_lets_deep 0 _ args _ w (if_some (pair_with bs _) _ (bare_expr w) found.2))

pub too_deep : (ms : Modules) (s : Surroundings) (e : NExpr) (w : WExpr) → has_few_terms e ≡ false → case_known ms s e ≡ Some (bare_expr w) → standard_limits.depth < expr_depth w
too_deep ms s (NCase (NCon n args) xt rt alts) w many is = with_alternative ms xt n args (alternative_of (head.Con n) alts) (alternative_of head.Default alts) w many is
too_deep ms s _ w many is = cc
