-- A body behind lets, seen as the bare form of a tree with words, is deeper than there are lets: each stands inside the one before.
use Rattle.std.proofs.Common.{◌≡◌, ◌<◌, ℕ, suc, Option, Some, None, ap, arith}
use Rattle.fc_syntax.specs.GenericTree.{EVar, ELet}
use Rattle.fc_syntax.specs.Measures.{expr_depth}
use Rattle.fc_syntax.specs.declared.ty.Ref.TheVariants as ref
use Rattle.fc_model.specs.Calling.{at_type, coercion_asked, from_some, function_ends}
use Rattle.fc_model.specs.Nameless.{NTy, NATerm, NAType, NACo, NArgs, NoNArgs, MoreNArgs, NExpr}
use Rattle.fc_model.specs.Replacing.{renamed}
use Rattle.fc_model.specs.Worded.{WExpr, bare_expr}
use Rattle.fc_rows.specs.Changing.{made}
use Rattle.fc_rows.specs.Shrinking.{behind_lets, let_of, term_count}
use Rattle.fc_rows.specs.Surroundings.{past_values}

-- what there is, if there is something, is deeper than this, whatever its words
abbrev IsDeeper : ℕ → Option NExpr → Type 0
IsDeeper n o = (w : WExpr) → o ≡ Some (bare_expr w) → n < expr_depth w

some_depth : (w : WExpr) → 0 < expr_depth w
some_depth (EVar x) = omega arith
some_depth _ = omega arith

-- one let more
one_deeper : (n : ℕ) (t : NTy) (a : NExpr) (o : Option NExpr) → IsDeeper n o → IsDeeper (suc n) (made (let_of t a) o)
one_deeper n t a None low w is = cc
one_deeper n t a (Some x) low (EVar (ref.Local i)) is = cc
one_deeper n t a (Some x) low (EVar (ref.Top m)) is = cc
one_deeper n t a (Some x) low (ELet r bs e) is = let inner : x ≡ bare_expr e = cc in omega (arith, low e (ap Some inner))
one_deeper n t a (Some x) low _ is = cc

from_any : {X : Type 0} (n : ℕ) (f : X → Option NExpr) (o : Option X) → ((x : X) → IsDeeper n (f x)) → IsDeeper n (from_some f o)
from_any n f None each w is = cc
from_any n f (Some x) each w is = each x w is

pub behind_lets_deep : (i : ℕ) (t : NTy) (args : NArgs) (b : NExpr) (w : WExpr) → behind_lets i t args b ≡ Some (bare_expr w) → term_count args < expr_depth w
behind_lets_deep i t NoNArgs b = λ w is. some_depth w
behind_lets_deep i t (MoreNArgs (NATerm a) rest) b = from_any _ _ (function_ends t) (λ e. one_deeper _ e.0 (renamed (past_values i) a) _ (behind_lets_deep (suc i) e.1 rest b))
behind_lets_deep i t (MoreNArgs (NAType u) rest) b = from_any _ _ (at_type t u) (λ v. behind_lets_deep i v rest b)
behind_lets_deep i t (MoreNArgs (NACo g) rest) b = from_any _ _ (coercion_asked t) (λ p. behind_lets_deep i p.3 rest b)
