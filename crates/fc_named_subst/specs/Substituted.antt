-- What substitution on the named tree means, by nameless forms.
use Rattle.std.specs.Prelude.{◌≡◌, false, Result, Ok}
use Rattle.fc_syntax.specs.Tree.{Word, Arg, ATerm, AType, ACo, Expr}
use Rattle.fc_model.specs.Faulting.{F, and_then}
use Rattle.fc_model.specs.Nameless.{NExpr}
use Rattle.fc_model.specs.Replacing.{replaced, unchanged, with_argument}
use Rattle.fc_model.specs.Resolution.{Locals, Top, Value, resolved_arg, resolved_expr, with_coercion, with_term, with_type}

-- what is in scope where a word stands for such a piece: the word is the innermost one
abbrev pub behind : Word → Arg → Locals → Locals
behind x (ATerm e) s = with_term (Value x) s
behind x (AType t) s = with_type x s
behind x (ACo g) s = with_coercion x s

-- the nameless form of an expression with that of a piece in place of the innermost variable, or the first fault of names: in the
-- expression, then in the piece
abbrev pub substituted : Top → Locals → Word → Arg → Expr → Result NExpr F
substituted top s x by e =
    and_then (resolved_expr top (behind x by s) e) (λ n.
    and_then (resolved_arg top s by) (λ a. Ok (replaced (with_argument a unchanged) n)))

-- the nameless form that is judged is that of the answer
pub record IsSubstituted (top : Top) (s : Locals) (answer : Expr) (judged : Result NExpr F) : Type 0 where
  pub form : NExpr
  pub is : judged ≡ Ok form
  pub means : resolved_expr top s answer ≡ Ok form

-- the own module does not import itself
pub record IsApart (top : Top) : Type 0 where
  pub imports : top.imports top.own ≡ false
