-- Binders whose words are not taken: none is used in their scope, and each differs from those before it.
use Rattle.std.specs.Prelude.{List}
use Rattle.fc_syntax.specs.Tree.{Binder}
use Rattle.fc_model.specs.Nameless.{NExpr, NTy}
use Rattle.fc_model.specs.Resolution.{Locals, Top, Words, enter}
use Rattle.fc_model.specs.Worded.{WBinder, bare_binder, bare_binders}
use Rattle.fc_naming.specs.Declarations.{FieldsUse}
use Rattle.fc_naming.specs.Named.{BelowUses, LamUses, TakeWords, TakesWord}

-- the binder of a lambda around an expression
pub record LambdaWord (top : Top) (s : Locals) (c : WBinder) (n : NExpr) (b : Binder) : Type 0 where
  pub taken : Words
  pub more : Words
  pub uses : LamUses top s (bare_binder c) n taken
  pub takes : TakesWord top s taken c b (enter b s) more

-- the binders of an alternative or a join point around an expression, which lead to these locals
pub record BelowWords (top : Top) (s : Locals) (cs : List WBinder) (n : NExpr) (bs : List Binder) (t : Locals) : Type 0 where
  pub taken : Words
  pub more : Words
  pub uses : BelowUses top s (bare_binders cs) n taken
  pub take : TakeWords top s taken cs bs t more

-- the binders of a constructor around its fields
pub record FieldWords (top : Top) (s : Locals) (cs : List WBinder) (ts : List NTy) (bs : List Binder) (t : Locals) : Type 0 where
  pub taken : Words
  pub more : Words
  pub uses : FieldsUse top s (bare_binders cs) ts taken
  pub take : TakeWords top s taken cs bs t more
