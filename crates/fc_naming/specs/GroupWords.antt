-- The words of a let's group or of join points, which differ from each other and from those that their scope uses.
use Rattle.std.specs.Prelude.{◌≡◌, ℕ, Bool, true, List, length}
use Rattle.std.specs.List.{list_all}
use Rattle.fc_syntax.specs.declared.ty.Ref.{Ref}
use Rattle.fc_syntax.specs.declared.expr.Bind as RustBind
use Rattle.fc_syntax.specs.declared.expr.JoinBind as RustJoin
use Rattle.fc_syntax.specs.View.{binds_of, joins_of}
use Rattle.fc_model.specs.Formed.{is_lower_word}
use Rattle.fc_model.specs.Nameless.{NExpr}
use Rattle.fc_model.specs.NamelessView.{nbinds_of, njoins_of}
use Rattle.fc_model.specs.Resolution.{Locals, Top, Words, enter_joins, enter_values}
use Rattle.fc_model.specs.ResolutionRules.{AreDistinct}
use Rattle.fc_model.specs.Worded.{WBinds, WJoins}
use Rattle.fc_scope.specs.ScopeWords.{with_joins, with_values}
use Rattle.fc_naming.specs.declared.members.Group.{Group}
use Rattle.fc_naming.specs.Named.{JoinUses, LetUses}

pub record LetWords (top : Top) (s : Locals) (r : Bool) (ns : WBinds) (n : NExpr) (g : Group) : Type 0 where
  pub items : List (RustBind.Bind ℕ Ref)
  pub members : binds_of items ≡ ns
  pub taken : Words
  pub distinct : AreDistinct taken.terms g.words
  pub counted : length g.words ≡ length items
  pub lower : list_all is_lower_word g.words ≡ true
  pub values : with_values g.names s ≡ enter_values g.words s
  pub uses : LetUses top s r (nbinds_of items) n taken

pub record JoinWords (top : Top) (s : Locals) (r : Bool) (ns : WJoins) (n : NExpr) (g : Group) : Type 0 where
  pub items : List (RustJoin.JoinBind ℕ Ref)
  pub members : joins_of items ≡ ns
  pub taken : Words
  pub distinct : AreDistinct taken.terms g.words
  pub counted : length g.words ≡ length items
  pub lower : list_all is_lower_word g.words ≡ true
  pub joins : with_joins g.names s ≡ enter_joins g.words s
  pub uses : JoinUses top s r (njoins_of items) n taken
