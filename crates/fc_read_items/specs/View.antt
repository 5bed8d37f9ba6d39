-- What items of an interface mean.
use Rattle.fc_syntax.specs.View.{decl_of, expr_of, ty_of}
use Rattle.fc_model.specs.Grammar.{Item, ItemDecl, ItemValue, Unfolding, Untold, ToldDef, ToldWrap}
use Rattle.fc_lattice.specs.View.{sig_of}
use Rattle.fc_read_items.specs.declared.items.Unfolding as U
use Rattle.fc_read_items.specs.declared.items.Unfolding.TheVariants as told
use Rattle.fc_read_items.specs.declared.items.Item as I
use Rattle.fc_read_items.specs.declared.items.Item.TheVariants as item

abbrev pub unfolding_of : U.Unfolding → Unfolding
unfolding_of told.Untold = Untold
unfolding_of (told.Def e) = ToldDef (expr_of e)
unfolding_of (told.Wrap e) = ToldWrap (expr_of e)

abbrev pub item_of : I.Item → Item
item_of (item.Decl d) = ItemDecl (decl_of d)
item_of (item.Value x t sig u) = ItemValue x (ty_of t) (sig_of sig) (unfolding_of u)
