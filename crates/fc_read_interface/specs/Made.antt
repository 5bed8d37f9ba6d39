-- What the items of an interface make of it.
use Rattle.std.specs.Prelude.{◌≡◌, Bool, List, [], ◌∷◌, map, Option, Some, None}
use Rattle.fc_syntax.specs.Demands.{Sig}
use Rattle.fc_syntax.specs.Tree.{Word, Decl, DDef, EFail}
use Rattle.fc_syntax.specs.View.{decl_of, decls_of}
use Rattle.fc_syntax.specs.declared.ty.Name.{Name}
use Rattle.fc_syntax.specs.declared.module.Decl as D
use Rattle.fc_model.specs.Grammar.{Item, item_decl, item_sigs, items_told}
use Rattle.fc_lattice.specs.View.{sig_of, sigs_of}
use Rattle.fc_read_interface.specs.declared.items.Items as I
use Rattle.fc_read_interface.specs.declared.items.Known as K

-- the declarations, signatures and truth values are those of the items
pub record AreOf (items : List Item) (made : I.Items) : Type 0 where
  pub decls : decls_of made.decls ≡ map item_decl items
  pub sigs : sigs_of made.sigs ≡ item_sigs items
  pub told : made.told ≡ items_told items

-- some items were read so, and they make this
pub record MadeOf (IsRead : List Item → Type 0) (made : I.Items) : Type 0 where
  pub items : List Item
  pub read : IsRead items
  pub are : AreOf items made

-- a `def` fails at its type
abbrev pub failing_decl : Decl → Decl
failing_decl (DDef x t e) = DDef x t (EFail t)
failing_decl d = d

abbrev pub known_sigs : Option K.Known → List Sig
known_sigs None = []
known_sigs (Some k) = sig_of k.sig ∷ []

abbrev pub known_told : Option K.Known → List Bool
known_told None = []
known_told (Some k) = k.told ∷ []

-- the declaration that an item stands for, and what is known of a definition
pub record IsDeclared (item : Item) (d : D.Decl Word Name) (known : Option K.Known) : Type 0 where
  pub decl : decl_of d ≡ item_decl item
  pub sigs : known_sigs known ≡ item_sigs (item ∷ [])
  pub told : known_told known ≡ items_told (item ∷ [])
