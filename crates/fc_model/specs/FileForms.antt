-- The two forms of a file, a module and an interface, by their parts.
use Rattle.std.specs.Prelude.{List, map}
use Rattle.fc_syntax.specs.Tree.{Word, Decl, Module}
use Rattle.fc_model.specs.Grammar.{Part, Given, BodyOf, InterfaceOf, item_decl, module_from, interface_from}
use Rattle.fc_model.specs.Grammar.{ADeclaration, ADeclarationForm, AHeader, ABody, ABodyForm, AModule, AnItem, AnItemForm, AnInterfaceHeader, AnInterfaceBody, AnInterfaceBodyForm, AnInterface}

pub data FileForm : Type 0 where
  ModuleFile : FileForm
  InterfaceFile : FileForm

abbrev pub whole_part : FileForm → Part
whole_part ModuleFile = AModule
whole_part InterfaceFile = AnInterface

abbrev pub header_part : FileForm → Part
header_part ModuleFile = AHeader
header_part InterfaceFile = AnInterfaceHeader

abbrev pub body_part : FileForm → Part
body_part ModuleFile = ABody
body_part InterfaceFile = AnInterfaceBody

abbrev pub body_form_part : FileForm → Part
body_form_part ModuleFile = ABodyForm
body_form_part InterfaceFile = AnInterfaceBodyForm

-- what stands behind the header and the hidden names: declarations or items
abbrev pub member_part : FileForm → Part
member_part ModuleFile = ADeclaration
member_part InterfaceFile = AnItem

abbrev pub member_form_part : FileForm → Part
member_form_part ModuleFile = ADeclarationForm
member_form_part InterfaceFile = AnItemForm

-- what the file, its header, its body and one of its members give
abbrev pub File : FileForm → Type 0
File f = Given (whole_part f)

abbrev pub FileHeader : FileForm → Type 0
FileHeader f = Given (header_part f)

abbrev pub FileBody : FileForm → Type 0
FileBody f = Given (body_part f)

abbrev pub Member : FileForm → Type 0
Member f = Given (member_part f)

abbrev pub body_of : (f : FileForm) → List Word → List (Member f) → FileBody f
body_of ModuleFile hidden members = BodyOf hidden members
body_of InterfaceFile hidden members = BodyOf hidden members

abbrev pub file_from : (f : FileForm) → FileHeader f → FileBody f → File f
file_from ModuleFile h b = module_from h b
file_from InterfaceFile h b = interface_from h b

-- the declaration that a member stands for, on which the limits are
abbrev pub member_decl : (f : FileForm) → Member f → Decl
member_decl ModuleFile d = d
member_decl InterfaceFile item = item_decl item

abbrev pub member_decls : (f : FileForm) → List (Member f) → List Decl
member_decls ModuleFile ds = ds
member_decls InterfaceFile items = map item_decl items

-- the module of a file
abbrev pub module_in : (f : FileForm) → File f → Module
module_in ModuleFile m = m
module_in InterfaceFile (InterfaceOf m sigs told) = m
