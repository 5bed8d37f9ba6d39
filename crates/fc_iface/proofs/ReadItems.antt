-- Pieces read back: the items of an interface.
use Rattle.std.proofs.Common.{◌≡◌, Bool, true, false, List, [], ◌∷◌, ◌++◌, refl, ◌∙◌, codes}
use Rattle.std.specs.Prelude.{◌&&◌}
use Rattle.std.specs.List.{list_all}
use Rattle.std.proofs.lemmas.Bool.{and_parts, and_from}
use Rattle.fc_syntax.specs.Tree.{Word, Ty, TInt, Expr, Decl, DData, DNew, DFamily, DAxiom, DDef, DWrap}
use Rattle.fc_syntax.specs.Demands.{Sig}
use Rattle.fc_model.specs.Words.{Tok, Close, keyword_of}
use Rattle.fc_model.specs.FileForms.{InterfaceFile}
use Rattle.fc_model.specs.Grammar.{Part, Given, Steps, ◌▸◌, Many, AClose, ASignature, ADeclaration, AnUnfolding, AnItem, AnInterfaceBody, Body, BodyOf, Item, ItemDecl, ItemValue, Unfolding, Untold, ToldDef, ToldWrap}
use Rattle.fc_model.specs.Reading.{read_steps}
use Rattle.fc_model.specs.Pieces.{NoPieces, pieces_toks, piece_toks}
use Rattle.fc_model.specs.Spelling.{Alone, decl_piece, expr_pieces}
use Rattle.fc_model.specs.Canonical.{decl_text}
use Rattle.fc_model.specs.Formed.{is_decl_formed, is_expr_formed, is_lower_word, is_sig_formed, is_type_formed}
use Rattle.fc_model.specs.InterfaceTexts.{items_text, sig_pieces, unfolding_pieces, value_piece}
use Rattle.fc_printer.proofs.Leaves.{type_leaves}
use Rattle.fc_printer.proofs.LeavesOfForms.{decl_leaves}
use Rattle.fc_printer.proofs.Printed.{ArePrintable}
use Rattle.fc_printer.proofs.ReadKinds.{ReadsBack, type_back}
use Rattle.fc_printer.proofs.ReadExprs.{expr_back}
use Rattle.fc_printer.proofs.ReadDecls.{decl_back}
use Rattle.fc_printer.proofs.ReadMembers.{IsMember, MembersAt, more_members, no_members}
use Rattle.fc_printer.proofs.ReadBack.{decl_begins}
use Rattle.fc_iface.proofs.ReadDemands.{sig_back, sig_leaves}

-- what is told of a declaration
abbrev pub unfolding_of : Bool → Decl → Unfolding
unfolding_of true (DDef x t e) = ToldDef e
unfolding_of true (DWrap x t e) = ToldWrap e
unfolding_of told d = Untold

-- the name, the type and the expression of what is defined
record IsDefined (x : Word) (t : Ty) (e : Expr) : Type 0 where
  name : is_lower_word x ≡ true
  ty : is_type_formed t ≡ true
  right : is_expr_formed e ≡ true

defined : (x : Word) (t : Ty) (e : Expr) → (is_lower_word x && (is_type_formed t && is_expr_formed e)) ≡ true → IsDefined x t e
defined x t e h =
    let p = and_parts (is_lower_word x) (is_type_formed t && is_expr_formed e) h in
    let q = and_parts (is_type_formed t) (is_expr_formed e) p.1 in
    record { name = p.0; ty = q.0; right = q.1 }

-- the leaves of an expression are among those of a definition
right_leaves : (x : Word) (t : Ty) (e : Expr) → IsDefined x t e → ArePrintable (expr_pieces Alone e NoPieces)
right_leaves x t e d =
    let named = (decl_leaves (DDef x TInt e) (and_from (is_lower_word x) (is_expr_formed e) d.name d.right)).1 in
    let typed = named.1 in
    typed.1

-- what is told of a `def`, and of a `wrap`
def_leaves : (x : Word) (t : Ty) (e : Expr) → IsDefined x t e → (told : Bool) → ArePrintable (unfolding_pieces told (DDef x t e) NoPieces)
def_leaves x t e d true = ((refl, right_leaves x t e d), tt)
def_leaves x t e d false = (refl, tt)

wrap_leaves : (x : Word) (t : Ty) (e : Expr) → IsDefined x t e → (told : Bool) → ArePrintable (unfolding_pieces told (DWrap x t e) NoPieces)
wrap_leaves x t e d true = ((refl, right_leaves x t e d), tt)
wrap_leaves x t e d false = (refl, tt)

def_back : (x : Word) (t : Ty) (e : Expr) → is_expr_formed e ≡ true → (told : Bool) → ReadsBack AnUnfolding (unfolding_pieces told (DDef x t e)) (unfolding_of told (DDef x t e))
def_back x t e h true ps rest q f = expr_back e h NoPieces (Close ∷ pieces_toks ps rest) q (λ e. AClose ▸ λ _. f (ToldDef e))
def_back x t e h false ps rest q f = refl

wrap_back : (x : Word) (t : Ty) (e : Expr) → is_expr_formed e ≡ true → (told : Bool) → ReadsBack AnUnfolding (unfolding_pieces told (DWrap x t e)) (unfolding_of told (DWrap x t e))
wrap_back x t e h true ps rest q f = expr_back e h NoPieces (Close ∷ pieces_toks ps rest) q (λ e. AClose ▸ λ _. f (ToldWrap e))
wrap_back x t e h false ps rest q f = refl

value_leaf : is_lower_word (codes "value") ≡ true
unfolding keyword_of
value_leaf = refl

value_leads : (x : Word) (t : Ty) (s : Sig) (told : Bool) (d : Decl) (us : List Tok) (q : Part) (f : Body Item → Steps (Given q))
    → read_steps (piece_toks (value_piece x t s told d) us) (AnInterfaceBody ▸ f) ≡ read_steps (piece_toks (value_piece x t s told d) us) (AnItem ▸ λ i. Many AnItem ▸ λ is. f (BodyOf [] (i ∷ is)))
value_leads x t s told d us q f = refl

-- a value, by its parts
value_member : (x : Word) (t : Ty) (s : Sig) (told : Bool) (d : Decl) → is_lower_word x ≡ true → is_type_formed t ≡ true → is_sig_formed s ≡ true
    → ArePrintable (unfolding_pieces told d NoPieces) → ReadsBack AnUnfolding (unfolding_pieces told d) (unfolding_of told d) → IsMember InterfaceFile (value_piece x t s told d) (ItemValue x t s (unfolding_of told d))
value_member x t s told d named typed signed leaves right =
    let last = unfolding_pieces told d NoPieces in
    record {
      printable = (value_leaf, (named, type_leaves Alone t typed (sig_pieces s last) (sig_leaves s signed last leaves)));
      begins = λ us. tt;
      back = λ us q f.
          type_back t typed (sig_pieces s last) (Close ∷ us) q (λ t. ASignature ▸ λ s. AnUnfolding ▸ λ u. AClose ▸ λ _. f (ItemValue x t s u))
          ∙ sig_back s last (Close ∷ us) q (λ s. AnUnfolding ▸ λ u. AClose ▸ λ _. f (ItemValue x t s u)) ∙ right NoPieces (Close ∷ us) q (λ u. AClose ▸ λ _. f (ItemValue x t s u));
      leads = value_leads x t s told d;
    }

def_member : (x : Word) (t : Ty) (e : Expr) (s : Sig) (told : Bool) → is_decl_formed (DDef x t e) ≡ true → is_sig_formed s ≡ true
    → IsMember InterfaceFile (value_piece x t s told (DDef x t e)) (ItemValue x t s (unfolding_of told (DDef x t e)))
def_member x t e s told h signed =
    let d = defined x t e h in
    value_member x t s told (DDef x t e) d.name d.ty signed (def_leaves x t e d told) (def_back x t e d.right told)

wrap_member : (x : Word) (t : Ty) (e : Expr) (s : Sig) (told : Bool) → is_decl_formed (DWrap x t e) ≡ true → is_sig_formed s ≡ true
    → IsMember InterfaceFile (value_piece x t s told (DWrap x t e)) (ItemValue x t s (unfolding_of told (DWrap x t e)))
wrap_member x t e s told h signed =
    let d = defined x t e h in
    value_member x t s told (DWrap x t e) d.name d.ty signed (wrap_leaves x t e d told) (wrap_back x t e d.right told)

-- a declaration of a type or an axiom
abbrev IsItself : Decl → Type 0
IsItself d = (us : List Tok) (q : Part) (f : Item → Steps (Given q)) → read_steps (piece_toks (decl_piece d) us) (AnItem ▸ f) ≡ read_steps (piece_toks (decl_piece d) us) (ADeclaration ▸ λ d. f (ItemDecl d))

abbrev LeadsItems : Decl → Type 0
LeadsItems d = (us : List Tok) (q : Part) (f : Body Item → Steps (Given q))
    → read_steps (piece_toks (decl_piece d) us) (AnInterfaceBody ▸ f) ≡ read_steps (piece_toks (decl_piece d) us) (AnItem ▸ λ i. Many AnItem ▸ λ is. f (BodyOf [] (i ∷ is)))

decl_item : (d : Decl) → is_decl_formed d ≡ true → IsItself d → LeadsItems d → IsMember InterfaceFile (decl_piece d) (ItemDecl d)
decl_item d h itself leads =
    record { printable = decl_leaves d h; begins = decl_begins d; back = λ us q f. itself us q f ∙ decl_back d h us q (λ d. f (ItemDecl d)); leads = leads }

-- the items of declarations, with their signatures and what is told of them
abbrev pub items_of : List Decl → List Sig → List Bool → List Item
items_of (DDef x t e ∷ ds) (s ∷ sigs) (b ∷ told) = ItemValue x t s (unfolding_of b (DDef x t e)) ∷ items_of ds sigs told
items_of (DWrap x t e ∷ ds) (s ∷ sigs) (b ∷ told) = ItemValue x t s (unfolding_of b (DWrap x t e)) ∷ items_of ds sigs told
items_of (DDef x t e ∷ ds) sigs told = []
items_of (DWrap x t e ∷ ds) sigs told = []
items_of [] sigs told = []
items_of (d ∷ ds) sigs told = ItemDecl d ∷ items_of ds sigs told

abbrev ItemsGive : List Decl → List Sig → List Bool → Type 0
ItemsGive ds sigs told = MembersAt InterfaceFile (items_text ds sigs told) (items_of ds sigs told)

-- one more, which is no definition
more_decls : (d : Decl) (ds : List Decl) (sigs : List Sig) (told : List Bool) → is_decl_formed d ≡ true → IsItself d → LeadsItems d → ItemsGive ds sigs told
    → MembersAt InterfaceFile (codes "\n " ++ (decl_text d ++ items_text ds sigs told)) (ItemDecl d ∷ items_of ds sigs told)
more_decls d ds sigs told h itself leads others = more_members InterfaceFile (decl_piece d) (ItemDecl d) (items_text ds sigs told) (items_of ds sigs told) (decl_item d h itself leads) others

pub items_give : (ds : List Decl) (sigs : List Sig) (told : List Bool) → list_all is_decl_formed ds ≡ true → list_all is_sig_formed sigs ≡ true → ItemsGive ds sigs told
items_give [] sigs told h k = no_members InterfaceFile
items_give (DDef x t e ∷ ds) [] told h k = no_members InterfaceFile
items_give (DDef x t e ∷ ds) (s ∷ sigs) [] h k = no_members InterfaceFile
items_give (DDef x t e ∷ ds) (s ∷ sigs) (b ∷ told) h k =
    let p = and_parts (is_decl_formed (DDef x t e)) (list_all is_decl_formed ds) h in
    let q = and_parts (is_sig_formed s) (list_all is_sig_formed sigs) k in
    more_members InterfaceFile (value_piece x t s b (DDef x t e)) (ItemValue x t s (unfolding_of b (DDef x t e))) (items_text ds sigs told) (items_of ds sigs told) (def_member x t e s b p.0 q.0) (items_give ds sigs told p.1 q.1)
items_give (DWrap x t e ∷ ds) [] told h k = no_members InterfaceFile
items_give (DWrap x t e ∷ ds) (s ∷ sigs) [] h k = no_members InterfaceFile
items_give (DWrap x t e ∷ ds) (s ∷ sigs) (b ∷ told) h k =
    let p = and_parts (is_decl_formed (DWrap x t e)) (list_all is_decl_formed ds) h in
    let q = and_parts (is_sig_formed s) (list_all is_sig_formed sigs) k in
    more_members InterfaceFile (value_piece x t s b (DWrap x t e)) (ItemValue x t s (unfolding_of b (DWrap x t e))) (items_text ds sigs told) (items_of ds sigs told) (wrap_member x t e s b p.0 q.0) (items_give ds sigs told p.1 q.1)
items_give (DData n ps cs ∷ ds) sigs told h k =
    let p = and_parts (is_decl_formed (DData n ps cs)) (list_all is_decl_formed ds) h in
    more_decls (DData n ps cs) ds sigs told p.0 (λ us q f. refl) (λ us q f. refl) (items_give ds sigs told p.1 k)
items_give (DNew n ps t c ∷ ds) sigs told h k =
    let p = and_parts (is_decl_formed (DNew n ps t c)) (list_all is_decl_formed ds) h in
    more_decls (DNew n ps t c) ds sigs told p.0 (λ us q f. refl) (λ us q f. refl) (items_give ds sigs told p.1 k)
items_give (DFamily n ps l ∷ ds) sigs told h k =
    let p = and_parts (is_decl_formed (DFamily n ps l)) (list_all is_decl_formed ds) h in
    more_decls (DFamily n ps l) ds sigs told p.0 (λ us q f. refl) (λ us q f. refl) (items_give ds sigs told p.1 k)
items_give (DAxiom n ps t u ∷ ds) sigs told h k =
    let p = and_parts (is_decl_formed (DAxiom n ps t u)) (list_all is_decl_formed ds) h in
    more_decls (DAxiom n ps t u) ds sigs told p.0 (λ us q f. refl) (λ us q f. refl) (items_give ds sigs told p.1 k)
