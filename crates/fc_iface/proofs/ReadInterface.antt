-- The text of an interface spells the interface.
use Rattle.std.proofs.Common.{arith, ◌≡◌, ℕ, Bool, true, false, List, [], ◌∷◌, ◌++◌, length, codes, refl, sym, ◌∙◌, ap, map}
use Rattle.std.specs.Prelude.{◌&&◌}
use Rattle.std.specs.Fmt.{digits}
use Rattle.std.specs.List.{list_all}
use Rattle.std.proofs.lemmas.Bool.{and_parts}
use Rattle.fc_syntax.specs.Tree.{Word, Ty, Decl, DData, DNew, DFamily, DAxiom, DDef, DWrap, ModuleOf}
use Rattle.fc_syntax.specs.Tokens.{is_module_name}
use Rattle.fc_syntax.specs.Demands.{Sig}
use Rattle.fc_model.specs.Words.{Tok, Open, Lower, Number, keyword_of}
use Rattle.fc_model.specs.FileForms.{InterfaceFile}
use Rattle.fc_model.specs.Grammar.{◌▸◌, AnInterface, AnInterfaceBody, BodyOf, HeaderOf, Interface, InterfaceOf, Item, ItemDecl, ItemValue, Unfolding, definition_of, interface_from, is_told, item_decl, item_sigs, items_told}
use Rattle.fc_model.specs.Reading.{read_steps}
use Rattle.fc_model.specs.Texts.{SpellsInterface}
use Rattle.fc_model.specs.Pieces.{Leaf}
use Rattle.fc_model.specs.Canonical.{header_text}
use Rattle.fc_model.specs.Formed.{AreInterfaceParts, FailUntold, IsInterfaceFormed, definition_count, is_decl_formed, is_lower_word, is_word}
use Rattle.fc_model.specs.InterfaceTexts.{interface_text, items_text}
use Rattle.fc_printer.proofs.Lexed.{Reads, reads_open, reads_space, reads_word}
use Rattle.fc_printer.proofs.Names.{lower_word}
use Rattle.fc_printer.proofs.Printed.{reads_piece}
use Rattle.fc_printer.proofs.ReadHeader.{GivesAt, header_gives}
use Rattle.fc_printer.proofs.ReadMembers.{body_gives, ending}
use Rattle.fc_printer.proofs.ReadBack.{spelled}
use Rattle.fc_iface.proofs.ReadItems.{items_give, items_of}

-- items tell declarations, their signatures, and which right sides are told
record Tell (items : List Item) (ds : List Decl) (sigs : List Sig) (told : List Bool) : Type 0 where
  decls_are : map item_decl items ≡ ds
  sigs_are : item_sigs items ≡ sigs
  told_are : items_told items ≡ told

value_tells : (x : Word) (t : Ty) (s : Sig) (u : Unfolding) (d : Decl) (items : List Item) (ds : List Decl) (sigs : List Sig) (told : List Bool) → definition_of x t u ≡ d → Tell items ds sigs told
    → Tell (ItemValue x t s u ∷ items) (d ∷ ds) (s ∷ sigs) (is_told u ∷ told)
value_tells x t s u d items ds sigs told e r = record { decls_are = λ i. e i ∷ r.decls_are i; sigs_are = ap (λ y. s ∷ y) r.sigs_are; told_are = ap (λ y. is_told u ∷ y) r.told_are }

decl_tells : (d : Decl) (items : List Item) (ds : List Decl) (sigs : List Sig) (told : List Bool) → Tell items ds sigs told → Tell (ItemDecl d ∷ items) (d ∷ ds) sigs told
decl_tells d items ds sigs told r = record { decls_are = ap (λ y. d ∷ y) r.decls_are; sigs_are = r.sigs_are; told_are = r.told_are }

items_tell : (ds : List Decl) (sigs : List Sig) (told : List Bool) → length sigs ≡ definition_count ds → FailUntold ds told → Tell (items_of ds sigs told) ds sigs told
items_tell [] [] [] e f = record { decls_are = refl; sigs_are = refl; told_are = refl }
items_tell [] [] (b ∷ told) e f = absurd f
items_tell [] (s ∷ sigs) told e f = absurd (omega (arith, e))
items_tell (DDef x t e ∷ ds) [] told k f = absurd (omega (arith, k))
items_tell (DDef x t e ∷ ds) (s ∷ sigs) [] k f = absurd f
items_tell (DDef x t e ∷ ds) (s ∷ sigs) (true ∷ told) k f = value_tells x t s _ _ _ ds sigs told refl (items_tell ds sigs told (omega (arith, k)) f)
items_tell (DDef x t e ∷ ds) (s ∷ sigs) (false ∷ told) k f = value_tells x t s _ _ _ ds sigs told (ap (DDef x t) (sym f.0)) (items_tell ds sigs told (omega (arith, k)) f.1)
items_tell (DWrap x t e ∷ ds) [] told k f = absurd (omega (arith, k))
items_tell (DWrap x t e ∷ ds) (s ∷ sigs) [] k f = absurd f
items_tell (DWrap x t e ∷ ds) (s ∷ sigs) (true ∷ told) k f = value_tells x t s _ _ _ ds sigs told refl (items_tell ds sigs told (omega (arith, k)) f)
items_tell (DWrap x t e ∷ ds) (s ∷ sigs) (false ∷ told) k f = absurd f
items_tell (DData n ps cs ∷ ds) sigs told k f = decl_tells (DData n ps cs) _ ds sigs told (items_tell ds sigs told k f)
items_tell (DNew n ps t c ∷ ds) sigs told k f = decl_tells (DNew n ps t c) _ ds sigs told (items_tell ds sigs told k f)
items_tell (DFamily n ps l ∷ ds) sigs told k f = decl_tells (DFamily n ps l) _ ds sigs told (items_tell ds sigs told k f)
items_tell (DAxiom n ps t u ∷ ds) sigs told k f = decl_tells (DAxiom n ps t u) _ ds sigs told (items_tell ds sigs told k f)

interface_leaf : is_lower_word (codes "interface") ≡ true
unfolding keyword_of
interface_leaf = refl

reads_version : (text : List ℕ) (ts : List Tok) → Reads (32 ∷ text) ts → Reads (codes "1 " ++ text) (Number 1 ∷ ts)
unfolding digits
reads_version text ts r = reads_piece (Leaf (Number 1)) (32 ∷ text) ts refl refl r

interface_gives : (m : Word) (imports exports hidden : List Word) (ds : List Decl) (sigs : List Sig) (told : List Bool) → AreInterfaceParts (ModuleOf m imports exports hidden ds) ds sigs told
    → GivesAt (interface_text (InterfaceOf (ModuleOf m imports exports hidden ds) sigs told)) AnInterface (InterfaceOf (ModuleOf m imports exports hidden ds) sigs told) []
interface_gives m imports exports hidden ds sigs told formed =
    let parts = and_parts (is_module_name m && list_all is_module_name imports) ((list_all is_word exports && list_all is_word hidden) && list_all is_decl_formed ds) formed.formed in
    let lists = and_parts (list_all is_word exports && list_all is_word hidden) (list_all is_decl_formed ds) parts.1 in
    let words = and_parts (list_all is_word exports) (list_all is_word hidden) lists.0 in
    let items = items_of ds sigs told in
    let t = items_tell ds sigs told formed.one_sig formed.untold in
    let is : interface_from (HeaderOf m imports exports) (BodyOf hidden items) ≡ InterfaceOf (ModuleOf m imports exports hidden ds) sigs told =
    λ i. InterfaceOf (ModuleOf m imports exports hidden (t.decls_are i)) (t.sigs_are i) (t.told_are i) in
    let body = body_gives InterfaceFile hidden (items_text ds sigs told) items words.1 (items_give ds sigs told lists.1 formed.demands) in
    let header = header_gives m imports exports hidden ds formed.formed (items_text ds sigs told ++ ending) body.toks body.reads in
    let text = header_text (ModuleOf m imports exports hidden ds) ++ (items_text ds sigs told ++ ending) in
    let first = Lower (codes "interface") in
    let behind = Number 1 ∷ header.toks in
    record {
      toks = Open ∷ first ∷ behind;
      reads = reads_open (codes "interface 1 " ++ text) (first ∷ behind)
          (reads_word (codes "interface") (codes " 1 " ++ text) first behind (lower_word (codes "interface") interface_leaf) refl
          (reads_space (codes "1 " ++ text) behind (reads_version text header.toks (reads_space text header.toks header.reads))));
      back = λ q f. header.back q (λ h. AnInterfaceBody ▸ λ b. f (interface_from h b)) ∙ body.back q (λ b. f (interface_from (HeaderOf m imports exports) b)) ∙ ap (λ y. read_steps [] (f y)) is;
    }

pub interface_spells : (i : Interface) → IsInterfaceFormed i → SpellsInterface (interface_text i) i
interface_spells (InterfaceOf (ModuleOf m imports exports hidden ds) sigs told) formed = spelled AnInterface _ _ (interface_gives m imports exports hidden ds sigs told formed)
