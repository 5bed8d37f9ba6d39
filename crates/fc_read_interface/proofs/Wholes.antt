-- An interface from its header and what its items make.
use Rattle.std.proofs.Common.{◌≡◌, ℕ, List, [], ◌∷◌, ap, ◌∙◌}
use Rattle.fc_syntax.specs.declared.keyword.Keyword.TheVariants as word
use Rattle.fc_syntax.specs.Tree.{Word, ModuleOf}
use Rattle.fc_syntax.specs.View.{decls_of}
use Rattle.fc_model.specs.FileForms.{InterfaceFile}
use Rattle.fc_model.specs.Formed.{IsInterfaceFormed}
use Rattle.fc_model.specs.Grammar.{◌▸◌, AName, AnInterface, AnInterfaceBody, AnInterfaceHeader, AnItem, BodyOf, HeaderOf, Interface, InterfaceOf, Many}
use Rattle.fc_model.specs.ReadFaults.{ReadsTo}
use Rattle.fc_model.specs.Reading.{read_steps}
use Rattle.fc_model.specs.Words.{Tok, Open, Key}
use Rattle.fc_lattice.specs.View.{sigs_of}
use Rattle.fc_read_parts.specs.Reading.{NotHidden, Takes}
use Rattle.fc_reader.proofs.Halts.{plain_read, whole_read}
use Rattle.fc_reader.proofs.RowsFormed.{reads_formed}
use Rattle.fc_read_interface.specs.Made.{MadeOf}
use Rattle.fc_read_interface.specs.declared.items.Items as I

pub hidden_made : (ts us vs ws : List Tok) (ns : List Word) (made : I.Items) → ts ≡ Open ∷ Key word.Hidden ∷ us → Takes (Many AName) us ns vs → MadeOf (λ items. Takes (Many AnItem) vs items ws) made
    → MadeOf (λ items. Takes AnInterfaceBody ts (BodyOf ns items) ws) made
hidden_made ts us vs ws ns made e n h = record {
  items = h.items;
  read = λ q f. ap (λ r. read_steps r (AnInterfaceBody ▸ f)) e ∙ n q (λ ms. Many AnItem ▸ λ items. f (BodyOf ms items)) ∙ h.read q (λ items. f (BodyOf ns items));
  are = h.are;
}

pub plain_made : (ts us ws : List Tok) (ns : List Word) (made : I.Items) → NotHidden ts × (us ≡ ts) → ns ≡ [] → MadeOf (λ items. Takes (Many AnItem) us items ws) made
    → MadeOf (λ items. Takes AnInterfaceBody ts (BodyOf ns items) ws) made
plain_made ts us ws ns made p e h = record { items = h.items; read = plain_read InterfaceFile p e h.read; are = h.are }

pub whole_made : (ts us ws : List Tok) (m : Word) (imports exports hidden : List Word) (made : I.Items) (i : Interface) → Takes AnInterfaceHeader ts (HeaderOf m imports exports) us
    → MadeOf (λ items. Takes AnInterfaceBody us (BodyOf hidden items) ws) made → i ≡ InterfaceOf (ModuleOf m imports exports hidden (decls_of made.decls)) (sigs_of made.sigs) made.told
    → Takes AnInterface ts i ws
whole_made ts us ws m imports exports hidden made i a h e =
    whole_read InterfaceFile ts a h.read (e ∙ (λ j. InterfaceOf (ModuleOf m imports exports hidden (h.are.decls j)) (h.are.sigs j) (h.are.told j)))

-- what a text spells is formed
pub interface_formed : (room : ℕ) (bytes : List ℕ) (i : Interface) → ReadsTo InterfaceFile room bytes i → IsInterfaceFormed i
interface_formed room bytes i r = reads_formed InterfaceFile room bytes i r
