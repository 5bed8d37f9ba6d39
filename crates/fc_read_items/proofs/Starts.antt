-- What an item begins with.
use Rattle.std.proofs.Common.{◌≡◌, suc, Bool, true, false, List, [], ◌∷◌, length, Some, refl, sym, ap, ◌∙◌, inl, inr}
use Rattle.std.specs.Prelude.{codes}
use Rattle.std.specs.Str.{bytes_eq}
use Rattle.std.proofs.lemmas.Slice.Eq.{bytes_eq-Decides}
use Rattle.fc_syntax.specs.Tree.{Word, Decl}
use Rattle.fc_syntax.specs.declared.keyword.Keyword.TheVariants as word
use Rattle.fc_model.specs.Words.{Tok, Key, Lower}
use Rattle.fc_model.specs.Grammar.{Part, Given, Steps, gives, ◌▸◌, Item, ItemDecl, declaration_form_row, ADeclarationForm, AnItemForm}
use Rattle.fc_model.specs.Reading.{Stuck, read_steps}
use Rattle.fc_read_parts.specs.declared.parts.Stop.{Stop}
use Rattle.fc_read_parts.specs.declared.parts.Stop.TheVariants as stop
use Rattle.fc_read_parts.specs.Reading.{StopsAt, Takes, first_tok}
use Rattle.fc_read_items.specs.Starts.{BeginsDefinition}
use Rattle.fc_read_items.proofs.Others.{by_other}

other_word : (w v : Word) → (w ≡ v → ⊥) → bytes_eq w v ≡ false
other_word w v n = by (bytes_eq w v) refl where
  by : (b : Bool) → bytes_eq w v ≡ b → b ≡ false
  by true e = absurd (n ((bytes_eq-Decides w v).0 e))
  by false e = refl

lower_stuck : (w : Word) (ts : List Tok) (q : Part) (f : Item → Steps (Given q)) → bytes_eq w (codes "value") ≡ false → read_steps (Lower w ∷ ts) (AnItemForm ▸ f) ≡ Stuck (suc (length ts))
lower_stuck w ts q f e = rw (e, read_steps) refl

-- where neither the word of a value nor that of a definition comes first, an item is a declaration
item_is_declaration : (ts : List Tok) → (first_tok ts ≡ Some (Lower (codes "value")) → ⊥) → (BeginsDefinition ts → ⊥) → (q : Part) (f : Item → Steps (Given q))
    → read_steps ts (AnItemForm ▸ f) ≡ read_steps ts (ADeclarationForm ▸ λ d. f (ItemDecl d))
item_is_declaration [] n m q f = refl
item_is_declaration (Lower w ∷ ts) n m q f = lower_stuck w ts q f (other_word w (codes "value") (λ e. n (ap (λ v. Some (Lower v)) e)))
item_is_declaration (Key word.Def ∷ ts) n m q f = absurd (m (inl refl))
item_is_declaration (Key word.Wrap ∷ ts) n m q f = absurd (m (inr refl))
item_is_declaration (t ∷ ts) n m q f = by_other AnItemForm q (λ d. gives (ItemDecl d)) f ts (declaration_form_row t)

-- no value begins with the first token, and `us` are still ahead
abbrev pub NoValue : (ts us : List Tok) → Type 0
NoValue ts us = (first_tok ts ≡ Some (Lower (codes "value")) → ⊥) × (us ≡ ts)

declaration_goes : (ts us : List Tok) → NoValue ts us → (BeginsDefinition us → ⊥) → (q : Part) (f : Item → Steps (Given q)) → read_steps ts (AnItemForm ▸ f) ≡ read_steps us (ADeclarationForm ▸ λ d. f (ItemDecl d))
declaration_goes ts us n m q f = ap (λ r. read_steps r (AnItemForm ▸ f)) (sym n.1) ∙ item_is_declaration us (λ e. n.0 (ap first_tok (sym n.1) ∙ e)) m q f

pub declaration_read : (ts us vs : List Tok) (d : Decl) → NoValue ts us → (BeginsDefinition us → ⊥) → Takes ADeclarationForm us d vs → Takes AnItemForm ts (ItemDecl d) vs
declaration_read ts us vs d n m a = λ q f. declaration_goes ts us n m q f ∙ a q (λ x. f (ItemDecl x))

pub declaration_stops : (ts us : List Tok) (h : Stop) → NoValue ts us → (BeginsDefinition us → ⊥) → StopsAt ADeclarationForm us h → StopsAt AnItemForm ts h
declaration_stops ts us stop.Memory n m d = tt
declaration_stops ts us (stop.Form k) n m d = λ q f. declaration_goes ts us n m q f ∙ d q (λ x. f (ItemDecl x))
