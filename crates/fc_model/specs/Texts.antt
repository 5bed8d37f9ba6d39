-- What the bytes of a file spell.
use Rattle.std.specs.Prelude.{◌≡◌, ℕ, List, [], ◌∷◌, map, Ok}
use Rattle.fc_syntax.specs.Tree.{Word, Module}
use Rattle.fc_syntax.specs.Tokens.{Lexeme, tokens_of}
use Rattle.fc_syntax.specs.declared.keyword.Keyword.TheVariants as word
use Rattle.fc_model.specs.Words.{Tok, Open, Key, tok_of}
use Rattle.fc_model.specs.FileForms.{FileForm, FileHeader, Member, header_part, member_part}
use Rattle.fc_model.specs.Grammar.{Part, Given, Interface, Many, AName, AModule, AnInterface}
use Rattle.fc_model.specs.Reading.{Reads}

-- the bytes are a text of what a part gives, and nothing else
pub record SpellsPart (p : Part) (bytes : List ℕ) (x : Given p) : Type 0 where
  pub lexemes : List Lexeme
  pub lexed : tokens_of bytes ≡ Ok lexemes
  pub parsed : Reads p (map tok_of lexemes) x []

-- the bytes are a text of the module, limits aside
abbrev pub Spells : List ℕ → Module → Type 0
Spells bytes m = SpellsPart AModule bytes m

-- the same of an interface
abbrev pub SpellsInterface : List ℕ → Interface → Type 0
SpellsInterface bytes i = SpellsPart AnInterface bytes i

-- THE MEMBERS OF A TEXT THAT MAY NOT BE WHOLE

-- members, of which the text may end before the last or go on
pub data SomeMembersAt (f : FileForm) : List Tok → List (Member f) → List Tok → Type 0 where
  no_members : {rest : List Tok} → SomeMembersAt f rest [] rest
  some_members : {ts us rest : List Tok} {x : Member f} {xs : List (Member f)} → Reads (member_part f) ts x us → SomeMembersAt f us xs rest → SomeMembersAt f ts (x ∷ xs) rest

-- [(hidden n*)] and some members
pub data SomeBodyAt (f : FileForm) : List Tok → List (Member f) → List Tok → Type 0 where
  some_hidden : {ts us rest : List Tok} {ns : List Word} {xs : List (Member f)} → Reads (Many AName) ts ns us → SomeMembersAt f us xs rest
      → SomeBodyAt f (Open ∷ Key word.Hidden ∷ ts) xs rest
  some_plain : {ts rest : List Tok} {xs : List (Member f)} → SomeMembersAt f ts xs rest → SomeBodyAt f ts xs rest

-- the header of a file and some of its members
pub data BeginsWith (f : FileForm) : List Tok → List (Member f) → List Tok → Type 0 where
  begins_with : {ts us rest : List Tok} {h : FileHeader f} {xs : List (Member f)} → Reads (header_part f) ts h us → SomeBodyAt f us xs rest → BeginsWith f ts xs rest
