-- The words that a declaration declares, by the space that they are in (types; terms, with constructors; coercions, with axioms) and in any
-- space.
use Rattle.std.specs.Prelude.{List, [], ◌∷◌, ◌++◌}
use Rattle.std.specs.List.{flat_map}
use Rattle.fc_syntax.specs.GenericTree.{Word, ConDecl, ConOf, Decl, DData, DNew, DFamily, DAxiom, DDef, DWrap}
use Rattle.fc_model.specs.Nameless.{NConDecl, NConOf, NDecl, NData, NNew, NFamily, NAxiom, NDef, NWrap}

-- OF THE NAMED TREE, AND OF THE NAMELESS ONE WITH WORDS

abbrev pub con_words : {L B : Type 0} → List (ConDecl L B) → List Word
con_words [] = []
con_words (ConOf n bs fields ∷ cs) = n ∷ con_words cs

abbrev pub type_words : {L V B : Type 0} → Decl L V B → List Word
type_words (DData n ps cs) = n ∷ []
type_words (DNew n ps t con) = n ∷ []
type_words (DFamily n ps k) = n ∷ []
type_words (DAxiom n ps t u) = []
type_words (DDef n t e) = []
type_words (DWrap n t e) = []

abbrev pub term_words : {L V B : Type 0} → Decl L V B → List Word
term_words (DData n ps cs) = con_words cs
term_words (DNew n ps t con) = []
term_words (DFamily n ps k) = []
term_words (DAxiom n ps t u) = []
term_words (DDef n t e) = n ∷ []
term_words (DWrap n t e) = n ∷ []

abbrev pub coercion_words : {L V B : Type 0} → Decl L V B → List Word
coercion_words (DData n ps cs) = []
coercion_words (DNew n ps t con) = con ∷ []
coercion_words (DFamily n ps k) = []
coercion_words (DAxiom n ps t u) = n ∷ []
coercion_words (DDef n t e) = []
coercion_words (DWrap n t e) = []

abbrev pub words_by : {L V B : Type 0} → (Decl L V B → List Word) → List (Decl L V B) → List Word
words_by words [] = []
words_by words (d ∷ ds) = words d ++ words_by words ds

-- in their order: a type and then its constructors, a newtype and then its axiom
abbrev pub decl_words : {L V B : Type 0} → Decl L V B → List Word
decl_words (DData n ps cs) = n ∷ con_words cs
decl_words (DNew n ps t con) = n ∷ con ∷ []
decl_words (DFamily n ps k) = n ∷ []
decl_words (DAxiom n ps t u) = n ∷ []
decl_words (DDef n t e) = n ∷ []
decl_words (DWrap n t e) = n ∷ []

abbrev pub declared_words : {L V B : Type 0} → List (Decl L V B) → List Word
declared_words ds = flat_map decl_words ds

-- the word that a fault in a declaration names
abbrev pub decl_word : {L V B : Type 0} → Decl L V B → Word
decl_word (DData n ps cs) = n
decl_word (DNew n ps t con) = n
decl_word (DFamily n ps k) = n
decl_word (DAxiom n ps t u) = n
decl_word (DDef n t e) = n
decl_word (DWrap n t e) = n

-- OF THE NAMELESS TREE

abbrev pub ncon_words : List NConDecl → List Word
ncon_words [] = []
ncon_words (NConOf n bs fields ∷ cs) = n ∷ ncon_words cs

abbrev pub ntype_words : NDecl → List Word
ntype_words (NData n ps cs) = n ∷ []
ntype_words (NNew n ps t con) = n ∷ []
ntype_words (NFamily n ps k) = n ∷ []
ntype_words (NAxiom n ps t u) = []
ntype_words (NDef n t e) = []
ntype_words (NWrap n t e) = []

abbrev pub nterm_words : NDecl → List Word
nterm_words (NData n ps cs) = ncon_words cs
nterm_words (NNew n ps t con) = []
nterm_words (NFamily n ps k) = []
nterm_words (NAxiom n ps t u) = []
nterm_words (NDef n t e) = n ∷ []
nterm_words (NWrap n t e) = n ∷ []

abbrev pub ncoercion_words : NDecl → List Word
ncoercion_words (NData n ps cs) = []
ncoercion_words (NNew n ps t con) = con ∷ []
ncoercion_words (NFamily n ps k) = []
ncoercion_words (NAxiom n ps t u) = n ∷ []
ncoercion_words (NDef n t e) = []
ncoercion_words (NWrap n t e) = []

abbrev pub nwords_by : (NDecl → List Word) → List NDecl → List Word
nwords_by words [] = []
nwords_by words (d ∷ ds) = words d ++ nwords_by words ds

abbrev pub ndecl_words : NDecl → List Word
ndecl_words (NData n ps cs) = n ∷ ncon_words cs
ndecl_words (NNew n ps t con) = n ∷ con ∷ []
ndecl_words (NFamily n ps k) = n ∷ []
ndecl_words (NAxiom n ps t u) = n ∷ []
ndecl_words (NDef n t e) = n ∷ []
ndecl_words (NWrap n t e) = n ∷ []

abbrev pub ndeclared_words : List NDecl → List Word
ndeclared_words [] = []
ndeclared_words (d ∷ ds) = ndecl_words d ++ ndeclared_words ds

abbrev pub ndecl_word : NDecl → Word
ndecl_word (NData n ps cs) = n
ndecl_word (NNew n ps t con) = n
ndecl_word (NFamily n ps k) = n
ndecl_word (NAxiom n ps t u) = n
ndecl_word (NDef n t e) = n
ndecl_word (NWrap n t e) = n
