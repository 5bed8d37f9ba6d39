-- What formed modules declare is formed: the types of definitions, constructors and axioms.
use Rattle.std.proofs.Common.{◌≡◌, ℕ, ◌+◌, true, List, [], ◌∷◌, ◌++◌, length, map, Option, Some, None, Ok, IfSome, IfOk}
use Rattle.std.specs.Str.{bytes_eq}
use Rattle.std.proofs.lemmas.Bool.{and_from, and_parts}
use Rattle.fc_syntax.specs.declared.ty.Name.{Name}
use Rattle.fc_syntax.specs.Tree.{Kind, Word}
use Rattle.fc_model.specs.Calling.{Constructor, con_among, con_decl, constructed_type, constructor, constructor_binders, constructor_type, data_name, first_of, type_count}
use Rattle.fc_model.specs.Coercing.{Axiom, Ends, axiom_decl, axiom_named, family_axiom, newtype_axiom}
use Rattle.fc_model.specs.Formed.{is_module_formed, is_upper_formed, is_upper_word}
use Rattle.fc_model.specs.Kinding.{Modules, param_kinds}
use Rattle.fc_model.specs.Nameless.{NTy, NTCon, NBinder, NBValue, NBType, NBCo, NParam, NConDecl, NConOf, NDecl, NData, NNew, NFamily, NAxiom, NDef, NWrap}
use Rattle.fc_model.specs.Typing.{def_type, value_type}
use Rattle.fc_formed.specs.FormedTrees.{IsFormedTy, AreFormedTys, AreFormedBinders, AreFieldCoercions, AreFieldBinders, AreFormedCons, AreFormedDecls}
use Rattle.fc_rows_formed.proofs.Answered.{either}
use Rattle.fc_rows_formed.proofs.TypesFormed.{applied_to_variables_formed, over_binders_formed}

-- what modules declare is formed
abbrev pub AreDeclaredFormed : Modules → Type 0
AreDeclaredFormed ms = (o : Option Word) → AreFormedDecls (ms o)

-- DEFINITIONS

def_type_formed : (ds : List NDecl) (w : Word) → AreFormedDecls ds → IfOk (def_type ds w) IsFormedTy
def_type_formed [] w f = tt
def_type_formed (NData n ps cs ∷ ds) w f = def_type_formed ds w f.1
def_type_formed (NNew n ps t con ∷ ds) w f = def_type_formed ds w f.1
def_type_formed (NFamily n ps k ∷ ds) w f = def_type_formed ds w f.1
def_type_formed (NAxiom n ps t u ∷ ds) w f = def_type_formed ds w f.1
def_type_formed (NDef n t e ∷ ds) w f = either (λ r. IfOk r IsFormedTy) (bytes_eq n w) (Ok t) (def_type ds w) f.0.1 (def_type_formed ds w f.1)
def_type_formed (NWrap n t e ∷ ds) w f = either (λ r. IfOk r IsFormedTy) (bytes_eq n w) (Ok t) (def_type ds w) f.0.1 (def_type_formed ds w f.1)

pub value_type_formed : (ms : Modules) → AreDeclaredFormed ms → (n : Name) → IfOk (value_type ms n) IsFormedTy
value_type_formed ms f n = def_type_formed (ms n.module) n.text (f n.module)

-- CONSTRUCTORS

-- the word of its data type, its binders and its fields
pub record IsConstructorFormed (k : Constructor) : Type 0 where
  pub word : is_upper_word k.data_word ≡ true
  pub binders_formed : AreFormedBinders k.binders
  pub fields_formed : AreFormedTys k.fields

coercions_formed : (bs : List NBinder) → AreFieldCoercions bs → AreFormedBinders bs
coercions_formed [] w = tt
coercions_formed (NBValue t ∷ bs) w = absurd w
coercions_formed (NBType k ∷ bs) w = absurd w
coercions_formed (NBCo r t u ∷ bs) w = (w.0, coercions_formed bs w.1)

own_binders_formed : (bs : List NBinder) → AreFieldBinders bs → AreFormedBinders bs
own_binders_formed [] w = tt
own_binders_formed (NBValue t ∷ bs) w = absurd w
own_binders_formed (NBType k ∷ bs) w = (tt, own_binders_formed bs w)
own_binders_formed (NBCo r t u ∷ bs) w = (w.0, coercions_formed bs w.1)

con_formed : (d : Word) (ps : List NParam) (i : ℕ) (cs : List NConDecl) (w : Word) → is_upper_word d ≡ true → AreFormedCons cs → IfSome (con_among d ps i cs w) IsConstructorFormed
con_formed d ps i [] w h f = tt
con_formed d ps i (NConOf n bs fields ∷ cs) w h f =
    either (λ o. IfSome o IsConstructorFormed) (bytes_eq n w) (Some (record { data_word = d; params = ps; number = i; binders = bs; fields = fields })) (con_among d ps (i + 1) cs w)
    (record { word = h; binders_formed = own_binders_formed bs f.0.1; fields_formed = f.0.2 }) (con_formed d ps (i + 1) cs w h f.1)

first_formed : (o p : Option Constructor) → IfSome o IsConstructorFormed → IfSome p IsConstructorFormed → IfSome (first_of o p) IsConstructorFormed
first_formed (Some k) p f g = f
first_formed None p f g = g

con_decl_formed : (ds : List NDecl) (w : Word) → AreFormedDecls ds → IfSome (con_decl ds w) IsConstructorFormed
con_decl_formed [] w f = tt
con_decl_formed (NData n ps cs ∷ ds) w f = first_formed (con_among n ps 0 cs w) (con_decl ds w) (con_formed n ps 0 cs w f.0.0 f.0.1) (con_decl_formed ds w f.1)
con_decl_formed (NNew n ps t con ∷ ds) w f = con_decl_formed ds w f.1
con_decl_formed (NFamily n ps k ∷ ds) w f = con_decl_formed ds w f.1
con_decl_formed (NAxiom n ps t u ∷ ds) w f = con_decl_formed ds w f.1
con_decl_formed (NDef n t e ∷ ds) w f = con_decl_formed ds w f.1
con_decl_formed (NWrap n t e ∷ ds) w f = con_decl_formed ds w f.1

pub constructor_formed : (ms : Modules) → AreDeclaredFormed ms → (n : Name) → IfSome (constructor ms n) IsConstructorFormed
constructor_formed ms f n = con_decl_formed (ms n.module) n.text (f n.module)

-- the name of the data type of a constructor
pub data_name_formed : (n : Name) (k : Constructor) → is_upper_formed n ≡ true → IsConstructorFormed k → is_upper_formed (data_name n k.data_word) ≡ true
data_name_formed n k h f = and_from (is_module_formed n.module) (is_upper_word k.data_word) (and_parts (is_module_formed n.module) (is_upper_word n.text) h).0 f.word

binders_append : (bs cs : List NBinder) → AreFormedBinders bs → AreFormedBinders cs → AreFormedBinders (bs ++ cs)
binders_append [] cs f g = g
binders_append (b ∷ bs) cs f g = (f.0, binders_append bs cs f.1 g)

types_bound : (ks : List Kind) → AreFormedBinders (map NBType ks)
types_bound [] = tt
types_bound (k ∷ ks) = (tt, types_bound ks)

values_bound : (ts : List NTy) → AreFormedTys ts → AreFormedBinders (map NBValue ts)
values_bound [] f = tt
values_bound (t ∷ ts) f = (f.0, values_bound ts f.1)

-- the type of a constructor as a function
pub constructor_type_formed : (n : Name) (k : Constructor) → is_upper_formed n ≡ true → IsConstructorFormed k → IsFormedTy (constructor_type n k)
constructor_type_formed n k h f =
    let made = applied_to_variables_formed (NTCon (data_name n k.data_word)) (length k.params) (type_count k.binders) (data_name_formed n k h f) in
    let own = binders_append k.binders (map NBValue k.fields) f.binders_formed (values_bound k.fields f.fields_formed) in
    over_binders_formed (constructor_binders k) (constructed_type n k)
    (binders_append (map NBType (param_kinds k.params)) (k.binders ++ map NBValue k.fields) (types_bound (param_kinds k.params)) own) made

-- AXIOMS

abbrev pub AreEndsFormed : Ends → Type 0
AreEndsFormed e = IsFormedTy e.left × IsFormedTy e.right

abbrev pub IsAxiomFormed : Axiom → Type 0
IsAxiomFormed a = AreEndsFormed a.ends

axiom_formed : (m : Option Word) (ds : List NDecl) (w : Word) → is_module_formed m ≡ true → AreFormedDecls ds → IfSome (axiom_decl m ds w) IsAxiomFormed
axiom_formed m [] w h f = tt
axiom_formed m (NData n ps cs ∷ ds) w h f = axiom_formed m ds w h f.1
axiom_formed m (NNew n ps t con ∷ ds) w h f =
    let of_newtype = applied_to_variables_formed (NTCon (record { «module» = m; text = n })) (length ps) 0 (and_from (is_module_formed m) (is_upper_word n) h f.0.0.0) in
    either (λ o. IfSome o IsAxiomFormed) (bytes_eq con w) (Some (newtype_axiom m n ps t)) (axiom_decl m ds w) (of_newtype, f.0.1) (axiom_formed m ds w h f.1)
axiom_formed m (NFamily n ps k ∷ ds) w h f = axiom_formed m ds w h f.1
axiom_formed m (NAxiom n ps t u ∷ ds) w h f =
    either (λ o. IfSome o IsAxiomFormed) (bytes_eq n w) (Some (family_axiom ps t u)) (axiom_decl m ds w) (f.0.1, f.0.2) (axiom_formed m ds w h f.1)
axiom_formed m (NDef n t e ∷ ds) w h f = axiom_formed m ds w h f.1
axiom_formed m (NWrap n t e ∷ ds) w h f = axiom_formed m ds w h f.1

pub axiom_named_formed : (ms : Modules) → AreDeclaredFormed ms → (n : Name) → is_upper_formed n ≡ true → IfSome (axiom_named ms n) IsAxiomFormed
axiom_named_formed ms f n h = axiom_formed n.module (ms n.module) n.text (and_parts (is_module_formed n.module) (is_upper_word n.text) h).0 (f n.module)
