-- What surroundings know of top-level names holds in programs.
use Rattle.std.proofs.Common.{◌≡◌, All, Bool, true, false, if◌then◌else◌, List, [], ◌∷◌, Option, Some, None, refl, sym, ap, ◌∙◌, subst}
use Rattle.std.proofs.lemmas.List.Elements.{All-head, All-tail}
use Rattle.std.specs.Str.{bytes_eq}
use Rattle.fc_syntax.specs.Tree.{Word}
use Rattle.fc_syntax.specs.declared.ty.Name.{Name}
use Rattle.fc_model.specs.Erasure.{Scope, erased, no_scope}
use Rattle.fc_model.specs.Headers.{ndecls_in}
use Rattle.fc_model.specs.Kinding.{decls_at, decls_of_module, same_word}
use Rattle.fc_model.specs.Nameless.{NExpr, NVar, NCon, NArgs, NDecl, NData, NNew, NFamily, NAxiom, NDef, NWrap, NModule, NModuleOf, NFail}
use Rattle.fc_model.specs.Programs.{right_side}
use Rattle.fc_model.specs.Stepping.{IsHead, Program, Reaches, next}
use Rattle.fc_model.specs.Terms.{Global, Term, IsSorted, sub}
use Rattle.fc_model.proofs.Sameness.{bytes_eq_refl, bytes_eq_eq, false_true}
use Rattle.fc_rows.specs.Surroundings.{is_value, known_definition, known_of}
use Rattle.fc_meaning.specs.Laws.{SortedProgram}
use Rattle.fc_meaning.proofs.WrittenExpressions.{AreDeclsWritten, IsWritten}
use Rattle.fc_counted.specs.Closings.{Closing}
use Rattle.fc_term_rows.specs.FactsMet.{Meets}
use Rattle.fc_term_rows.proofs.Closed.{closed_stays}
use Rattle.fc_term_rows.proofs.Knowing.{head_none}
use Rattle.fc_row_places.specs.NamelessFacts.{BehindTypes, behind_none, behind_one, erased_fact, NFact, NFactCon, NFactNoneOf, NKnows, nknows_name}
use Rattle.fc_row_places.specs.NamelessPlaces.{NOutside}
use Rattle.fc_row_places.proofs.MovedFacts.{behind_written}
use Rattle.fc_reaching.specs.Numbering.{word_of}
use Rattle.fc_kept_meaning.specs.FairImports.{IsToldTruly, TellDeclarations, TellsTruth, TellTruth, is_told, named_in}
use Rattle.fc_kept_meaning.specs.MeaningKept.{MetIn, with_module}
use Rattle.fc_row_meaning.specs.LocalsTold.{nothing_told, Told}
use Rattle.fc_row_meaning.specs.NamesTold.{NamesAreTold}
use Rattle.fc_row_meaning.specs.SharedRights.{is_trivial_con, RightsShare, no_rights, same_right, rights_of_def, rights_of_wrap, Shares}
use Rattle.fc_row_meaning.proofs.LocalsKnown.{told_shared, value_is_head}
use Rattle.fc_row_meaning.proofs.ValuesKept.{shares_itself}

-- DEFINITIONS

-- one type or another
abbrev Either : Bool → Type 0 → Type 0 → Type 0
Either true X Y = X
Either false X Y = Y

-- X holds of the first definition of a word
abbrev FirstIs : (NExpr → Type 0) → Word → List NDecl → Type 0
FirstIs X v [] = Unit {0}
FirstIs X v (NData n ps cs ∷ ds) = FirstIs X v ds
FirstIs X v (NNew n ps t con ∷ ds) = FirstIs X v ds
FirstIs X v (NFamily n ps k ∷ ds) = FirstIs X v ds
FirstIs X v (NAxiom n ps t u ∷ ds) = FirstIs X v ds
FirstIs X v (NDef n t e ∷ ds) = Either (bytes_eq n v) (X e) (FirstIs X v ds)
FirstIs X v (NWrap n t e ∷ ds) = Either (bytes_eq n v) (X e) (FirstIs X v ds)

-- what is told of a word of declarations
module _ (K : NExpr → NFact → Type 0) (y : NExpr) (X : NExpr → Type 0) (found : (e : NExpr) → X e → Told K y (known_of e)) (v : Word) where
  here_or_later : (b : Bool) (e : NExpr) (ds : List NDecl) → (FirstIs X v ds → Told K y (known_definition ds v)) → Either b (X e) (FirstIs X v ds)
      → Told K y (if b then known_of e else known_definition ds v)
  here_or_later true e ds later w = found e w
  here_or_later false e ds later w = later w

  definition_told : (ds : List NDecl) → FirstIs X v ds → Told K y (known_definition ds v)
  definition_told [] w = nothing_told
  definition_told (NData n ps cs ∷ ds) w = definition_told ds w
  definition_told (NNew n ps t con ∷ ds) w = definition_told ds w
  definition_told (NFamily n ps k ∷ ds) w = definition_told ds w
  definition_told (NAxiom n ps t u ∷ ds) w = definition_told ds w
  definition_told (NDef n t e ∷ ds) w = here_or_later (bytes_eq n v) e ds (definition_told ds) w
  definition_told (NWrap n t e ∷ ds) w = here_or_later (bytes_eq n v) e ds (definition_told ds) w

-- ONE NAME

-- a name comes to its right side
name_reaches : (P : Program) (n : Name) (t h : Term) (p : Closing) → P n ≡ Some t → t ≡ h → IsHead h → Reaches P (sub p (Global n)) 1 h
unfolding sub next
name_reaches P n t h p e same w = (t, e, (same, subst IsHead (sym same) w))

-- types before parts are gone
behind_alike : (c : Scope) (n : Name) {args parts : NArgs} → BehindTypes args parts → erased c (NCon n args) ≡ erased c (NCon n parts)
behind_alike c n behind_none = refl
behind_alike c n (behind_one b) = behind_alike c n b

constructor_met : (P : Program) (n k : Name) (t : Term) (parts : NArgs) → P n ≡ Some t → t ≡ erased no_scope (NCon k parts) → IsSorted [] (erased no_scope (NCon k parts)) → (p : Closing)
    → Meets P p (Global n) (erased_fact (NFactCon k parts))
unfolding sub
constructor_met P n k t parts e same sorted p = (1, name_reaches P n t _ p e (same ∙ sym (closed_stays p (erased no_scope (NCon k parts)) sorted)) tt)

head_met : (P : Program) (n : Name) (e : NExpr) → P n ≡ Some (erased no_scope e) → is_value e ≡ true → (p : Closing) → Meets P p (Global n) (erased_fact (NFactNoneOf []))
head_met P n e h v p = head_none P (sub p (Global n)) (erased no_scope e) 1 (name_reaches P n (erased no_scope e) (erased no_scope e) p h refl (value_is_head no_scope e v)) (value_is_head no_scope e v)

-- where its right sides in two programs share values and constructors
module _ (P Q : Program) (sp : SortedProgram P) where
  abbrev OfName : NExpr → NFact → Type 0
  OfName = NKnows (MetIn P Q) NOutside

  name_told : (n : Name) (d e : NExpr) → (is_value d ≡ true → (P n ≡ Some (erased no_scope d)) × (Q n ≡ Some (erased no_scope e))) → Shares no_scope d e → IsWritten d → Told OfName (NVar n) (known_of d)
  name_told n d e rights shares w =
      told_shared OfName (NVar n) d (λ v. nknows_name (head_met P n d (rights v).0 v, head_met Q n e (rights v).1 (shares.value v)) tt)
      (λ k args same trivial parts b.
      let r = rights (subst (λ x. is_value x ≡ true) (sym same) refl) in
      let con = ap (erased no_scope) same ∙ behind_alike no_scope k b in
      let alike = shares.constructor (subst (λ x. is_trivial_con x ≡ true) (sym same) trivial) in
      let sorted = subst (IsSorted []) con (sp n (erased no_scope d) r.0) in
      nknows_name (constructor_met P n k (erased no_scope d) parts r.0 con sorted, constructor_met Q n k (erased no_scope e) parts r.1 (sym alike ∙ con) sorted)
      (behind_written b (subst IsWritten same w), sorted))

-- OWN DEFINITIONS

-- the first definition of a word in declarations, and in those that they become
abbrev IsRightOf : Option Term → Option Term → NExpr → Type 0
IsRightOf o q d = (e : NExpr) × (o ≡ Some (erased no_scope d)) × (q ≡ Some (erased no_scope e)) × Shares no_scope d e × IsWritten d

right_found : (o q : Option Term) (v : Word) (b : Bool) (d e : NExpr) (ds es : List NDecl) → Shares no_scope d e → IsWritten d → o ≡ (if b then Some (erased no_scope d) else right_side ds v)
    → q ≡ (if b then Some (erased no_scope e) else right_side es v)
    → (o ≡ right_side ds v → q ≡ right_side es v → FirstIs (IsRightOf o q) v ds) → Either b (IsRightOf o q d) (FirstIs (IsRightOf o q) v ds)
right_found o q v true d e ds es s w h k later = (e, h, k, s, w)
right_found o q v false d e ds es s w h k later = later h k

own_first : (o q : Option Term) (v : Word) {ds es : List NDecl} → RightsShare ds es → AreDeclsWritten ds → o ≡ right_side ds v → q ≡ right_side es v → FirstIs (IsRightOf o q) v ds
own_first o q v no_rights w h k = tt
own_first o q v (same_right {d = NData n ps cs} r) w h k = own_first o q v r w.1 h k
own_first o q v (same_right {d = NNew n ps t con} r) w h k = own_first o q v r w.1 h k
own_first o q v (same_right {d = NFamily n ps x} r) w h k = own_first o q v r w.1 h k
own_first o q v (same_right {d = NAxiom n ps t u} r) w h k = own_first o q v r w.1 h k
own_first o q v (same_right {d = NDef n t d} {ds = ds} {es = es} r) w h k = right_found o q v (bytes_eq n v) d d ds es (shares_itself no_scope d) w.0 h k (own_first o q v r w.1)
own_first o q v (same_right {d = NWrap n t d} {ds = ds} {es = es} r) w h k = right_found o q v (bytes_eq n v) d d ds es (shares_itself no_scope d) w.0 h k (own_first o q v r w.1)
own_first o q v (rights_of_def {n = n} {d = d} {e = e} {ds = ds} {es = es} s r) w h k = right_found o q v (bytes_eq n v) d e ds es s w.0 h k (own_first o q v r w.1)
own_first o q v (rights_of_wrap {n = n} {d = d} {e = e} {ds = ds} {es = es} s r) w h k = right_found o q v (bytes_eq n v) d e ds es s w.0 h k (own_first o q v r w.1)

-- IMPORTS

-- a value is told
value_told : (e : NExpr) → is_value e ≡ true → is_told e ≡ true
value_told (NFail t) h = false_true h
value_told e h = refl

abbrev IsToldAs : Program → Word → Word → NExpr → Type 0
IsToldAs P m v d = IsToldTruly P m v d × IsWritten d

module _ (P : Program) (m v : Word) where
  told_found : (b : Bool) (n : Word) (d : NExpr) (ds : List NDecl) → bytes_eq n v ≡ b → IsToldTruly P m n d → IsWritten d → FirstIs (IsToldAs P m v) v ds
      → Either b (IsToldAs P m v d) (FirstIs (IsToldAs P m v) v ds)
  told_found true n d ds q h w later = (subst (λ x. IsToldTruly P m x d) (bytes_eq_eq n v q) h, w)
  told_found false n d ds q h w later = later

  told_first : (ds : List NDecl) → TellDeclarations P m ds → AreDeclsWritten ds → FirstIs (IsToldAs P m v) v ds
  told_first [] h w = tt
  told_first (NData n ps cs ∷ ds) h w = told_first ds h w.1
  told_first (NNew n ps t con ∷ ds) h w = told_first ds h w.1
  told_first (NFamily n ps k ∷ ds) h w = told_first ds h w.1
  told_first (NAxiom n ps t u ∷ ds) h w = told_first ds h w.1
  told_first (NDef n t d ∷ ds) h w = told_found (bytes_eq n v) n d ds refl h.0 w.0 (told_first ds h.1 w.1)
  told_first (NWrap n t d ∷ ds) h w = told_found (bytes_eq n v) n d ds refl h.0 w.0 (told_first ds h.1 w.1)

-- one module among several
either_module : (K : NExpr → NFact → Type 0) (y : NExpr) (v : Word) (b : Bool) (ds es : List NDecl) → (b ≡ true → Told K y (known_definition ds v)) → (b ≡ false → Told K y (known_definition es v))
    → Told K y (known_definition (if b then ds else es) v)
either_module K y v true ds es here later = here refl
either_module K y v false ds es here later = later refl

module _ (P Q : Program) (sp : SortedProgram P) (w v : Word) (same : Q (named_in w v) ≡ P (named_in w v)) where
  abbrev OfImport : NExpr → NFact → Type 0
  OfImport = NKnows (MetIn P Q) NOutside

  import_told : (d : NExpr) → IsToldAs P w v d → Told OfImport (NVar (named_in w v)) (known_of d)
  import_told d h = name_told P Q sp (named_in w v) d d (λ x. (let e = h.0 (value_told d x) in (e, same ∙ e))) (shares_itself no_scope d) h.1

  one_imported : (x : NModule) (rest : List NModule) → TellsTruth P x → AreDeclsWritten (ndecls_in x) → Told OfImport (NVar (named_in w v)) (known_definition (decls_of_module rest w) v)
      → Told OfImport (NVar (named_in w v)) (known_definition (decls_of_module (x ∷ rest) w) v)
  one_imported (NModuleOf u imports exports hidden ds) rest tells written later =
      either_module OfImport (NVar (named_in w v)) v (bytes_eq u w) ds (decls_of_module rest w)
      (λ q. definition_told OfImport (NVar (named_in w v)) (IsToldAs P w v) import_told v ds (told_first P w v ds (subst (λ x. TellDeclarations P x ds) (bytes_eq_eq u w q) tells) written)) (λ q. later)

  imports_told : (xs : List NModule) → TellTruth P xs → All (λ x. AreDeclsWritten (ndecls_in x)) xs → Told OfImport (NVar (named_in w v)) (known_definition (decls_of_module xs w) v)
  imports_told [] tells written = nothing_told
  imports_told (x ∷ xs) tells written =
      one_imported x xs tells.0 (All-head (λ x. AreDeclsWritten (ndecls_in x)) x xs written) (imports_told xs tells.1 (All-tail (λ x. AreDeclsWritten (ndecls_in x)) x xs written))

-- ALL NAMES

other_word : (u w : Word) → bytes_eq u w ≡ false → bytes_eq w u ≡ false
other_word u w h = tested (bytes_eq w u) refl
  where
    tested : (b : Bool) → bytes_eq w u ≡ b → b ≡ false
    tested true e = false_true (sym h ∙ subst (λ x. bytes_eq u x ≡ true) (sym (bytes_eq_eq w u e)) (bytes_eq_refl u))
    tested false e = refl

-- what the program with a module says of its names, and of others
in_place : (P : Program) (k : NModule) (n : Name) (b : Bool) → same_word n.module (Some (word_of k)) ≡ b → with_module k P n ≡ (if b then right_side (ndecls_in k) n.text else P n)
in_place P k n b h = ap (λ x. if x then right_side (ndecls_in k) n.text else P n) h

pub names_are_told : NamesAreTold
names_are_told xs (NModuleOf u imports exports hidden ds) k P words shares written sp holds tells n = of_module n.module refl
  where
    m : NModule
    m = NModuleOf u imports exports hidden ds

    Q : Program
    Q = with_module k P

    K : NExpr → NFact → Type 0
    K = NKnows (MetIn P Q) NOutside

    named_told : (w v : Word) → Told K (NVar (named_in w v)) (known_definition (decls_of_module (m ∷ xs) w) v)
    named_told w v =
        let x = named_in w v in
        either_module K (NVar x) v (bytes_eq u w) ds (decls_of_module xs w)
        (λ q.
        let own : bytes_eq w u ≡ true = subst (λ z. bytes_eq z u ≡ true) (bytes_eq_eq u w q) (bytes_eq_refl u) in
        let right = in_place P k x true (subst (λ z. bytes_eq w z ≡ true) words own) in
        definition_told K (NVar x) (IsRightOf (P x) (Q x)) (λ d r. name_told P Q sp x d r.0 (λ y. (r.1, r.2)) r.3 r.4) v ds
        (own_first (P x) (Q x) v shares (All-head (λ y. AreDeclsWritten (ndecls_in y)) m xs written) (holds x own) right))
        (λ q.
        let other = subst (λ z. bytes_eq w z ≡ false) words (other_word u w q) in
        imports_told P Q sp w v (in_place P k x false other) xs tells (All-tail (λ y. AreDeclsWritten (ndecls_in y)) m xs written))

    of_module : (o : Option Word) → n.module ≡ o → Told K (NVar n) (known_definition (decls_at (m ∷ xs) o) n.text)
    of_module None h = nothing_told
    of_module (Some w) h =
        let whole : n ≡ named_in w n.text = ap (λ o. record { «module» = o; text = n.text }) h in
        subst (λ x. Told K (NVar x) (known_definition (decls_of_module (m ∷ xs) w) n.text)) (sym whole) (named_told w n.text)
