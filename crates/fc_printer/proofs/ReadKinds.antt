-- Pieces read back: words, kinds and types.
use Rattle.std.proofs.Common.{◌≡◌, true, List, [], ◌∷◌, length, refl, sym, ap, ◌∙◌, Option, Some, None}
use Rattle.std.specs.Prelude.{suc, ⊤, ◌&&◌}
use Rattle.std.specs.List.{list_all}
use Rattle.std.proofs.lemmas.Bool.{and_parts, true≢false}
use Rattle.fc_syntax.specs.declared.ty.Name.{Name}
use Rattle.fc_syntax.specs.declared.ty.Role.{Role}
use Rattle.fc_syntax.specs.declared.ty.Role.TheVariants as role
use Rattle.fc_syntax.specs.Tree.{Word, Kind, KStar, KHash, KArrow, Ty, TVar, TCon, TInt, TApp, TFun, TForall, TCoForall}
use Rattle.fc_model.specs.Words.{Tok, Close, Upper, UpperOf}
use Rattle.fc_model.specs.Grammar.{Part, Given, Steps, gives, ◌▸◌, and_then, row_of, row_then, Many, Several, AClose, ARole, AnEqualityRole, AnUpperName, AKind, AType, ATypeForm, functions, type_applications}
use Rattle.fc_model.specs.Reading.{Outcome, Stuck, read_steps}
use Rattle.fc_model.specs.Pieces.{Pieces, NoPieces, pieces_toks}
use Rattle.fc_model.specs.Spelling.{Alone, Result, AsHead, kind_pieces, type_pieces, types_pieces, role_tok, upper_tok}
use Rattle.fc_model.specs.Formed.{is_equality_role, is_type_formed, is_lower_word}

-- what is put in front of other pieces gives this, whatever is still to come
abbrev pub ReadsBack : (p : Part) → (Pieces → Pieces) → Given p → Type 0
ReadsBack p put x = (ps : Pieces) (rest : List Tok) (q : Part) (f : Given p → Steps (Given q)) → read_steps (pieces_toks (put ps) rest) (p ▸ f) ≡ read_steps (pieces_toks ps rest) (f x)

-- no closing bracket comes first, so what may be repeated goes on
abbrev pub GoesOn : List Tok → Type 0
GoesOn ts = (p q : Part) (f : List (Given p) → Steps (Given q)) → read_steps ts (Many p ▸ f) ≡ read_steps ts (p ▸ λ x. Many p ▸ λ xs. f (x ∷ xs))

associates : {A B C : Type 0} (st : Steps A) (g : A → Steps B) (f : B → Steps C) → and_then (and_then st g) f ≡ and_then st (λ y. and_then (g y) f)
associates (gives x) g f = refl
associates (p ▸ h) g f = ap (◌▸◌ p) (λ i y. associates (h y) g f i)

-- a part that may be repeated, and is there
abbrev again : (p : Part) → Given p → Steps (List (Given p))
again p x = Many p ▸ λ xs. gives (x ∷ xs)

goes_by : (p q : Part) (f : List (Given p) → Steps (Given q)) (ts : List Tok) (o : Option (Steps (Given p)))
    → elim (row_then o (again p)) as (λ _. Outcome (Given q)) [ None ↦ Stuck (suc (length ts)) | Some st ↦ read_steps ts (and_then st f) ]
    ≡ elim o as (λ _. Outcome (Given q)) [ None ↦ Stuck (suc (length ts)) | Some st ↦ read_steps ts (and_then st (λ x. Many p ▸ λ xs. f (x ∷ xs))) ]
goes_by p q f ts None = refl
goes_by p q f ts (Some st) = ap (read_steps ts) (associates st (again p) f)

-- several begin with one
pub several_is : (p q : Part) (ts : List Tok) (f : List (Given p) → Steps (Given q)) → read_steps ts (Several p ▸ f) ≡ read_steps ts (p ▸ λ x. Many p ▸ λ xs. f (x ∷ xs))
several_is p q [] f = refl
several_is p q (t ∷ ts) f = goes_by p q f ts (row_of p t)

-- the first token is there and is no closing bracket
abbrev pub Begins : List Tok → Type 0
Begins [] = ⊥
Begins (Close ∷ ts) = ⊥
Begins (t ∷ ts) = ⊤

pub goes_on : (ts : List Tok) → Begins ts → GoesOn ts
goes_on [] b p q f = absurd b
goes_on (Close ∷ ts) b p q f = absurd b
goes_on (t ∷ ts) b p q f = goes_by p q f ts (row_of p t)

-- words
upper_begins : (n : Name) (ts : List Tok) → Begins (upper_tok n ∷ ts)
upper_begins n ts = at n.module
  where
    at : (o : Option Word) → Begins ((elim o [ None ↦ Upper n.text | Some m ↦ UpperOf m n.text ]) ∷ ts)
    at None = tt
    at (Some m) = tt

pub role_back : (r : Role) (ts : List Tok) (q : Part) (f : Role → Steps (Given q)) → read_steps (role_tok r ∷ ts) (ARole ▸ f) ≡ read_steps ts (f r)
role_back role.N ts q f = refl
role_back role.R ts q f = refl
role_back role.P ts q f = refl

pub equality_role_back : (r : Role) → is_equality_role r ≡ true → (ts : List Tok) (q : Part) (f : Role → Steps (Given q)) → read_steps (role_tok r ∷ ts) (AnEqualityRole ▸ f) ≡ read_steps ts (f r)
equality_role_back role.N h ts q f = refl
equality_role_back role.R h ts q f = refl
equality_role_back role.P h ts q f = absurd (true≢false (sym h))

pub upper_back : (n : Name) (ts : List Tok) (q : Part) (f : Name → Steps (Given q)) → read_steps (upper_tok n ∷ ts) (AnUpperName ▸ f) ≡ read_steps ts (f n)
upper_back n ts q f = at n.module
  where
    at : (o : Option Word) → read_steps ((elim o [ None ↦ Upper n.text | Some m ↦ UpperOf m n.text ]) ∷ ts) (AnUpperName ▸ f) ≡ read_steps ts (f (record { «module» = o; text = n.text }))
    at None = refl
    at (Some m) = refl

-- kinds
pub kind_back : (k : Kind) → ReadsBack AKind (kind_pieces k) k
kind_back KStar ps rest q f = refl
kind_back KHash ps rest q f = refl
kind_back (KArrow k l) ps rest q f =
    let more = Close ∷ pieces_toks ps rest in
    kind_back k (kind_pieces l NoPieces) more q _ ∙ kind_back l NoPieces more q _

-- types
type_con_back : (n : Name) → ReadsBack AType (type_pieces Alone (TCon n)) (TCon n)
type_con_back n ps rest q f = at n.module
  where
    at : (o : Option Word) → read_steps ((elim o [ None ↦ Upper n.text | Some m ↦ UpperOf m n.text ]) ∷ pieces_toks ps rest) (AType ▸ f)
        ≡ read_steps (pieces_toks ps rest) (f (TCon (record { «module» = o; text = n.text })))
    at None = refl
    at (Some m) = refl

type_begins : (t : Ty) (ps : Pieces) (rest : List Tok) → Begins (pieces_toks (type_pieces Alone t ps) rest)
type_begins (TCon n) ps rest = upper_begins n (pieces_toks ps rest)
type_begins t ps rest = tt

result_begins : (t : Ty) (ps : Pieces) (rest : List Tok) → Begins (pieces_toks (type_pieces Result t ps) rest)
result_begins (TFun t u) ps rest = type_begins t (type_pieces Result u ps) rest
result_begins (TCon n) ps rest = upper_begins n (pieces_toks ps rest)
result_begins t ps rest = tt

-- a type that stands first behind a bracket is the head of an application
head_is : (t : Ty) (ps : Pieces) (rest : List Tok) (q : Part) (g : Ty → Steps (Given q))
    → read_steps (pieces_toks (type_pieces Alone t ps) rest) (ATypeForm ▸ g) ≡ read_steps (pieces_toks (type_pieces Alone t ps) rest) (AType ▸ λ h. Several AType ▸ λ us. g (type_applications h us))
head_is (TCon n) ps rest q g = at n.module
  where
    at : (o : Option Word) → read_steps ((elim o [ None ↦ Upper n.text | Some m ↦ UpperOf m n.text ]) ∷ pieces_toks ps rest) (ATypeForm ▸ g)
        ≡ read_steps ((elim o [ None ↦ Upper n.text | Some m ↦ UpperOf m n.text ]) ∷ pieces_toks ps rest) (AType ▸ λ h. Several AType ▸ λ us. g (type_applications h us))
    at None = refl
    at (Some m) = refl
head_is t ps rest q g = refl

-- the result of a function, behind what it is a function of
abbrev ResultBack : Ty → Type 0
ResultBack u = (t : Ty) (rest : List Tok) (q : Part) (f : Ty → Steps (Given q))
    → read_steps (pieces_toks (type_pieces Result u NoPieces) (Close ∷ rest)) (Several AType ▸ λ us. f (functions t us)) ≡ read_steps rest (f (TFun t u))

-- the head of an application, with its next argument
abbrev HeadBack : Ty → Type 0
HeadBack t = (u : Ty) → ReadsBack AType (type_pieces Alone u) u → (ps : Pieces) (rest : List Tok) (q : Part) (g : Ty → Steps (Given q))
    → read_steps (pieces_toks (type_pieces AsHead t (type_pieces Alone u ps)) rest) (ATypeForm ▸ g) ≡ read_steps (pieces_toks ps rest) (Many AType ▸ λ us. g (type_applications (TApp t u) us))

-- a type in each place that it can stand in
record TypeBack (t : Ty) : Type 0 where
  alone : ReadsBack AType (type_pieces Alone t) t
  result : ResultBack t
  head : HeadBack t

result_alone : (u : Ty) → ReadsBack AType (type_pieces Alone u) u → (t : Ty) (rest : List Tok) (q : Part) (f : Ty → Steps (Given q))
    → read_steps (pieces_toks (type_pieces Alone u NoPieces) (Close ∷ rest)) (Several AType ▸ λ us. f (functions t us)) ≡ read_steps rest (f (TFun t u))
result_alone u b t rest q f =
    several_is AType q (pieces_toks (type_pieces Alone u NoPieces) (Close ∷ rest)) (λ us. f (functions t us)) ∙ b NoPieces (Close ∷ rest) q (λ x. Many AType ▸ λ xs. f (functions t (x ∷ xs)))

head_alone : (t : Ty) → ReadsBack AType (type_pieces Alone t) t → (u : Ty) → ReadsBack AType (type_pieces Alone u) u → (ps : Pieces) (rest : List Tok) (q : Part) (g : Ty → Steps (Given q))
    → read_steps (pieces_toks (type_pieces Alone t (type_pieces Alone u ps)) rest) (ATypeForm ▸ g) ≡ read_steps (pieces_toks ps rest) (Many AType ▸ λ us. g (type_applications (TApp t u) us))
head_alone t b u c ps rest q g =
    head_is t (type_pieces Alone u ps) rest q g ∙ b (type_pieces Alone u ps) rest q (λ h. Several AType ▸ λ us. g (type_applications h us))
    ∙ several_is AType q (pieces_toks (type_pieces Alone u ps) rest) (λ us. g (type_applications t us)) ∙ c ps rest q (λ x. Many AType ▸ λ us. g (type_applications t (x ∷ us)))

function_result : (u v : Ty) → ReadsBack AType (type_pieces Alone u) u → ResultBack v → ResultBack (TFun u v)
function_result u v b c t rest q f =
    let ts = pieces_toks (type_pieces Result v NoPieces) (Close ∷ rest) in
    several_is AType q (pieces_toks (type_pieces Result (TFun u v) NoPieces) (Close ∷ rest)) (λ us. f (functions t us))
    ∙ b (type_pieces Result v NoPieces) (Close ∷ rest) q (λ x. Many AType ▸ λ xs. f (functions t (x ∷ xs)))
    ∙ goes_on ts (result_begins v NoPieces (Close ∷ rest)) AType q (λ xs. f (functions t (u ∷ xs)))
    ∙ sym (several_is AType q ts (λ xs. f (functions t (u ∷ xs)))) ∙ c u rest q (λ x. f (TFun t x))

application_head : (t u : Ty) → HeadBack t → ReadsBack AType (type_pieces Alone u) u → HeadBack (TApp t u)
application_head t u b c v d ps rest q g =
    let ts = pieces_toks (type_pieces Alone v ps) rest in
    b u c (type_pieces Alone v ps) rest q g
    ∙ goes_on ts (type_begins v ps rest) AType q (λ us. g (type_applications (TApp t u) us)) ∙ d ps rest q (λ x. Many AType ▸ λ us. g (type_applications (TApp t u) (x ∷ us)))

function_back : (t u : Ty) → ReadsBack AType (type_pieces Alone t) t → ResultBack u → ReadsBack AType (type_pieces Alone (TFun t u)) (TFun t u)
function_back t u b c ps rest q f = b (type_pieces Result u NoPieces) (Close ∷ pieces_toks ps rest) q (λ x. Several AType ▸ λ us. f (functions x us)) ∙ c t (pieces_toks ps rest) q f

forall_back : (a : Word) (k : Kind) (t : Ty) → ReadsBack AType (type_pieces Alone t) t → ReadsBack AType (type_pieces Alone (TForall a k t)) (TForall a k t)
forall_back a k t b ps rest q f =
    let more = Close ∷ pieces_toks ps rest in
    kind_back k NoPieces (Close ∷ pieces_toks (type_pieces Alone t NoPieces) more) q (λ k. AClose ▸ λ _. AType ▸ λ t. AClose ▸ λ _. f (TForall a k t))
    ∙ b NoPieces more q (λ t. AClose ▸ λ _. f (TForall a k t))

coforall_back : (r : Role) (t u v : Ty) → is_equality_role r ≡ true → ReadsBack AType (type_pieces Alone t) t → ReadsBack AType (type_pieces Alone u) u → ReadsBack AType (type_pieces Alone v) v
    → ReadsBack AType (type_pieces Alone (TCoForall r t u v)) (TCoForall r t u v)
coforall_back r t u v h b c d ps rest q f =
    let more = Close ∷ pieces_toks ps rest in
    equality_role_back r h (pieces_toks (type_pieces Alone t (type_pieces Alone u (type_pieces Alone v NoPieces))) more) q (λ r. AType ▸ λ t. AType ▸ λ u. AType ▸ λ v. AClose ▸ λ _. f (TCoForall r t u v))
    ∙ b (type_pieces Alone u (type_pieces Alone v NoPieces)) more q (λ t. AType ▸ λ u. AType ▸ λ v. AClose ▸ λ _. f (TCoForall r t u v))
    ∙ c (type_pieces Alone v NoPieces) more q (λ u. AType ▸ λ v. AClose ▸ λ _. f (TCoForall r t u v)) ∙ d NoPieces more q (λ v. AClose ▸ λ _. f (TCoForall r t u v))

type_anywhere : (t : Ty) → is_type_formed t ≡ true → TypeBack t
type_anywhere (TVar a) h =
    let b : ReadsBack AType (type_pieces Alone (TVar a)) (TVar a) = λ ps rest q f. refl in
    record { alone = b; result = result_alone (TVar a) b; head = head_alone (TVar a) b }
type_anywhere (TCon n) h = let b = type_con_back n in record { alone = b; result = result_alone (TCon n) b; head = head_alone (TCon n) b }
type_anywhere TInt h =
    let b : ReadsBack AType (type_pieces Alone TInt) TInt = λ ps rest q f. refl in
    record { alone = b; result = result_alone TInt b; head = head_alone TInt b }
type_anywhere (TApp t u) h =
    let g = and_parts (is_type_formed t) (is_type_formed u) h in
    let a = type_anywhere t g.0 in
    let c = type_anywhere u g.1 in
    let b : ReadsBack AType (type_pieces Alone (TApp t u)) (TApp t u) = λ ps rest q f. a.head u c.alone NoPieces (Close ∷ pieces_toks ps rest) q f in
    record { alone = b; result = result_alone (TApp t u) b; head = application_head t u a.head c.alone }
type_anywhere (TFun t u) h =
    let g = and_parts (is_type_formed t) (is_type_formed u) h in
    let a = type_anywhere t g.0 in
    let c = type_anywhere u g.1 in
    let b = function_back t u a.alone c.result in
    record { alone = b; result = function_result t u a.alone c.result; head = head_alone (TFun t u) b }
type_anywhere (TForall a k t) h =
    let g = and_parts (is_lower_word a) (is_type_formed t) h in
    let b = forall_back a k t (type_anywhere t g.1).alone in
    record { alone = b; result = result_alone (TForall a k t) b; head = head_alone (TForall a k t) b }
type_anywhere (TCoForall r t u v) h =
    let g = and_parts (is_equality_role r) (is_type_formed t && (is_type_formed u && is_type_formed v)) h in
    let g' = and_parts (is_type_formed t) (is_type_formed u && is_type_formed v) g.1 in
    let g'' = and_parts (is_type_formed u) (is_type_formed v) g'.1 in
    let b = coforall_back r t u v g.0 (type_anywhere t g'.0).alone (type_anywhere u g''.0).alone (type_anywhere v g''.1).alone in
    record { alone = b; result = result_alone (TCoForall r t u v) b; head = head_alone (TCoForall r t u v) b }

pub type_back : (t : Ty) → is_type_formed t ≡ true → ReadsBack AType (type_pieces Alone t) t
type_back t h = (type_anywhere t h).alone

pub types_back : (ts : List Ty) → list_all is_type_formed ts ≡ true → (rest : List Tok) (q : Part) (f : List Ty → Steps (Given q))
    → read_steps (pieces_toks (types_pieces ts NoPieces) (Close ∷ rest)) (Many AType ▸ f) ≡ read_steps rest (f ts)
types_back [] h rest q f = refl
types_back (t ∷ ts) h rest q f =
    let g = and_parts (is_type_formed t) (list_all is_type_formed ts) h in
    goes_on (pieces_toks (types_pieces (t ∷ ts) NoPieces) (Close ∷ rest)) (type_begins t (types_pieces ts NoPieces) (Close ∷ rest)) AType q f
    ∙ type_back t g.0 (types_pieces ts NoPieces) (Close ∷ rest) q (λ x. Many AType ▸ λ xs. f (x ∷ xs)) ∙ types_back ts g.1 rest q (λ xs. f (t ∷ xs))
