-- Words that are defined first where they were, and marks of those that are.
use Rattle.std.proofs.Common.{◌≡◌, ◌+◌, ◌<◌, ℕ, zero, suc, Bool, true, false, if◌then◌else◌, List, [], ◌∷◌, length, Option, Some, None, refl, sym, ap, ◌∙◌, arith}
use Rattle.std.specs.Prelude.{slice_get, slice_set}
use Rattle.std.proofs.lemmas.Option.{none-some, same_Some}
use Rattle.fc_syntax.specs.Tree.{Word}
use Rattle.fc_model.specs.Nameless.{NDecl, NData, NNew, NFamily, NAxiom, NDef, NWrap, NExpr, NModule}
use Rattle.fc_model.proofs.Sameness.{bytes_eq_eq, nat_eq_eq, nat_eq_refl}
use Rattle.fc_reaching.specs.Firsts.{AreFirst, defines_first, firsts_from, is_number}
use Rattle.fc_reaching.specs.Numbering.{number_from, number_in}
use Rattle.fc_reaching.specs.Reaching.{decls_in}
use Rattle.fc_reaching.specs.Reaching.{right_side as right_side_in}
use Rattle.fc_rows.specs.Changing.{made}
use Rattle.fc_rows.specs.ChangingCoercions.{as_they_are}
use Rattle.fc_rows.specs.Rewriting.{changed_decls}
use Rattle.fc_rows.specs.Surroundings.{Surroundings}
use Rattle.fc_apply.specs.Definitions.{changed_decl, is_definition, right_side}
use Rattle.fc_apply.proofs.Decls.{first_is, first_is_not, made_again}
use Rattle.fc_simplify.specs.Phase.{FirstDefines, FirstsAre, KeepsWords}

pub keeps_same : (ms : List NModule) → KeepsWords ms ms
keeps_same [] = refl
keeps_same (n ∷ xs) = λ w. refl

pub keeps_both : (a b c : List NModule) → KeepsWords a b → KeepsWords b c → KeepsWords a c
keeps_both [] b c first second = here b first second
  where
    here : (b : List NModule) → b ≡ [] → KeepsWords b c → c ≡ []
    here [] none same = same
    here (m ∷ ys) none same = cc
keeps_both (n ∷ xs) [] c first second = absurd first
keeps_both (n ∷ xs) (m ∷ ys) [] first second = absurd second
keeps_both (n ∷ xs) (m ∷ ys) (k ∷ zs) first second = λ w. second w ∙ first w

-- words are kept the other way round too
keeps_back : (a b : List NModule) → KeepsWords a b → KeepsWords b a
keeps_back [] b keeps = here b keeps
  where
    here : (b : List NModule) → b ≡ [] → KeepsWords b []
    here [] none = refl
    here (m ∷ ys) none = absurd cc
keeps_back (n ∷ xs) [] keeps = absurd keeps
keeps_back (n ∷ xs) (m ∷ ys) keeps = λ w. sym (keeps w)

pub first_kept : (i : ℕ) (a b : List NModule) → KeepsWords a b → FirstDefines i a → FirstDefines i b
first_kept i [] b keeps first = absurd first
first_kept i (n ∷ xs) [] keeps first = absurd keeps
first_kept i (n ∷ xs) (m ∷ ys) keeps (w, is) = (w, keeps w ∙ is)

-- WHERE A WORD IS DEFINED

-- the first definition of a word among declarations
pub data IsAt (w : Word) : ℕ → NDecl → List NDecl → Type 0 where
  here : {d : NDecl} {ds : List NDecl} → is_definition w d ≡ true → IsAt w 0 d (d ∷ ds)
  behind : {i : ℕ} {d : NDecl} {ds : List NDecl} (c : NDecl) → is_definition w c ≡ false → IsAt w i d ds → IsAt w (suc i) d (c ∷ ds)

module _ (w : Word) where
  number_step : (k : ℕ) (d : NDecl) (ds : List NDecl) → number_from k (d ∷ ds) w ≡ (if is_definition w d then Some k else number_from (k + 1) ds w)
  number_step k (NData n ps cs) ds = refl
  number_step k (NNew n ps t con) ds = refl
  number_step k (NFamily n ps i) ds = refl
  number_step k (NAxiom n ps t u) ds = refl
  number_step k (NDef n t e) ds = refl
  number_step k (NWrap n t e) ds = refl

  right_step : (d : NDecl) (ds : List NDecl) → right_side_in (d ∷ ds) w ≡ (if is_definition w d then right_side d else right_side_in ds w)
  right_step (NData n ps cs) ds = refl
  right_step (NNew n ps t con) ds = refl
  right_step (NFamily n ps i) ds = refl
  right_step (NAxiom n ps t u) ds = refl
  right_step (NDef n t e) ds = refl
  right_step (NWrap n t e) ds = refl

  -- its number, where the first of these declarations has number k
  pub record IsLocated (k j : ℕ) (ds : List NDecl) : Type 0 where
    pub at : ℕ
    pub decl : NDecl
    pub number : at + k ≡ j
    pub place : IsAt w at decl ds

  located_by : (k j : ℕ) (d : NDecl) (ds : List NDecl) (b : Bool) → is_definition w d ≡ b → (number_from (k + 1) ds w ≡ Some j → IsLocated (k + 1) j ds)
      → (if b then Some k else number_from (k + 1) ds w) ≡ Some j → IsLocated k j (d ∷ ds)
  located_by k j d ds true is rest h = record { at = 0; decl = d; number = omega (arith, same_Some _ _ h); place = here is }
  located_by k j d ds false is rest h = let r = rest h in record { at = suc r.at; decl = r.decl; number = omega (arith, r.number); place = behind d is r.place }

  pub located : (k j : ℕ) (ds : List NDecl) → number_from k ds w ≡ Some j → IsLocated k j ds
  located k j [] h = absurd (none-some _ h)
  located k j (d ∷ ds) h = located_by k j d ds (is_definition w d) refl (located (k + 1) j ds) (sym (number_step k d ds) ∙ h)

  pub is_there : (i : ℕ) (d : NDecl) (ds : List NDecl) → IsAt w i d ds → slice_get ds i ≡ Some d
  is_there i d ds (here is) = refl
  is_there i d ds (behind c is rest) = is_there _ d _ rest

  pub is_below : (i : ℕ) (d : NDecl) (ds : List NDecl) → IsAt w i d ds → i < length ds
  is_below i d ds (here is) = omega arith
  is_below i d ds (behind c is rest) = omega (arith, is_below _ d _ rest)

  pub is_word : (i : ℕ) (d : NDecl) (ds : List NDecl) → IsAt w i d ds → is_definition w d ≡ true
  is_word i d ds (here is) = is
  is_word i d ds (behind c is rest) = is_word _ d _ rest

  pub is_right : (i : ℕ) (d : NDecl) (ds : List NDecl) → IsAt w i d ds → right_side_in ds w ≡ right_side d
  is_right i d [] at = elim at [ ]
  is_right i d (c ∷ ds) (here is) = right_step d ds ∙ ap (λ b. if b then right_side d else right_side_in ds w) is
  is_right i d (c ∷ ds) (behind e is rest) = right_step c ds ∙ ap (λ b. if b then right_side c else right_side_in ds w) is ∙ is_right _ d ds rest

  -- a change in the first definition of the word is one of that declaration
  module _ (row : Surroundings → NExpr → Option NExpr) (s : Surroundings) (p : List ℕ) where
    pub is_changed : (i : ℕ) (d : NDecl) (ds : List NDecl) → IsAt w i d ds → changed_decls row as_they_are s w p ds ≡ made (λ e. slice_set ds i e) (changed_decl row as_they_are s p d)
    is_changed i d [] at = elim at [ ]
    is_changed i d (c ∷ ds) (here is) = first_is row as_they_are s w p d ds is
    is_changed i d (c ∷ ds) (behind e is rest) =
        first_is_not row as_they_are s w p c ds is
        ∙ ap (made (λ more. c ∷ more)) (is_changed _ d ds rest)
        ∙ sym (made_again (λ more. c ∷ more) (λ e. slice_set ds _ e) (changed_decl row as_they_are s p d))

    none_changed_by : (k : ℕ) (d : NDecl) (ds : List NDecl) (b : Bool) → is_definition w d ≡ b → (number_from (k + 1) ds w ≡ None → changed_decls row as_they_are s w p ds ≡ None)
        → (if b then Some k else number_from (k + 1) ds w) ≡ None → changed_decls row as_they_are s w p (d ∷ ds) ≡ None
    none_changed_by k d ds true is rest h = absurd (none-some _ (sym h))
    none_changed_by k d ds false is rest h = first_is_not row as_they_are s w p d ds is ∙ ap (made (λ more. d ∷ more)) (rest h)

    -- and there is none where the word has no definition
    pub none_changed : (k : ℕ) (ds : List NDecl) → number_from k ds w ≡ None → changed_decls row as_they_are s w p ds ≡ None
    none_changed k [] h = refl
    none_changed k (d ∷ ds) h = none_changed_by k d ds (is_definition w d) refl (none_changed (k + 1) ds) (sym (number_step k d ds) ∙ h)

  no_right_by : (k : ℕ) (d : NDecl) (ds : List NDecl) (b : Bool) → is_definition w d ≡ b → (number_from (k + 1) ds w ≡ None → right_side_in ds w ≡ None)
      → (if b then Some k else number_from (k + 1) ds w) ≡ None → right_side_in (d ∷ ds) w ≡ None
  no_right_by k d ds true is rest h = absurd (none-some _ (sym h))
  no_right_by k d ds false is rest h = right_step d ds ∙ ap (λ b. if b then right_side d else right_side_in ds w) is ∙ rest h

  pub no_right : (k : ℕ) (ds : List NDecl) → number_from k ds w ≡ None → right_side_in ds w ≡ None
  no_right k [] h = refl
  no_right k (d ∷ ds) h = no_right_by k d ds (is_definition w d) refl (no_right (k + 1) ds) (sym (number_step k d ds) ∙ h)

-- WORDS ARE KEPT

-- a declaration in the place of one that defines the same
pub words_stay : (v : Word) (k i : ℕ) (c d : NDecl) (ds : List NDecl) → slice_get ds i ≡ Some c → is_definition v d ≡ is_definition v c → number_from k (slice_set ds i d) v ≡ number_from k ds v
words_stay v k i c d [] at same = refl
words_stay v k zero c d (x ∷ ds) at same =
    let is : x ≡ c = same_Some _ _ at in
    number_step v k d ds ∙ ap (λ b. if b then Some k else number_from (k + 1) ds v) (same ∙ ap (is_definition v) (sym is)) ∙ sym (number_step v k x ds)
words_stay v k (suc i) c d (x ∷ ds) at same =
    number_step v k x (slice_set ds i d)
    ∙ ap (λ o. if is_definition v x then Some k else o) (words_stay v (k + 1) i c d ds at same)
    ∙ sym (number_step v k x ds)

-- MARKS

mark_of : (number : Word → Option ℕ) (k i : ℕ) (d : NDecl) (ds : List NDecl) → slice_get ds i ≡ Some d → slice_get (firsts_from number k ds) i ≡ Some (defines_first number (i + k) d)
mark_of number k i d [] at = absurd (none-some _ at)
mark_of number k zero d (x ∷ ds) at = ap (λ z. Some (defines_first number k z)) (same_Some _ _ at) ∙ ap (λ j. Some (defines_first number j d)) (omega arith)
mark_of number k (suc i) d (x ∷ ds) at = mark_of number (suc k) i d ds at ∙ ap (λ j. Some (defines_first number j d)) (omega arith)

first_by : (number : Word → Option ℕ) (w : Word) (j : ℕ) (d : NDecl) → is_definition w d ≡ true → number w ≡ Some j → defines_first number j d ≡ true
first_by number w j (NData n ps cs) is h = is
first_by number w j (NNew n ps t con) is h = is
first_by number w j (NFamily n ps k) is h = is
first_by number w j (NAxiom n ps t u) is h = is
first_by number w j (NDef n t e) is h = ap (λ v. is_number j (number v)) (bytes_eq_eq n w is) ∙ ap (is_number j) h ∙ nat_eq_refl j
first_by number w j (NWrap n t e) is h = ap (λ v. is_number j (number v)) (bytes_eq_eq n w is) ∙ ap (is_number j) h ∙ nat_eq_refl j

-- the first definition of a word is marked
is_marked : (n : NModule) (marks : List Bool) (w : Word) (j : ℕ) → AreFirst n marks → number_in n w ≡ Some j → slice_get marks j ≡ Some true
is_marked n marks w j are h =
    let at = located w 0 j (decls_in n) h in
    let same : at.at ≡ j = omega (arith, at.number) in
    ap (λ bs. slice_get bs j) are
    ∙ ap (slice_get (firsts_from (number_in n) 0 (decls_in n))) (sym same)
    ∙ mark_of (number_in n) 0 at.at at.decl (decls_in n) (is_there w at.at at.decl (decls_in n) at.place)
    ∙ ap (λ i. Some (defines_first (number_in n) i at.decl)) at.number
    ∙ ap Some (first_by (number_in n) w j at.decl (is_word w at.at at.decl (decls_in n) at.place) h)

-- what is marked is the first definition of a word
number_is : (i : ℕ) (o : Option ℕ) → is_number i o ≡ true → o ≡ Some i
number_is i None h = cc
number_is i (Some j) h = ap Some (nat_eq_eq j i h)

word_by : (number : Word → Option ℕ) (i : ℕ) (d : NDecl) → defines_first number i d ≡ true → (w : Word) × (number w ≡ Some i)
word_by number i (NData n ps cs) h = absurd cc
word_by number i (NNew n ps t con) h = absurd cc
word_by number i (NFamily n ps k) h = absurd cc
word_by number i (NAxiom n ps t u) h = absurd cc
word_by number i (NDef n t e) h = (n, number_is i (number n) h)
word_by number i (NWrap n t e) h = (n, number_is i (number n) h)

marked_in : (number : Word → Option ℕ) (k i : ℕ) (ds : List NDecl) → slice_get (firsts_from number k ds) i ≡ Some true → (w : Word) × (number w ≡ Some (i + k))
marked_in number k i [] h = absurd (none-some _ h)
marked_in number k zero (d ∷ ds) h = let r = word_by number k d (same_Some _ _ h) in (r.0, r.1 ∙ ap Some (omega arith))
marked_in number k (suc i) (d ∷ ds) h = let r = marked_in number (suc k) i ds h in (r.0, r.1 ∙ ap Some (omega arith))

marked_first : (n : NModule) (xs : List NModule) (marks : List Bool) (i : ℕ) → AreFirst n marks → slice_get marks i ≡ Some true → FirstDefines i (n ∷ xs)
marked_first n xs marks i are h = let r = marked_in (number_in n) 0 i (decls_in n) (ap (λ bs. slice_get bs i) (sym are) ∙ h) in (r.0, r.1 ∙ ap Some (omega arith))

-- the marks of the first of some modules
pub firsts_are : (n : NModule) (xs : List NModule) (marks : List Bool) → AreFirst n marks → FirstsAre marks (n ∷ xs)
firsts_are n xs marks are = λ i. (marked_first n xs marks i are, λ first. is_marked n marks first.0 i are first.1)

-- they are right where words were kept
pub firsts_kept : (marks : List Bool) (a b : List NModule) → KeepsWords a b → FirstsAre marks a → FirstsAre marks b
firsts_kept marks a b keeps are = λ i.
    (λ is. first_kept i a b keeps ((are i).0 is), λ first. (are i).1 (first_kept i b a (keeps_back a b keeps) first))
