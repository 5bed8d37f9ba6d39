-- The rows of the parts of a file, for both of its forms: what is said of files elsewhere rests on these alone.
use Rattle.std.proofs.Common.{◌≡◌, ℕ, List, [], ◌∷◌, ◌++◌, Some, None, refl}
use Rattle.std.specs.Prelude.{⊤}
use Rattle.std.proofs.lemmas.List.{map-append}
use Rattle.fc_syntax.specs.declared.keyword.Keyword.TheVariants as word
use Rattle.fc_syntax.specs.Tree.{Word}
use Rattle.fc_model.specs.Words.{Tok, Open, Close, Key}
use Rattle.fc_model.specs.Grammar.{Given, HeaderOf, BodyOf, gives, ◌▸◌, row_then, row_of, at_bracket, item_decl, AName, Many}
use Rattle.fc_model.specs.FileForms.{FileForm, ModuleFile, InterfaceFile, FileHeader, FileBody, Member, whole_part, header_part, body_part, body_form_part, member_part, member_form_part, body_of, file_from, member_decl, member_decls, module_in}
use Rattle.fc_model.specs.ReadFaults.{are_within, decls_within}

-- ---- what a part behind its opening bracket gives

abbrev pub body_from : (f : FileForm) → Given (body_form_part f) → FileBody f
body_from ModuleFile b = b
body_from InterfaceFile b = b

abbrev pub member_from : (f : FileForm) → Given (member_form_part f) → Member f
member_from ModuleFile x = x
member_from InterfaceFile x = x

abbrev pub body_form_of : (f : FileForm) → List Word → List (Member f) → Given (body_form_part f)
body_form_of ModuleFile hidden xs = BodyOf hidden xs
body_form_of InterfaceFile hidden xs = BodyOf hidden xs

pub body_same : (f : FileForm) (hidden : List Word) (xs : List (Member f)) → body_from f (body_form_of f hidden xs) ≡ body_of f hidden xs
body_same ModuleFile hidden xs = refl
body_same InterfaceFile hidden xs = refl

-- ---- rows

pub whole_row : (f : FileForm) (t : Tok) → row_of (whole_part f) t ≡ row_then (row_of (header_part f) t) (λ h. body_part f ▸ λ b. gives (file_from f h b))
whole_row ModuleFile t = refl
whole_row InterfaceFile t = refl

pub body_close_row : (f : FileForm) → row_of (body_part f) Close ≡ Some (gives (body_of f [] []))
body_close_row ModuleFile = refl
body_close_row InterfaceFile = refl

pub body_open_row : (f : FileForm) → row_of (body_part f) Open ≡ Some (body_form_part f ▸ λ b. gives (body_from f b))
body_open_row ModuleFile = refl
body_open_row InterfaceFile = refl

abbrev pub IsNoBracket : Tok → Type 0
IsNoBracket Open = ⊥
IsNoBracket Close = ⊥
IsNoBracket t = ⊤

pub body_no_row : (f : FileForm) (t : Tok) → IsNoBracket t → row_of (body_part f) t ≡ None
body_no_row f Open n = absurd n
body_no_row f Close n = absurd n
body_no_row ModuleFile t n = refl
body_no_row InterfaceFile t n = refl

pub hidden_row : (f : FileForm) → row_of (body_form_part f) (Key word.Hidden) ≡ Some (Many AName ▸ λ hidden. Many (member_part f) ▸ λ xs. gives (body_form_of f hidden xs))
hidden_row ModuleFile = refl
hidden_row InterfaceFile = refl

pub body_form_row : (f : FileForm) (t : Tok) → (t ≡ Key word.Hidden → ⊥)
    → row_of (body_form_part f) t ≡ row_then (row_of (member_form_part f) t) (λ x. Many (member_part f) ▸ λ xs. gives (body_form_of f [] (member_from f x ∷ xs)))
body_form_row f (Key word.Hidden) n = absurd (n refl)
body_form_row ModuleFile t n = refl
body_form_row InterfaceFile t n = refl

pub member_row : (f : FileForm) (t : Tok) → row_of (member_part f) t ≡ at_bracket t (member_form_part f ▸ λ x. gives (member_from f x))
member_row ModuleFile t = refl
member_row InterfaceFile t = refl

-- the word `hidden` begins no member
pub hidden_no_row : (f : FileForm) → row_of (member_form_part f) (Key word.Hidden) ≡ None
hidden_no_row ModuleFile = refl
hidden_no_row InterfaceFile = refl

-- ---- the declarations of members

pub decls_none : (f : FileForm) → member_decls f [] ≡ []
decls_none ModuleFile = refl
decls_none InterfaceFile = refl

pub decls_append : (f : FileForm) (xs ys : List (Member f)) → member_decls f (xs ++ ys) ≡ member_decls f xs ++ member_decls f ys
decls_append ModuleFile xs ys = refl
decls_append InterfaceFile xs ys = map-append item_decl xs ys

pub decls_last : (f : FileForm) (xs : List (Member f)) (x : Member f) → member_decls f (xs ++ x ∷ []) ≡ member_decls f xs ++ member_decl f x ∷ []
decls_last ModuleFile xs x = refl
decls_last InterfaceFile xs x = map-append item_decl xs (x ∷ [])

-- the limits on a file are those on the declarations of its members
pub decls_of_file : (f : FileForm) (room : ℕ) (h : FileHeader f) (hidden : List Word) (xs : List (Member f))
    → decls_within room (module_in f (file_from f h (body_of f hidden xs))) ≡ are_within room (member_decls f xs)
decls_of_file ModuleFile room (HeaderOf m imports exports) hidden xs = refl
decls_of_file InterfaceFile room (HeaderOf m imports exports) hidden xs = refl
