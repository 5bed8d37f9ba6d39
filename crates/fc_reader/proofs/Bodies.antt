-- A body by its members, with hidden names before them or without, and a whole file by its header and its body.
use Rattle.std.proofs.Common.{◌≡◌, List, [], ◌∷◌, sym, refl, ap, ◌∙◌, subst}
use Rattle.fc_syntax.specs.declared.keyword.Keyword.TheVariants as word
use Rattle.fc_syntax.specs.Tree.{Word}
use Rattle.fc_model.specs.Words.{Tok, Open, Close, Key}
use Rattle.fc_model.specs.FileForms.{FileForm, File, FileHeader, FileBody, Member, whole_part, header_part, body_part, body_form_part, member_part, member_form_part, body_of, file_from}
use Rattle.fc_model.specs.Grammar.{Given, Steps, gives, ◌▸◌, AName, Many}
use Rattle.fc_model.specs.Reading.{read_steps, Reads}
use Rattle.fc_read_parts.specs.Reading.{NotHidden}
use Rattle.fc_reader.proofs.Forms.{body_from, member_from, body_form_of, body_same, body_close_row, body_form_row, body_no_row, body_open_row, hidden_row, member_row, whole_row}
use Rattle.fc_reader.proofs.Members.{many_goes}
use Rattle.fc_reader.proofs.Steps.{by_other, by_row, last, split}

-- ---- bodies

-- a member that was read, and the others
abbrev others_behind : (f : FileForm) → Given (member_form_part f) → Steps (Given (body_form_part f))
others_behind f x = Many (member_part f) ▸ λ xs. gives (body_form_of f [] (member_from f x ∷ xs))

-- behind its opening bracket a body without hidden names is a member, and others
plain_form : {A : Type 0} (f : FileForm) (t : Tok) (ts : List Tok) (g : FileBody f → Steps A) → (t ≡ Key word.Hidden → ⊥)
    → read_steps (t ∷ ts) (body_form_part f ▸ λ b. g (body_from f b)) ≡ read_steps (t ∷ ts) (member_form_part f ▸ λ x. Many (member_part f) ▸ λ xs. g (body_of f [] (member_from f x ∷ xs)))
plain_form f t ts g n =
    by_other t ts (body_form_part f) (member_form_part f) (others_behind f) (λ b. g (body_from f b)) (body_form_row f t n)
    ∙ ap (λ k. read_steps (t ∷ ts) (member_form_part f ▸ k)) (λ i x. Many (member_part f) ▸ λ xs. g (body_same f [] (member_from f x ∷ xs) i))

plain_open : {A : Type 0} (f : FileForm) (ts : List Tok) (g : FileBody f → Steps A) → NotHidden (Open ∷ ts)
    → read_steps ts (body_form_part f ▸ λ b. g (body_from f b)) ≡ read_steps ts (member_form_part f ▸ λ x. Many (member_part f) ▸ λ xs. g (body_of f [] (member_from f x ∷ xs)))
plain_open f [] g n = refl
plain_open f (t ∷ ts) g n = plain_form f t ts g (λ e. n ts (ap (λ (u : Tok). Open ∷ u ∷ ts) e))

-- without hidden names a body is its members
pub plain_body : {A : Type 0} (f : FileForm) (ts : List Tok) (g : FileBody f → Steps A) → NotHidden ts → read_steps ts (body_part f ▸ g) ≡ read_steps ts (Many (member_part f) ▸ λ xs. g (body_of f [] xs))
plain_body f [] g n = refl
plain_body f (Close ∷ ts) g n = by_row Close ts (body_part f) g (body_close_row f)
plain_body f (Open ∷ ts) g n =
    by_row Open ts (body_part f) g (body_open_row f) ∙ plain_open f ts g n
    ∙ sym (many_goes (member_part f) Open ts (λ xs. g (body_of f [] xs)) (λ e. cc) ∙ by_row Open ts (member_part f) (λ x. Many (member_part f) ▸ λ xs. g (body_of f [] (x ∷ xs))) (member_row f Open))
plain_body f (t ∷ ts) g n =
    by_row t ts (body_part f) g (body_no_row f t tt)
    ∙ sym (many_goes (member_part f) t ts (λ xs. g (body_of f [] xs)) (λ e. cc) ∙ by_row t ts (member_part f) (λ x. Many (member_part f) ▸ λ xs. g (body_of f [] (x ∷ xs))) (member_row f t))

-- behind the word `hidden` a body is names and members
pub hidden_body : {A : Type 0} (f : FileForm) (us : List Tok) (g : FileBody f → Steps A)
    → read_steps (Open ∷ Key word.Hidden ∷ us) (body_part f ▸ g) ≡ read_steps us (Many AName ▸ λ ns. Many (member_part f) ▸ λ xs. g (body_of f ns xs))
hidden_body f us g =
    by_row Open (Key word.Hidden ∷ us) (body_part f) g (body_open_row f) ∙ by_row (Key word.Hidden) us (body_form_part f) (λ b. g (body_from f b)) (hidden_row f)
    ∙ ap (λ k. read_steps us (Many AName ▸ k)) (λ i ns. Many (member_part f) ▸ λ xs. g (body_same f ns xs i))

-- that hidden names come first, or not
data Opening (ts : List Tok) : Type 0 where
  opens : (us : List Tok) → ts ≡ Open ∷ Key word.Hidden ∷ us → Opening ts
  opens_not : NotHidden ts → Opening ts

opening : (ts : List Tok) → Opening ts
opening [] = opens_not (λ us e. cc)
opening (Open ∷ []) = opens_not (λ us e. cc)
opening (Open ∷ Key word.Hidden ∷ ts) = opens ts refl
opening (Open ∷ t ∷ ts) = opens_not (λ us e. cc)
opening (t ∷ ts) = opens_not (λ us e. cc)

-- a body that was read
pub data BodyParts (f : FileForm) (ts : List Tok) (b : FileBody f) (rest : List Tok) : Type 0 where
  with_hidden : (us vs : List Tok) (ns : List Word) (xs : List (Member f)) → ts ≡ Open ∷ Key word.Hidden ∷ us → Reads (Many AName) us ns vs → Reads (Many (member_part f)) vs xs rest
      → b ≡ body_of f ns xs → BodyParts f ts b rest
  without : (xs : List (Member f)) → NotHidden ts → Reads (Many (member_part f)) ts xs rest → b ≡ body_of f [] xs → BodyParts f ts b rest

pub body_parts : (f : FileForm) (ts : List Tok) (b : FileBody f) (rest : List Tok) → Reads (body_part f) ts b rest → BodyParts f ts b rest
body_parts f ts b rest e = by (opening ts) where
  by : Opening ts → BodyParts f ts b rest
  by (opens us h) =
      let n = split (Many AName) (λ ns. Many (member_part f) ▸ λ xs. gives (body_of f ns xs)) us b rest
      (sym (hidden_body f us (λ x. gives x)) ∙ subst (λ r. Reads (body_part f) r b rest) h e) in
      let d = last (Many (member_part f)) (λ xs. body_of f n.value xs) n.behind b rest n.others in
      with_hidden us n.behind n.value d.value h n.first d.reads d.is
  by (opens_not h) =
      let d = last (Many (member_part f)) (λ xs. body_of f [] xs) ts b rest (sym (plain_body f ts (λ x. gives x) h) ∙ e) in
      without d.value h d.reads d.is

-- ---- whole files

pub whole_is : {A : Type 0} (f : FileForm) (ts : List Tok) (g : File f → Steps A) → read_steps ts (whole_part f ▸ g) ≡ read_steps ts (header_part f ▸ λ h. body_part f ▸ λ b. g (file_from f h b))
whole_is f [] g = refl
whole_is f (t ∷ ts) g = by_other t ts (whole_part f) (header_part f) (λ h. body_part f ▸ λ b. gives (file_from f h b)) g (whole_row f t)

-- a file that was read
pub record WholeParts (f : FileForm) (ts : List Tok) (m : File f) (rest : List Tok) : Type 0 where
  pub header : FileHeader f
  pub body : FileBody f
  pub behind : List Tok
  pub first : Reads (header_part f) ts header behind
  pub others : Reads (body_part f) behind body rest
  pub is : m ≡ file_from f header body

pub whole_parts : (f : FileForm) (ts : List Tok) (m : File f) (rest : List Tok) → Reads (whole_part f) ts m rest → WholeParts f ts m rest
whole_parts f ts m rest e =
    let h = split (header_part f) (λ x. body_part f ▸ λ y. gives (file_from f x y)) ts m rest (sym (whole_is f ts (λ x. gives x)) ∙ e) in
    let b = last (body_part f) (λ y. file_from f h.value y) h.behind m rest h.others in
    record { header = h.value; body = b.value; behind = h.behind; first = h.first; others = b.reads; is = b.is }
