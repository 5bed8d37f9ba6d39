-- A member and a whole file end with a closing bracket.
use Rattle.std.proofs.Common.{◌≡◌, ℕ, Bool, true, false, codes, bytes_eq, List, [], ◌∷◌, ◌++◌, Option, Some, None, if◌then◌else◌, refl, sym, ap, ◌∙◌, subst, append_assoc}
use Rattle.std.specs.Prelude.{⊤}
use Rattle.fc_syntax.specs.declared.keyword.Keyword.TheVariants as word
use Rattle.fc_model.specs.Words.{Tok, Open, Close, Key, Lower}
use Rattle.fc_model.specs.FileForms.{FileForm, ModuleFile, InterfaceFile, File, FileBody, Member, whole_part, header_part, body_part, body_form_part, member_part, member_form_part, file_from}
use Rattle.fc_model.specs.Grammar.{Part, Given, Steps, gives, ◌▸◌, and_then, row_of, row_then, declaration_form_row, at_bracket, ItemDecl, ItemValue}
use Rattle.fc_model.specs.Grammar.{AnOpen, AClose, ALower, AnUpper, AName, AKind, AType, AnExpression, AParameter, APlainParameter, AConstructor, ADeclarationForm, ASignature, AnUnfolding, AnItemForm, Many}
use Rattle.fc_model.specs.Reading.{Outcome, Got, Stuck, read_steps, Reads}
use Rattle.fc_reader.proofs.Forms.{body_from, member_from, body_form_of, body_close_row, body_form_row, body_no_row, body_open_row, hidden_row, member_row, whole_row}
use Rattle.fc_reader.proofs.Members.{member, ends_at_once}
use Rattle.fc_reader.proofs.Steps.{by_row, cut, got_rest, last, on_row, outcome_then, read_and_then, read_first, split}

-- what was read ends with a closing bracket
pub record Closed (ts rest : List Tok) : Type 0 where
  pub front : List Tok
  pub parts : ts ≡ front ++ Close ∷ rest

further : {ts us rest : List Tok} (front : List Tok) → ts ≡ front ++ us → Closed us rest → Closed ts rest
further {rest = rest} front e p = record { front = front ++ p.front; parts = e ∙ ap (λ (x : List Tok). front ++ x) p.parts ∙ sym (append_assoc front p.front (Close ∷ rest)) }

-- ---- whatever the steps are

record ClosedSteps {A : Type 0} (st : Steps A) : Type 0 where
  closed : (ts : List Tok) (x : A) (rest : List Tok) → read_steps ts st ≡ Got x rest → Closed ts rest

closed_then : {A : Type 0} (p : Part) (f : Given p → Steps A) → ((v : Given p) → ClosedSteps (f v)) → ClosedSteps (p ▸ f)
closed_then p f h = record {
  closed = λ ts x rest e.
      let s = split p f ts x rest e in
      let c = cut ts (p ▸ λ y. gives y) s.value s.behind s.first in
      further c.front c.parts ((h s.value).closed s.behind x rest s.others);
}

closed_behind : {A B : Type 0} (st : Steps A) (f : A → Steps B) → ((x : A) → ClosedSteps (f x)) → ClosedSteps (and_then st f)
closed_behind (gives x) f h = h x
closed_behind (p ▸ g) f h = closed_then p (λ v. and_then (g v) f) (λ v. closed_behind (g v) f h)

-- something is made of what was read
closed_given : {A B : Type 0} (st : Steps A) (g : A → B) → ClosedSteps st → ClosedSteps (and_then st (λ x. gives (g x)))
closed_given {A = A} {B = B} st g h = record { closed = λ ts x rest e. by ts x rest (read_steps ts st) refl (sym (read_and_then ts st (λ y. gives (g y))) ∙ e) } where
  by : (ts : List Tok) (x : B) (rest : List Tok) (o : Outcome A) → read_steps ts st ≡ o → outcome_then o (λ y. gives (g y)) ≡ Got x rest → Closed ts rest
  by ts x rest (Got y us) k e = h.closed ts y rest (k ∙ ap (λ r. Got y r) (got_rest e))
  by ts x rest (Stuck n) k e = absurd cc

closed_last : {A : Type 0} (p : Part) (g : Given p → A) → ClosedSteps (p ▸ λ y. gives y) → ClosedSteps (p ▸ λ y. gives (g y))
closed_last p g h = record {
  closed = λ ts x rest e.
      let s = last p g ts x rest e in
      h.closed ts s.value rest s.reads;
}

closed_close : ClosedSteps (AClose ▸ λ y. gives y)
closed_close = record { closed = at } where
  at : (ts : List Tok) (x : Given AClose) (rest : List Tok) → Reads AClose ts x rest → Closed ts rest
  at [] x rest e = absurd cc
  at (Close ∷ ts) x rest e = record { front = []; parts = ap (λ (us : List Tok). Close ∷ us) (got_rest e) }
  at (t ∷ ts) x rest e = absurd cc

closed_many : (p : Part) → ClosedSteps (Many p ▸ λ xs. gives xs)
closed_many p = record { closed = λ ts xs rest e. at xs ts rest e } where
  at : (xs : List (Given p)) (ts rest : List Tok) → Reads (Many p) ts xs rest → Closed ts rest
  at [] ts rest e = record { front = []; parts = ends_at_once p ts rest e }
  at (x ∷ xs) ts rest e =
      let m = member p x xs ts rest e in
      let c = cut ts (p ▸ λ y. gives y) x m.behind m.first in
      further c.front c.parts (at xs m.behind rest m.others)

-- ---- by rows

abbrev ClosedRow : {A : Type 0} → Option (Steps A) → Type 0
ClosedRow None = ⊤
ClosedRow (Some st) = ClosedSteps st

given : {A : Type 0} (st : Steps A) (ts : List Tok) (x : A) (rest : List Tok) → read_steps ts (and_then st (λ y. gives y)) ≡ Got x rest → read_steps ts st ≡ Got x rest
given {A = A} st ts x rest e = same (read_steps ts st) (sym (read_and_then ts st (λ y. gives y)) ∙ e) where
  same : (o : Outcome A) → outcome_then o (λ y. gives y) ≡ Got x rest → o ≡ Got x rest
  same (Got y us) e = e
  same (Stuck n) e = absurd cc

closed_part : (p : Part) → ((t : Tok) → ClosedRow (row_of p t)) → ClosedSteps (p ▸ λ x. gives x)
closed_part p h = record { closed = at } where
  at : (ts : List Tok) (x : Given p) (rest : List Tok) → Reads p ts x rest → Closed ts rest
  at [] x rest e = absurd cc
  at (t ∷ ts) x rest e =
      let r = on_row (λ y. gives y) (row_of p t) ts x rest (sym (read_first t ts p (λ y. gives y)) ∙ e) in
      let c : ClosedSteps r.0 = subst (λ o. ClosedRow o) r.1 (h t) in
      further (t ∷ []) refl (c.closed ts x rest (given r.0 ts x rest r.2))

closed_row : {A B : Type 0} (o : Option (Steps A)) (f : A → Steps B) → ((x : A) → ClosedSteps (f x)) → ClosedRow (row_then o f)
closed_row None f h = tt
closed_row (Some st) f h = closed_behind st f h

closed_row_given : {A B : Type 0} (o : Option (Steps A)) (g : A → B) → ClosedRow o → ClosedRow (row_then o (λ x. gives (g x)))
closed_row_given None g h = tt
closed_row_given (Some st) g h = closed_given st g h

declaration_form : (t : Tok) → ClosedRow (row_of ADeclarationForm t)
declaration_form (Key word.Data) = closed_then AnUpper _ (λ n. closed_then AnOpen _ (λ _. closed_then (Many AParameter) _ (λ ps. closed_last (Many AConstructor) _ (closed_many AConstructor))))
declaration_form (Key word.NewType) =
    closed_then AnUpper _ (λ n. closed_then AnOpen _ (λ _. closed_then (Many AParameter) _ (λ ps. closed_then AType _ (λ t. closed_then AnUpper _ (λ c. closed_last AClose _ closed_close)))))
declaration_form (Key word.Family) = closed_then AnUpper _ (λ n. closed_then AnOpen _ (λ _. closed_then (Many APlainParameter) _ (λ ps. closed_then AKind _ (λ k. closed_last AClose _ closed_close))))
declaration_form (Key word.Axiom) =
    closed_then AnUpper _ (λ n. closed_then AnOpen _ (λ _. closed_then (Many APlainParameter) _ (λ ps. closed_then AType _ (λ t. closed_then AType _ (λ u. closed_last AClose _ closed_close)))))
declaration_form (Key word.Def) = closed_then ALower _ (λ n. closed_then AType _ (λ t. closed_then AnExpression _ (λ e. closed_last AClose _ closed_close)))
declaration_form (Key word.Wrap) = closed_then ALower _ (λ n. closed_then AType _ (λ t. closed_then AnExpression _ (λ e. closed_last AClose _ closed_close)))
declaration_form _ = tt

item_form : (t : Tok) → ClosedRow (row_of AnItemForm t)
item_form (Lower w) = by (bytes_eq w (codes "value")) where
  by : (b : Bool) → ClosedRow (if b then Some (ALower ▸ λ x. AType ▸ λ t. ASignature ▸ λ s. AnUnfolding ▸ λ u. AClose ▸ λ _. gives (ItemValue x t s u)) else None)
  by true = closed_then ALower _ (λ x. closed_then AType _ (λ t. closed_then ASignature _ (λ s. closed_then AnUnfolding _ (λ u. closed_last AClose _ closed_close))))
  by false = tt
item_form (Key word.Def) = tt
item_form (Key word.Wrap) = tt
item_form t = closed_row_given (declaration_form_row t) (λ d. ItemDecl d) (declaration_form t)

member_form : (f : FileForm) (t : Tok) → ClosedRow (row_of (member_form_part f) t)
member_form ModuleFile t = declaration_form t
member_form InterfaceFile t = item_form t

-- ---- members, bodies and whole files

member_at_bracket : (f : FileForm) (t : Tok) → ClosedRow (at_bracket t (member_form_part f ▸ λ x. gives (member_from f x)))
member_at_bracket f Open = closed_last (member_form_part f) (member_from f) (closed_part (member_form_part f) (member_form f))
member_at_bracket f t = tt

body_plain : (f : FileForm) (t : Tok) → (t ≡ Key word.Hidden → ⊥) → ClosedRow (row_of (body_form_part f) t)
body_plain f t n =
    subst (λ o. ClosedRow o) (sym (body_form_row f t n))
    (closed_row (row_of (member_form_part f) t) (λ x. Many (member_part f) ▸ λ xs. gives (body_form_of f [] (member_from f x ∷ xs)))
    (λ x. closed_last (Many (member_part f)) (λ xs. body_form_of f [] (member_from f x ∷ xs)) (closed_many (member_part f))))

body_form : (f : FileForm) (t : Tok) → ClosedRow (row_of (body_form_part f) t)
body_form f (Key word.Hidden) = subst (λ o. ClosedRow o) (sym (hidden_row f)) (closed_then (Many AName) _ (λ hidden. closed_last (Many (member_part f)) (body_form_of f hidden) (closed_many (member_part f))))
body_form f t = body_plain f t (λ e. cc)

never : {A B : Type 0} {x : B} {us : List Tok} {o : Outcome B} {n : ℕ} → o ≡ Got x us → o ≡ Stuck n → A
never e h = absurd cc

closed_body : (f : FileForm) → ClosedSteps (body_part f ▸ λ b. gives b)
closed_body f = record { closed = at } where
  at : (ts : List Tok) (b : FileBody f) (rest : List Tok) → Reads (body_part f) ts b rest → Closed ts rest
  at [] b rest e = absurd cc
  at (Close ∷ ts) b rest e = record { front = []; parts = ap (λ (us : List Tok). Close ∷ us) (got_rest (sym (by_row Close ts (body_part f) (λ y. gives y) (body_close_row f)) ∙ e)) }
  at (Open ∷ ts) b rest e =
      further (Open ∷ []) refl ((closed_last (body_form_part f) (body_from f) (closed_part (body_form_part f) (body_form f))).closed ts b rest
      (sym (by_row Open ts (body_part f) (λ y. gives y) (body_open_row f)) ∙ e))
  at (t ∷ ts) b rest e = never e (by_row t ts (body_part f) (λ y. gives y) (body_no_row f t tt))

pub member_closed : (f : FileForm) {ts rest : List Tok} {x : Member f} → Reads (member_part f) ts x rest → Closed ts rest
member_closed f {ts = ts} {rest = rest} {x = x} e = (closed_part (member_part f) (λ t. subst (λ o. ClosedRow o) (sym (member_row f t)) (member_at_bracket f t))).closed ts x rest e

whole_form : (f : FileForm) (t : Tok) → ClosedRow (row_of (whole_part f) t)
whole_form f t =
    subst (λ o. ClosedRow o) (sym (whole_row f t))
    (closed_row (row_of (header_part f) t) (λ h. body_part f ▸ λ b. gives (file_from f h b)) (λ h. closed_last (body_part f) (file_from f h) (closed_body f)))

pub whole_closed : (f : FileForm) {ts rest : List Tok} {m : File f} → Reads (whole_part f) ts m rest → Closed ts rest
whole_closed f {ts = ts} {rest = rest} {m = m} e = (closed_part (whole_part f) (whole_form f)).closed ts m rest e
