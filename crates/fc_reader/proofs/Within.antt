-- The members that stand whole in a text, and that all are within the limits.
use Rattle.std.proofs.Common.{◌≡◌, true, ℕ, List, [], ◌∷◌, ◌++◌, refl, sym, ap, ◌∙◌, subst}
use Rattle.fc_syntax.specs.Tree.{Word}
use Rattle.fc_syntax.specs.declared.keyword.Keyword.TheVariants as word
use Rattle.fc_model.specs.Words.{Tok, Open, Close, Key}
use Rattle.fc_model.specs.FileForms.{FileForm, File, FileHeader, FileBody, Member, whole_part, header_part, body_part, member_part, member_form_part, body_of, file_from, member_decls, module_in}
use Rattle.fc_model.specs.Grammar.{Part, Given, gives, ◌▸◌, AName, Many}
use Rattle.fc_model.specs.Reading.{Got, Stuck, Reads}
use Rattle.fc_model.specs.Texts.{SomeMembersAt, no_members, some_members, SomeBodyAt, some_hidden, some_plain, BeginsWith, begins_with}
use Rattle.fc_model.specs.ReadFaults.{are_within, decls_within, WithinSoFar}
use Rattle.fc_read_parts.specs.Reading.{NotHidden, StopsAt}
use Rattle.fc_read_parts.specs.declared.parts.Stop.TheVariants as stop
use Rattle.fc_reader.specs.Halting.{AllWithin}
use Rattle.fc_reader.proofs.Bodies.{BodyParts, with_hidden, without, body_parts, whole_parts}
use Rattle.fc_reader.proofs.Forms.{member_from, decls_append, decls_none, decls_of_file, hidden_no_row, member_row}
use Rattle.fc_reader.proofs.Fronts.{begins_longer}
use Rattle.fc_reader.proofs.Sums.{front_within, nil_within}
use Rattle.fc_reader.proofs.Members.{ends_at_once, member}
use Rattle.fc_reader.proofs.Steps.{by_row, one_reading}

-- ---- one part is read in one way

pub one_value : (p : Part) (ts : List Tok) {us vs : List Tok} {x y : Given p} → Reads p ts x us → Reads p ts y vs → x ≡ y
one_value p ts a b = (one_reading (p ▸ λ z. gives z) ts a b).0

pub one_rest : (p : Part) (ts : List Tok) {us vs : List Tok} {x y : Given p} → Reads p ts x us → Reads p ts y vs → us ≡ vs
one_rest p ts a b = (one_reading (p ▸ λ z. gives z) ts a b).1

never : {A B : Type 0} {x : B} {us : List Tok} {n : ℕ} → Got x us ≡ Stuck n → A
never e = absurd cc

-- nothing is read where a reader stops
pub never_read : {A : Type 0} (p : Part) (ts : List Tok) {us : List Tok} {x : Given p} (n : ℕ) → StopsAt p ts (stop.Form n) → Reads p ts x us → A
never_read p ts n h e = never (sym e ∙ h p (λ y. gives y))

-- ---- two readings of some members of one text

-- the second reading is no longer than the first, or a member stands behind the first
pub data Compared (f : FileForm) (xs ys : List (Member f)) (us : List Tok) : Type 0 where
  no_longer : (more : List (Member f)) → xs ≡ ys ++ more → Compared f xs ys us
  longer : (x : Member f) (ws : List Tok) → Reads (member_part f) us x ws → Compared f xs ys us

compared_more : {f : FileForm} {xs ys : List (Member f)} {us : List Tok} (x y : Member f) → x ≡ y → Compared f xs ys us → Compared f (x ∷ xs) (y ∷ ys) us
compared_more x y p (no_longer more q) = no_longer more cc
compared_more x y p (longer z ws r) = longer z ws r

some_on : {f : FileForm} {ts us rest : List Tok} {xs : List (Member f)} → us ≡ ts → SomeMembersAt f ts xs rest → SomeMembersAt f us xs rest
some_on {f = f} {rest = r} {xs = xs} e d = subst (λ u. SomeMembersAt f u xs r) (sym e) d

body_on : {f : FileForm} {ts us rest : List Tok} {xs : List (Member f)} → us ≡ ts → SomeBodyAt f ts xs rest → SomeBodyAt f us xs rest
body_on {f = f} {rest = r} {xs = xs} e d = subst (λ u. SomeBodyAt f u xs r) (sym e) d

pub compared : {f : FileForm} {ts us vs : List Tok} {xs ys : List (Member f)} → SomeMembersAt f ts xs us → SomeMembersAt f ts ys vs → Compared f xs ys us
compared {xs = xs} a no_members = no_longer xs refl
compared no_members (some_members {us = ws} {x = x} a r) = longer x ws a
compared {f = f} {ts = ts} (some_members {x = x} a r) (some_members {x = y} b s) =
    compared_more x y (one_value (member_part f) ts a b) (compared r (some_on (one_rest (member_part f) ts a b) s))

-- ---- no member stands where a reader stopped

abbrev pub NoMember : FileForm → List Tok → Type 0
NoMember f us = (x : Member f) (ws : List Tok) → Reads (member_part f) us x ws → ⊥

pub stopped_member : (f : FileForm) (us : List Tok) (n : ℕ) → StopsAt (member_part f) us (stop.Form n) → NoMember f us
stopped_member f us n h x ws a = never_read (member_part f) us n h a

pub closed_member : (f : FileForm) (us : List Tok) → NoMember f (Close ∷ us)
closed_member f us x ws a = never (sym a ∙ by_row Close us (member_part f) (λ y. gives y) (member_row f Close))

pub hidden_member : (f : FileForm) (us : List Tok) → NoMember f (Open ∷ Key word.Hidden ∷ us)
hidden_member f us x ws a =
    never (sym a ∙ by_row Open (Key word.Hidden ∷ us) (member_part f) (λ y. gives y) (member_row f Open)
    ∙ by_row (Key word.Hidden) us (member_form_part f) (λ y. gives (member_from f y)) (hidden_no_row f))

-- ---- from the members that were read to all that stand whole

pub nothing_within : (f : FileForm) (room : ℕ) → are_within room (member_decls f []) ≡ true
nothing_within f room = ap (are_within room) (decls_none f) ∙ nil_within room

pub some_within : (f : FileForm) (room : ℕ) {ts us : List Tok} {xs : List (Member f)} → SomeMembersAt f ts xs us → are_within room (member_decls f xs) ≡ true → NoMember f us
    → AllWithin f room (λ a x b. SomeMembersAt f a x b) ts
some_within f room {us = us} {xs = xs} a e h ys vs b = whole us xs ys e h (compared a b) where
  whole : (us : List Tok) (xs ys : List (Member f)) → are_within room (member_decls f xs) ≡ true → NoMember f us → Compared f xs ys us → are_within room (member_decls f ys) ≡ true
  whole us xs ys e h (no_longer more p) = front_within room (member_decls f ys) (member_decls f more) (ap (are_within room) (sym (ap (member_decls f) p ∙ decls_append f ys more)) ∙ e)
  whole us xs ys e h (longer x ws a) = absurd (h x ws a)

pub some_of : (f : FileForm) (xs : List (Member f)) (ts rest : List Tok) → Reads (Many (member_part f)) ts xs rest → SomeMembersAt f ts xs (Close ∷ rest)
some_of f [] ts rest e = some_on (ends_at_once (member_part f) ts rest e) no_members
some_of f (x ∷ xs) ts rest e = let m = member (member_part f) x xs ts rest e in some_members m.first (some_of f xs m.behind rest m.others)

pub some_more : {f : FileForm} {ts us vs : List Tok} {xs : List (Member f)} {x : Member f} → SomeMembersAt f ts xs us → Reads (member_part f) us x vs → SomeMembersAt f ts (xs ++ x ∷ []) vs
some_more no_members a = some_members a no_members
some_more (some_members d s) a = some_members d (some_more s a)

body_more : {f : FileForm} {ts us vs : List Tok} {xs : List (Member f)} {x : Member f} → SomeBodyAt f ts xs us → Reads (member_part f) us x vs → SomeBodyAt f ts (xs ++ x ∷ []) vs
body_more (some_hidden n s) a = some_hidden n (some_more s a)
body_more (some_plain s) a = some_plain (some_more s a)

pub begins_more : {f : FileForm} {ts us vs : List Tok} {xs : List (Member f)} {x : Member f} → BeginsWith f ts xs us → Reads (member_part f) us x vs → BeginsWith f ts (xs ++ x ∷ []) vs
begins_more (begins_with h b) a = begins_with h (body_more b a)

members_all : (f : FileForm) (room : ℕ) {ts rest : List Tok} {xs : List (Member f)} → Reads (Many (member_part f)) ts xs rest → are_within room (member_decls f xs) ≡ true
    → AllWithin f room (λ a x b. SomeMembersAt f a x b) ts
members_all f room {ts = ts} {rest = rest} {xs = xs} d e = some_within f room (some_of f xs ts rest d) e (closed_member f rest)

-- ---- the body: its hidden names, if it has any, and its members

pub plain_all : (f : FileForm) (room : ℕ) {ts : List Tok} → NotHidden ts → AllWithin f room (λ a x b. SomeMembersAt f a x b) ts → AllWithin f room (λ a x b. SomeBodyAt f a x b) ts
plain_all f room h k xs rest (some_hidden n d) = absurd (h _ refl)
plain_all f room h k xs rest (some_plain d) = k xs rest d

pub hidden_all : (f : FileForm) (room : ℕ) {us vs : List Tok} {ns : List Word} → Reads (Many AName) us ns vs → AllWithin f room (λ a x b. SomeMembersAt f a x b) vs
    → AllWithin f room (λ a x b. SomeBodyAt f a x b) (Open ∷ Key word.Hidden ∷ us)
hidden_all f room {us = us} n k xs rest (some_hidden m d) = k xs rest (some_on (one_rest (Many AName) us n m) d)
hidden_all f room n k _ rest (some_plain no_members) = nothing_within f room
hidden_all f room {us = us} n k _ rest (some_plain (some_members {us = ws} {x = x} a r)) = absurd (hidden_member f us x ws a)

-- the hidden names were not read
pub hidden_stops : (f : FileForm) (room : ℕ) {us : List Tok} (n : ℕ) → StopsAt (Many AName) us (stop.Form n) → AllWithin f room (λ a x b. SomeBodyAt f a x b) (Open ∷ Key word.Hidden ∷ us)
hidden_stops f room {us = us} n h xs rest (some_hidden m d) = never_read (Many AName) us n h m
hidden_stops f room n h _ rest (some_plain no_members) = nothing_within f room
hidden_stops f room {us = us} n h _ rest (some_plain (some_members {us = ws} {x = x} a r)) = absurd (hidden_member f us x ws a)

-- the members of a body are within the limits
abbrev BodyWithin : (f : FileForm) → ℕ → FileBody f → Type 0
BodyWithin f room b = (hidden : List Word) (xs : List (Member f)) → b ≡ body_of f hidden xs → are_within room (member_decls f xs) ≡ true

body_all : (f : FileForm) (room : ℕ) {ts rest : List Tok} {b : FileBody f} → Reads (body_part f) ts b rest → BodyWithin f room b → AllWithin f room (λ a x b. SomeBodyAt f a x b) ts
body_all f room {ts = ts} {rest = rest} {b = b} d h = by (body_parts f ts b rest d) where
  by : BodyParts f ts b rest → AllWithin f room (λ a x b. SomeBodyAt f a x b) ts
  by (with_hidden us vs ns xs p n r is) = subst (λ y. AllWithin f room (λ a x b. SomeBodyAt f a x b) y) (sym p) (hidden_all f room n (members_all f room r (h ns xs is)))
  by (without xs k r is) = plain_all f room k (members_all f room r (h [] xs is))

-- ---- the whole file

pub begins_all : (f : FileForm) (room : ℕ) {ts us : List Tok} {h : FileHeader f} → Reads (header_part f) ts h us → AllWithin f room (λ a x b. SomeBodyAt f a x b) us → WithinSoFar f room ts
begins_all f room {ts = ts} a k xs rest (begins_with b s) = k xs rest (body_on (one_rest (header_part f) ts a b) s)

pub header_stops : (f : FileForm) (room : ℕ) {ts : List Tok} (n : ℕ) → StopsAt (header_part f) ts (stop.Form n) → WithinSoFar f room ts
header_stops f room {ts = ts} n h xs rest (begins_with b s) = never_read (header_part f) ts n h b

within_body : (f : FileForm) (room : ℕ) (h : FileHeader f) (b : FileBody f) → decls_within room (module_in f (file_from f h b)) ≡ true → BodyWithin f room b
within_body f room h b e hidden xs is = sym (decls_of_file f room h hidden xs) ∙ ap (λ c. decls_within room (module_in f (file_from f h c))) (sym is) ∙ e

pub whole_all : (f : FileForm) (room : ℕ) {ts rest : List Tok} {m : File f} → Reads (whole_part f) ts m rest → decls_within room (module_in f m) ≡ true → WithinSoFar f room ts
whole_all f room {ts = ts} {rest = rest} {m = m} d e =
    let p = whole_parts f ts m rest d in
    begins_all f room p.first (body_all f room p.others (within_body f room p.header p.body (ap (λ n. decls_within room (module_in f n)) (sym p.is) ∙ e)))

-- what stands whole in the front of a text stands whole in all of it
pub front_all : (f : FileForm) (room : ℕ) (front back : List Tok) → WithinSoFar f room (front ++ back) → WithinSoFar f room front
front_all f room front back h xs rest d = h xs (rest ++ back) (begins_longer back d)
