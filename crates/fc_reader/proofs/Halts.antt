-- How halts of parts are halts of what they stand in.
use Rattle.std.proofs.Common.{◌≡◌, ◌≤◌, ◌+◌, ℕ, true, false, ◌&&◌, nat_le, List, [], ◌∷◌, ◌++◌, length, map, sym, ap, ◌∙◌, subst}
use Rattle.std.proofs.lemmas.List.{map-append}
use Rattle.fc_syntax.specs.Measures.{decl_size, decls_size}
use Rattle.fc_syntax.specs.Tree.{Word}
use Rattle.fc_syntax.specs.declared.keyword.Keyword.TheVariants as word
use Rattle.fc_model.specs.Words.{Tok, Open, Key}
use Rattle.fc_model.specs.FileForms.{FileForm, File, FileHeader, FileBody, Member, whole_part, header_part, body_part, member_part, body_of, file_from, member_decl, member_decls}
use Rattle.fc_model.specs.Grammar.{◌▸◌, AName, Many}
use Rattle.fc_model.specs.Reading.{read_steps}
use Rattle.fc_model.specs.Texts.{SomeMembersAt, no_members, SomeBodyAt, some_hidden, some_plain, BeginsWith, begins_with}
use Rattle.fc_model.specs.ReadFaults.{are_within, counts_fit, depth_fits}
use Rattle.fc_read_parts.specs.declared.parts.Stop.{Stop}
use Rattle.fc_read_parts.specs.declared.parts.Stop.TheVariants as stop
use Rattle.fc_reader.specs.declared.limits.Halt.{Halt}
use Rattle.fc_reader.specs.declared.limits.Halt.TheVariants as halt
use Rattle.fc_reader.specs.Halting.{PastLimit, IsDeep, IsMuch, HaltsAt, Halts}
use Rattle.fc_read_parts.specs.Reading.{GoesOn, NotHidden, StopsAt, Takes}
use Rattle.fc_read_parts.proofs.Stars.{Star, many_at, star_stops}
use Rattle.fc_reader.proofs.Bodies.{hidden_body, plain_body, whole_is}
use Rattle.fc_reader.proofs.Forms.{decls_last, decls_none}
use Rattle.fc_reader.proofs.Sums.{more_within, size_more}
use Rattle.fc_reader.proofs.Steps.{taken}
use Rattle.fc_reader.proofs.Within.{begins_all, header_stops, hidden_all, hidden_stops, nothing_within, plain_all, some_more, some_within, stopped_member}

-- ---- in the list of the members

-- where a loop is, its reader's tokens are those ahead
read_there : {f : FileForm} {ts us ws : List Tok} {xs : List (Member f)} → GoesOn us × (ws ≡ us) → SomeMembersAt f ts xs us → SomeMembersAt f ts xs ws
read_there {f = f} {ts = ts} {xs = xs} on d = subst (λ y. SomeMembersAt f ts xs y) (sym on.1) d

pub member_stops : (f : FileForm) (room : ℕ) {ts us ws : List Tok} {xs : List (Member f)} (s : Stop) → SomeMembersAt f ts xs us → are_within room (member_decls f xs) ≡ true
    → Star (member_part f) (many_at (member_part f) ts) ts xs us → GoesOn us × (ws ≡ us) → StopsAt (member_part f) ws s → HaltsAt f room (SomeMembersAt f) (Many (member_part f)) ts s
member_stops f room stop.Memory d e k on h = tt
member_stops f room {ts = ts} {us = us} {ws = ws} {xs = xs} (stop.Form n) d e k on h =
    record { stops = star_stops (member_part f) ts us ws xs (stop.Form n) k on h; within = some_within f room (read_there on d) e (stopped_member f ws n h) }

pub member_deep : (f : FileForm) (room : ℕ) {ts us ws vs : List Tok} {xs : List (Member f)} {x : Member f} {n : ℕ} → SomeMembersAt f ts xs us → are_within room (member_decls f xs) ≡ true → GoesOn us × (ws ≡ us)
    → Takes (member_part f) ws x vs → n ≡ length ws → depth_fits (member_decl f x) ≡ false → PastLimit f room (SomeMembersAt f) (IsDeep f) ts n
member_deep f room {ws = ws} {vs = vs} {xs = xs} {x = x} start e on own left past =
    record { before = xs; member = x; from = ws; rest = vs; start = read_there on start; own = taken (member_part f) ws own; left = sym left; within = e; past = past }

-- one member more
decls_pushed : (f : FileForm) {X : Type 0} (v : X → Member f) (old new : List X) (x : X) → new ≡ old ++ x ∷ [] → member_decls f (map v new) ≡ member_decls f (map v old) ++ member_decl f (v x) ∷ []
decls_pushed f v old new x e = ap (λ ys. member_decls f (map v ys)) e ∙ ap (member_decls f) (map-append v old (x ∷ [])) ∙ decls_last f (map v old) (v x)

size_last : (f : FileForm) (xs : List (Member f)) (x : Member f) → decls_size (member_decls f (xs ++ x ∷ [])) ≡ decls_size (member_decls f xs) + decl_size (member_decl f x)
size_last f xs x = ap decls_size (decls_last f xs x) ∙ size_more (member_decls f xs) (member_decl f x)

pub member_much : (f : FileForm) (room : ℕ) {ts us ws vs : List Tok} {xs : List (Member f)} {x : Member f} {n : ℕ} (size : ℕ) → SomeMembersAt f ts xs us → are_within room (member_decls f xs) ≡ true
    → GoesOn us × (ws ≡ us) → Takes (member_part f) ws x vs → n ≡ length ws → size ≡ decls_size (member_decls f xs)
    → (depth_fits (member_decl f x) ≡ true) × ((counts_fit (member_decl f x) && nat_le (size + decl_size (member_decl f x)) room) ≡ false)
    → PastLimit f room (SomeMembersAt f) (IsMuch f room) ts n
member_much f room {ws = ws} {vs = vs} {xs = xs} {x = x} size start e on own left is past = record {
  before = xs;
  member = x;
  from = ws;
  rest = vs;
  start = read_there on start;
  own = taken (member_part f) ws own;
  left = sym left;
  within = e;
  past = (past.0, ap (λ m. counts_fit (member_decl f x) && nat_le m room) (size_last f xs x ∙ ap (λ m. m + decl_size (member_decl f x)) (sym is)) ∙ past.1);
}

pub none_read : (f : FileForm) {ts : List Tok} {xs : List (Member f)} → xs ≡ [] → SomeMembersAt f ts xs ts
none_read f {ts = ts} e = subst (λ ys. SomeMembersAt f ts ys ts) (sym e) no_members

pub none_within : (f : FileForm) (room : ℕ) {xs : List (Member f)} → xs ≡ [] → are_within room (member_decls f xs) ≡ true
none_within f room e = ap (λ ys. are_within room (member_decls f ys)) e ∙ nothing_within f room

pub none_size : (f : FileForm) {xs : List (Member f)} → xs ≡ [] → 0 ≡ decls_size (member_decls f xs)
none_size f e = sym (ap (λ ys. decls_size (member_decls f ys)) e ∙ ap decls_size (decls_none f))

pub more_read : (f : FileForm) {X : Type 0} (v : X → Member f) {ts us ws vs : List Tok} (old new : List X) (x : X) → new ≡ old ++ x ∷ [] → SomeMembersAt f ts (map v old) us → GoesOn us × (ws ≡ us)
    → Takes (member_part f) ws (v x) vs → SomeMembersAt f ts (map v new) vs
more_read f v {ts = ts} {ws = ws} {vs = vs} old new x e s on a =
    subst (λ ys. SomeMembersAt f ts ys vs) (sym (ap (map v) e ∙ map-append v old (x ∷ []))) (some_more (read_there on s) (taken (member_part f) ws a))

pub more_are_within : (f : FileForm) (room : ℕ) {X : Type 0} (v : X → Member f) (old new : List X) (x : X) (size n : ℕ) → new ≡ old ++ x ∷ [] → are_within room (member_decls f (map v old)) ≡ true
    → size ≡ decls_size (member_decls f (map v old))
    → (depth_fits (member_decl f (v x)) ≡ true) × ((counts_fit (member_decl f (v x)) ≡ true) × ((n ≡ size + decl_size (member_decl f (v x))) × (n ≤ room))) → are_within room (member_decls f (map v new)) ≡ true
more_are_within f room v old new x size n e w is h =
    ap (are_within room) (decls_pushed f v old new x e)
    ∙ more_within room (member_decls f (map v old)) (member_decl f (v x)) n w h.0 h.1.0 (h.1.1.0 ∙ ap (λ m. m + decl_size (member_decl f (v x))) is) h.1.1.1

pub more_size : (f : FileForm) {X : Type 0} (v : X → Member f) (old new : List X) (x : X) (size n : ℕ) → new ≡ old ++ x ∷ [] → size ≡ decls_size (member_decls f (map v old))
    → n ≡ size + decl_size (member_decl f (v x)) → n ≡ decls_size (member_decls f (map v new))
more_size f v old new x size n e is h =
    h ∙ ap (λ m. m + decl_size (member_decl f (v x))) is ∙ sym (ap decls_size (decls_pushed f v old new x e) ∙ size_more (member_decls f (map v old)) (member_decl f (v x)))

-- ---- around them

past_in : {f : FileForm} {room : ℕ} {At Bt : List Tok → List (Member f) → List Tok → Type 0} {Is : List (Member f) → Member f → Type 0} {ts us : List Tok} {n : ℕ}
    → ((xs : List (Member f)) (vs : List Tok) → At us xs vs → Bt ts xs vs) → PastLimit f room At Is us n → PastLimit f room Bt Is ts n
past_in g p = record { before = p.before; member = p.member; from = p.from; rest = p.rest; start = g p.before p.from p.start; own = p.own; left = p.left; within = p.within; past = p.past }

plain_at : (f : FileForm) (room : ℕ) {ts : List Tok} (h : Halt) → NotHidden ts → Halts f room (SomeMembersAt f) (Many (member_part f)) ts h → Halts f room (SomeBodyAt f) (body_part f) ts h
plain_at f room (halt.Stop stop.Memory) p h = tt
plain_at f room {ts = ts} (halt.Stop (stop.Form n)) p h = record { stops = λ q g. plain_body f ts g p ∙ h.stops q (λ xs. g (body_of f [] xs)); within = plain_all f room p h.within }
plain_at f room (halt.Depth n) p h = past_in (λ xs vs d. some_plain d) h
plain_at f room (halt.Counts n) p h = past_in (λ xs vs d. some_plain d) h

pub plain_halts : (f : FileForm) (room : ℕ) {ts us : List Tok} (h : Halt) → NotHidden ts × (us ≡ ts) → Halts f room (SomeMembersAt f) (Many (member_part f)) us h → Halts f room (SomeBodyAt f) (body_part f) ts h
plain_halts f room h p d = plain_at f room h p.0 (subst (λ y. Halts f room (SomeMembersAt f) (Many (member_part f)) y h) p.1 d)

pub plain_read : (f : FileForm) {ts us vs : List Tok} {ns : List Word} {xs : List (Member f)} → NotHidden ts × (us ≡ ts) → ns ≡ [] → Takes (Many (member_part f)) us xs vs
    → Takes (body_part f) ts (body_of f ns xs) vs
plain_read f {ts = ts} {vs = vs} {xs = xs} p e d = λ q g.
    plain_body f ts g p.0 ∙ subst (λ y. Takes (Many (member_part f)) y xs vs) p.1 d q (λ ys. g (body_of f [] ys)) ∙ ap (λ ns. read_steps vs (g (body_of f ns xs))) (sym e)

names_at : (f : FileForm) (room : ℕ) (us : List Tok) (s : Stop) → StopsAt (Many AName) us s → HaltsAt f room (SomeBodyAt f) (body_part f) (Open ∷ Key word.Hidden ∷ us) s
names_at f room us stop.Memory h = tt
names_at f room us (stop.Form n) h =
    record { stops = λ q g. hidden_body f us g ∙ h q (λ ns. Many (member_part f) ▸ λ xs. g (body_of f ns xs)); within = hidden_stops f room {us = us} n h }

pub hidden_names_stop : (f : FileForm) (room : ℕ) {ts us : List Tok} (s : Stop) → ts ≡ Open ∷ Key word.Hidden ∷ us → StopsAt (Many AName) us s → HaltsAt f room (SomeBodyAt f) (body_part f) ts s
hidden_names_stop f room {us = us} s e h = subst (λ y. HaltsAt f room (SomeBodyAt f) (body_part f) y s) (sym e) (names_at f room us s h)

hidden_at : (f : FileForm) (room : ℕ) (us : List Tok) {vs : List Tok} {ns : List Word} (h : Halt) → Takes (Many AName) us ns vs → Halts f room (SomeMembersAt f) (Many (member_part f)) vs h
    → Halts f room (SomeBodyAt f) (body_part f) (Open ∷ Key word.Hidden ∷ us) h
hidden_at f room us (halt.Stop stop.Memory) n h = tt
hidden_at f room us {ns = ns} (halt.Stop (stop.Form m)) n h = record {
  stops = λ q g. hidden_body f us g ∙ n q (λ ms. Many (member_part f) ▸ λ xs. g (body_of f ms xs)) ∙ h.stops q (λ xs. g (body_of f ns xs));
  within = hidden_all f room (taken (Many AName) us n) h.within;
}
hidden_at f room us (halt.Depth m) n h = past_in (λ xs vs d. some_hidden (taken (Many AName) us n) d) h
hidden_at f room us (halt.Counts m) n h = past_in (λ xs vs d. some_hidden (taken (Many AName) us n) d) h

pub hidden_halts : (f : FileForm) (room : ℕ) {ts us vs : List Tok} {ns : List Word} (h : Halt) → ts ≡ Open ∷ Key word.Hidden ∷ us → Takes (Many AName) us ns vs
    → Halts f room (SomeMembersAt f) (Many (member_part f)) vs h → Halts f room (SomeBodyAt f) (body_part f) ts h
hidden_halts f room {us = us} h e n d = subst (λ y. Halts f room (SomeBodyAt f) (body_part f) y h) (sym e) (hidden_at f room us h n d)

pub header_halts : (f : FileForm) (room : ℕ) (ts : List Tok) (s : Stop) → StopsAt (header_part f) ts s → HaltsAt f room (BeginsWith f) (whole_part f) ts s
header_halts f room ts stop.Memory h = tt
header_halts f room ts (stop.Form n) h = record { stops = λ q g. whole_is f ts g ∙ h q (λ x. body_part f ▸ λ b. g (file_from f x b)); within = header_stops f room n h }

pub body_halts : (f : FileForm) (room : ℕ) (ts : List Tok) {us : List Tok} {x : FileHeader f} (h : Halt) → Takes (header_part f) ts x us → Halts f room (SomeBodyAt f) (body_part f) us h
    → Halts f room (BeginsWith f) (whole_part f) ts h
body_halts f room ts (halt.Stop stop.Memory) d h = tt
body_halts f room ts {x = x} (halt.Stop (stop.Form n)) d h = record {
  stops = λ q g. whole_is f ts g ∙ d q (λ y. body_part f ▸ λ b. g (file_from f y b)) ∙ h.stops q (λ b. g (file_from f x b));
  within = begins_all f room (taken (header_part f) ts d) h.within;
}
body_halts f room ts (halt.Depth n) d h = past_in (λ xs vs b. begins_with (taken (header_part f) ts d) b) h
body_halts f room ts (halt.Counts n) d h = past_in (λ xs vs b. begins_with (taken (header_part f) ts d) b) h

pub whole_read : (f : FileForm) (ts : List Tok) {us vs : List Tok} {x : FileHeader f} {b : FileBody f} {m : File f} → Takes (header_part f) ts x us → Takes (body_part f) us b vs → m ≡ file_from f x b
    → Takes (whole_part f) ts m vs
whole_read f ts {vs = vs} {x = x} {b = b} d k e = λ q g.
    whole_is f ts g ∙ d q (λ y. body_part f ▸ λ c. g (file_from f y c)) ∙ k q (λ c. g (file_from f x c)) ∙ ap (λ y. read_steps vs (g y)) (sym e)
