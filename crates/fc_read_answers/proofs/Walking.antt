-- The members of a text, one after the other, up to the first that is past a limit or is not whole.
use Rattle.std.proofs.Common.{◌≡◌, ◌≤◌, ◌<◌, ℕ, zero, suc, Bool, true, false, ◌&&◌, nat_le, List, [], ◌∷◌, ◌++◌, length, arith, refl, ap, ◌∙◌}
use Rattle.std.proofs.lemmas.Bool.{and_parts, leb-true}
use Rattle.std.proofs.lemmas.List.{length-append}
use Rattle.fc_syntax.specs.Measures.{decls_size}
use Rattle.fc_syntax.specs.declared.keyword.Keyword.TheVariants as word
use Rattle.fc_syntax.specs.Tree.{Word}
use Rattle.fc_model.specs.Words.{Tok, Open, Close, Key}
use Rattle.fc_model.specs.FileForms.{FileForm, FileHeader, Member, header_part, member_part, member_decl, member_decls}
use Rattle.fc_model.specs.Grammar.{Part, AName, Many}
use Rattle.fc_model.specs.Reading.{Outcome, Got, Stuck, read_part, Reads}
use Rattle.fc_model.specs.Texts.{SomeMembersAt, no_members, some_hidden, some_plain, BeginsWith, begins_with}
use Rattle.fc_model.specs.ReadFaults.{are_within, counts_fit, depth_fits, WithinSoFar}
use Rattle.fc_read_parts.specs.Reading.{NotHidden, StopsAt}
use Rattle.fc_read_parts.specs.declared.parts.Stop.TheVariants as stop
use Rattle.fc_reader.specs.Halting.{AllWithin, IsDeep, IsMuch, PastLimit}
use Rattle.fc_reader.proofs.Closings.{member_closed}
use Rattle.fc_reader.proofs.Forms.{decls_last}
use Rattle.fc_reader.proofs.Steps.{outcome_then, read_then}
use Rattle.fc_reader.proofs.Sums.{more_within, size_more}
use Rattle.fc_reader.proofs.Within.{begins_all, header_stops, hidden_all, hidden_stops, nothing_within, plain_all, some_more, some_within, stopped_member}

-- the first member that is past a limit, or that all which stand whole are within
pub data Walked (f : FileForm) (room : ℕ) (ts : List Tok) : Type 0 where
  finds_deep : (n : ℕ) → PastLimit f room (BeginsWith f) (IsDeep f) ts n → Walked f room ts
  finds_much : (n : ℕ) → PastLimit f room (BeginsWith f) (IsMuch f room) ts n → Walked f room ts
  all_fit : WithinSoFar f room ts → Walked f room ts

-- a part that is not read stops there, whatever is still to come
stops_at : (p : Part) (ts : List Tok) (n : ℕ) → read_part p ts ≡ Stuck n → StopsAt p ts (stop.Form n)
stops_at p ts n e = λ q g. read_then ts p g ∙ ap (λ o. outcome_then o g) e

-- members begin here: those that stand whole from here on stand whole in all of the text, and where they are within the limits, all that do are
record Starts (f : FileForm) (room : ℕ) (all ts : List Tok) : Type 0 where
  stand : (xs : List (Member f)) (us : List Tok) → SomeMembersAt f ts xs us → BeginsWith f all xs us
  suffice : AllWithin f room (λ a x b. SomeMembersAt f a x b) ts → WithinSoFar f room all

-- one member more is within the limits
one_within : (f : FileForm) (room : ℕ) (xs : List (Member f)) (x : Member f) → are_within room (member_decls f xs) ≡ true → depth_fits (member_decl f x) ≡ true
    → (counts_fit (member_decl f x) && nat_le (decls_size (member_decls f (xs ++ x ∷ []))) room) ≡ true → are_within room (member_decls f (xs ++ x ∷ [])) ≡ true
one_within f room xs x w d c =
    let size = decls_size (member_decls f (xs ++ x ∷ [])) in
    let p = and_parts (counts_fit (member_decl f x)) (nat_le size room) c in
    let is = ap decls_size (decls_last f xs x) ∙ size_more (member_decls f xs) (member_decl f x) in
    ap (are_within room) (decls_last f xs x) ∙ more_within room (member_decls f xs) (member_decl f x) size w d p.0 is (leb-true size room p.1)

-- what is found at the next member, behind others within the limits: that it is not whole, that it is past a limit, or what is found behind it
step : (f : FileForm) (room : ℕ) {all ts : List Tok} → Starts f room all ts → (xs : List (Member f)) (us : List Tok) → SomeMembersAt f ts xs us → are_within room (member_decls f xs) ≡ true
    → ((x : Member f) (vs : List Tok) → Reads (member_part f) us x vs → are_within room (member_decls f (xs ++ x ∷ [])) ≡ true → Walked f room all) → Walked f room all
step f room {all = all} p xs us s w on = by (read_part (member_part f) us) refl where
  by_counts : (x : Member f) (vs : List Tok) → Reads (member_part f) us x vs → depth_fits (member_decl f x) ≡ true
      → (b : Bool) → (counts_fit (member_decl f x) && nat_le (decls_size (member_decls f (xs ++ x ∷ []))) room) ≡ b → Walked f room all
  by_counts x vs e d false c = finds_much (length us) (record { before = xs; member = x; from = us; rest = vs; start = p.stand xs us s; own = e; left = refl; within = w; past = (d, c) })
  by_counts x vs e d true c = on x vs e (one_within f room xs x w d c)

  by_depth : (x : Member f) (vs : List Tok) → Reads (member_part f) us x vs → (b : Bool) → depth_fits (member_decl f x) ≡ b → Walked f room all
  by_depth x vs e false d = finds_deep (length us) (record { before = xs; member = x; from = us; rest = vs; start = p.stand xs us s; own = e; left = refl; within = w; past = d })
  by_depth x vs e true d = by_counts x vs e d (counts_fit (member_decl f x) && nat_le (decls_size (member_decls f (xs ++ x ∷ []))) room) refl

  by : (o : Outcome (Member f)) → read_part (member_part f) us ≡ o → Walked f room all
  by (Stuck n) e = all_fit (p.suffice (some_within f room s w (stopped_member f us n (stops_at (member_part f) us n e))))
  by (Got x vs) e = by_depth x vs e (depth_fits (member_decl f x)) refl

-- what is left behind a member is shorter
shorter : (f : FileForm) (us vs : List Tok) {x : Member f} → Reads (member_part f) us x vs → length vs < length us
shorter f us vs e = let c = member_closed f e in omega (arith, ap length c.parts, length-append c.front (Close ∷ vs))

-- the other members, in at most so many tokens
others : (f : FileForm) (room : ℕ) {all ts : List Tok} → Starts f room all ts → (most : ℕ) (xs : List (Member f)) (us : List Tok) → length us ≤ most → SomeMembersAt f ts xs us
    → are_within room (member_decls f xs) ≡ true → Walked f room all
others f room p zero xs us h s w = step f room p xs us s w (λ x vs e k. absurd (omega (arith, h, shorter f us vs e)))
others f room p (suc n) xs us h s w = step f room p xs us s w (λ x vs e k. others f room p n (xs ++ x ∷ []) vs (omega (arith, h, shorter f us vs e)) (some_more s e) k)

-- all members, from the first on
members : (f : FileForm) (room : ℕ) {all : List Tok} (ts : List Tok) → Starts f room all ts → Walked f room all
members f room ts p = others f room p (length ts) [] ts (omega arith) no_members (nothing_within f room)

-- ---- the body behind a header: its hidden names, if it has any, and its members

hidden : (f : FileForm) (room : ℕ) {all : List Tok} {h : FileHeader f} (us : List Tok) → Reads (header_part f) all h (Open ∷ Key word.Hidden ∷ us) → Walked f room all
hidden f room {all = all} us a = by (read_part (Many AName) us) refl where
  by : (o : Outcome (List Word)) → read_part (Many AName) us ≡ o → Walked f room all
  by (Stuck n) e = all_fit (begins_all f room a (hidden_stops f room n (stops_at (Many AName) us n e)))
  by (Got ns vs) e = members f room vs (record { stand = λ xs ws d. begins_with a (some_hidden e d); suffice = λ k. begins_all f room a (hidden_all f room e k) })

plain : (f : FileForm) (room : ℕ) {all : List Tok} {h : FileHeader f} (us : List Tok) → NotHidden us → Reads (header_part f) all h us → Walked f room all
plain f room us n a = members f room us (record { stand = λ xs ws d. begins_with a (some_plain d); suffice = λ k. begins_all f room a (plain_all f room n k) })

body : (f : FileForm) (room : ℕ) {all : List Tok} {h : FileHeader f} (us : List Tok) → Reads (header_part f) all h us → Walked f room all
body f room [] a = plain f room [] (λ vs e. cc) a
body f room (Open ∷ []) a = plain f room (Open ∷ []) (λ vs e. cc) a
body f room (Open ∷ Key word.Hidden ∷ us) a = hidden f room us a
body f room (Open ∷ t ∷ us) a = plain f room (Open ∷ t ∷ us) (λ vs e. cc) a
body f room (t ∷ us) a = plain f room (t ∷ us) (λ vs e. cc) a

-- ---- the whole text

pub walked : (f : FileForm) (room : ℕ) (ts : List Tok) → Walked f room ts
walked f room ts = by (read_part (header_part f) ts) refl where
  by : (o : Outcome (FileHeader f)) → read_part (header_part f) ts ≡ o → Walked f room ts
  by (Stuck n) e = all_fit (header_stops f room n (stops_at (header_part f) ts n e))
  by (Got h us) e = body f room us e
