-- A text that ends behind a member goes on, and what of it is read in one way.
use Rattle.std.proofs.Common.{◌≡◌, List, [], ◌∷◌, ◌++◌, refl, sym, ap, ◌∙◌, subst, append_assoc}
use Rattle.fc_syntax.specs.declared.keyword.Keyword.TheVariants as word
use Rattle.fc_model.specs.Words.{Tok, Open, Close, Key}
use Rattle.fc_model.specs.FileForms.{FileForm, File, FileBody, Member, whole_part, header_part, body_part, member_part, body_of, file_from}
use Rattle.fc_model.specs.Grammar.{gives, ◌▸◌, AName, Many}
use Rattle.fc_model.specs.Reading.{read_steps, Reads}
use Rattle.fc_model.specs.Texts.{SomeMembersAt, no_members, some_members, SomeBodyAt, some_hidden, some_plain, BeginsWith, begins_with}
use Rattle.fc_model.specs.ReadFaults.{Begins}
use Rattle.fc_read_parts.specs.Reading.{NotHidden}
use Rattle.fc_reader.proofs.Bodies.{hidden_body, plain_body, whole_is}
use Rattle.fc_reader.proofs.Fronts.{begins_longer}
use Rattle.fc_reader.proofs.Lists.{tail_same}
use Rattle.fc_reader.proofs.Members.{many_goes}
use Rattle.fc_reader.proofs.Steps.{outcome_then, read_then}
use Rattle.fc_reader.proofs.Within.{closed_member, hidden_member, one_rest, one_value}

-- ---- the members are read to their end

one_more : (f : FileForm) (x : Member f) (xs : List (Member f)) (ts us rest : List Tok) → Reads (member_part f) ts x us → Reads (Many (member_part f)) us xs rest → Reads (Many (member_part f)) ts (x ∷ xs) rest
one_more f x xs [] us rest a r = absurd cc
one_more f x xs (t ∷ ts) us rest a r =
    many_goes (member_part f) t ts (λ ys. gives ys) (λ e. closed_member f ts x us (subst (λ u. Reads (member_part f) (u ∷ ts) x us) e a))
    ∙ read_then (t ∷ ts) (member_part f) (λ y. Many (member_part f) ▸ λ ys. gives (y ∷ ys)) ∙ ap (λ o. outcome_then o (λ y. Many (member_part f) ▸ λ ys. gives (y ∷ ys))) a
    ∙ read_then us (Many (member_part f)) (λ ys. gives (x ∷ ys)) ∙ ap (λ o. outcome_then o (λ ys. gives (x ∷ ys))) r

closed_members : {f : FileForm} (rest : List Tok) {ts us : List Tok} {xs : List (Member f)} → us ≡ Close ∷ rest → SomeMembersAt f ts xs us → Reads (Many (member_part f)) ts xs rest
closed_members {f = f} rest e no_members = ap (λ us. read_steps us (Many (member_part f) ▸ λ xs. gives xs)) e
closed_members {f = f} rest e (some_members {ts = ts} {us = us} {x = x} {xs = xs} a r) = one_more f x xs ts us rest a (closed_members rest e r)

not_hidden : {f : FileForm} {ts us : List Tok} {xs : List (Member f)} (rest : List Tok) → us ≡ Close ∷ rest → SomeMembersAt f ts xs us → NotHidden ts
not_hidden rest e no_members vs h = differ (sym e ∙ h) where
  differ : Close ∷ rest ≡ Open ∷ Key word.Hidden ∷ vs → ⊥
  differ k = cc
not_hidden {f = f} rest e (some_members {us = us} {x = x} a r) vs h = hidden_member f vs x us (subst (λ y. Reads (member_part f) y x us) h a)

closed_body : {f : FileForm} (rest : List Tok) {ts us : List Tok} {xs : List (Member f)} → us ≡ Close ∷ rest → SomeBodyAt f ts xs us → (b : FileBody f) × Reads (body_part f) ts b rest
closed_body {f = f} rest {xs = xs} e (some_hidden {ts = ts} {us = us} {ns = ns} n s) = (
  body_of f ns xs,
  hidden_body f ts (λ b. gives b) ∙ read_then ts (Many AName) (λ ms. Many (member_part f) ▸ λ ys. gives (body_of f ms ys))
      ∙ ap (λ o. outcome_then o (λ ms. Many (member_part f) ▸ λ ys. gives (body_of f ms ys))) n
      ∙ read_then us (Many (member_part f)) (λ ys. gives (body_of f ns ys)) ∙ ap (λ o. outcome_then o (λ ys. gives (body_of f ns ys))) (closed_members rest e s),
)
closed_body {f = f} rest {ts = ts} {xs = xs} e (some_plain s) = (
  body_of f [] xs,
  plain_body f ts (λ b. gives b) (not_hidden rest e s) ∙ read_then ts (Many (member_part f)) (λ ys. gives (body_of f [] ys))
      ∙ ap (λ o. outcome_then o (λ ys. gives (body_of f [] ys))) (closed_members rest e s),
)

closed_whole : {f : FileForm} (rest : List Tok) {ts : List Tok} {xs : List (Member f)} → BeginsWith f ts xs (Close ∷ rest) → (m : File f) × Reads (whole_part f) ts m rest
closed_whole {f = f} rest (begins_with {ts = ts} {us = us} {h = h} a b) =
    let c = closed_body rest refl b in (
      file_from f h c.0,
      whole_is f ts (λ m. gives m) ∙ read_then ts (header_part f) (λ x. body_part f ▸ λ y. gives (file_from f x y))
          ∙ ap (λ o. outcome_then o (λ x. body_part f ▸ λ y. gives (file_from f x y))) a
          ∙ read_then us (body_part f) (λ y. gives (file_from f h y)) ∙ ap (λ o. outcome_then o (λ y. gives (file_from f h y))) c.1,
    )

-- what ends behind members goes on
pub members_begin : {f : FileForm} {ts : List Tok} {xs : List (Member f)} → BeginsWith f ts xs [] → Begins f ts
members_begin d = let c = closed_whole [] (begins_longer (Close ∷ []) d) in (Close ∷ [], (c.0, c.1))

-- a text that goes on goes on from its front
pub front_begins : (f : FileForm) (front back : List Tok) → Begins f (front ++ back) → Begins f front
front_begins f front back h = (back ++ h.0, (h.1.0, subst (λ x. Reads (whole_part f) x h.1.0 []) (append_assoc front back h.0) h.1.1))

-- ---- two readings of one text

-- one of two lists goes on with the other
pub data Linear {X : Type 0} (xs ys : List X) : Type 0 where
  first_longer : (more : List X) → xs ≡ ys ++ more → Linear xs ys
  second_longer : (more : List X) → ys ≡ xs ++ more → Linear xs ys

linear_more : {X : Type 0} {xs ys : List X} (x y : X) → x ≡ y → Linear xs ys → Linear (x ∷ xs) (y ∷ ys)
linear_more x y p (first_longer more q) = first_longer more cc
linear_more x y p (second_longer more q) = second_longer more cc

linear_members : {f : FileForm} {ts us vs ws : List Tok} {xs ys : List (Member f)} → us ≡ ts → SomeMembersAt f ts xs vs → SomeMembersAt f us ys ws → Linear xs ys
linear_members {xs = xs} e a no_members = first_longer xs refl
linear_members {ys = ys} e no_members b = second_longer ys refl
linear_members {f = f} e (some_members {ts = ts} {x = x} a r) (some_members {us = us'} {x = x'} b s) =
    let b' = subst (λ u. Reads (member_part f) u x' us') e b in
    linear_more x x' (one_value (member_part f) ts a b') (linear_members (sym (one_rest (member_part f) ts a b')) r s)

linear_body : {f : FileForm} {ts us vs ws : List Tok} {xs ys : List (Member f)} → us ≡ ts → SomeBodyAt f ts xs vs → SomeBodyAt f us ys ws → Linear xs ys
linear_body e (some_hidden {ts = ts} n s) (some_hidden {us = vs} {ns = ms} m r) =
    linear_members (sym (one_rest (Many AName) ts n (subst (λ u. Reads (Many AName) u ms vs) (same e) m))) s r where
      same : {us vs : List Tok} → Open ∷ Key word.Hidden ∷ us ≡ Open ∷ Key word.Hidden ∷ vs → us ≡ vs
      same k = cc
linear_body e (some_plain s) (some_plain r) = linear_members e s r
linear_body {xs = xs} e (some_hidden n s) (some_plain no_members) = first_longer xs refl
linear_body {f = f} e (some_hidden {ts = ts} n s) (some_plain (some_members {us = vs} {x = x} a r)) = absurd (hidden_member f ts x vs (subst (λ u. Reads (member_part f) u x vs) e a))
linear_body {ys = ys} e (some_plain no_members) (some_hidden n s) = second_longer ys refl
linear_body {f = f} e (some_plain (some_members {us = vs} {x = x} a r)) (some_hidden {ts = us} n s) = absurd (hidden_member f us x vs (subst (λ u. Reads (member_part f) u x vs) (sym e) a))

pub linear : {f : FileForm} {ts us vs : List Tok} {xs ys : List (Member f)} → BeginsWith f ts xs us → BeginsWith f ts ys vs → Linear xs ys
linear {f = f} {ts = ts} (begins_with a s) (begins_with b r) = linear_body (sym (one_rest (header_part f) ts a b)) s r

-- a member stands here
pub record MemberHere (f : FileForm) (ts : List Tok) : Type 0 where
  pub member : Member f
  pub rest : List Tok
  pub own : Reads (member_part f) ts member rest

rest_members : {f : FileForm} {ts us vs ws : List Tok} {xs ys : List (Member f)} → us ≡ ts → xs ≡ ys → SomeMembersAt f ts xs vs → SomeMembersAt f us ys ws → vs ≡ ws
rest_members e h no_members no_members = sym e
rest_members e h no_members (some_members b s) = absurd cc
rest_members e h (some_members a r) no_members = absurd cc
rest_members {f = f} e h (some_members {ts = ts} {x = x} a r) (some_members {us = us'} {x = x'} b s) =
    rest_members (sym (one_rest (member_part f) ts a (subst (λ u. Reads (member_part f) u x' us') e b))) (tail_same h) r s

rest_body : {f : FileForm} {ts us vs ws : List Tok} {xs ys : List (Member f)} → us ≡ ts → xs ≡ ys → MemberHere f vs → MemberHere f ws → SomeBodyAt f ts xs vs → SomeBodyAt f us ys ws → vs ≡ ws
rest_body e h p q (some_hidden {ts = ts} n s) (some_hidden {us = vs} {ns = ms} m r) =
    rest_members (sym (one_rest (Many AName) ts n (subst (λ u. Reads (Many AName) u ms vs) (same e) m))) h s r where
      same : {us vs : List Tok} → Open ∷ Key word.Hidden ∷ us ≡ Open ∷ Key word.Hidden ∷ vs → us ≡ vs
      same k = cc
rest_body e h p q (some_plain s) (some_plain r) = rest_members e h s r
rest_body {f = f} e h p q (some_hidden {ts = ts} n s) (some_plain no_members) =
    absurd (hidden_member f ts q.member q.rest (subst (λ u. Reads (member_part f) u q.member q.rest) e q.own))
rest_body {f = f} e h p q (some_hidden {ts = ts} n s) (some_plain (some_members {us = vs} {x = x} a r)) = absurd (hidden_member f ts x vs (subst (λ u. Reads (member_part f) u x vs) e a))
rest_body {f = f} e h p q (some_plain no_members) (some_hidden {ts = us} n s) =
    absurd (hidden_member f us p.member p.rest (subst (λ u. Reads (member_part f) u p.member p.rest) (sym e) p.own))
rest_body {f = f} e h p q (some_plain (some_members {us = vs} {x = x} a r)) (some_hidden {ts = us} n s) = absurd (hidden_member f us x vs (subst (λ u. Reads (member_part f) u x vs) (sym e) a))

-- where members stand behind the same others, they stand in one place
pub rest_one : {f : FileForm} {ts us vs : List Tok} {xs ys : List (Member f)} → xs ≡ ys → MemberHere f us → MemberHere f vs → BeginsWith f ts xs us → BeginsWith f ts ys vs → us ≡ vs
rest_one {f = f} {ts = ts} h p q (begins_with a s) (begins_with b r) = rest_body (sym (one_rest (header_part f) ts a b)) h p q s r
