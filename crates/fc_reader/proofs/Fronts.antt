-- What was read stands in front of what follows it, whatever that is.
use Rattle.std.proofs.Common.{◌≡◌, List, [], ◌∷◌, ◌++◌, refl, sym, ap, ◌∙◌, subst, append_assoc}
use Rattle.fc_syntax.specs.declared.keyword.Keyword.TheVariants as word
use Rattle.fc_model.specs.Words.{Tok, Open, Key}
use Rattle.fc_model.specs.FileForms.{FileForm, Member, header_part, member_part}
use Rattle.fc_model.specs.Grammar.{Part, Given, gives, ◌▸◌, AName, Many}
use Rattle.fc_model.specs.Reading.{Reads}
use Rattle.fc_model.specs.Texts.{SomeMembersAt, no_members, some_members, SomeBodyAt, some_hidden, some_plain, BeginsWith, begins_with}
use Rattle.fc_reader.proofs.Steps.{cut}

pub record Front (At : List Tok → List Tok → Type 0) (ts rest : List Tok) : Type 0 where
  pub front : List Tok
  pub parts : ts ≡ front ++ rest
  pub reads : (r : List Tok) → At (front ++ r) r

at_on : (R : List Tok → List Tok → Type 0) {a b : List Tok} (r : List Tok) → a ≡ b → R b r → R a r
at_on R r e d = subst (λ x. R x r) (sym e) d

-- one behind the other
then : {P Q R : List Tok → List Tok → Type 0} {ts us rest : List Tok} → ((a b c : List Tok) → P a b → Q b c → R a c) → Front P ts us → Front Q us rest → Front R ts rest
then {R = R} {rest = rest} f p q = record {
  front = p.front ++ q.front;
  parts = p.parts ∙ ap (λ (x : List Tok). p.front ++ x) q.parts ∙ sym (append_assoc p.front q.front rest);
  reads = λ r. at_on R r (append_assoc p.front q.front r) (f (p.front ++ (q.front ++ r)) (q.front ++ r) r (p.reads (q.front ++ r)) (q.reads r));
}

within : {P R : List Tok → List Tok → Type 0} {ts rest : List Tok} (ws : List Tok) → ((a b : List Tok) → P a b → R (ws ++ a) b) → Front P ts rest → Front R (ws ++ ts) rest
within {R = R} {rest = rest} ws f p = record {
  front = ws ++ p.front;
  parts = ap (λ (x : List Tok). ws ++ x) p.parts ∙ sym (append_assoc ws p.front rest);
  reads = λ r. at_on R r (append_assoc ws p.front r) (f (p.front ++ r) r (p.reads r));
}

pub part_front : (p : Part) (ts : List Tok) {rest : List Tok} {x : Given p} → Reads p ts x rest → Front (λ a b. Reads p a x b) ts rest
part_front p ts {rest = rest} {x = x} e = let c = cut ts (p ▸ λ y. gives y) x rest e in record { front = c.front; parts = c.parts; reads = c.reads }

members_front : {f : FileForm} {ts rest : List Tok} {xs : List (Member f)} → SomeMembersAt f ts xs rest → Front (λ a b. SomeMembersAt f a xs b) ts rest
members_front no_members = record { front = []; parts = refl; reads = λ r. no_members }
members_front {f = f} {ts = ts} {xs = xs} (some_members {us = us} {x = x} {xs = ys} e s) =
    then {P = λ a b. Reads (member_part f) a x b} {R = λ a c. SomeMembersAt f a xs c} (λ a b c p q. some_members p q) (part_front (member_part f) ts e) (members_front s)

body_front : {f : FileForm} {ts rest : List Tok} {xs : List (Member f)} → SomeBodyAt f ts xs rest → Front (λ a b. SomeBodyAt f a xs b) ts rest
body_front {f = f} {xs = xs} (some_hidden {ts = ts} {ns = ns} n s) =
    within (Open ∷ Key word.Hidden ∷ []) (λ a b p. p)
    (then {P = λ a b. Reads (Many AName) a ns b} {R = λ a c. SomeBodyAt f (Open ∷ Key word.Hidden ∷ a) xs c} (λ a b c p q. some_hidden p q) (part_front (Many AName) ts n) (members_front s))
body_front (some_plain s) = let m = members_front s in record { front = m.front; parts = m.parts; reads = λ r. some_plain (m.reads r) }

pub begins_front : {f : FileForm} {ts rest : List Tok} {xs : List (Member f)} → BeginsWith f ts xs rest → Front (λ a b. BeginsWith f a xs b) ts rest
begins_front {f = f} {ts = ts} {xs = xs} (begins_with {h = h} e b) =
    then {P = λ a b. Reads (header_part f) a h b} {R = λ a c. BeginsWith f a xs c} (λ a b c p q. begins_with p q) (part_front (header_part f) ts e) (body_front b)

-- a text that may have more behind it
pub begins_longer : {f : FileForm} {ts rest : List Tok} {xs : List (Member f)} (more : List Tok) → BeginsWith f ts xs rest → BeginsWith f (ts ++ more) xs (rest ++ more)
begins_longer {f = f} {rest = rest} {xs = xs} more d =
    let p = begins_front d in
    at_on (λ a b. BeginsWith f a xs b) (rest ++ more) (ap (λ (x : List Tok). x ++ more) p.parts ∙ append_assoc p.front rest more) (p.reads (rest ++ more))
