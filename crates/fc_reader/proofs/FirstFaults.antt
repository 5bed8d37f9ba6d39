-- A file has one first fault.
use Rattle.std.proofs.Common.{◌≡◌, ℕ, true, false, List, [], ◌∷◌, ◌++◌, map, sym, ap, ◌∙◌, subst, append_assoc}
use Rattle.std.proofs.lemmas.List.{append-nil, map-append}
use Rattle.fc_syntax.specs.Limits.{standard_limits}
use Rattle.fc_syntax.specs.Tokens.{Lexeme}
use Rattle.fc_model.specs.Words.{Tok, Open, tok_of}
use Rattle.fc_model.specs.FileForms.{FileForm, Member, member_decls}
use Rattle.fc_model.specs.Texts.{BeginsWith}
use Rattle.fc_model.specs.ReadFaults.{nests_within, Begins, CannotGoOn, IsBadFormAt, IsDeepBracketAt, IsMemberAt, NestsWithin, WithinSoFar, are_within, byte_of}
use Rattle.fc_reader.proofs.Completions.{front_begins, members_begin}
use Rattle.fc_reader.proofs.Fronts.{begins_longer}
use Rattle.fc_reader.proofs.Laws.{true-false}
use Rattle.fc_reader.proofs.Levels.{nests_front}
use Rattle.fc_reader.proofs.Lists.{Cuts, equal, shorter, longer, cuts, head_same}

-- what is read of the lexemes in front
front_of : (xs : List Lexeme) (t : Lexeme) (more : List Lexeme) → map tok_of (xs ++ t ∷ more) ≡ map tok_of xs ++ (tok_of t ∷ map tok_of more)
front_of xs t more = map-append tok_of xs (t ∷ more)

up_to : (xs : List Lexeme) (t : Lexeme) (more : List Lexeme) → map tok_of (xs ++ t ∷ more) ≡ (map tok_of xs ++ tok_of t ∷ []) ++ map tok_of more
up_to xs t more = front_of xs t more ∙ sym (append_assoc (map tok_of xs) (tok_of t ∷ []) (map tok_of more))

-- a form cannot go on with the lexeme behind it
never_on : (f : FileForm) (good bad : List Lexeme) (t : Lexeme) (more others : List Lexeme) → CannotGoOn f (map tok_of good) (map tok_of bad) → bad ≡ t ∷ others → Begins f (map tok_of (good ++ t ∷ more)) → ⊥
never_on f good bad t more others stops e h =
    subst (λ x. CannotGoOn f (map tok_of good) (map tok_of x)) e stops (front_begins f (map tok_of good ++ tok_of t ∷ []) (map tok_of more) (subst (Begins f) (up_to good t more) h))

-- a bracket that nests too deep is not followed by what nests within the limit
never_deeper : (good : List Lexeme) (t : Lexeme) (more : List Lexeme) → tok_of t ≡ Open → nests_within standard_limits.brackets 0 (map tok_of good ++ Open ∷ []) ≡ false
    → NestsWithin (map tok_of (good ++ t ∷ more)) → ⊥
never_deeper good t more o deep h =
    true-false _ (nests_front standard_limits.brackets 0 (map tok_of good ++ Open ∷ []) (map tok_of more)
    (ap (nests_within standard_limits.brackets 0) (ap (λ u. (map tok_of good ++ u ∷ []) ++ map tok_of more) (sym o) ∙ sym (up_to good t more)) ∙ h)) deep

-- ---- a member that is past a limit

pub record Past (f : FileForm) (room : ℕ) (bytes : List ℕ) (lexemes : List Lexeme) (x : Member f) (at : ℕ) : Type 0 where
  pub before : List (Member f)
  pub stands : IsMemberAt f room bytes lexemes before x at
  pub past : are_within room (member_decls f (before ++ x ∷ [])) ≡ true → ⊥

whole_of : {f : FileForm} {room : ℕ} {bytes : List ℕ} {lexemes : List Lexeme} {before : List (Member f)} {x : Member f} {at : ℕ} (p : IsMemberAt f room bytes lexemes before x at) → BeginsWith f (map tok_of (p.good ++ p.own)) (before ++ x ∷ []) []
whole_of {f = f} {before = before} {x = x} p = subst (λ y. BeginsWith f y (before ++ x ∷ []) []) (sym (map-append tok_of p.good p.own)) p.whole

nested_of : {f : FileForm} {room : ℕ} {bytes : List ℕ} {lexemes : List Lexeme} {before : List (Member f)} {x : Member f} {at : ℕ} (p : IsMemberAt f room bytes lexemes before x at) → NestsWithin (map tok_of (p.good ++ p.own))
nested_of p = subst NestsWithin (sym (map-append tok_of p.good p.own)) p.nested

pub parts_of : {f : FileForm} {room : ℕ} {bytes : List ℕ} {lexemes : List Lexeme} {before : List (Member f)} {x : Member f} {at : ℕ} (p : IsMemberAt f room bytes lexemes before x at) → lexemes ≡ (p.good ++ p.own) ++ p.others
parts_of p = p.parts ∙ sym (append_assoc p.good p.own p.others)

-- it does not stand whole where nothing is past a limit
never_within : {f : FileForm} {room : ℕ} {bytes : List ℕ} {lexemes : List Lexeme} {x : Member f} {at : ℕ} (p : Past f room bytes lexemes x at) (good more : List Lexeme) → good ≡ (p.stands.good ++ p.stands.own) ++ more → WithinSoFar f room (map tok_of good) → ⊥
never_within {f = f} {x = x} p good more e h =
    let s = p.stands in
    p.past (h (p.before ++ x ∷ []) (map tok_of more)
    (subst (λ y. BeginsWith f y (p.before ++ x ∷ []) (map tok_of more)) (sym (ap (map tok_of) e ∙ map-append tok_of (s.good ++ s.own) more)) (begins_longer (map tok_of more) (whole_of s))))

-- ---- faults of two kinds

pub form_form : {f : FileForm} {room : ℕ} {bytes : List ℕ} {lexemes : List Lexeme} {at bt : ℕ} → IsBadFormAt f room bytes lexemes at → IsBadFormAt f room bytes lexemes bt → at ≡ bt
form_form {f = f} {bytes = bytes} {at = at} {bt = bt} p q = by (cuts p.good p.bad q.good q.bad (sym p.parts ∙ q.parts)) where
  by : Cuts p.good p.bad q.good q.bad → at ≡ bt
  by (equal h k) = p.place ∙ ap (byte_of bytes) k ∙ sym q.place
  by (shorter t more h k) = absurd (never_on f p.good p.bad t more (more ++ q.bad) p.stops k (subst (λ x. Begins f (map tok_of x)) h q.begins))
  by (longer t more h k) = absurd (never_on f q.good q.bad t more (more ++ p.bad) q.stops k (subst (λ x. Begins f (map tok_of x)) h p.begins))

bracket_begins : {f : FileForm} {room : ℕ} {lexemes : List Lexeme} {at : ℕ} (q : IsDeepBracketAt f room lexemes at) → Begins f (map tok_of (q.good ++ q.bracket ∷ []))
bracket_begins {f = f} q = subst (Begins f) (ap (λ (t : Tok). map tok_of q.good ++ t ∷ []) (sym q.opens) ∙ sym (front_of q.good q.bracket [])) q.begins

pub form_bracket : {f : FileForm} {room : ℕ} {bytes : List ℕ} {lexemes : List Lexeme} {at bt : ℕ} → IsBadFormAt f room bytes lexemes at → IsDeepBracketAt f room lexemes bt → ⊥
form_bracket {f = f} p q = by (cuts p.good p.bad (q.good ++ q.bracket ∷ []) q.bad (sym p.parts ∙ q.parts ∙ sym (append_assoc q.good (q.bracket ∷ []) q.bad))) where
  by : Cuts p.good p.bad (q.good ++ q.bracket ∷ []) q.bad → ⊥
  by (equal h k) = never_deeper q.good q.bracket [] q.opens q.deep (subst (λ x. NestsWithin (map tok_of x)) h p.nested)
  by (shorter t more h k) = never_on f p.good p.bad t more (more ++ q.bad) p.stops k (subst (λ x. Begins f (map tok_of x)) h (bracket_begins q))
  by (longer t more h k) =
      never_deeper q.good q.bracket (t ∷ more) q.opens q.deep (subst (λ x. NestsWithin (map tok_of x)) (h ∙ append_assoc q.good (q.bracket ∷ []) (t ∷ more)) p.nested)

pub form_member : {f : FileForm} {room : ℕ} {bytes : List ℕ} {lexemes : List Lexeme} {at bt : ℕ} {x : Member f} → IsBadFormAt f room bytes lexemes at → Past f room bytes lexemes x bt → ⊥
form_member {f = f} p q = by (cuts p.good p.bad (q.stands.good ++ q.stands.own) q.stands.others (sym p.parts ∙ parts_of q.stands)) where
  by : Cuts p.good p.bad (q.stands.good ++ q.stands.own) q.stands.others → ⊥
  by (equal h k) = never_within q p.good [] (h ∙ sym (append-nil (q.stands.good ++ q.stands.own))) p.within
  by (shorter t more h k) = never_on f p.good p.bad t more (more ++ q.stands.others) p.stops k (subst (λ x. Begins f (map tok_of x)) h (members_begin (whole_of q.stands)))
  by (longer t more h k) = never_within q p.good (t ∷ more) h p.within

pub bracket_bracket : {f : FileForm} {room : ℕ} {lexemes : List Lexeme} {at bt : ℕ} → IsDeepBracketAt f room lexemes at → IsDeepBracketAt f room lexemes bt → at ≡ bt
bracket_bracket {at = at} {bt = bt} p q = by (cuts p.good (p.bracket ∷ p.bad) q.good (q.bracket ∷ q.bad) (sym p.parts ∙ q.parts)) where
  by : Cuts p.good (p.bracket ∷ p.bad) q.good (q.bracket ∷ q.bad) → at ≡ bt
  by (equal h k) = p.place ∙ ap (λ (t : Lexeme). t.from) (head_same k) ∙ sym q.place
  by (shorter t more h k) = absurd (never_deeper p.good t more (ap tok_of (sym (head_same k)) ∙ p.opens) p.deep (subst (λ x. NestsWithin (map tok_of x)) h q.nested))
  by (longer t more h k) = absurd (never_deeper q.good t more (ap tok_of (sym (head_same k)) ∙ q.opens) q.deep (subst (λ x. NestsWithin (map tok_of x)) h p.nested))

pub bracket_member : {f : FileForm} {room : ℕ} {bytes : List ℕ} {lexemes : List Lexeme} {at bt : ℕ} {x : Member f} → IsDeepBracketAt f room lexemes at → Past f room bytes lexemes x bt → ⊥
bracket_member p q = by (cuts p.good (p.bracket ∷ p.bad) (q.stands.good ++ q.stands.own) q.stands.others (sym p.parts ∙ parts_of q.stands)) where
  by : Cuts p.good (p.bracket ∷ p.bad) (q.stands.good ++ q.stands.own) q.stands.others → ⊥
  by (equal h k) = never_within q p.good [] (h ∙ sym (append-nil (q.stands.good ++ q.stands.own))) p.within
  by (shorter t more h k) = never_deeper p.good t more (ap tok_of (sym (head_same k)) ∙ p.opens) p.deep (subst (λ x. NestsWithin (map tok_of x)) h (nested_of q.stands))
  by (longer t more h k) = never_within q p.good (t ∷ more) h p.within
