-- Of two first faults of a file, both are one.
use Rattle.std.proofs.Common.{◌≡◌, ℕ, true, false, List, [], ◌∷◌, ◌++◌, length, map, Result, Ok, Err, refl, sym, ap, ◌∙◌, subst, append_assoc}
use Rattle.std.proofs.lemmas.List.{append-nil, length-map, map-append}
use Rattle.fc_syntax.specs.Tokens.{ByteFault, Lexeme, tokens_of}
use Rattle.fc_syntax.specs.declared.fault.FaultKind.TheVariants as fault
use Rattle.fc_model.specs.Words.{tok_of}
use Rattle.fc_model.specs.FileForms.{FileForm, Member, member_part, member_decl, member_decls}
use Rattle.fc_model.specs.Grammar.{gives, ◌▸◌}
use Rattle.fc_model.specs.Texts.{BeginsWith}
use Rattle.fc_model.specs.ReadFaults.{FirstReadFault, of_tokens, of_form, of_brackets, of_depth, of_counts, IsBadFormAt, IsDeepBracketAt, IsMemberAt, are_within, byte_of, depth_fits}
use Rattle.fc_reader.proofs.Completions.{MemberHere, Linear, first_longer, second_longer, linear, rest_one}
use Rattle.fc_reader.proofs.Ends.{first_byte}
use Rattle.fc_reader.proofs.FirstFaults.{Past, bracket_bracket, bracket_member, form_bracket, form_form, form_member}
use Rattle.fc_reader.proofs.Forms.{decls_append}
use Rattle.fc_reader.proofs.Fronts.{begins_longer}
use Rattle.fc_reader.proofs.Laws.{ok_same, ok-err, true-false, last_member_counts, last_member_depth}
use Rattle.fc_reader.proofs.Lists.{Cuts, equal, shorter, longer, before_last, cuts, head_same, same_cuts, tail_same}
use Rattle.fc_reader.proofs.Steps as steps
use Rattle.fc_reader.proofs.Sums.{front_within}

-- ---- two members that are past a limit

-- lists with a last member
record LastSame {X : Type 0} (xs ys : List X) (x y : X) : Type 0 where
  fronts : xs ≡ ys
  lasts : x ≡ y

not_nil : {X : Type 0} (more : List X) (y : X) → [] ≡ more ++ y ∷ [] → ⊥
not_nil [] y e = cc
not_nil (m ∷ more) y e = cc

last_same : {X : Type 0} (xs ys : List X) (x y : X) → xs ++ x ∷ [] ≡ ys ++ y ∷ [] → LastSame xs ys x y
last_same xs ys x y e = by (cuts xs (x ∷ []) ys (y ∷ []) e) where
  by : Cuts xs (x ∷ []) ys (y ∷ []) → LastSame xs ys x y
  by (equal h k) = record { fronts = h; lasts = head_same k }
  by (shorter t more h k) = absurd (not_nil more y (tail_same k))
  by (longer t more h k) = absurd (not_nil more x (tail_same k))

-- what stands before the last member is within the limits, so the last one is past them
one_front : (f : FileForm) (room : ℕ) (xs ys more : List (Member f)) (x y : Member f) → are_within room (member_decls f xs) ≡ true → (are_within room (member_decls f (ys ++ y ∷ [])) ≡ true → ⊥) → xs ++ x ∷ [] ≡ (ys ++ y ∷ []) ++ more → LastSame xs ys x y
one_front f room xs ys [] x y w past e = last_same xs ys x y (e ∙ append-nil (ys ++ y ∷ []))
one_front f room xs ys (m ∷ more) x y w past e =
    let b = before_last xs x (ys ++ y ∷ []) m more e in
    absurd (past (front_within room (member_decls f (ys ++ y ∷ [])) (member_decls f b.more) (ap (are_within room) (sym (ap (member_decls f) b.is ∙ decls_append f (ys ++ y ∷ []) b.more)) ∙ w)))

whole_in : {f : FileForm} {room : ℕ} {bytes : List ℕ} {lexemes : List Lexeme} {x : Member f} {at : ℕ} (p : Past f room bytes lexemes x at) → BeginsWith f (map tok_of lexemes) (p.before ++ x ∷ []) (map tok_of p.stands.others)
whole_in {f = f} {lexemes = lexemes} {x = x} p =
    let s = p.stands in
    let front : (map tok_of s.good ++ map tok_of s.own) ++ map tok_of s.others ≡ map tok_of lexemes =
    ap (λ y. y ++ map tok_of s.others) (sym (map-append tok_of s.good s.own)) ∙ sym (map-append tok_of (s.good ++ s.own) s.others) ∙ ap (map tok_of) (append_assoc s.good s.own s.others ∙ sym s.parts) in
    subst (λ y. BeginsWith f y (p.before ++ x ∷ []) (map tok_of s.others)) front (begins_longer (map tok_of s.others) s.whole)

start_in : {f : FileForm} {room : ℕ} {bytes : List ℕ} {lexemes : List Lexeme} {x : Member f} {at : ℕ} (p : Past f room bytes lexemes x at) → BeginsWith f (map tok_of lexemes) p.before (map tok_of (p.stands.own ++ p.stands.others))
start_in {f = f} {lexemes = lexemes} p =
    let s = p.stands in
    subst (λ y. BeginsWith f y p.before (map tok_of (s.own ++ s.others))) (sym (map-append tok_of s.good (s.own ++ s.others)) ∙ ap (map tok_of) (sym s.parts))
    (begins_longer (map tok_of (s.own ++ s.others)) s.start)

member_here : {f : FileForm} {room : ℕ} {bytes : List ℕ} {lexemes : List Lexeme} {x : Member f} {at : ℕ} (p : Past f room bytes lexemes x at) → MemberHere f (map tok_of (p.stands.own ++ p.stands.others))
member_here {f = f} {x = x} p =
    let s = p.stands in
    subst (MemberHere f) (sym (map-append tok_of s.own s.others))
    (record { member = x; rest = map tok_of s.others; own = steps.longer (map tok_of s.own) (member_part f ▸ λ y. gives y) x [] (map tok_of s.others) s.own_reads })

byte_in : {f : FileForm} {room : ℕ} {bytes : List ℕ} {lexemes : List Lexeme} {x : Member f} {at : ℕ} (p : Past f room bytes lexemes x at) → at ≡ byte_of bytes (p.stands.own ++ p.stands.others)
byte_in {f = f} {bytes = bytes} {x = x} p = p.stands.place ∙ sym (first_byte f bytes p.stands.own p.stands.others [] x p.stands.own_reads)

same_lengths : (xs ys : List Lexeme) → map tok_of xs ≡ map tok_of ys → length xs ≡ length ys
same_lengths xs ys e = sym (length-map xs tok_of) ∙ ap length e ∙ length-map ys tok_of

record MemberSame {X : Type 0} (x y : X) (at bt : ℕ) : Type 0 where
  members : x ≡ y
  places : at ≡ bt

member_member : {f : FileForm} {room : ℕ} {bytes : List ℕ} {lexemes : List Lexeme} {x y : Member f} {at bt : ℕ} → Past f room bytes lexemes x at → Past f room bytes lexemes y bt → MemberSame x y at bt
member_member {f = f} {room = room} {bytes = bytes} {x = x} {y = y} {at = at} {bt = bt} p q =
    let l = by (linear (whole_in p) (whole_in q)) in
    let us = p.stands.own ++ p.stands.others in
    let vs = q.stands.own ++ q.stands.others in
    let n = same_lengths us vs (rest_one l.fronts (member_here p) (member_here q) (start_in p) (start_in q)) in
    let c = same_cuts p.stands.good us q.stands.good vs (sym p.stands.parts ∙ q.stands.parts) n in
    record { members = l.lasts; places = byte_in p ∙ ap (byte_of bytes) c.backs ∙ sym (byte_in q) } where
      flip : {xs ys : List (Member f)} {x y : Member f} → LastSame xs ys x y → LastSame ys xs y x
      flip l = record { fronts = sym l.fronts; lasts = sym l.lasts }

      by : Linear (p.before ++ x ∷ []) (q.before ++ y ∷ []) → LastSame p.before q.before x y
      by (first_longer more h) = one_front f room p.before q.before more x y p.stands.within q.past h
      by (second_longer more h) = flip (one_front f room q.before p.before more y x q.stands.within p.past h)

-- ---- two faults behind the tokens

data Late (f : FileForm) (room : ℕ) (bytes : List ℕ) (lexemes : List Lexeme) (e : ByteFault) : Type 0 where
  late_form : (at : ℕ) → IsBadFormAt f room bytes lexemes at → e ≡ record { kind = fault.BadForm; at = at } → Late f room bytes lexemes e
  late_bracket : (at : ℕ) → IsDeepBracketAt f room lexemes at → e ≡ record { kind = fault.TooDeep; at = at } → Late f room bytes lexemes e
  late_depth : (at : ℕ) (x : Member f) → Past f room bytes lexemes x at → depth_fits (member_decl f x) ≡ false → e ≡ record { kind = fault.TooDeep; at = at } → Late f room bytes lexemes e
  late_counts : (at : ℕ) (x : Member f) → Past f room bytes lexemes x at → depth_fits (member_decl f x) ≡ true → e ≡ record { kind = fault.TooMany; at = at } → Late f room bytes lexemes e

depth_same : {f : FileForm} {room : ℕ} {bytes : List ℕ} {lexemes : List Lexeme} {x y : Member f} {at bt : ℕ} → Past f room bytes lexemes x at → Past f room bytes lexemes y bt
    → depth_fits (member_decl f x) ≡ depth_fits (member_decl f y)
depth_same {f = f} p q = ap (λ z. depth_fits (member_decl f z)) (member_member p q).members

one_late : {f : FileForm} {room : ℕ} {bytes : List ℕ} {lexemes : List Lexeme} {e g : ByteFault} → Late f room bytes lexemes e → Late f room bytes lexemes g → e ≡ g
one_late (late_form at p e) (late_form bt q h) = e ∙ ap (λ n. record { kind = fault.BadForm; at = n }) (form_form p q) ∙ sym h
one_late (late_form at p e) (late_bracket bt q h) = absurd (form_bracket p q)
one_late (late_form at p e) (late_depth bt y q k h) = absurd (form_member p q)
one_late (late_form at p e) (late_counts bt y q k h) = absurd (form_member p q)
one_late (late_bracket at p e) (late_form bt q h) = absurd (form_bracket q p)
one_late (late_bracket at p e) (late_bracket bt q h) = e ∙ ap (λ n. record { kind = fault.TooDeep; at = n }) (bracket_bracket p q) ∙ sym h
one_late (late_bracket at p e) (late_depth bt y q k h) = absurd (bracket_member p q)
one_late (late_bracket at p e) (late_counts bt y q k h) = absurd (bracket_member p q)
one_late (late_depth at x p j e) (late_form bt q h) = absurd (form_member q p)
one_late (late_depth at x p j e) (late_bracket bt q h) = absurd (bracket_member q p)
one_late (late_depth at x p j e) (late_depth bt y q k h) = e ∙ ap (λ n. record { kind = fault.TooDeep; at = n }) (member_member p q).places ∙ sym h
one_late (late_depth at x p j e) (late_counts bt y q k h) = absurd (true-false _ (depth_same p q ∙ k) j)
one_late (late_counts at x p j e) (late_form bt q h) = absurd (form_member q p)
one_late (late_counts at x p j e) (late_bracket bt q h) = absurd (bracket_member q p)
one_late (late_counts at x p j e) (late_depth bt y q k h) = absurd (true-false _ (sym (depth_same p q) ∙ j) k)
one_late (late_counts at x p j e) (late_counts bt y q k h) = e ∙ ap (λ n. record { kind = fault.TooMany; at = n }) (member_member p q).places ∙ sym h

-- ---- all faults

err_same : {A B : Type 0} (x y : B) (r : Result A B) → r ≡ Err x → r ≡ Err y → x ≡ y
err_same x y r e f = cc

late : {f : FileForm} (room : ℕ) (bytes : List ℕ) (lexemes : List Lexeme) {g : ByteFault} → tokens_of bytes ≡ Ok lexemes → FirstReadFault f room bytes g → Late f room bytes lexemes g
late room bytes lexemes e (of_tokens h) = absurd (ok-err _ _ _ e h)
late {f = f} room bytes lexemes e (of_form {at = at} h p) = late_form at (subst (λ ls. IsBadFormAt f room bytes ls at) (ok_same _ _ _ h e) p) refl
late {f = f} room bytes lexemes e (of_brackets {at = at} h p) = late_bracket at (subst (λ ls. IsDeepBracketAt f room ls at) (ok_same _ _ _ h e) p) refl
late {f = f} room bytes lexemes e (of_depth {at = at} before x h p past) =
    late_depth at x (record { before = before; stands = subst (λ ls. IsMemberAt f room bytes ls before x at) (ok_same _ _ _ h e) p; past = λ w. true-false _ (last_member_depth f room before x w) past }) past refl
late {f = f} room bytes lexemes e (of_counts {at = at} before x h p fits past) =
    late_counts at x (record { before = before; stands = subst (λ ls. IsMemberAt f room bytes ls before x at) (ok_same _ _ _ h e) p; past = λ w. true-false _ (last_member_counts f room before x w) past }) fits refl

of_tokens_one : {f : FileForm} (room : ℕ) (bytes : List ℕ) (e : ByteFault) {g : ByteFault} → tokens_of bytes ≡ Err e → FirstReadFault f room bytes g → e ≡ g
of_tokens_one room bytes g e (of_tokens h) = err_same _ _ _ e h
of_tokens_one room bytes g e (of_form h p) = absurd (ok-err _ _ _ h e)
of_tokens_one room bytes g e (of_brackets h p) = absurd (ok-err _ _ _ h e)
of_tokens_one room bytes g e (of_depth before x h p past) = absurd (ok-err _ _ _ h e)
of_tokens_one room bytes g e (of_counts before x h p fits past) = absurd (ok-err _ _ _ h e)

pub one_first_fault : (f : FileForm) (room : ℕ) (bytes : List ℕ) (e g : ByteFault) → FirstReadFault f room bytes e → FirstReadFault f room bytes g → e ≡ g
one_first_fault f room bytes b g (of_tokens e) k = of_tokens_one room bytes b e k
one_first_fault f room bytes _ g (of_form {lexemes = l} e p) k = one_late (late room bytes l e (of_form e p)) (late room bytes l e k)
one_first_fault f room bytes _ g (of_brackets {lexemes = l} e p) k = one_late (late room bytes l e (of_brackets e p)) (late room bytes l e k)
one_first_fault f room bytes _ g (of_depth {lexemes = l} before x e p past) k = one_late (late room bytes l e (of_depth before x e p past)) (late room bytes l e k)
one_first_fault f room bytes _ g (of_counts {lexemes = l} before x e p fits past) k = one_late (late room bytes l e (of_counts before x e p fits past)) (late room bytes l e k)
