-- A text spells one file, and where it has a fault it spells none.
use Rattle.std.proofs.Common.{◌≡◌, ℕ, Bool, true, false, ◌&&◌, nat_le, List, [], ◌∷◌, ◌++◌, map, Result, Ok, Err, sym, ap, ◌∙◌, subst, append_assoc}
use Rattle.std.proofs.lemmas.List.{append-nil, map-append}
use Rattle.fc_syntax.specs.Limits.{standard_limits}
use Rattle.fc_syntax.specs.Measures.{decls_size}
use Rattle.fc_syntax.specs.Tokens.{ByteFault, Lexeme, tokens_of}
use Rattle.fc_model.specs.Words.{Tok, Open, tok_of}
use Rattle.fc_model.specs.FileForms.{FileForm, File, Member, whole_part, member_decl, member_decls}
use Rattle.fc_model.specs.Reading.{Reads}
use Rattle.fc_model.specs.Texts.{SpellsPart}
use Rattle.fc_model.specs.ReadFaults.{nests_within, CannotGoOn, FirstReadFault, of_tokens, of_form, of_brackets, of_depth, of_counts, IsMemberAt, IsText, ReadsTo, are_within, counts_fit, depth_fits}
use Rattle.fc_reader.proofs.Forms.{decls_last}
use Rattle.fc_reader.proofs.Fronts.{begins_longer}
use Rattle.fc_reader.proofs.Levels.{nests_front}
use Rattle.fc_reader.proofs.Sums.{last_counts, last_depth}
use Rattle.fc_reader.proofs.Within.{one_value, whole_all}

pub ok_same : {A B : Type 0} (x y : A) (r : Result A B) → r ≡ Ok x → r ≡ Ok y → x ≡ y
ok_same x y r e f = cc

pub ok-err : {A B : Type 0} (x : A) (y : B) (r : Result A B) → r ≡ Ok x → r ≡ Err y → ⊥
ok-err x y r e f = cc

file_on : (f : FileForm) {ts us : List Tok} {m : File f} → us ≡ ts → Reads (whole_part f) ts m [] → Reads (whole_part f) us m []
file_on f {m = m} e d = subst (λ u. Reads (whole_part f) u m []) (sym e) d

pub one_spelled : (f : FileForm) (bytes : List ℕ) (m n : File f) → SpellsPart (whole_part f) bytes m → SpellsPart (whole_part f) bytes n → m ≡ n
one_spelled f bytes m n h k = one_value (whole_part f) (map tok_of h.lexemes) h.parsed (file_on f (ap (map tok_of) (ok_same _ _ _ h.lexed k.lexed)) k.parsed)

-- tokens that cannot go on are not those of a whole file
not_whole : (f : FileForm) (good bad : List Tok) → CannotGoOn f good bad → IsText f (good ++ bad) → ⊥
not_whole f good [] h d = h (d.0, file_on f (sym (append-nil good)) d.1)
not_whole f good (t ∷ bad) h d = h (bad, (d.0, file_on f (append_assoc good (t ∷ []) bad) d.1))

pub true-false : (p : Bool) → p ≡ true → p ≡ false → ⊥
true-false p e f = cc

-- the tokens up to a bracket, the bracket and those behind it
bracketed : (good : List Lexeme) (bracket : Lexeme) (bad : List Lexeme) → tok_of bracket ≡ Open → (map tok_of good ++ Open ∷ []) ++ map tok_of bad ≡ map tok_of (good ++ (bracket ∷ bad))
bracketed good bracket bad e =
    append_assoc (map tok_of good) (Open ∷ []) (map tok_of bad) ∙ sym (map-append tok_of good (bracket ∷ bad) ∙ ap (λ (t : Tok). map tok_of good ++ (t ∷ map tok_of bad)) e)

-- the last of members that are within the limits
pub last_member_depth : (f : FileForm) (room : ℕ) (xs : List (Member f)) (x : Member f) → are_within room (member_decls f (xs ++ x ∷ [])) ≡ true → depth_fits (member_decl f x) ≡ true
last_member_depth f room xs x e = last_depth room (member_decls f xs) (member_decl f x) (ap (are_within room) (sym (decls_last f xs x)) ∙ e)

pub last_member_counts : (f : FileForm) (room : ℕ) (xs : List (Member f)) (x : Member f) → are_within room (member_decls f (xs ++ x ∷ [])) ≡ true
    → (counts_fit (member_decl f x) && nat_le (decls_size (member_decls f (xs ++ x ∷ []))) room) ≡ true
last_member_counts f room xs x e =
    ap (λ ds. counts_fit (member_decl f x) && nat_le (decls_size ds) room) (decls_last f xs x)
    ∙ last_counts room (member_decls f xs) (member_decl f x) (ap (are_within room) (sym (decls_last f xs x)) ∙ e)

-- a member that stands whole in the text of a file within the limits is within them, with those before it
member_within : (f : FileForm) (room : ℕ) {at : ℕ} {lexemes : List Lexeme} (bytes : List ℕ) (m : File f) (before : List (Member f)) (x : Member f) → tokens_of bytes ≡ Ok lexemes
    → IsMemberAt f room bytes lexemes before x at → ReadsTo f room bytes m → are_within room (member_decls f (before ++ x ∷ [])) ≡ true
member_within f room {lexemes = lexemes} bytes m before x e p h =
    let good = map tok_of p.good in
    let own = map tok_of p.own in
    let others = map tok_of p.others in
    let parts : map tok_of lexemes ≡ (good ++ own) ++ others =
    ap (map tok_of) p.parts ∙ map-append tok_of p.good (p.own ++ p.others) ∙ ap (λ y. good ++ y) (map-append tok_of p.own p.others) ∙ sym (append_assoc good own others) in
    let text = file_on f (sym (ap (map tok_of) (ok_same _ _ _ h.spelled.lexed e) ∙ parts)) h.spelled.parsed in
    whole_all f room text h.within (before ++ x ∷ []) others (begins_longer others p.whole)

pub none_spelled : (f : FileForm) (room : ℕ) (bytes : List ℕ) (g : ByteFault) (m : File f) → FirstReadFault f room bytes g → ReadsTo f room bytes m → ⊥
none_spelled f room bytes g m (of_tokens e) h = ok-err _ _ _ h.spelled.lexed e
none_spelled f room bytes _ m (of_form e p) h =
    not_whole f (map tok_of p.good) (map tok_of p.bad) p.stops
    (m, file_on f (sym (ap (map tok_of) (ok_same _ _ _ h.spelled.lexed e ∙ p.parts) ∙ map-append tok_of p.good p.bad)) h.spelled.parsed)
none_spelled f room bytes _ m (of_brackets e p) h =
    true-false _ (nests_front standard_limits.brackets 0 (map tok_of p.good ++ Open ∷ []) (map tok_of p.bad)
    (ap (nests_within standard_limits.brackets 0) (bracketed p.good p.bracket p.bad p.opens ∙ ap (map tok_of) (sym p.parts ∙ sym (ok_same _ _ _ h.spelled.lexed e))) ∙ h.nested)) p.deep
none_spelled f room bytes _ m (of_depth before x e p past) h = true-false _ (last_member_depth f room before x (member_within f room bytes m before x e p h)) past
none_spelled f room bytes _ m (of_counts before x e p fits past) h = true-false _ (last_member_counts f room before x (member_within f room bytes m before x e p h)) past
