-- What is read of a file, from what its tokens are and what they spell.
use Rattle.std.proofs.Common.{◌≡◌, ◌≤◌, ◌-◌, ℕ, Bool, true, false, ◌&&◌, ◌==◌, List, [], length, map, drop, Ok, eqb-true, sym, ap, ◌∙◌, subst}
use Rattle.fc_syntax.specs.Limits.{standard_limits}
use Rattle.fc_syntax.specs.declared.fault.FaultKind.{FaultKind}
use Rattle.fc_syntax.specs.declared.fault.FaultKind.TheVariants as kind
use Rattle.fc_syntax.specs.declared.fault.Refusal.{Refusal}
use Rattle.fc_syntax.specs.declared.fault.Refusal.TheVariants as refusal
use Rattle.fc_syntax.specs.declared.token.Token.{Token}
use Rattle.fc_syntax.specs.Tokens.{Lexeme, lexeme_of, tokens_of}
use Rattle.fc_lex.specs.declared.LexError.{LexError}
use Rattle.fc_lex.specs.declared.LexError.TheVariants as error
use Rattle.fc_lex.specs.Faults.{IsFirstFault}
use Rattle.std.proofs.lemmas.Bool.{and_parts, true≢false}
use Rattle.std.proofs.lemmas.List.{drop-map, length-map}
use Rattle.std.proofs.lemmas.Simd.{map-map}
use Rattle.fc_model.specs.Words.{tok_of, toks}
use Rattle.fc_model.specs.FileForms.{FileForm, File, whole_part, module_in}
use Rattle.fc_model.specs.Reading.{Reads}
use Rattle.fc_model.specs.Texts.{BeginsWith}
use Rattle.fc_model.specs.ReadFaults.{FirstReadFault, of_tokens, of_form, of_brackets, of_depth, of_counts, ReadsTo, byte_of, decls_within}
use Rattle.fc_read_parts.specs.Seen.{seen, seen_all}
use Rattle.fc_read_parts.specs.declared.terminal.Terminal.{Terminal}
use Rattle.fc_reader.specs.Halting.{FirstBadWithin, IsDeep, IsMuch, PastLimit}
use Rattle.fc_reader.specs.Nested.{IsPart}
use Rattle.fc_read_parts.specs.Refusing.{IsRefusalAt}
use Rattle.fc_reader.specs.Outcomes.{IsRefusalOf}
use Rattle.fc_reader.specs.Refusals.{IsReadRefusalOf}
use Rattle.fc_reader.proofs.Ends.{bad_form, deep_bracket, member_at, part_is_all}

first_fault : (f : FileForm) (room : ℕ) (file bytes : List ℕ) (k : FaultKind) (at : ℕ) (r : Refusal) → IsRefusalAt file k at r → FirstReadFault f room bytes (record { kind = k; at = at }) → IsReadRefusalOf f room file bytes r
first_fault f room file bytes k at (refusal.Fault g) e h = record {
  at = at;
  of_file = ap (λ d. d.module) e;
  of_no_declaration = ap (λ d. d.def) e;
  at_byte = ap (λ d. d.path) e;
  first = subst (λ d. FirstReadFault f room bytes (record { kind = d.kind; at = at })) (sym e) h;
}
first_fault f room file bytes k at refusal.Memory e h = tt

pub token_fault : (f : FileForm) (room : ℕ) (file bytes : List ℕ) (e : LexError) (r : Refusal) → IsFirstFault (tokens_of bytes) e → IsRefusalOf file e r → IsReadRefusalOf f room file bytes r
token_fault f room file bytes (error.BadByte n) r h k = first_fault f room file bytes _ n r k (of_tokens h)
token_fault f room file bytes (error.BadToken n) r h k = first_fault f room file bytes _ n r k (of_tokens h)
token_fault f room file bytes (error.LiteralRange n) r h k = first_fault f room file bytes _ n r k (of_tokens h)
token_fault f room file bytes error.Memory r h k = subst (IsReadRefusalOf f room file bytes) (sym k) tt

is_at_bracket : (deep : Bool) (n : ℕ) (r : Bool) → r ≡ (deep && (n == 0)) → r ≡ true → (deep ≡ true) × (n ≡ 0)
is_at_bracket deep n r e h = let p = and_parts deep (n == 0) (sym e ∙ h) in (p.0, eqb-true n 0 p.1)

is_elsewhere : (deep : Bool) (n : ℕ) (r : Bool) → r ≡ (deep && (n == 0)) → r ≡ false → deep ≡ true → n ≡ 0 → ⊥
is_elsewhere deep n r e h d z = true≢false (sym (e ∙ ap (λ b. b && (n == 0)) d ∙ ap (λ k. k == 0) z) ∙ h)

-- ---- what a file is: its tokens, each seen, and those of them that were read

pub record Seen (bytes : List ℕ) (tokens : List Token) (part : List Terminal) (deep : Bool) : Type 0 where
  pub lexed : tokens_of bytes ≡ Ok (map (lexeme_of bytes) tokens)
  pub cut : IsPart (toks bytes tokens) (seen_all part) deep

-- the terminals of a file are cut as its tokens are
pub cut_so : (bytes : List ℕ) (tokens : List Token) (all part : List Terminal) (deep : Bool) → seen_all all ≡ toks bytes tokens → IsPart (seen_all all) (seen_all part) deep
    → IsPart (toks bytes tokens) (seen_all part) deep
cut_so bytes tokens all part deep e p = subst (λ x. IsPart x (seen_all part) deep) e p

abbrev lexemes_of : List ℕ → List Token → List Lexeme
lexemes_of bytes tokens = map (lexeme_of bytes) tokens

-- the tokens of a file are those of its lexemes
part_of : (bytes : List ℕ) (tokens : List Token) (part : List Terminal) (deep : Bool) → Seen bytes tokens part deep → IsPart (map tok_of (lexemes_of bytes tokens)) (seen_all part) deep
part_of bytes tokens part deep s = subst (λ x. IsPart x (seen_all part) deep) (sym (map-map tok_of (lexeme_of bytes) tokens)) s.cut

-- the byte of a token of this number
placed : (bytes : List ℕ) (tokens : List Token) (part : List Terminal) (n at : ℕ) → at ≡ byte_of bytes (lexemes_of bytes (drop (length part - n) tokens))
    → at ≡ byte_of bytes (drop (length (seen_all part) - n) (lexemes_of bytes tokens))
placed bytes tokens part n at e =
    e ∙ ap (byte_of bytes) (sym (drop-map (lexeme_of bytes) (length part - n) tokens) ∙ ap (λ k. drop (k - n) (lexemes_of bytes tokens)) (sym (length-map part seen)))

pub form_fault : (f : FileForm) (room : ℕ) (file bytes : List ℕ) (tokens : List Token) (part : List Terminal) (deep : Bool) (n at : ℕ) (r : Refusal) → Seen bytes tokens part deep
    → (b : Bool) → b ≡ (deep && (n == 0)) → b ≡ false → FirstBadWithin f room (seen_all part) n → at ≡ byte_of bytes (lexemes_of bytes (drop (length part - n) tokens)) → IsRefusalAt file kind.BadForm at r
    → IsReadRefusalOf f room file bytes r
form_fault f room file bytes tokens part deep n at r s b is other w place e =
    let g = bad_form bytes (lexemes_of bytes tokens) (seen_all part) deep n (part_of bytes tokens part deep s) (is_elsewhere deep n b is other) w in
    first_fault f room file bytes kind.BadForm at r e (subst (λ x. FirstReadFault f room bytes (record { kind = kind.BadForm; at = x })) (sym (placed bytes tokens part n at place)) (of_form s.lexed g))

pub bracket_fault : (f : FileForm) (room : ℕ) (file bytes : List ℕ) (tokens : List Token) (part : List Terminal) (deep : Bool) (n at : ℕ) (r : Refusal) → Seen bytes tokens part deep
    → (b : Bool) → b ≡ (deep && (n == 0)) → b ≡ true → FirstBadWithin f room (seen_all part) n → at ≡ byte_of bytes (lexemes_of bytes (drop (length part - 1) tokens)) → IsRefusalAt file kind.TooDeep at r
    → IsReadRefusalOf f room file bytes r
bracket_fault f room file bytes tokens part deep n at r s b is same w place e =
    let h = is_at_bracket deep n b is same in
    let p = subst (IsPart (map tok_of (lexemes_of bytes tokens)) (seen_all part)) h.0 (part_of bytes tokens part deep s) in
    let g = deep_bracket bytes (lexemes_of bytes tokens) (seen_all part) p (subst (FirstBadWithin f room (seen_all part)) h.1 w) in
    first_fault f room file bytes kind.TooDeep at r e (subst (λ x. FirstReadFault f room bytes (record { kind = kind.TooDeep; at = x })) (sym (placed bytes tokens part 1 at place)) (of_brackets s.lexed g))

pub depth_fault : (f : FileForm) (room : ℕ) (file bytes : List ℕ) (tokens : List Token) (part : List Terminal) (deep : Bool) (n at : ℕ) (r : Refusal) → Seen bytes tokens part deep
    → PastLimit f room (BeginsWith f) (IsDeep f) (seen_all part) n → at ≡ byte_of bytes (lexemes_of bytes (drop (length part - n) tokens)) → IsRefusalAt file kind.TooDeep at r → IsReadRefusalOf f room file bytes r
depth_fault f room file bytes tokens part deep n at r s h place e =
    let d = member_at bytes (lexemes_of bytes tokens) (seen_all part) deep n (part_of bytes tokens part deep s) h in
    first_fault f room file bytes kind.TooDeep at r e
    (subst (λ x. FirstReadFault f room bytes (record { kind = kind.TooDeep; at = x })) (sym (placed bytes tokens part n at place)) (of_depth h.before h.member s.lexed d h.past))

pub counts_fault : (f : FileForm) (room : ℕ) (file bytes : List ℕ) (tokens : List Token) (part : List Terminal) (deep : Bool) (n at : ℕ) (r : Refusal) → Seen bytes tokens part deep
    → PastLimit f room (BeginsWith f) (IsMuch f room) (seen_all part) n → at ≡ byte_of bytes (lexemes_of bytes (drop (length part - n) tokens)) → IsRefusalAt file kind.TooMany at r → IsReadRefusalOf f room file bytes r
counts_fault f room file bytes tokens part deep n at r s h place e =
    let d = member_at bytes (lexemes_of bytes tokens) (seen_all part) deep n (part_of bytes tokens part deep s) h in
    first_fault f room file bytes kind.TooMany at r e
    (subst (λ x. FirstReadFault f room bytes (record { kind = kind.TooMany; at = x })) (sym (placed bytes tokens part n at place)) (of_counts h.before h.member s.lexed d h.past.0 h.past.1))

pub reads_to : (f : FileForm) (room : ℕ) (bytes : List ℕ) (tokens : List Token) (part : List Terminal) (deep : Bool) (m : File f) → length bytes ≤ standard_limits.file_bytes → Seen bytes tokens part deep
    → Reads (whole_part f) (seen_all part) m [] → decls_within room (module_in f m) ≡ true → ReadsTo f room bytes m
reads_to f room bytes tokens part deep m short s d w =
    let p = part_is_all f (map tok_of (lexemes_of bytes tokens)) (seen_all part) deep (part_of bytes tokens part deep s) d in
    record {
      short = short;
      spelled = record { lexemes = lexemes_of bytes tokens; lexed = s.lexed; parsed = subst (λ x. Reads (whole_part f) x m []) p.whole d };
      nested = p.nested;
      within = w;
    }
