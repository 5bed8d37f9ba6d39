-- Every text has an answer: its tokens are cut at the first bracket that nests too deep, and the part up to there is walked through.
use Rattle.std.proofs.Common.{◌≡◌, ◌≤◌, ◌⊎◌, inl, inr, ℕ, zero, suc, Bool, true, false, List, [], length, map, Result, Ok, Err, refl, subst}
use Rattle.fc_syntax.specs.Limits.{standard_limits}
use Rattle.fc_syntax.specs.Tokens.{ByteFault, Lexeme, tokens_of}
use Rattle.fc_model.specs.Words.{Tok, tok_of}
use Rattle.fc_model.specs.FileForms.{FileForm, File, whole_part, module_in}
use Rattle.fc_model.specs.Reading.{Reads}
use Rattle.fc_model.specs.ReadFaults.{FirstReadFault, of_tokens, of_form, of_brackets, of_depth, of_counts, ReadsTo, decls_within}
use Rattle.fc_reader.specs.Halting.{FirstBadWithin}
use Rattle.fc_reader.specs.Nested.{IsPart}
use Rattle.fc_reader.proofs.Ends.{bad_form, deep_bracket, member_at, part_is_all}
use Rattle.fc_read_answers.specs.Answers.{HasAnAnswer}
use Rattle.fc_read_answers.proofs.Parting.{PartOf, part_of}
use Rattle.fc_read_answers.proofs.Walking.{Walked, finds_deep, finds_much, all_fit, walked}
use Rattle.fc_read_answers.proofs.Wholes.{Ended, ends_whole, ends_badly, ended}

-- a file within the limits, or its first fault
abbrev Answer : FileForm → ℕ → List ℕ → Type 0
Answer f room bytes = ((m : File f) × ReadsTo f room bytes m) ⊎ ((e : ByteFault) × FirstReadFault f room bytes e)

-- the first token that cannot go on: the bracket that ends the part, or another
stopped : (f : FileForm) (room : ℕ) (bytes : List ℕ) (lexemes : List Lexeme) (part : List Tok) (deep : Bool) (n : ℕ) → tokens_of bytes ≡ Ok lexemes → IsPart (map tok_of lexemes) part deep
    → FirstBadWithin f room part n → Answer f room bytes
stopped f room bytes lexemes part true zero e p w = inr (_, of_brackets e (deep_bracket bytes lexemes part p w))
stopped f room bytes lexemes part true (suc n) e p w = inr (_, of_form e (bad_form bytes lexemes part true (suc n) p (λ d z. cc) w))
stopped f room bytes lexemes part false n e p w = inr (_, of_form e (bad_form bytes lexemes part false n p (λ d z. cc) w))

-- a part that is a whole file is all of the tokens, and nothing in it nests too deep
read : (f : FileForm) (room : ℕ) (bytes : List ℕ) (lexemes : List Lexeme) (part : List Tok) (deep : Bool) (m : File f) → length bytes ≤ standard_limits.file_bytes → tokens_of bytes ≡ Ok lexemes
    → IsPart (map tok_of lexemes) part deep → Reads (whole_part f) part m [] → decls_within room (module_in f m) ≡ true → ReadsTo f room bytes m
read f room bytes lexemes part deep m short e p d w =
    let q = part_is_all f (map tok_of lexemes) part deep p d in
    record { short = short; spelled = record { lexemes = lexemes; lexed = e; parsed = subst (λ x. Reads (whole_part f) x m []) q.whole d }; nested = q.nested; within = w }

-- a text that has tokens
lexed : (f : FileForm) (room : ℕ) (bytes : List ℕ) (lexemes : List Lexeme) → length bytes ≤ standard_limits.file_bytes → tokens_of bytes ≡ Ok lexemes → Answer f room bytes
lexed f room bytes lexemes short e = by (part_of (map tok_of lexemes)) where
  at_end : (part : List Tok) (deep : Bool) → IsPart (map tok_of lexemes) part deep → Ended f room part → Answer f room bytes
  at_end part deep p (ends_whole m d w) = inl (m, read f room bytes lexemes part deep m short e p d w)
  at_end part deep p (ends_badly n w) = stopped f room bytes lexemes part deep n e p w

  behind : (part : List Tok) (deep : Bool) → IsPart (map tok_of lexemes) part deep → Walked f room part → Answer f room bytes
  behind part deep p (finds_deep n h) = inr (_, of_depth h.before h.member e (member_at bytes lexemes part deep n p h) h.past)
  behind part deep p (finds_much n h) = inr (_, of_counts h.before h.member e (member_at bytes lexemes part deep n p h) h.past.0 h.past.1)
  behind part deep p (all_fit w) = at_end part deep p (ended f room part w)

  by : PartOf (map tok_of lexemes) → Answer f room bytes
  by c = behind c.part c.ends_deep c.is (walked f room c.part)

pub has_an_answer : (f : FileForm) → HasAnAnswer f
has_an_answer f room bytes short = by (tokens_of bytes) refl where
  by : (r : Result (List Lexeme) ByteFault) → tokens_of bytes ≡ r → Answer f room bytes
  by (Err e) h = inr (e, of_tokens h)
  by (Ok lexemes) h = lexed f room bytes lexemes short h
