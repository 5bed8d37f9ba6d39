-- The limits on what is read, and the first fault of a file that spells no module, or no interface, within them.
use Rattle.std.specs.Prelude.{◌≡◌, ◌≤◌, ◌+◌, ◌-◌, ℕ, Bool, true, false, ◌&&◌, nat_le, nat_lt, List, [], ◌∷◌, ◌++◌, length, map, Ok, Err}
use Rattle.std.specs.List.{list_all}
use Rattle.fc_syntax.specs.Limits.{standard_limits}
use Rattle.fc_syntax.specs.Tree.{Binder, BValue, BType, BCo, ConDecl, ConOf, Decl, DData, DNew, DFamily, DAxiom, DDef, DWrap, Module, ModuleOf}
use Rattle.fc_syntax.specs.Measures.{decls_size, depth_of}
use Rattle.fc_syntax.specs.Tokens.{ByteFault, Lexeme, tokens_of}
use Rattle.fc_syntax.specs.declared.fault.FaultKind.TheVariants as fault
use Rattle.fc_model.specs.Words.{Tok, Open, Close, tok_of}
use Rattle.fc_model.specs.FileForms.{FileForm, File, Member, whole_part, member_part, member_decl, member_decls, module_in}
use Rattle.fc_model.specs.Reading.{Reads}
use Rattle.fc_model.specs.Texts.{BeginsWith, SpellsPart}

-- LIMITS

-- how many brackets are open behind a token, and that it may stand where so many are open
abbrev pub level_behind : ℕ → Tok → ℕ
level_behind level Open = level + 1
level_behind level Close = level - 1
level_behind level _ = level

abbrev pub may_stand : ℕ → ℕ → Tok → Bool
may_stand most level Open = nat_lt level most
may_stand most level _ = true

-- brackets nest no deeper than this, from a level on
abbrev pub nests_within : ℕ → ℕ → List Tok → Bool
nests_within most level [] = true
nests_within most level (t ∷ ts) = may_stand most level t && nests_within most (level_behind level t) ts

abbrev pub NestsWithin : List Tok → Type 0
NestsWithin ts = nests_within standard_limits.brackets 0 ts ≡ true

abbrev pub type_count : List Binder → ℕ
type_count [] = 0
type_count (BValue x t ∷ bs) = type_count bs
type_count (BType a k ∷ bs) = 1 + type_count bs
type_count (BCo c r t u ∷ bs) = type_count bs

abbrev pub co_count : List Binder → ℕ
co_count [] = 0
co_count (BValue x t ∷ bs) = co_count bs
co_count (BType a k ∷ bs) = co_count bs
co_count (BCo c r t u ∷ bs) = 1 + co_count bs

-- existential types of a constructor, and its coercion and term fields together
abbrev pub con_counts_fit : ConDecl → Bool
con_counts_fit (ConOf n bs fields) = nat_le (type_count bs) standard_limits.fields && nat_le (co_count bs + length fields) standard_limits.fields

-- parameters of a declaration, and the counts of its constructors
abbrev pub counts_fit : Decl → Bool
counts_fit (DData n ps cs) = nat_le (length ps) standard_limits.fields && list_all con_counts_fit cs
counts_fit (DNew n ps t con) = nat_le (length ps) standard_limits.fields
counts_fit (DFamily n ps k) = nat_le (length ps) standard_limits.fields
counts_fit (DAxiom n ps t u) = nat_le (length ps) standard_limits.fields
counts_fit (DDef n t e) = true
counts_fit (DWrap n t e) = true

abbrev pub depth_fits : Decl → Bool
depth_fits d = nat_le (depth_of d) standard_limits.depth

-- Every declaration is within the limits of its own, and all together have at most the size for which there is room. Of an interface, the
-- declarations are those of its module; signatures have no limit of their own but the brackets and the bytes of the file.
abbrev pub are_within : ℕ → List Decl → Bool
are_within room ds = (list_all depth_fits ds && list_all counts_fit ds) && nat_le (decls_size ds) room

abbrev pub decls_within : ℕ → Module → Bool
decls_within room (ModuleOf m imports exports hidden ds) = are_within room ds

-- the bytes spell this file, and both are within the limits, where there is room for declarations of a size
pub record ReadsTo (f : FileForm) (room : ℕ) (bytes : List ℕ) (m : File f) : Type 0 where
  pub short : length bytes ≤ standard_limits.file_bytes
  pub spelled : SpellsPart (whole_part f) bytes m
  pub nested : NestsWithin (map tok_of spelled.lexemes)
  pub within : decls_within room (module_in f m) ≡ true

-- THE FIRST FAULT

-- the tokens of a whole file
abbrev pub IsText : FileForm → List Tok → Type 0
IsText f ts = (m : File f) × Reads (whole_part f) ts m []

-- some further tokens make them those of a whole file
abbrev pub Begins : FileForm → List Tok → Type 0
Begins f ts = (more : List Tok) × IsText f (ts ++ more)

-- the tokens so far do not go on with those that follow: they are no whole file, or no file begins with them and the
-- next token
abbrev pub CannotGoOn : FileForm → List Tok → List Tok → Type 0
CannotGoOn f good [] = IsText f good → ⊥
CannotGoOn f good (t ∷ bad) = Begins f (good ++ t ∷ []) → ⊥

-- the declarations of all members that stand whole in the tokens are within the limits, together too
abbrev pub WithinSoFar : FileForm → ℕ → List Tok → Type 0
WithinSoFar f room ts = (xs : List (Member f)) (rest : List Tok) → BeginsWith f ts xs rest → are_within room (member_decls f xs) ≡ true

-- the byte of the first of these tokens, or the length of the file where there is none
abbrev pub byte_of : List ℕ → List Lexeme → ℕ
byte_of bytes [] = length bytes
byte_of bytes (t ∷ ts) = t.from

-- The form of the file cannot go on at this byte, and could up to there; up to there nothing is past a limit.
pub record IsBadFormAt (f : FileForm) (room : ℕ) (bytes : List ℕ) (lexemes : List Lexeme) (at : ℕ) : Type 0 where
  pub good : List Lexeme
  pub bad : List Lexeme
  pub parts : lexemes ≡ good ++ bad
  pub begins : Begins f (map tok_of good)
  pub stops : CannotGoOn f (map tok_of good) (map tok_of bad)
  pub nested : NestsWithin (map tok_of good)
  pub within : WithinSoFar f room (map tok_of good)
  pub place : at ≡ byte_of bytes bad

-- A bracket that may stand at this byte nests too deep; up to there nothing is past a limit.
pub record IsDeepBracketAt (f : FileForm) (room : ℕ) (lexemes : List Lexeme) (at : ℕ) : Type 0 where
  pub good : List Lexeme
  pub bracket : Lexeme
  pub bad : List Lexeme
  pub parts : lexemes ≡ good ++ (bracket ∷ bad)
  pub opens : tok_of bracket ≡ Open
  pub begins : Begins f (map tok_of good ++ Open ∷ [])
  pub nested : NestsWithin (map tok_of good)
  pub deep : nests_within standard_limits.brackets 0 (map tok_of good ++ Open ∷ []) ≡ false
  pub within : WithinSoFar f room (map tok_of good)
  pub place : at ≡ bracket.from

-- A member begins at this byte and stands whole; the members before it are within the limits, and its own form too.
pub record IsMemberAt (f : FileForm) (room : ℕ) (bytes : List ℕ) (lexemes : List Lexeme) (before : List (Member f)) (x : Member f) (at : ℕ) : Type 0 where
  pub good : List Lexeme
  pub own : List Lexeme
  pub others : List Lexeme
  pub parts : lexemes ≡ good ++ (own ++ others)
  pub start : BeginsWith f (map tok_of good) before []
  pub own_reads : Reads (member_part f) (map tok_of own) x []
  pub whole : BeginsWith f (map tok_of good ++ map tok_of own) (before ++ x ∷ []) []
  pub nested : NestsWithin (map tok_of good ++ map tok_of own)
  pub within : are_within room (member_decls f before) ≡ true
  pub place : at ≡ byte_of bytes own

-- The first fault of a file of at most the limit of bytes: first of all its tokens; then, member after member, of its
-- form and its brackets up to its end, then of the depth of its declaration, then of the counts of that and the size of all so far, for
-- which there is this much room.
pub data FirstReadFault (f : FileForm) (room : ℕ) (bytes : List ℕ) : ByteFault → Type 0 where
  of_tokens : {e : ByteFault} → tokens_of bytes ≡ Err e → FirstReadFault f room bytes e
  of_form : {lexemes : List Lexeme} {at : ℕ} → tokens_of bytes ≡ Ok lexemes → IsBadFormAt f room bytes lexemes at
      → FirstReadFault f room bytes (record { kind = fault.BadForm; at = at })
  of_brackets : {lexemes : List Lexeme} {at : ℕ} → tokens_of bytes ≡ Ok lexemes → IsDeepBracketAt f room lexemes at
      → FirstReadFault f room bytes (record { kind = fault.TooDeep; at = at })
  of_depth : {lexemes : List Lexeme} {at : ℕ} (before : List (Member f)) (x : Member f) → tokens_of bytes ≡ Ok lexemes → IsMemberAt f room bytes lexemes before x at
      → depth_fits (member_decl f x) ≡ false → FirstReadFault f room bytes (record { kind = fault.TooDeep; at = at })
  of_counts : {lexemes : List Lexeme} {at : ℕ} (before : List (Member f)) (x : Member f) → tokens_of bytes ≡ Ok lexemes → IsMemberAt f room bytes lexemes before x at
      → depth_fits (member_decl f x) ≡ true → (counts_fit (member_decl f x) && nat_le (decls_size (member_decls f (before ++ x ∷ []))) room) ≡ false
      → FirstReadFault f room bytes (record { kind = fault.TooMany; at = at })
