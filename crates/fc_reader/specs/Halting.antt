-- How the reading of members ends where it does not reach its end.
use Rattle.std.specs.Prelude.{◌≡◌, ◌≤◌, ◌+◌, ⊤, ℕ, true, false, ◌&&◌, nat_le, List, [], ◌∷◌, ◌++◌, length}
use Rattle.fc_syntax.specs.Measures.{decl_size, decls_size}
use Rattle.fc_syntax.specs.Tree.{Decl}
use Rattle.fc_model.specs.Words.{Tok}
use Rattle.fc_model.specs.FileForms.{FileForm, Member, member_part, member_decl, member_decls}
use Rattle.fc_model.specs.Grammar.{Part}
use Rattle.fc_model.specs.Reading.{Reads}
use Rattle.fc_model.specs.Texts.{BeginsWith}
use Rattle.fc_model.specs.ReadFaults.{are_within, counts_fit, depth_fits, WithinSoFar}
use Rattle.fc_read_parts.specs.Reading.{StopsAt}
use Rattle.fc_read_parts.specs.declared.parts.Stop.{Stop}
use Rattle.fc_read_parts.specs.declared.parts.Stop.TheVariants as stop
use Rattle.fc_reader.specs.declared.limits.Halt.{Halt}
use Rattle.fc_reader.specs.declared.limits.Halt.TheVariants as halt
use Rattle.fc_reader.specs.declared.limits.Measured.{Measured}
use Rattle.fc_reader.specs.declared.limits.Measured.TheVariants as sizes
use Rattle.fc_reader.specs.Places.{FirstBad}

-- the declaration of the member nests too deep
abbrev pub IsDeep : (f : FileForm) → List (Member f) → Member f → Type 0
IsDeep f before x = depth_fits (member_decl f x) ≡ false

-- the declaration of the member has too many parts, or is too much for the room with those before it
abbrev pub IsMuch : (f : FileForm) → ℕ → List (Member f) → Member f → Type 0
IsMuch f room before x = (depth_fits (member_decl f x) ≡ true) × ((counts_fit (member_decl f x) && nat_le (decls_size (member_decls f (before ++ x ∷ []))) room) ≡ false)

-- a member stands whole n tokens before the end of the tokens and is past a limit; those before it are within all
pub record PastLimit (f : FileForm) (room : ℕ) (At : List Tok → List (Member f) → List Tok → Type 0) (Is : List (Member f) → Member f → Type 0) (ts : List Tok) (n : ℕ) : Type 0 where
  pub before : List (Member f)
  pub member : Member f
  pub from : List Tok
  pub rest : List Tok
  pub start : At ts before from
  pub own : Reads (member_part f) from member rest
  pub left : length from ≡ n
  pub within : are_within room (member_decls f before) ≡ true
  pub past : Is before member

-- every choice of members that stand whole is within the limits
abbrev pub AllWithin : (f : FileForm) → ℕ → (At : List Tok → List (Member f) → List Tok → Type 0) → List Tok → Type 0
AllWithin f room At ts = (xs : List (Member f)) (rest : List Tok) → At ts xs rest → are_within room (member_decls f xs) ≡ true

-- the tokens cannot go on as this part, whatever is still to come, and the members that stand whole are within the limits
pub record StopsWithin (f : FileForm) (room : ℕ) (At : List Tok → List (Member f) → List Tok → Type 0) (p : Part) (ts : List Tok) (n : ℕ) : Type 0 where
  pub stops : StopsAt p ts (stop.Form n)
  pub within : AllWithin f room At ts

abbrev pub HaltsAt : (f : FileForm) → ℕ → (At : List Tok → List (Member f) → List Tok → Type 0) → Part → List Tok → Stop → Type 0
HaltsAt f room At p ts stop.Memory = ⊤
HaltsAt f room At p ts (stop.Form n) = StopsWithin f room At p ts n

-- what a reader of members that halted has found
abbrev pub Halts : (f : FileForm) → ℕ → (At : List Tok → List (Member f) → List Tok → Type 0) → Part → List Tok → Halt → Type 0
Halts f room At p ts (halt.Stop s) = HaltsAt f room At p ts s
Halts f room At p ts (halt.Depth n) = PastLimit f room At (IsDeep f) ts n
Halts f room At p ts (halt.Counts n) = PastLimit f room At (IsMuch f room) ts n

-- what a declaration is to the limits, behind others of a size, where there is room for all of them
abbrev pub IsMeasured : ℕ → Decl → ℕ → Measured → Type 0
IsMeasured room d size sizes.Deep = depth_fits d ≡ false
IsMeasured room d size sizes.Much = (depth_fits d ≡ true) × ((counts_fit d && nat_le (size + decl_size d) room) ≡ false)
IsMeasured room d size (sizes.Fits n) = (depth_fits d ≡ true) × ((counts_fit d ≡ true) × ((n ≡ size + decl_size d) × (n ≤ room)))

-- the tokens are those of no whole file, and this is the first that cannot go on, with nothing past a limit before it
pub record FirstBadWithin (f : FileForm) (room : ℕ) (ts : List Tok) (n : ℕ) : Type 0 where
  pub bad : FirstBad f ts n
  pub within : WithinSoFar f room ts

abbrev pub RefusesAt : FileForm → ℕ → List Tok → Stop → Type 0
RefusesAt f room ts stop.Memory = ⊤
RefusesAt f room ts (stop.Form n) = FirstBadWithin f room ts n

-- why the tokens are not those of a whole file within the limits
abbrev pub RefusesFile : FileForm → ℕ → List Tok → Halt → Type 0
RefusesFile f room ts (halt.Stop s) = RefusesAt f room ts s
RefusesFile f room ts (halt.Depth n) = PastLimit f room (BeginsWith f) (IsDeep f) ts n
RefusesFile f room ts (halt.Counts n) = PastLimit f room (BeginsWith f) (IsMuch f room) ts n
